use Rattle.st_top.proofs.ReadingLemmas.{each_ok, each_err, told_text_has_its_cause, too_long_is_longer}
use Rattle.st_top.proofs.sources.read_program.Goals as goal

pub returns-in-Ok-clause-accepted : goal.returns-in-Ok-clause-accepted
returns-in-Ok-clause-accepted g c =
    let source = rw c.deref.ensures.value at c.type_source.ensures.accepted in
    each_ok c.type_source.result _ _ (λ typed h. record { text = c.read_whole.new.into.items; spelled = h; told = c.in-Ok.ensures.whole }) source

pub returns-in-Ok-clause-cause : goal.returns-in-Ok-clause-cause
returns-in-Ok-clause-cause g c =
    let cause = rw c.deref.ensures.value at c.type_source.ensures.cause in
    each_err c.type_source.result _ _ (λ refusal h. told_text_has_its_cause _ c.read_whole.new.into.items _ _ refusal c.in-Ok.ensures.whole h) cause

pub returns-in-Ok-clause-files : goal.returns-in-Ok-clause-files
returns-in-Ok-clause-files g c = record { told = c.read_whole.ensures.files; faults = c.read_whole.ensures.faults; taken = c.read_whole.ensures.taken }

pub returns-in-Err-Memory-clause-files : goal.returns-in-Err-Memory-clause-files
returns-in-Err-Memory-clause-files g c = record { told = c.read_whole.ensures.files; faults = c.read_whole.ensures.faults; taken = c.read_whole.ensures.taken }

pub returns-in-Err-Failed-clause-files : goal.returns-in-Err-Failed-clause-files
returns-in-Err-Failed-clause-files g c = record { told = c.read_whole.ensures.files; faults = c.read_whole.ensures.faults; taken = c.read_whole.ensures.taken }

pub returns-clause-files : goal.returns-clause-files
returns-clause-files g c = record { told = c.read_whole.ensures.files; faults = c.read_whole.ensures.faults; taken = c.read_whole.ensures.taken }

pub returns-in-Err-Failed-clause-cause : goal.returns-in-Err-Failed-clause-cause
returns-in-Err-Failed-clause-cause g c = c.read_whole.ensures.failed (cc)

pub returns-clause-cause : goal.returns-clause-cause
returns-clause-cause g c = too_long_is_longer _ _ c.read_whole.result _ _ c.read_whole.ensures.longer (c.read_whole.ensures.too_long (cc)) (cc)

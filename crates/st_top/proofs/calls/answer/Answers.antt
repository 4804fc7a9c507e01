use Rattle.std.proofs.Common.{◌≡◌, Option, Some, None, IfSome, inr, subst}
use Rattle.st_top.specs.Commands.{ReadsNoFile}
use Rattle.st_words.specs.declared.words.Words.{Words}
use Rattle.st_words.specs.Accepted.{accepted_words, texts}
use Rattle.st_top.proofs.EndingLemmas.{memory_ends_the_call, untouched_files_go_on}
use Rattle.st_top.proofs.calls.answer.Goals as goal

pub returns-in-Ok-clause-ended : goal.returns-in-Ok-clause-ended
returns-in-Ok-clause-ended g c = rw c.in-Ok.ensures.accepted c.do_words.ensures.ended

pub returns-in-Ok-clause-words_refused : goal.returns-in-Ok-clause-words_refused
returns-in-Ok-clause-words_refused g c = λ none.
    let some : accepted_words (texts c.args.words.now) ≡ Some c.in-Ok.words = c.in-Ok.ensures.accepted in absurd (cc)

pub returns-in-Ok-clause-untouched : goal.returns-in-Ok-clause-untouched
returns-in-Ok-clause-untouched g c = λ none.
    c.do_words.ensures.untouched (subst (λ (accepted : Option Words). IfSome accepted ReadsNoFile) c.in-Ok.ensures.accepted none)

pub returns-in-Err-Memory-clause-ended : goal.returns-in-Err-Memory-clause-ended
returns-in-Err-Memory-clause-ended g c = memory_ends_the_call _ _ _ _ _ _ c.refuse_without_memory.ensures.told

pub returns-in-Err-Memory-clause-words_refused : goal.returns-in-Err-Memory-clause-words_refused
returns-in-Err-Memory-clause-words_refused g c = λ none. inr c.refuse_without_memory.ensures.told

pub returns-in-Err-Memory-clause-files : goal.returns-in-Err-Memory-clause-files
returns-in-Err-Memory-clause-files g c = untouched_files_go_on _

pub returns-in-Err-Refused-clause-ended : goal.returns-in-Err-Refused-clause-ended
returns-in-Err-Refused-clause-ended g c =
    let none : accepted_words (texts c.args.words.now) ≡ None = rw c.in-Err-Refused.field-0-is at c.in-Err-Refused.ensures.accepted in rw none tt

pub returns-in-Err-Refused-clause-words_refused : goal.returns-in-Err-Refused-clause-words_refused
returns-in-Err-Refused-clause-words_refused g c = λ none. c.refuse.ensures.told

pub returns-in-Err-Refused-clause-files : goal.returns-in-Err-Refused-clause-files
returns-in-Err-Refused-clause-files g c = untouched_files_go_on _

use Rattle.std.proofs.Common.{Option, subst}
use Rattle.clap.specs.Words.{app_of}
use Rattle.st_words.specs.declared.words.Words.{Words}
use Rattle.st_words.specs.Accepted.{texts, IsAnswerTo}
use Rattle.st_words.proofs.ReadingLemmas.{accepted_by, refused_by}
use Rattle.st_words.proofs.reading.read_words.Goals as goal

pub returns-in-Ok-clause-accepted : goal.returns-in-Ok-clause-accepted
returns-in-Ok-clause-accepted c =
    subst (λ (told : Option Words). IsAnswerTo told c.value_of_matches.result)
    (accepted_by (app_of c.in_ok-line.line) (texts c.args.words.now) c.in-Ok.matches c.in_ok-line.ensures c.in-Ok.ensures.kinds c.in-Ok.ensures.matches)
    c.value_of_matches.ensures.accepted

pub returns-in-Err-clause-accepted : goal.returns-in-Err-clause-accepted
returns-in-Err-clause-accepted c =
    refused_by (app_of c.in_ok-line.line) (texts c.args.words.now) c.in-Err.error c.kind.result c.refusal.result c.in_ok-line.ensures c.kind.ensures c.in-Err.ensures.kinds c.refusal.ensures

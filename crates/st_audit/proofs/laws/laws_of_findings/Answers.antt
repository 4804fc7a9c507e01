use Rattle.st_audit.proofs.FindingLemmas.{right_has_no_finding}
use Rattle.st_audit.proofs.OneLemmas.{one_finding}
use Rattle.st_audit.proofs.laws.laws_of_findings.Goals as goal

pub returns-clause-right : goal.returns-clause-right
returns-clause-right c = λ shape p sizes es verdicts f r h. right_has_no_finding shape p sizes es verdicts f r h

pub returns-clause-one : goal.returns-clause-one
returns-clause-one c = λ shape p sizes es verdicts f g nf ng a b. one_finding shape p sizes es verdicts f g nf ng a b

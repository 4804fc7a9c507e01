use Rattle.st_resolved.specs.Views.{program_of}
use Rattle.st_audit.proofs.FindingLemmas.{right_has_no_finding}
use Rattle.st_audit.proofs.audits.audit_program.Goals as goal

pub returns-clause-right : goal.returns-clause-right
returns-clause-right c = λ r f e.
    right_has_no_finding c.args.shape.now (program_of c.args.program.now) c.args.sizes.now c.args.events.now c.args.verdicts.now f r (c.first_finding.ensures.found f e)

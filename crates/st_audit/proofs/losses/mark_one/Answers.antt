use Rattle.st_audit.proofs.MarkLemmas.{marks_one_more}
use Rattle.st_audit.proofs.losses.mark_one.Goals as goal

pub returns-in-Some-clause-marks : goal.returns-in-Some-clause-marks
returns-in-Some-clause-marks c = λ pairs old.
    marks_one_more c.args.verdicts.now pairs c.args.marks.now.items c.in-Some.index c.args.obj c.args.number c.in-Some.ensures.claims.0 c.in-Some.ensures.claims.1 old

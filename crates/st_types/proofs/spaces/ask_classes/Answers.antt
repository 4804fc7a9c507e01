use Rattle.std.proofs.Common.{ap, sym}
use Rattle.st_types.specs.Checked.{verdict}
use Rattle.st_types.specs.Rules.{class_faults}
use Rattle.st_types.proofs.EarlierLemmas.{earlier_goes, earlier_fails, earlier_ends, handed}
use Rattle.st_types.proofs.spaces.ask_classes.Goals as goal

pub loop-i-preserved : goal.loop-i-preserved
loop-i-preserved c =
    earlier_goes (class_faults c.args.program.now) c.args.classes.now c.loop-i.i c.index-classes-i.result c.loop-i-test.true c.index-classes-i.is c.in_ok-ask_class.ensures c.loop-i.invariant

pub returns-in_err-ask_class : goal.returns-in_err-ask_class
returns-in_err-ask_class c =
    handed c.from_residual.result _ c.in_err-ask_class.field-0.0 c.from_residual.ensures.1
    (earlier_fails (class_faults c.args.program.now) c.args.classes.now c.loop-i.i c.index-classes-i.result c.in_err-ask_class.field-0.0 (tt {0}) c.loop-i-test.true c.index-classes-i.is
    c.in_err-ask_class.ensures c.loop-i.invariant)

pub returns : goal.returns
returns c =
    ap (λ fs. verdict fs (tt {0})) (sym (earlier_ends (class_faults c.args.program.now) c.args.classes.now c.loop-i.i c.loop-i-test.false c.loop-i.invariant))

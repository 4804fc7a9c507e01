use Rattle.std.proofs.Common.{ap, sym}
use Rattle.st_types.specs.Checked.{verdict}
use Rattle.st_types.specs.Rules.{field_faults}
use Rattle.st_types.proofs.EarlierLemmas.{earlier_goes, earlier_fails, earlier_ends, handed}
use Rattle.st_types.proofs.spaces.ask_fields.Goals as goal

pub loop-i-preserved : goal.loop-i-preserved
loop-i-preserved c =
    earlier_goes (field_faults c.args.program.now) c.args.fields.now c.loop-i.i c.index-fields-i.result c.loop-i-test.true c.index-fields-i.is c.in_ok-ask_field.ensures c.loop-i.invariant

pub returns-in_err-ask_field : goal.returns-in_err-ask_field
returns-in_err-ask_field c =
    handed c.from_residual.result _ c.in_err-ask_field.field-0.0 c.from_residual.ensures.1
    (earlier_fails (field_faults c.args.program.now) c.args.fields.now c.loop-i.i c.index-fields-i.result c.in_err-ask_field.field-0.0 (tt {0}) c.loop-i-test.true c.index-fields-i.is
    c.in_err-ask_field.ensures c.loop-i.invariant)

pub returns : goal.returns
returns c =
    ap (λ fs. verdict fs (tt {0})) (sym (earlier_ends (field_faults c.args.program.now) c.args.fields.now c.loop-i.i c.loop-i-test.false c.loop-i.invariant))

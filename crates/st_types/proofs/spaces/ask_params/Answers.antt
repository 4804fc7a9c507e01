use Rattle.std.proofs.Common.{ap, sym}
use Rattle.st_types.specs.Checked.{verdict}
use Rattle.st_types.specs.Rules.{param_faults}
use Rattle.st_types.proofs.EarlierLemmas.{earlier_goes, earlier_fails, earlier_ends, handed}
use Rattle.st_types.proofs.spaces.ask_params.Goals as goal

pub loop-i-preserved : goal.loop-i-preserved
loop-i-preserved c =
    earlier_goes (param_faults c.args.program.now) c.args.params.now c.loop-i.i c.index-params-i.result c.loop-i-test.true c.index-params-i.is c.in_ok-ask_param.ensures c.loop-i.invariant

pub returns-in_err-ask_param : goal.returns-in_err-ask_param
returns-in_err-ask_param c =
    handed c.from_residual.result _ c.in_err-ask_param.field-0.0 c.from_residual.ensures.1
    (earlier_fails (param_faults c.args.program.now) c.args.params.now c.loop-i.i c.index-params-i.result c.in_err-ask_param.field-0.0 (tt {0}) c.loop-i-test.true c.index-params-i.is
    c.in_err-ask_param.ensures c.loop-i.invariant)

pub returns : goal.returns
returns c =
    ap (λ fs. verdict fs (tt {0})) (sym (earlier_ends (param_faults c.args.program.now) c.args.params.now c.loop-i.i c.loop-i-test.false c.loop-i.invariant))

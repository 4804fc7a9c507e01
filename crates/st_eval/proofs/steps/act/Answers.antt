use Rattle.std.proofs.Common.{◌∙◌, ap}
use Rattle.st_eval.specs.Steps.{acted, narrow}
use Rattle.st_eval.proofs.steps.act.Goals as goal

pub returns-in-Local : goal.returns-in-Local
returns-in-Local c =
    ap (λ i. narrow (acted c.args.preds.now i c.args.stack.now c.args.units.now)) c.in-Local.is ∙ ap narrow (c.push_local.ensures c.args.units.now)

pub returns-in-Not : goal.returns-in-Not
returns-in-Not c =
    ap (λ i. narrow (acted c.args.preds.now i c.args.stack.now c.args.units.now)) c.in-Not.is ∙ ap narrow (c.turn_truth.ensures c.args.units.now)

use Rattle.std.proofs.lemmas.Result.{IfOk-weaker}
use Rattle.st_words.proofs.BuildingLemmas.{rule_added}
use Rattle.st_words.proofs.command.with_option.Goals as goal

pub returns : goal.returns
returns c = IfOk-weaker c.arg.result _ _ (λ new h. rule_added _ c.args.command new c.option.result c.option.ensures.rule c.option.ensures.local h) c.arg.ensures

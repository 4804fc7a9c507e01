use Rattle.std.proofs.lemmas.Result.{IfOk-weaker}
use Rattle.st_words.proofs.BuildingLemmas.{rule_added}
use Rattle.st_words.proofs.command.with_flag.Goals as goal

pub returns : goal.returns
returns c = IfOk-weaker c.arg.result _ _ (λ new h. rule_added _ c.args.command new c.flag.result c.flag.ensures.rule c.flag.ensures.local h) c.arg.ensures

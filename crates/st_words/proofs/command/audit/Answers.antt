use Rattle.std.proofs.lemmas.Result.{IfOk-weaker}
use Rattle.st_words.proofs.BuildingLemmas.{changed, rule_added}
use Rattle.st_words.proofs.command.audit.Goals as goal

pub returns : goal.returns
returns c = IfOk-weaker c.arg.result _ _
    (λ new h. changed _ _ _ new c.in_ok-command.ensures (rule_added _ _ new c.word.result c.word.ensures.rule c.word.ensures.local h)) c.arg.ensures

use Rattle.std.proofs.lemmas.Result.{IfOk-weaker}
use Rattle.st_words.proofs.BuildingLemmas.{command_added}
use Rattle.st_words.proofs.command.with_command.Goals as goal

pub returns : goal.returns
returns c = IfOk-weaker c.subcommand.result _ _ (λ new h. command_added c.args.line c.args.command new c.requires h) c.subcommand.ensures

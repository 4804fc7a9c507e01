use Rattle.st_words.specs.Command.{command_line}
use Rattle.st_words.proofs.BuildingLemmas.{changed}
use Rattle.st_words.proofs.command.command_line.Goals as goal

pub returns : goal.returns
unfolding command_line
returns c = (changed _ _ _ _ (changed _ _ _ _ c.top_command.ensures c.in_ok-line.ensures) c.in_ok-line-2.ensures).shape

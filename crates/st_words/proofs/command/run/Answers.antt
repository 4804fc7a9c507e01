use Rattle.st_words.proofs.BuildingLemmas.{changed}
use Rattle.st_words.proofs.command.run.Goals as goal

pub returns : goal.returns
returns c = changed _ _ _ _ (changed _ _ _ _ (changed _ _ _ _ c.in_ok-command.ensures c.in_ok-command-2.ensures) c.in_ok-command-3.ensures) c.in_ok-command-4.ensures

use Rattle.st_words.proofs.BuildingLemmas.{budgets_are}
use Rattle.st_words.proofs.command.with_budgets.Goals as goal

pub returns : goal.returns
returns c = budgets_are _ _ _ c.in_ok-command.ensures c.in_ok-command-2.ensures

use Rattle.st_words.proofs.BuildingLemmas.{ways_are}
use Rattle.st_words.proofs.command.with_ways.Goals as goal

pub returns : goal.returns
returns c = ways_are _ _ _ _ _ c.in_ok-command.ensures c.in_ok-command-2.ensures c.in_ok-command-3.ensures c.in_ok-command-4.ensures

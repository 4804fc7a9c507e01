use Rattle.st_words.proofs.BuildingLemmas.{room_is}
use Rattle.st_words.proofs.command.with_room.Goals as goal

pub returns : goal.returns
returns c = room_is _ _ _ _ c.in_ok-command.ensures c.in_ok-command-2.ensures c.in_ok-command-3.ensures

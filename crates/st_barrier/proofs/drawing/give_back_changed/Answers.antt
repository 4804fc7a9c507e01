use Rattle.st_barrier.proofs.EventLemmas.{owed_unlocks, unlock_stays}
use Rattle.st_barrier.proofs.drawing.give_back_changed.Goals as goal

pub unlock-requires-clause-hand : goal.unlock-requires-clause-hand
unlock-requires-clause-hand g c = owed_unlocks c.args.obj c.args.epoch c.args.seat.now c.requires.hand c.requires.epoch

pub returns-clause-stays : goal.returns-clause-stays
returns-clause-stays g c = unlock_stays c.args.seat.now c.unlock.new.seat c.unlock.ensures.seat c.unlock.ensures.view

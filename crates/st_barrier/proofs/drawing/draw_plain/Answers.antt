use Rattle.std.proofs.Common.{false}
use Rattle.st_barrier.proofs.EventLemmas.{draw_made, quiet_stays}
use Rattle.st_barrier.proofs.drawing.draw_plain.Goals as goal

pub returns-clause-made : goal.returns-clause-made
returns-clause-made g c = draw_made c.args.seat.now c.draw.new.seat c.args.event false c.requires.event c.draw.ensures.seat c.draw.ensures.view

pub returns-clause-hand : goal.returns-clause-hand
returns-clause-hand g c =
    quiet_stays c.args.seat.now c.draw.new.seat c.args.event false c.requires.event c.draw.ensures.seat c.draw.ensures.view c.args.obj c.args.stamp c.requires.hand c.requires.plain

use Rattle.std.proofs.Common.{false}
use Rattle.st_barrier.proofs.EventLemmas.{draw_made, draw_keeps_epoch, new_flies}
use Rattle.st_barrier.proofs.drawing.draw_new.Goals as goal

pub returns-clause-made : goal.returns-clause-made
returns-clause-made g c = draw_made c.args.seat.now c.draw.new.seat c.args.event false c.requires.event c.draw.ensures.seat c.draw.ensures.view

pub returns-clause-flight : goal.returns-clause-flight
returns-clause-flight g c =
    new_flies c.args.seat.now c.draw.new.seat c.args.event false c.requires.event c.draw.ensures.seat c.draw.ensures.view c.args.obj c.args.class c.requires.hand c.requires.makes

pub returns-clause-epoch : goal.returns-clause-epoch
returns-clause-epoch g c = draw_keeps_epoch c.args.seat.now c.draw.new.seat c.args.event false c.requires.event c.draw.ensures.seat c.draw.ensures.view

use Rattle.st_barrier.proofs.EventLemmas.{write_stays, write_keeps_epoch, write_owes}
use Rattle.st_barrier.proofs.drawing.write_class.Goals as goal

pub returns-clause-stays : goal.returns-clause-stays
returns-clause-stays g c = write_stays c.args.seat.now c.class_store.new.seat c.class_store.ensures.seat c.class_store.ensures.view

pub returns-clause-hand : goal.returns-clause-hand
returns-clause-hand g c =
    let flight = c.requires.flight in
    write_owes c.args.seat.now c.class_store.new.seat c.class_store.ensures.seat c.class_store.ensures.view c.args.obj flight.has flight.flight flight.flies

pub returns-clause-epoch : goal.returns-clause-epoch
returns-clause-epoch g c = write_keeps_epoch c.args.seat.now c.class_store.new.seat c.class_store.ensures.seat c.class_store.ensures.view

use Rattle.st_barrier.proofs.EventLemmas.{own_change_stays}
use Rattle.st_barrier.proofs.KeepLemmas.{found_stays}
use Rattle.st_barrier.proofs.events.apply_change.Goals as goal

pub draw_change-requires-clause-hand : goal.draw_change-requires-clause-hand
draw_change-requires-clause-hand g c =
    let ready = c.load_epoch-epoch in
    found_stays c.args.seat.now ready.new.seat c.args.obj c.args.stamp c.args.field c.args.found ready.ensures.hand c.requires.hand

pub draw_change-requires-clause-event : goal.draw_change-requires-clause-event
draw_change-requires-clause-event g c =
    let ready = c.load_epoch-epoch in
    own_change_stays c.args.seat.now ready.new.seat ready.ensures.stays c.args.obj c.args.stamp c.args.field c.args.value c.args.found c.requires.event

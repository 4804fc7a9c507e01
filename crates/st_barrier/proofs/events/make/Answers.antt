use Rattle.st_barrier.proofs.HandLemmas.{hand_stays}
use Rattle.st_barrier.proofs.EventLemmas.{draw_stays, making_changes_none}
use Rattle.st_barrier.proofs.events.make.Goals as goal

pub draw_new-requires-clause-event : goal.draw_new-requires-clause-event
draw_new-requires-clause-event g c =
    let ready = c.load_epoch-epoch in
    draw_stays c.args.seat.now ready.new.seat ready.ensures.stays c.args.event (making_changes_none c.args.event c.args.class c.requires.makes) ready.ensures.hand c.requires.event

pub draw_new-requires-clause-hand : goal.draw_new-requires-clause-hand
draw_new-requires-clause-hand g c =
    let ready = c.load_epoch-epoch in
    hand_stays c.args.obj c.args.seat.now ready.new.seat ready.ensures.hand c.requires.hand

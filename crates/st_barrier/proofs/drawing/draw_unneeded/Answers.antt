use Rattle.std.proofs.Common.{◌∙◌, ap, false, refl, subst, sym}
use Rattle.st_barrier.specs.Calls.{MakesEvent}
use Rattle.st_barrier.specs.Keeping.{MayChange, event_of_change, quiet_hand}
use Rattle.st_barrier.proofs.EventLemmas.{draw_made, draw_keeps_epoch, unneeded_flies}
use Rattle.st_barrier.proofs.KeepLemmas.{draws_unneeded}
use Rattle.st_barrier.proofs.drawing.draw_unneeded.Goals as goal

pub draw-requires-clause-event : goal.draw-requires-clause-event
draw-requires-clause-event g c =
    let told = c.change_event-event.ensures ∙ ap (λ m. event_of_change m c.args.obj c.args.field c.args.value c.args.found) c.number.ensures.number in
    let change = subst (λ e. MayChange e c.args.obj c.args.stamp c.args.field c.args.value c.args.found c.args.seat.now) (sym told) c.requires.event in
    draws_unneeded c.args.seat.now c.change_event-event.result c.args.obj c.args.stamp c.args.field c.args.value c.args.found change
    c.requires.hand.loaded c.requires.hand.held c.requires.hand.found_is c.requires.unneeded

pub returns-clause-made : goal.returns-clause-made
returns-clause-made g c =
    let told = c.change_event-event.ensures ∙ ap (λ m. event_of_change m c.args.obj c.args.field c.args.value c.args.found) c.number.ensures.number in
    let change = subst (λ e. MayChange e c.args.obj c.args.stamp c.args.field c.args.value c.args.found c.args.seat.now) (sym told) c.requires.event in
    let may = draws_unneeded c.args.seat.now c.change_event-event.result c.args.obj c.args.stamp c.args.field c.args.value c.args.found change
    c.requires.hand.loaded c.requires.hand.held c.requires.hand.found_is c.requires.unneeded in
    subst (λ e. MakesEvent e c.args.seat.now c.draw.new.seat) told
    (draw_made c.args.seat.now c.draw.new.seat c.change_event-event.result false may c.draw.ensures.seat c.draw.ensures.view)

pub returns-clause-flight : goal.returns-clause-flight
returns-clause-flight g c =
    let told = c.change_event-event.ensures ∙ ap (λ m. event_of_change m c.args.obj c.args.field c.args.value c.args.found) c.number.ensures.number in
    let change = subst (λ e. MayChange e c.args.obj c.args.stamp c.args.field c.args.value c.args.found c.args.seat.now) (sym told) c.requires.event in
    let may = draws_unneeded c.args.seat.now c.change_event-event.result c.args.obj c.args.stamp c.args.field c.args.value c.args.found change
    c.requires.hand.loaded c.requires.hand.held c.requires.hand.found_is c.requires.unneeded in
    unneeded_flies c.args.seat.now c.draw.new.seat c.change_event-event.result false may c.draw.ensures.seat c.draw.ensures.view
    c.args.obj c.args.stamp c.requires.hand.loaded c.requires.hand.held c.args.field c.args.value change.sets
    (c.requires.unneeded.none (quiet_hand c.args.obj c.args.stamp c.requires.hand.loaded) refl)

pub returns-clause-epoch : goal.returns-clause-epoch
returns-clause-epoch g c =
    let told = c.change_event-event.ensures ∙ ap (λ m. event_of_change m c.args.obj c.args.field c.args.value c.args.found) c.number.ensures.number in
    let change = subst (λ e. MayChange e c.args.obj c.args.stamp c.args.field c.args.value c.args.found c.args.seat.now) (sym told) c.requires.event in
    let may = draws_unneeded c.args.seat.now c.change_event-event.result c.args.obj c.args.stamp c.args.field c.args.value c.args.found change
    c.requires.hand.loaded c.requires.hand.held c.requires.hand.found_is c.requires.unneeded in
    draw_keeps_epoch c.args.seat.now c.draw.new.seat c.change_event-event.result false may c.draw.ensures.seat c.draw.ensures.view

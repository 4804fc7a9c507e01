use Rattle.std.proofs.Common.{true, ◌∙◌, ap, arith}
use Rattle.st_rule.specs.declared.views.MutView.{MutView}
use Rattle.st_rule.specs.Needs.{is_any}
use Rattle.st_barrier.proofs.EventLemmas.{draw_made, needed_flies, needed_awaits}
use Rattle.st_barrier.proofs.KeepLemmas.{draws_needed, lanes_are, index_drawn}
use Rattle.st_barrier.proofs.drawing.draw_needed.Goals as goal

pub draw-ticket-requires-clause-event : goal.draw-ticket-requires-clause-event
draw-ticket-requires-clause-event g c =
    let x = c.args.change in
    draws_needed c.args.seat.now x.event x.obj x.stamp x.field x.value c.args.found c.requires.event
    c.requires.hand.loaded c.requires.hand.held c.requires.hand.found_is c.args.checks.now c.requires.checks c.requires.some

pub returns-clause-made : goal.returns-clause-made
returns-clause-made g c =
    let x = c.args.change in
    let may = draws_needed c.args.seat.now x.event x.obj x.stamp x.field x.value c.args.found c.requires.event
    c.requires.hand.loaded c.requires.hand.held c.requires.hand.found_is c.args.checks.now c.requires.checks c.requires.some in
    draw_made c.args.seat.now c.draw-ticket.new.seat x.event true may c.draw-ticket.ensures.seat c.draw-ticket.ensures.view

pub returns-clause-flight : goal.returns-clause-flight
returns-clause-flight g c =
    let x = c.args.change in
    let may = draws_needed c.args.seat.now x.event x.obj x.stamp x.field x.value c.args.found c.requires.event
    c.requires.hand.loaded c.requires.hand.held c.requires.hand.found_is c.args.checks.now c.requires.checks c.requires.some in
    needed_flies c.args.seat.now c.draw-ticket.new.seat x.event true may c.draw-ticket.ensures.seat c.draw-ticket.ensures.view
    x.obj x.stamp c.requires.hand.loaded c.requires.hand.held x.field x.value c.requires.event.sets
    c.args.fields.now c.draw-ticket.result.1 c.requires.hand.fields_are
    (ap is_any (lanes_are c.args.seat.now x.event x.obj x.stamp x.field x.value c.args.found c.requires.event
    c.requires.hand.loaded c.requires.hand.held c.requires.hand.found_is c.args.checks.now c.requires.checks) ∙ c.requires.some)
    (index_drawn c.args.seat.now.view c.draw-ticket.new.seat.view x.event c.draw-ticket.ensures.view c.draw-ticket.result.0 c.draw-ticket.result.1
    c.draw-ticket.ensures.found (omega (arith, c.draw-ticket.auto)))

pub returns-clause-awaiting : goal.returns-clause-awaiting
returns-clause-awaiting g c =
    let x = c.args.change in
    let may = draws_needed c.args.seat.now x.event x.obj x.stamp x.field x.value c.args.found c.requires.event
    c.requires.hand.loaded c.requires.hand.held c.requires.hand.found_is c.args.checks.now c.requires.checks c.requires.some in
    needed_awaits c.args.seat.now c.draw-ticket.new.seat x.event true may c.draw-ticket.ensures.seat c.draw-ticket.ensures.view
    x.obj x.stamp c.requires.hand.loaded c.requires.hand.held x.field x.value c.requires.event.sets
    ∙ (lanes_are c.args.seat.now x.event x.obj x.stamp x.field x.value c.args.found c.requires.event
    c.requires.hand.loaded c.requires.hand.held c.requires.hand.found_is c.args.checks.now c.requires.checks)

pub returns-clause-board : goal.returns-clause-board
returns-clause-board g c = ap (λ (v : MutView). v.board) c.draw-ticket.ensures.view.finds.view

use Rattle.std.proofs.Common.{◌∙◌, [], ap, sym, refl, false, subst}
use Rattle.st_events.specs.declared.events.Event.{Event}
use Rattle.st_rule.specs.Draws.{MayDraw}
use Rattle.st_rule.specs.Holding.{IsMaking}
use Rattle.st_barrier.specs.Calls.{MakesEvent}
use Rattle.st_barrier.proofs.HandLemmas.{in_hand}
use Rattle.st_barrier.proofs.EventLemmas.{may_new, new_made}
use Rattle.st_barrier.proofs.making.new_with.Goals as goal

pub lock_next-requires-clause-next : goal.lock_next-requires-clause-next
lock_next-requires-clause-next g c = record { object_is = c.next_object-obj.ensures; room = c.requires.room; mutator = c.requires.caller.mutator }

pub make-requires-clause-hand : goal.make-requires-clause-hand
make-requires-clause-hand g c = in_hand c.next_object-obj.result 0 [] c.lock_next.new.seat c.lock_next.ensures.hand

pub make-requires-clause-event : goal.make-requires-clause-event
make-requires-clause-event g c =
    subst (λ (e : Event). MayDraw c.lock_next.new.seat.view e false) (sym c.new_event-event.ensures)
    (may_new c.args.seat.now c.lock_next.new.seat c.lock_next.ensures.stays c.requires.inside c.requires.caller c.args.seat.now.view.gate.number refl
    c.next_object-obj.result 0 c.args.class
    (record { object_is = c.next_object-obj.ensures; room = c.requires.room; mutator = c.requires.caller.mutator }) c.requires.some_class c.requires.declared c.lock_next.ensures.hand)

pub make-requires-clause-makes : goal.make-requires-clause-makes
make-requires-clause-makes g c = subst (λ (e : Event). IsMaking e c.args.class) (sym c.new_event-event.ensures) refl

pub returns-clause-new : goal.returns-clause-new
returns-clause-new g c =
    new_made c.args.seat.now c.lock_next.new.seat c.make.new.seat c.args.seat.now.view.gate.number c.next_object-obj.result c.args.class refl
    c.lock_next.ensures.stays (subst (λ (e : Event). MakesEvent e c.lock_next.new.seat c.make.new.seat) c.new_event-event.ensures c.make.ensures.made)

pub returns-clause-inside : goal.returns-clause-inside
returns-clause-inside g c = ap (λ x. x.phase) (c.make.ensures.made.gate ∙ c.lock_next.ensures.stays.gate) ∙ c.requires.inside

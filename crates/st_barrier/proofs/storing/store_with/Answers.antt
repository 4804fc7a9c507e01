use Rattle.std.proofs.Common.{◌∙◌, [], ap, sym, subst}
use Rattle.std.specs.Prelude.{IsSome}
use Rattle.st_events.specs.Heap.{Heap, word_at}
use Rattle.st_rule.specs.Draws.{heap_seen}
use Rattle.st_barrier.proofs.HandLemmas.{object_of_cell, field_of_cell, heap_same}
use Rattle.st_barrier.proofs.EventLemmas.{may_store, store_made}
use Rattle.st_barrier.proofs.storing.store_with.Goals as goal

pub lock-stamp-requires-clause-object : goal.lock-stamp-requires-clause-object
lock-stamp-requires-clause-object g c = object_of_cell (heap_seen c.args.seat.now.view) c.args.obj c.args.field c.requires.cell

pub apply_change-requires-clause-hand : goal.apply_change-requires-clause-hand
apply_change-requires-clause-hand g c = record { loaded = []; held = c.lock-stamp.ensures.hand; found_is = λ word none. cc }

pub apply_change-requires-clause-event : goal.apply_change-requires-clause-event
apply_change-requires-clause-event g c =
    may_store c.args.seat.now c.lock-stamp.new.seat c.lock-stamp.ensures.stays c.requires.inside c.requires.caller c.lock-stamp.new.seat.view.gate.number (ap (λ x. x.number) c.lock-stamp.ensures.stays.gate)
    c.args.obj c.lock-stamp.result c.args.field c.args.value c.requires.cell c.requires.kind

pub apply_change-requires-clause-field : goal.apply_change-requires-clause-field
apply_change-requires-clause-field g c =
    field_of_cell c.lock-stamp.new.seat.view c.args.obj c.args.field c.lock-stamp.ensures.fair
    (subst (λ (h : Heap). IsSome (word_at h c.args.obj c.args.field)) (sym (heap_same c.args.seat.now c.lock-stamp.new.seat c.lock-stamp.ensures.stays)) c.requires.cell)

pub returns-clause-store : goal.returns-clause-store
returns-clause-store g c =
    store_made c.args.seat.now c.lock-stamp.new.seat c.apply_change.new.seat c.lock-stamp.new.seat.view.gate.number c.args.obj c.args.field c.args.value
    (ap (λ x. x.number) c.lock-stamp.ensures.stays.gate) c.lock-stamp.ensures.stays c.apply_change.ensures.made

pub returns-clause-inside : goal.returns-clause-inside
returns-clause-inside g c = ap (λ x. x.phase) (c.apply_change.ensures.made.gate ∙ c.lock-stamp.ensures.stays.gate) ∙ c.requires.inside

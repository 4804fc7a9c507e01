use Rattle.std.proofs.Common.{◌∙◌, ◌∷◌, [], ap, sym, refl, subst}
use Rattle.std.specs.Prelude.{IsSome}
use Rattle.st_events.specs.Heap.{Heap, word_at}
use Rattle.st_rule.specs.Draws.{heap_seen}
use Rattle.st_barrier.proofs.HandLemmas.{object_of_cell, field_of_cell, heap_same, stays_then}
use Rattle.st_barrier.proofs.EventLemmas.{may_load, load_made}
use Rattle.st_barrier.proofs.loading.load_with.Goals as goal

pub lock-stamp-requires-clause-object : goal.lock-stamp-requires-clause-object
lock-stamp-requires-clause-object g c = object_of_cell (heap_seen c.args.seat.now.view) c.args.obj c.args.field c.requires.cell

pub read-value-requires-clause-field : goal.read-value-requires-clause-field
read-value-requires-clause-field g c =
    let locked = c.lock-stamp in
    field_of_cell locked.new.seat.view c.args.obj c.args.field locked.ensures.fair
    (subst (λ (h : Heap). IsSome (word_at h c.args.obj c.args.field)) (sym (heap_same c.args.seat.now locked.new.seat locked.ensures.stays)) c.requires.cell)

pub note-requires-clause-hand : goal.note-requires-clause-hand
note-requires-clause-hand g c = record { loaded = record { field = c.args.field; value = c.read-value.result } ∷ []; held = c.read-value.ensures.hand }

pub note-requires-clause-event : goal.note-requires-clause-event
note-requires-clause-event g c =
    let stays = stays_then c.args.seat.now c.lock-stamp.new.seat c.read-value.new.seat c.lock-stamp.ensures.stays c.read-value.ensures.stays in
    may_load c.args.seat.now c.read-value.new.seat stays c.requires.inside c.requires.caller c.number-m.result c.number-m.ensures.number
    c.args.obj c.lock-stamp.result c.args.field c.read-value.result c.requires.cell c.read-value.ensures.hand

pub note-requires-clause-plain : goal.note-requires-clause-plain
note-requires-clause-plain g c = λ heap lanes index. refl

pub returns-clause-load : goal.returns-clause-load
returns-clause-load g c =
    let stays = stays_then c.args.seat.now c.lock-stamp.new.seat c.read-value.new.seat c.lock-stamp.ensures.stays c.read-value.ensures.stays in
    load_made c.args.seat.now c.read-value.new.seat c.note.new.seat c.number-m.result c.args.obj c.args.field c.read-value.result c.number-m.ensures.number stays c.note.ensures.made

pub returns-clause-inside : goal.returns-clause-inside
returns-clause-inside g c =
    ap (λ x. x.phase) (c.note.ensures.made.gate ∙ c.read-value.ensures.stays.gate ∙ c.lock-stamp.ensures.stays.gate) ∙ c.requires.inside

use Rattle.std.proofs.Common.{true, false, refl, subst, sym, ap, eq-eqb, ne_eqb}
use Rattle.std.specs.Prelude.{IsSome, Some}
use Rattle.st_events.specs.Heap.{Heap, word_at}
use Rattle.st_barrier.proofs.HandLemmas.{field_of_cell, heap_same, stays_then}
use Rattle.st_barrier.proofs.EventLemmas.{may_cas, may_miss, cas_made}
use Rattle.st_barrier.proofs.KeepLemmas.{found_first}
use Rattle.st_barrier.specs.Keeping.{HoldsFound}
use Rattle.st_barrier.proofs.comparing.cas_with.Goals as goal

pub exchange-requires-clause-hand : goal.exchange-requires-clause-hand
exchange-requires-clause-hand g c =
    subst (λ k. HoldsFound c.args.obj c.lock-stamp.result c.args.field (Some k) c.read-found.new.seat) c.if-found-expect.true
    (found_first c.args.obj c.lock-stamp.result c.args.field c.read-found.result c.read-found.new.seat c.read-found.ensures.hand)

pub exchange-requires-clause-field : goal.exchange-requires-clause-field
exchange-requires-clause-field g c =
    field_of_cell c.lock-stamp.new.seat.view c.args.obj c.args.field c.lock-stamp.ensures.fair
    (subst (λ (h : Heap). IsSome (word_at h c.args.obj c.args.field)) (sym (heap_same c.args.seat.now c.lock-stamp.new.seat c.lock-stamp.ensures.stays)) c.requires.cell)

pub exchange-requires-clause-event : goal.exchange-requires-clause-event
exchange-requires-clause-event g c =
    let stays = stays_then c.args.seat.now c.lock-stamp.new.seat c.read-found.new.seat c.lock-stamp.ensures.stays c.read-found.ensures.stays in
    may_cas c.args.seat.now c.read-found.new.seat stays c.requires.inside c.requires.caller c.read-found.new.seat.view.gate.number (ap (λ x. x.number) stays.gate)
    c.args.obj c.lock-stamp.result c.args.field c.args.expect c.args.value c.args.expect true (sym (eq-eqb c.args.expect c.args.expect refl))
    c.requires.cell c.requires.expected c.requires.kind refl

pub returns-then-found-expect-clause-cas : goal.returns-then-found-expect-clause-cas
returns-then-found-expect-clause-cas g c =
    let stays = stays_then c.args.seat.now c.lock-stamp.new.seat c.read-found.new.seat c.lock-stamp.ensures.stays c.read-found.ensures.stays in
    cas_made c.args.seat.now c.read-found.new.seat c.exchange.new.seat c.read-found.new.seat.view.gate.number c.args.obj c.args.field c.args.expect c.args.value
    true (ap (λ x. x.number) stays.gate) stays c.exchange.ensures.made

pub miss-requires-clause-hand : goal.miss-requires-clause-hand
miss-requires-clause-hand g c = record { loaded = _; held = c.read-found.ensures.hand }

pub miss-requires-clause-event : goal.miss-requires-clause-event
miss-requires-clause-event g c =
    let stays = stays_then c.args.seat.now c.lock-stamp.new.seat c.read-found.new.seat c.lock-stamp.ensures.stays c.read-found.ensures.stays in
    let missed = may_miss c.args.seat.now c.read-found.new.seat stays c.requires.inside c.requires.caller c.read-found.new.seat.view.gate.number (ap (λ x. x.number) stays.gate)
    c.args.obj c.lock-stamp.result c.args.field c.args.expect c.args.value c.read-found.result false (sym (ne_eqb c.read-found.result c.args.expect c.if-found-expect.false))
    c.requires.cell c.requires.expected c.requires.kind c.read-found.ensures.hand refl in
    missed.0

pub returns-else-found-expect-clause-cas : goal.returns-else-found-expect-clause-cas
returns-else-found-expect-clause-cas g c =
    let stays = stays_then c.args.seat.now c.lock-stamp.new.seat c.read-found.new.seat c.lock-stamp.ensures.stays c.read-found.ensures.stays in
    cas_made c.args.seat.now c.read-found.new.seat c.miss.new.seat c.read-found.new.seat.view.gate.number c.args.obj c.args.field c.args.expect c.args.value
    false (ap (λ x. x.number) stays.gate) stays c.miss.ensures.made

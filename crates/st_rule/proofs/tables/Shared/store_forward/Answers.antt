use Rattle.std.proofs.Common.{◌∙◌, ◌<◌, sym, ap, refl, subst}
use Rattle.st_layout.specs.Layout.{word_of}
use Rattle.st_layout.specs.Names.{ForwardWord, cells_of}
use Rattle.st_rule.specs.declared.views.MutView.{MutView}
use Rattle.st_rule.specs.declared.views.Terms.{Terms}
use Rattle.st_rule.specs.Board.{plan_of}
use Rattle.st_rule.specs.Keys.{told_by}
use Rattle.st_rule.specs.Needs.{AwaitsForward}
use Rattle.st_rule.specs.Plays.{Becomes, StoresForward}
use Rattle.st_rule.specs.Rule.{IsSoundTable}
use Rattle.st_rule.specs.Turns.{forwarded}
use Rattle.st_rule.specs.Views.{mutator_of}
use Rattle.st_rule.proofs.BarrierSteps.{forward_store_keeps}
use Rattle.st_rule.proofs.ObjectSeats.{allows_more, flight_within, stores_forward, forward_stores, forwarded_kept}
use Rattle.st_rule.proofs.tables.Shared.store_forward.Goals as goal

pub forward_place-word-requires-clause-object : goal.forward_place-word-requires-clause-object
forward_place-word-requires-clause-object g c =
    subst (λ (t : Terms). c.args.obj < cells_of (plan_of t.sizes)) c.requires.table.terms
    (flight_within c.args.seat.now.view c.args.obj c.is_fair.ensures c.requires.flight.has c.requires.flight.object_is)

pub forward_place-word-requires-clause-lane : goal.forward_place-word-requires-clause-lane
forward_place-word-requires-clause-lane g c =
    subst (λ (t : Terms). c.args.lane < t.sizes.lanes) c.requires.table.terms c.requires.flight.within

pub store-requires : goal.store-requires
store-requires g c =
    let told = told_by g.J.Judge.meant g.J.Judge.right c.args.self.now.table.shared.key in
    let slots = c.args.self.now.table.shared.table_id.slots in
    let me = c.seat.inside.seat.me in
    let same = ap (λ s. s.view) c.seat.view_is in
    let v = mutator_of me.0 in
    let is = ap (λ m. m.0) c.seat.invariant.mutator in
    let awaits = subst (λ (x : MutView). AwaitsForward x c.args.obj c.args.lane c.args.value) (sym same) c.requires.flight in
    let terms = ap (λ v. v.terms) same ∙ c.requires.table.terms in
    let place = c.forward_place-word.result in
    let is_place = c.forward_place-word.ensures.place in
    let within = subst (λ (t : Terms). c.args.obj < cells_of (plan_of t.sizes)) terms (flight_within v c.args.obj c.seat.invariant.fair awaits.has awaits.object_is) in
    let lane_within = subst (λ (t : Terms). c.args.lane < t.sizes.lanes) terms awaits.within in
    let here = is_place ∙ (λ i. word_of (plan_of (sym terms i).sizes) (ForwardWord (awaits.object_is i) c.args.lane)) in (
      ap (λ s. s.table) c.seat.view_is ∙ c.requires.table.table,
      c.forward_place-word.ensures.within,
      allows_more (IsSoundTable told) slots c.seat.inside.seat.id me place (λ _. c.args.value) (λ _ after. Becomes (λ _ u. forwarded c.args.lane u) me c.args.value after)
          (λ _ after. StoresForward place me c.args.value after)
          (λ x after. stores_forward c.args.lane place c.args.value me after v awaits.has.hand is awaits.has.held here)
          (forward_store_keeps told slots c.seat.inside.seat.id me v is place c.args.obj c.args.lane c.args.value c.args.value is_place within lane_within refl awaits),
    )

pub invariant_of-seat : goal.invariant_of-seat
invariant_of-seat g c =
    forwarded_kept c.seat.invariant c.args.lane c.args.value
    (let me = c.seat.inside.seat.me in
    let same = ap (λ s. s.view) c.seat.view_is in
    let terms = ap (λ v. v.terms) same ∙ c.requires.table.terms in
    let awaits = subst (λ (x : MutView). AwaitsForward x c.args.obj c.args.lane c.args.value) (sym same) c.requires.flight in
    forward_stores c.args.lane c.forward_place-word.result c.args.value me c.store.new.seat.me (mutator_of me.0) awaits.has.hand
    (ap (λ m. m.0) c.seat.invariant.mutator) awaits.has.held
    (c.forward_place-word.ensures.place ∙ (λ i. word_of (plan_of (sym terms i).sizes) (ForwardWord (awaits.object_is i) c.args.lane))) c.store.ensures.2)

pub returns-clause-fair : goal.returns-clause-fair
returns-clause-fair g c = (invariant_of-seat g c).fair

pub returns-clause-view : goal.returns-clause-view
returns-clause-view g c =
    let me = c.seat.inside.seat.me in
    let same = ap (λ s. s.view) c.seat.view_is in
    let terms = ap (λ v. v.terms) same ∙ c.requires.table.terms in
    let awaits = subst (λ (x : MutView). AwaitsForward x c.args.obj c.args.lane c.args.value) (sym same) c.requires.flight in
    let becomes = forward_stores c.args.lane c.forward_place-word.result c.args.value me c.store.new.seat.me (mutator_of me.0) awaits.has.hand
    (ap (λ m. m.0) c.seat.invariant.mutator) awaits.has.held
    (c.forward_place-word.ensures.place ∙ (λ i. word_of (plan_of (sym terms i).sizes) (ForwardWord (awaits.object_is i) c.args.lane))) c.store.ensures.2 in
    ap mutator_of (becomes.view (mutator_of me.0) (ap (λ m. m.0) c.seat.invariant.mutator)) ∙ ap (forwarded c.args.lane) same

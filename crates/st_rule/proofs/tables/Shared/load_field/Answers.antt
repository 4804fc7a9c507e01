use Rattle.std.proofs.Common.{◌∙◌, ◌<◌, sym, ap, subst}
use Rattle.st_layout.specs.Layout.{word_of}
use Rattle.st_layout.specs.Names.{FieldWord, cells_of}
use Rattle.st_rule.specs.declared.views.MutView.{MutView}
use Rattle.st_rule.specs.declared.views.Terms.{Terms}
use Rattle.st_rule.specs.Board.{plan_of}
use Rattle.st_rule.specs.Draws.{HasInHand}
use Rattle.st_rule.specs.Keys.{told_by}
use Rattle.st_rule.specs.Plays.{Becomes, FindsField}
use Rattle.st_rule.specs.Rule.{IsSoundTable}
use Rattle.st_rule.specs.Turns.{field_found}
use Rattle.st_rule.specs.Views.{mutator_of}
use Rattle.st_rule.proofs.ActSteps.{field_load_keeps}
use Rattle.st_rule.proofs.ObjectSeats.{allows_more, finds_field, field_finds, hand_within, found_kept}
use Rattle.st_rule.proofs.SeatLemmas.{changed_at}
use Rattle.st_rule.proofs.tables.Shared.load_field.Goals as goal

pub field_place-word-requires-clause-object : goal.field_place-word-requires-clause-object
field_place-word-requires-clause-object g c =
    subst (λ (t : Terms). c.args.obj < cells_of (plan_of t.sizes)) c.requires.table.terms (hand_within c.args.seat.now.view c.args.obj c.is_fair.ensures c.requires.hand)

pub load-requires : goal.load-requires
load-requires g c =
    let told = told_by g.J.Judge.meant g.J.Judge.right c.args.self.now.table.shared.key in
    let slots = c.args.self.now.table.shared.table_id.slots in
    let me = c.seat.inside.seat.me in
    let same = ap (λ s. s.view) c.seat.view_is in
    let v = mutator_of me.0 in
    let is = ap (λ m. m.0) c.seat.invariant.mutator in
    let has = subst (λ (x : MutView). HasInHand x c.args.obj) (sym same) c.requires.hand in
    let terms = ap (λ v. v.terms) same ∙ c.requires.table.terms in
    let place = c.field_place-word.result in
    let is_place = c.field_place-word.ensures.place in
    let within = subst (λ (t : Terms). c.args.obj < cells_of (plan_of t.sizes)) terms (hand_within v c.args.obj c.seat.invariant.fair has) in
    let here = is_place ∙ (λ i. word_of (plan_of (sym terms i).sizes) (FieldWord (has.object_is i) c.args.field)) in (
      ap (λ s. s.table) c.seat.view_is ∙ c.requires.table.table,
      c.field_place-word.ensures.within,
      allows_more (IsSoundTable told) slots c.seat.inside.seat.id me place (λ n. n) (Becomes (field_found c.args.field) me) (FindsField place me)
          (λ x after. finds_field c.args.field place x me after v has.hand is has.held here)
          (field_load_keeps told slots c.seat.inside.seat.id me v is place c.args.obj c.args.field is_place within c.requires.field has),
    )

pub invariant_of-seat : goal.invariant_of-seat
invariant_of-seat g c =
    found_kept c.seat.invariant c.args.field c.load.result
    (let me = c.seat.inside.seat.me in
    let same = ap (λ s. s.view) c.seat.view_is in
    let terms = ap (λ v. v.terms) same ∙ c.requires.table.terms in
    let has = subst (λ (x : MutView). HasInHand x c.args.obj) (sym same) c.requires.hand in
    field_finds c.args.field c.field_place-word.result c.load.result me c.load.new.seat.me (mutator_of me.0) has.hand
    (ap (λ m. m.0) c.seat.invariant.mutator) has.held
    (c.field_place-word.ensures.place ∙ (λ i. word_of (plan_of (sym terms i).sizes) (FieldWord (has.object_is i) c.args.field))) c.load.ensures.2)

pub returns-clause-fair : goal.returns-clause-fair
returns-clause-fair g c = (invariant_of-seat g c).fair

pub returns-clause-view : goal.returns-clause-view
returns-clause-view g c =
    changed_at c.seat.invariant (field_found c.args.field) c.load.result
    (let me = c.seat.inside.seat.me in
    let same = ap (λ s. s.view) c.seat.view_is in
    let terms = ap (λ v. v.terms) same ∙ c.requires.table.terms in
    let has = subst (λ (x : MutView). HasInHand x c.args.obj) (sym same) c.requires.hand in
    field_finds c.args.field c.field_place-word.result c.load.result me c.load.new.seat.me (mutator_of me.0) has.hand
    (ap (λ m. m.0) c.seat.invariant.mutator) has.held
    (c.field_place-word.ensures.place ∙ (λ i. word_of (plan_of (sym terms i).sizes) (FieldWord (has.object_is i) c.args.field))) c.load.ensures.2)
    c.args.seat.now.view (ap (λ s. s.view) c.seat.view_is)

pub returns-clause-found : goal.returns-clause-found
returns-clause-found g c =
    let me = c.seat.inside.seat.me in
    let becomes = (let me = c.seat.inside.seat.me in
    let same = ap (λ s. s.view) c.seat.view_is in
    let terms = ap (λ v. v.terms) same ∙ c.requires.table.terms in
    let has = subst (λ (x : MutView). HasInHand x c.args.obj) (sym same) c.requires.hand in
    field_finds c.args.field c.field_place-word.result c.load.result me c.load.new.seat.me (mutator_of me.0) has.hand
    (ap (λ m. m.0) c.seat.invariant.mutator) has.held
    (c.field_place-word.ensures.place ∙ (λ i. word_of (plan_of (sym terms i).sizes) (FieldWord (has.object_is i) c.args.field))) c.load.ensures.2) in
    ap (λ v. (mutator_of v).tally.found) (becomes.view (mutator_of me.0) (ap (λ m. m.0) c.seat.invariant.mutator))

use Rattle.std.proofs.Common.{◌∙◌, ◌<◌, sym, ap, subst}
use Rattle.std.specs.Prelude.{IsSome}
use Rattle.st_events.specs.Heap.{word_at}
use Rattle.st_layout.specs.Layout.{word_of}
use Rattle.st_layout.specs.Names.{FieldWord, cells_of}
use Rattle.st_rule.specs.declared.views.LaneView.{LaneView}
use Rattle.st_rule.specs.declared.views.Terms.{Terms}
use Rattle.st_rule.specs.Board.{plan_of}
use Rattle.st_rule.specs.Keys.{told_by}
use Rattle.st_rule.specs.LaneSeats.{LaneBecomes, ReadsField, lane_of}
use Rattle.st_rule.specs.Reading.{past_of, field_read}
use Rattle.st_rule.specs.Rule.{IsSoundTable}
use Rattle.st_rule.proofs.LaneSeatLemmas.{reads_field, field_reads, cell_within, field_kept, field_found}
use Rattle.st_rule.proofs.LaneSteps.{check_field_keeps}
use Rattle.st_rule.proofs.ObjectSeats.{allows_more}
use Rattle.st_rule.proofs.tables.Shared.check_field.Goals as goal

pub field_place-word-requires-clause-object : goal.field_place-word-requires-clause-object
field_place-word-requires-clause-object g c =
    subst (λ (t : Terms). c.args.obj < cells_of (plan_of t.sizes)) c.requires.table.terms (cell_within c.args.seat.now.view c.args.obj c.args.field c.is_fair.ensures c.requires.cell)

pub load-requires : goal.load-requires
load-requires g c =
    let told = told_by g.J.Judge.meant g.J.Judge.right c.args.self.now.table.shared.key in
    let slots = c.args.self.now.table.shared.table_id.slots in
    let me = c.seat.inside.seat.me in
    let same = ap (λ s. s.view) c.seat.view_is in
    let u = lane_of me.0 in
    let is = ap (λ m. m.0) c.seat.invariant.0.lane in
    let stood = subst (λ (x : LaneView). IsSome (word_at (past_of x) c.args.obj c.args.field)) (sym same) c.requires.cell in
    let terms = ap (λ v. v.terms) same ∙ c.requires.table.terms in
    let place = c.field_place-word.result in
    let is_place = c.field_place-word.ensures.place in
    let within = subst (λ (t : Terms). c.args.obj < cells_of (plan_of t.sizes)) terms (cell_within u c.args.obj c.args.field c.seat.invariant.0.fair stood) in
    let here = is_place ∙ (λ i. word_of (plan_of (sym terms i).sizes) (FieldWord c.args.obj c.args.field)) in (
      ap (λ s. s.table) c.seat.view_is ∙ c.requires.table.table,
      c.field_place-word.ensures.within,
      allows_more (IsSoundTable told) slots c.seat.inside.seat.id me place (λ n. n) (LaneBecomes (field_read c.args.obj c.args.field) me) (ReadsField place me)
          (λ x after. reads_field c.args.obj c.args.field place x me after u is c.requires.field here)
          (check_field_keeps told slots c.seat.inside.seat.id me u is place c.args.obj c.args.field is_place within c.requires.field stood),
    )

pub invariant_of-seat : goal.invariant_of-seat
invariant_of-seat g c =
    let kept = field_kept c.seat.invariant.0 c.args.obj c.args.field c.load.result
    (let me = c.seat.inside.seat.me in
    let same = ap (λ s. s.view) c.seat.view_is in
    let terms = ap (λ v. v.terms) same ∙ c.requires.table.terms in
    field_reads c.args.obj c.args.field c.field_place-word.result c.load.result me c.load.new.seat.me (lane_of me.0)
    (ap (λ m. m.0) c.seat.invariant.0.lane) c.requires.field
    (c.field_place-word.ensures.place ∙ (λ i. word_of (plan_of (sym terms i).sizes) (FieldWord c.args.obj c.args.field))) c.load.ensures.2) in
    (kept.0, c.seat.invariant.1 ∙ kept.1, c.seat.invariant.2 ∙ kept.2)

pub returns-clause-fair : goal.returns-clause-fair
returns-clause-fair g c = (invariant_of-seat g c).0.fair

pub returns-clause-view : goal.returns-clause-view
returns-clause-view g c =
    field_found c.seat.invariant.0 c.args.obj c.args.field c.load.result
    (let me = c.seat.inside.seat.me in
    let same = ap (λ s. s.view) c.seat.view_is in
    let terms = ap (λ v. v.terms) same ∙ c.requires.table.terms in
    field_reads c.args.obj c.args.field c.field_place-word.result c.load.result me c.load.new.seat.me (lane_of me.0)
    (ap (λ m. m.0) c.seat.invariant.0.lane) c.requires.field
    (c.field_place-word.ensures.place ∙ (λ i. word_of (plan_of (sym terms i).sizes) (FieldWord c.args.obj c.args.field))) c.load.ensures.2)
    c.args.seat.now.view (ap (λ s. s.view) c.seat.view_is)

pub returns-clause-found : goal.returns-clause-found
returns-clause-found g c =
    let becomes = (let me = c.seat.inside.seat.me in
    let same = ap (λ s. s.view) c.seat.view_is in
    let terms = ap (λ v. v.terms) same ∙ c.requires.table.terms in
    field_reads c.args.obj c.args.field c.field_place-word.result c.load.result me c.load.new.seat.me (lane_of me.0)
    (ap (λ m. m.0) c.seat.invariant.0.lane) c.requires.field
    (c.field_place-word.ensures.place ∙ (λ i. word_of (plan_of (sym terms i).sizes) (FieldWord c.args.obj c.args.field))) c.load.ensures.2) in
    ap (λ v. (lane_of v).tally.found) (becomes.view (lane_of c.seat.inside.seat.me.0) (ap (λ m. m.0) c.seat.invariant.0.lane))

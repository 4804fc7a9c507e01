use Rattle.std.proofs.Common.{◌∙◌, ◌<◌, sym, ap, subst}
use Rattle.st_layout.specs.Layout.{word_of}
use Rattle.st_layout.specs.Names.{CopyWord}
use Rattle.st_rule.specs.Board.{plan_of}
use Rattle.st_rule.specs.declared.views.LaneView.{LaneView}
use Rattle.st_rule.specs.declared.views.Terms.{Terms}
use Rattle.st_rule.specs.Keys.{told_by}
use Rattle.st_rule.specs.LaneSeats.{lane_of}
use Rattle.st_rule.specs.Reading.{IsSecondHalf}
use Rattle.st_rule.proofs.LaneSeatLemmas.{copy_kept, copy_found}
use Rattle.st_rule.proofs.LaneSteps.{check_copy_keeps}
use Rattle.st_rule.proofs.tables.Shared.load_copy.Goals as goal

pub copy_place-word-requires-clause-copy : goal.copy_place-word-requires-clause-copy
copy_place-word-requires-clause-copy g c =
    subst (λ (t : Terms). c.args.copy < t.sizes.copies) c.requires.table.terms c.requires.second.within

pub load-requires : goal.load-requires
load-requires g c =
    let told = told_by g.J.Judge.meant g.J.Judge.right c.args.self.now.table.shared.key in
    let slots = c.args.self.now.table.shared.table_id.slots in
    let me = c.seat.inside.seat.me in
    let same = ap (λ s. s.view) c.seat.view_is in
    let u = lane_of me.0 in
    let is = ap (λ m. m.0) c.seat.invariant.0.lane in
    let second = subst (λ (x : LaneView). IsSecondHalf x c.args.copy c.args.field) (sym same) c.requires.second in (
      ap (λ s. s.table) c.seat.view_is ∙ c.requires.table.table,
      c.copy_place-word.ensures.within,
      check_copy_keeps told slots c.seat.inside.seat.id me u is c.copy_place-word.result c.args.copy c.args.field
          (c.copy_place-word.ensures.place ∙ ap (λ k. word_of (plan_of told.terms.sizes) (CopyWord c.args.copy k)) c.requires.word) c.requires.field second,
    )

pub invariant_of-seat : goal.invariant_of-seat
invariant_of-seat g c =
    let kept = copy_kept c.seat.invariant.0 c.load.result c.load.ensures.2 in
    (kept.0, c.seat.invariant.1 ∙ kept.1, c.seat.invariant.2 ∙ kept.2)

pub returns-clause-fair : goal.returns-clause-fair
returns-clause-fair g c = (invariant_of-seat g c).0.fair

pub returns-clause-view : goal.returns-clause-view
returns-clause-view g c =
    copy_found c.seat.invariant.0 c.load.result c.load.ensures.2 c.args.seat.now.view (ap (λ s. s.view) c.seat.view_is)

pub returns-clause-found : goal.returns-clause-found
returns-clause-found g c =
    ap (λ v. (lane_of v).tally.found) (c.load.ensures.2.becomes.view (lane_of c.seat.inside.seat.me.0) (ap (λ m. m.0) c.seat.invariant.0.lane))

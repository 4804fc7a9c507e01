use Rattle.std.proofs.Common.{◌∙◌, ◌<◌, sym, ap, subst}
use Rattle.std.specs.Prelude.{IsSome}
use Rattle.st_layout.specs.Layout.{word_of}
use Rattle.st_layout.specs.Names.{ForwardWord, cells_of}
use Rattle.st_rule.specs.declared.views.LaneView.{LaneView}
use Rattle.st_rule.specs.declared.views.Terms.{Terms}
use Rattle.st_rule.specs.Board.{plan_of}
use Rattle.st_rule.specs.Keys.{told_by}
use Rattle.st_rule.specs.LaneSeats.{lane_of}
use Rattle.st_rule.specs.Reading.{past_of, IsFirstHalf}
use Rattle.st_rule.proofs.LaneSeatLemmas.{past_within, forward_kept, forward_found}
use Rattle.st_rule.proofs.LaneSteps.{check_forward_keeps}
use Rattle.st_rule.proofs.tables.Shared.check_forward.Goals as goal

pub forward_place-word-requires-clause-object : goal.forward_place-word-requires-clause-object
forward_place-word-requires-clause-object g c =
    subst (λ (t : Terms). c.args.obj < cells_of (plan_of t.sizes)) c.requires.table.terms (past_within c.args.seat.now.view c.args.obj c.is_fair.ensures c.requires.object)

pub forward_place-word-requires-clause-lane : goal.forward_place-word-requires-clause-lane
forward_place-word-requires-clause-lane g c =
    subst (λ (t : Terms). c.lane-number.result < t.sizes.lanes) c.requires.table.terms c.lane-number.ensures.within

pub load-requires : goal.load-requires
load-requires g c =
    let told = told_by g.J.Judge.meant g.J.Judge.right c.args.self.now.table.shared.key in
    let slots = c.args.self.now.table.shared.table_id.slots in
    let me = c.seat.inside.seat.me in
    let same = ap (λ s. s.view) c.seat.view_is in
    let u = lane_of me.0 in
    let is = ap (λ m. m.0) c.seat.invariant.0.lane in
    let first = subst (λ (x : LaneView). IsFirstHalf x c.args.obj) (sym same) c.requires.first in
    let stood = subst (λ (x : LaneView). IsSome (past_of x c.args.obj)) (sym same) c.requires.object in
    let terms = ap (λ v. v.terms) same ∙ c.requires.table.terms in
    let place = c.forward_place-word.result in
    let number = c.lane-number.ensures.lane ∙ ap (λ (x : LaneView). x.lane) (sym same) in
    let is_place = c.forward_place-word.ensures.place ∙ ap (λ k. word_of (plan_of told.terms.sizes) (ForwardWord c.args.obj k)) number in
    let within = subst (λ (t : Terms). c.args.obj < cells_of (plan_of t.sizes)) terms (past_within u c.args.obj c.seat.invariant.0.fair stood) in (
      ap (λ s. s.table) c.seat.view_is ∙ c.requires.table.table,
      c.forward_place-word.ensures.within,
      check_forward_keeps told slots c.seat.inside.seat.id me u is place c.args.obj is_place within first,
    )

pub invariant_of-seat : goal.invariant_of-seat
invariant_of-seat g c =
    let kept = forward_kept c.seat.invariant.0 c.load.result c.load.ensures.2 in
    (kept.0, c.seat.invariant.1 ∙ kept.1, c.seat.invariant.2 ∙ kept.2)

pub returns-clause-fair : goal.returns-clause-fair
returns-clause-fair g c = (invariant_of-seat g c).0.fair

pub returns-clause-view : goal.returns-clause-view
returns-clause-view g c =
    forward_found c.seat.invariant.0 c.load.result c.load.ensures.2 c.args.seat.now.view (ap (λ s. s.view) c.seat.view_is)

pub returns-clause-found : goal.returns-clause-found
returns-clause-found g c =
    ap (λ v. (lane_of v).tally.found) (c.load.ensures.2.view (lane_of c.seat.inside.seat.me.0) (ap (λ m. m.0) c.seat.invariant.0.lane))

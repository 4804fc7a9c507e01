use Rattle.std.proofs.Common.{List, vec_capacity, sym, subst}
use Rattle.st_events.specs.Shape.{IsWithinLimits}
use Rattle.st_layout.specs.declared.plans.Plan.{Plan}
use Rattle.st_rule.specs.declared.views.Entry.{Entry}
use Rattle.st_rule.specs.Board.{Displays, first_board}
use Rattle.st_rule.specs.Keys.{told_by, terms_by}
use Rattle.st_rule.specs.Plays.{Seated}
use Rattle.st_rule.specs.SeatValue.{KeepsSeat}
use Rattle.st_rule.proofs.StartLemmas.{start_sound, first_kept}
use Rattle.st_rule.proofs.tables.Shared.make.Goals as goal

pub of_words-requires : goal.of_words-requires
of_words-requires g c =
    start_sound (told_by g.J.Judge.meant g.J.Judge.right record { sizes = c.args.sizes.now; judge = c.of.result }) c.requires (subst (λ j. IsWithinLimits (g.J.Judge.meant j)) (sym c.of.ensures)
    (subst IsWithinLimits c.shape-shape.ensures.meant c.shape-shape.ensures.fits)) c.as_slice.result.now
    (subst (λ (p : Plan). Displays p c.as_slice.result.now (first_board p)) c.plan_for-plan.ensures.plan
    (subst (λ ws. Displays c.plan_for-plan.result ws (first_board c.plan_for-plan.result)) (sym c.as_slice.ensures.value) c.in_ok-words.ensures))

pub of-main-requires : goal.of-main-requires
of-main-requires g c =
    let terms = terms_by g.J.Judge.meant record { sizes = c.args.sizes.now; judge = c.of.result } in
    subst (λ (p : Seated × List Entry). KeepsSeat p.0 c.args.sizes.now.mutators 0 0 p.1 (vec_capacity c.new.result)) (λ k. (sym c.in_ok-table.ensures.4 k, sym c.new.ensures.items k))
    (first_kept terms c.requires (subst (λ j. IsWithinLimits (g.J.Judge.meant j)) (sym c.of.ensures)
    (subst IsWithinLimits c.shape-shape.ensures.meant c.shape-shape.ensures.fits)) _)

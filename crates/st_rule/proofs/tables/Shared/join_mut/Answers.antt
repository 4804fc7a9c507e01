use Rattle.std.proofs.Common.{◌∙◌, ◌<◌, sym, ap, refl, subst}
use Rattle.st_rule.specs.declared.views.Terms.{Terms}
use Rattle.st_rule.specs.Keys.{told_by}
use Rattle.atomic_table.specs.Table.{Joins}
use Rattle.st_rule.specs.declared.views.View.{View}
use Rattle.st_rule.specs.declared.views.View.TheVariants.{Gone}
use Rattle.st_rule.specs.Rule.{IsSoundTable}
use Rattle.st_rule.specs.Turns.{both_of, joined_with}
use Rattle.st_rule.proofs.BoardLemmas.{some_word}
use Rattle.st_rule.specs.Views.{mutator_of}
use Rattle.st_rule.proofs.JoinLemmas.{join_keeps}
use Rattle.st_rule.proofs.MainLemmas.{joined_fair}
use Rattle.st_rule.proofs.SeatLemmas.{seat_kept}
use Rattle.st_rule.specs.SeatValue.{IsFairView}
use Rattle.st_rule.proofs.tables.Shared.join_mut.Goals as goal

pub join_seat-requires : goal.join_seat-requires
join_seat-requires g c =
    let table = c.args.self.now in
    let told = (told_by g.J.Judge.meant g.J.Judge.right c.args.self.now.table.shared.key) in
    let other = c.into_parts-other in (
      ap (λ s. s.table) c.main.view_is ∙ c.requires.table.table,
      other.ensures.table.0 ∙ c.requires.seat.table,
      ap (λ m. m.1) other.ensures.view,
      some_word table.table.shared.key.sizes table.plan _ table.fits table.plan_is table.counted,
      subst (λ (x : View × View). Joins (IsSoundTable told) c.main.inside.seat.id x.0 other.result.0.id x.1 (both_of x.0 x.1) Gone)
          (λ k. (sym (ap (λ m. m.0) c.main.invariant.mutator) k, sym (ap (λ m. m.0) other.ensures.view) k))
          (join_keeps told c.main.inside.seat.id (mutator_of c.main.inside.seat.me.0) other.result.0.id c.args.seat.view c.requires.phase
          (subst (λ (t : Terms). c.args.seat.view.gate.number < t.sizes.mutators) c.requires.seat.terms c.requires.mutator)),
    )

pub returns-clause-fair : goal.returns-clause-fair
returns-clause-fair g c =
    let other = c.into_parts-other in
    let main = mutator_of c.main.inside.seat.me.0 in
    let same = ap (λ s. s.view) c.main.view_is in
    let view = ap (λ m. mutator_of m.0) c.join_seat.ensures.2 ∙ (λ i. mutator_of (both_of (ap (λ m. m.0) c.main.invariant.mutator i) (ap (λ m. m.0) other.ensures.view i))) in
    subst IsFairView (sym view)
    (joined_fair main c.args.seat.view (ap (λ v. v.gate.number) same ∙ c.requires.main ∙ ap (λ v. v.terms.sizes.mutators) (sym same))
    (c.requires.seat.terms ∙ sym c.requires.table.terms ∙ ap (λ v. v.terms) (sym same)) c.main.invariant.fair other.ensures.fair)

pub invariant_of-main : goal.invariant_of-main
invariant_of-main g c =
    let other = c.into_parts-other in
    let view = ap (λ m. m.0) c.join_seat.ensures.2 ∙ (λ i. both_of (ap (λ m. m.0) c.main.invariant.mutator i) (ap (λ m. m.0) other.ensures.view i)) in
    seat_kept c.main.invariant (joined_with (mutator_of c.main.inside.seat.me.0) c.args.seat.view) view (ap (λ m. m.1) c.join_seat.ensures.2)
    (record { terms = refl; number = refl; entries = refl })
    (subst IsFairView (ap mutator_of view) (returns-clause-fair g c))

use Rattle.std.proofs.Common.{◌∙◌, ◌<◌, sym, ap, refl, subst}
use Rattle.st_layout.specs.Names.{cells_of}
use Rattle.st_rule.specs.declared.views.MutView.{MutView}
use Rattle.st_rule.specs.declared.views.Terms.{Terms}
use Rattle.st_rule.specs.Board.{plan_of}
use Rattle.st_rule.specs.Draws.{AwaitsClass}
use Rattle.st_rule.specs.Keys.{told_by}
use Rattle.st_rule.specs.Views.{mutator_of}
use Rattle.st_rule.proofs.ActSteps.{class_store_keeps}
use Rattle.st_rule.proofs.ObjectSeats.{hand_within, written_kept}
use Rattle.st_rule.proofs.tables.Shared.store_class.Goals as goal

pub class_place-word-requires : goal.class_place-word-requires
class_place-word-requires g c =
    subst (λ (t : Terms). c.args.obj < cells_of (plan_of t.sizes)) c.requires.table.terms (hand_within c.args.seat.now.view c.args.obj c.is_fair.ensures c.requires.flight.has)

pub store-requires : goal.store-requires
store-requires g c =
    let told = told_by g.J.Judge.meant g.J.Judge.right c.args.self.now.table.shared.key in
    let slots = c.args.self.now.table.shared.table_id.slots in
    let me = c.seat.inside.seat.me in
    let same = ap (λ s. s.view) c.seat.view_is in
    let awaits = subst (λ (x : MutView). AwaitsClass x c.args.obj c.args.value) (sym same) c.requires.flight in
    let within = subst (λ (t : Terms). c.args.obj < cells_of (plan_of t.sizes)) (ap (λ v. v.terms) same ∙ c.requires.table.terms)
    (hand_within (mutator_of me.0) c.args.obj c.seat.invariant.fair awaits.has) in (
      ap (λ s. s.table) c.seat.view_is ∙ c.requires.table.table,
      c.class_place-word.ensures.within,
      class_store_keeps told slots c.seat.inside.seat.id me (mutator_of me.0) (ap (λ m. m.0) c.seat.invariant.mutator)
          c.class_place-word.result c.args.obj c.args.value c.args.value c.class_place-word.ensures.place within refl awaits,
    )

pub invariant_of-seat : goal.invariant_of-seat
invariant_of-seat g c = written_kept c.seat.invariant c.args.value c.store.ensures.2

pub returns-clause-fair : goal.returns-clause-fair
returns-clause-fair g c = (written_kept c.seat.invariant c.args.value c.store.ensures.2).fair

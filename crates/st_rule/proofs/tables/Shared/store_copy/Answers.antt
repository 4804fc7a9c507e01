use Rattle.std.proofs.Common.{◌∙◌, ◌<◌, sym, ap, refl, subst}
use Rattle.st_rule.specs.declared.views.MutView.{MutView}
use Rattle.st_rule.specs.declared.views.Terms.{Terms}
use Rattle.st_rule.specs.Keys.{told_by}
use Rattle.st_rule.specs.Needs.{AwaitsCopyWord}
use Rattle.st_rule.specs.Views.{mutator_of}
use Rattle.st_rule.proofs.BarrierSteps.{copy_store_keeps}
use Rattle.st_rule.proofs.ObjectSeats.{built_kept}
use Rattle.st_rule.proofs.tables.Shared.store_copy.Goals as goal

pub copy_place-word-requires-clause-copy : goal.copy_place-word-requires-clause-copy
copy_place-word-requires-clause-copy g c =
    subst (λ (t : Terms). c.args.copy < t.sizes.copies) c.requires.table.terms c.requires.flight.copy_within

pub copy_place-word-requires-clause-word : goal.copy_place-word-requires-clause-word
copy_place-word-requires-clause-word g c = c.requires.flight.within

pub store-requires : goal.store-requires
store-requires g c =
    let told = told_by g.J.Judge.meant g.J.Judge.right c.args.self.now.table.shared.key in
    let slots = c.args.self.now.table.shared.table_id.slots in
    let me = c.seat.inside.seat.me in
    let same = ap (λ s. s.view) c.seat.view_is in
    let awaits = subst (λ (x : MutView). AwaitsCopyWord x c.args.copy c.args.k c.args.value) (sym same) c.requires.flight in (
      ap (λ s. s.table) c.seat.view_is ∙ c.requires.table.table,
      c.copy_place-word.ensures.within,
      copy_store_keeps told slots c.seat.inside.seat.id me (mutator_of me.0) (ap (λ m. m.0) c.seat.invariant.mutator)
          c.copy_place-word.result c.args.copy c.args.k c.args.value c.args.value c.copy_place-word.ensures.place refl awaits,
    )

pub invariant_of-seat : goal.invariant_of-seat
invariant_of-seat g c = built_kept c.seat.invariant c.args.value c.store.ensures.2

pub returns-clause-fair : goal.returns-clause-fair
returns-clause-fair g c = (built_kept c.seat.invariant c.args.value c.store.ensures.2).fair

use Rattle.std.proofs.Common.{◌∙◌, ◌<◌, sym, ap, subst}
use Rattle.st_layout.specs.Names.{cells_of}
use Rattle.st_rule.specs.declared.views.MutView.{MutView}
use Rattle.st_rule.specs.declared.views.Terms.{Terms}
use Rattle.st_rule.specs.Board.{plan_of}
use Rattle.st_rule.specs.Draws.{MayUnlock}
use Rattle.st_rule.specs.Keys.{told_by}
use Rattle.st_rule.specs.Views.{mutator_of}
use Rattle.st_rule.proofs.ActSteps.{unlock_keeps}
use Rattle.st_rule.proofs.ObjectSeats.{hand_within}
use Rattle.st_rule.proofs.tables.Shared.store_header.Goals as goal

pub header_place-word-requires : goal.header_place-word-requires
header_place-word-requires g c =
    subst (λ (t : Terms). c.args.obj < cells_of (plan_of t.sizes)) c.requires.table.terms (hand_within c.args.seat.now.view c.args.obj c.is_fair.ensures c.requires.hand.has)

pub store-requires : goal.store-requires
store-requires g c =
    let told = told_by g.J.Judge.meant g.J.Judge.right c.args.self.now.table.shared.key in
    let slots = c.args.self.now.table.shared.table_id.slots in
    let me = c.seat.inside.seat.me in
    let same = ap (λ s. s.view) c.seat.view_is in
    let may = subst (λ (x : MutView). MayUnlock x c.args.obj c.args.stamp) (sym same) c.requires.hand in
    let within = subst (λ (t : Terms). c.args.obj < cells_of (plan_of t.sizes)) (ap (λ v. v.terms) same ∙ c.requires.table.terms)
    (hand_within (mutator_of me.0) c.args.obj c.seat.invariant.fair may.has) in (
      ap (λ s. s.table) c.seat.view_is ∙ c.requires.table.table,
      c.header_place-word.ensures.within,
      unlock_keeps told slots c.seat.inside.seat.id me (mutator_of me.0) (ap (λ m. m.0) c.seat.invariant.mutator)
          c.header_place-word.result c.args.obj c.args.stamp c.args.value c.header_place-word.ensures.place within c.requires.nobody may,
    )

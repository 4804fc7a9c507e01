use Rattle.std.proofs.Common.{◌∙◌, sym, ap, ⊎_elim}
use Rattle.st_layout.specs.Names.{FlagWord}
use Rattle.st_layout.specs.Layout.{word_of}
use Rattle.st_rule.specs.Board.{plan_of}
use Rattle.st_rule.specs.Keys.{told_by}
use Rattle.st_rule.specs.Views.{mutator_of, is_closer}
use Rattle.st_rule.proofs.GateSteps.{flag_out_keeps}
use Rattle.st_rule.proofs.tables.Shared.store_flag_out.Goals as goal

pub store-requires : goal.store-requires
store-requires g c =
    let told = told_by g.J.Judge.meant g.J.Judge.right c.args.self.now.table.shared.key in
    let slots = c.args.self.now.table.shared.table_id.slots in
    let me = c.seat.inside.seat.me in
    let same = ap (λ s. s.view) c.seat.view_is in
    let number = c.number.ensures.number ∙ ap (λ v. v.gate.number) (sym same) in
    let place = c.flag_place-word.ensures.place ∙ ap (λ n. word_of (plan_of told.terms.sizes) (FlagWord n)) number in
    let phase = ap (λ v. is_closer v.gate.phase) same in (
      ap (λ s. s.table) c.seat.view_is ∙ c.requires.table.table,
      c.flag_place-word.ensures.within,
      flag_out_keeps told slots c.seat.inside.seat.id me (mutator_of me.0) (ap (λ m. m.0) c.seat.invariant.mutator)
          c.flag_place-word.result c.args.value place c.requires.down (⊎_elim (λ entering. phase ∙ ap is_closer entering) (λ inside. phase ∙ ap is_closer inside) c.requires.phase)
          (ap (λ v. v.held) same ∙ c.requires.hand),
    )

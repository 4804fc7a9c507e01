use Rattle.std.proofs.Common.{◌∙◌, ap}
use Rattle.st_rule.specs.Keys.{told_by}
use Rattle.st_rule.specs.Views.{mutator_of}
use Rattle.st_rule.proofs.GateSteps.{give_gate_keeps}
use Rattle.st_rule.proofs.tables.Shared.store_closing.Goals as goal

pub store-requires : goal.store-requires
store-requires g c =
    let told = told_by g.J.Judge.meant g.J.Judge.right c.args.self.now.table.shared.key in
    let slots = c.args.self.now.table.shared.table_id.slots in
    let me = c.seat.inside.seat.me in
    let same = ap (λ s. s.view) c.seat.view_is in (
      ap (λ s. s.table) c.seat.view_is ∙ c.requires.table.table,
      c.closing_place-word.ensures.within,
      give_gate_keeps told slots c.seat.inside.seat.id me (mutator_of me.0) (ap (λ m. m.0) c.seat.invariant.mutator)
          c.closing_place-word.result c.args.value c.closing_place-word.ensures.place c.requires.nobody (ap (λ v. v.gate.phase) same ∙ c.requires.phase),
    )

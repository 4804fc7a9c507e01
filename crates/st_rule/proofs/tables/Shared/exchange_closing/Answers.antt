use Rattle.std.proofs.Common.{◌∙◌, ◌+◌, sym, ap}
use Rattle.st_rule.specs.Keys.{told_by}
use Rattle.st_rule.specs.Views.{mutator_of}
use Rattle.st_rule.proofs.GateSteps.{take_gate_keeps}
use Rattle.st_rule.proofs.SeatLemmas.{took_kept}
use Rattle.st_rule.proofs.tables.Shared.exchange_closing.Goals as goal

pub compare_exchange-requires : goal.compare_exchange-requires
compare_exchange-requires g c =
    let told = told_by g.J.Judge.meant g.J.Judge.right c.args.self.now.table.shared.key in
    let slots = c.args.self.now.table.shared.table_id.slots in
    let me = c.seat.inside.seat.me in
    let same = ap (λ s. s.view) c.seat.view_is in
    let taken = c.requires.own ∙ ap (λ v. v.gate.number + 1) (sym same) in (
      ap (λ s. s.table) c.seat.view_is ∙ c.requires.table.table,
      c.closing_place-word.ensures.within,
      take_gate_keeps told slots c.seat.inside.seat.id me (mutator_of me.0) (ap (λ m. m.0) c.seat.invariant.mutator)
          c.closing_place-word.result c.args.taken c.closing_place-word.ensures.place
          taken (ap (λ v. v.gate.phase) same ∙ c.requires.phase),
    )

pub invariant_of-seat : goal.invariant_of-seat
invariant_of-seat g c = took_kept c.seat.invariant c.compare_exchange.result c.compare_exchange.ensures.2

pub returns-clause-fair : goal.returns-clause-fair
returns-clause-fair g c = (took_kept c.seat.invariant c.compare_exchange.result c.compare_exchange.ensures.2).fair

pub returns-clause-found : goal.returns-clause-found
returns-clause-found g c =
    let view = c.compare_exchange.ensures.2.view (mutator_of c.seat.inside.seat.me.0) (ap (λ m. m.0) c.seat.invariant.mutator) in
    (ap (λ v. (mutator_of v).tally.found) view)

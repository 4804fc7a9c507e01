use Rattle.std.proofs.Common.{◌∙◌, length, sym, ap}
use Rattle.st_rule.specs.Keys.{told_by}
use Rattle.st_rule.specs.Turns.{looked_last}
use Rattle.st_rule.specs.Views.{mutator_of}
use Rattle.st_rule.proofs.ActSteps.{last_look_keeps}
use Rattle.st_rule.proofs.ObjectSeats.{last_kept}
use Rattle.st_rule.proofs.SeatLemmas.{learned_at}
use Rattle.st_rule.proofs.tables.Shared.load_clock.Goals as goal

pub load-requires : goal.load-requires
load-requires g c =
    let told = told_by g.J.Judge.meant g.J.Judge.right c.args.self.now.table.shared.key in
    let slots = c.args.self.now.table.shared.table_id.slots in
    let me = c.seat.inside.seat.me in
    let same = ap (λ s. s.view) c.seat.view_is in (
      ap (λ s. s.table) c.seat.view_is ∙ c.requires.table.table,
      c.clock_place-word.ensures.within,
      last_look_keeps told slots c.seat.inside.seat.id me (mutator_of me.0) (ap (λ m. m.0) c.seat.invariant.mutator)
          c.clock_place-word.result c.clock_place-word.ensures.place,
    )

pub invariant_of-seat : goal.invariant_of-seat
invariant_of-seat g c = last_kept c.seat.invariant c.load.result c.load.ensures.2.learns

pub returns-clause-fair : goal.returns-clause-fair
returns-clause-fair g c = (last_kept c.seat.invariant c.load.result c.load.ensures.2.learns).fair

pub returns-clause-view : goal.returns-clause-view
returns-clause-view g c = learned_at c.seat.invariant looked_last c.load.result c.load.ensures.2.learns c.args.seat.now.view (ap (λ s. s.view) c.seat.view_is)

pub returns-clause-found : goal.returns-clause-found
returns-clause-found g c =
    let view = c.load.ensures.2.learns.view (mutator_of c.seat.inside.seat.me.0) (ap (λ m. m.0) c.seat.invariant.mutator) in
    (ap (λ v. (mutator_of v).tally.found) view)

pub returns-clause-counts : goal.returns-clause-counts
returns-clause-counts g c =
    let view = c.load.ensures.2.learns.view (mutator_of c.seat.inside.seat.me.0) (ap (λ m. m.0) c.seat.invariant.mutator) in
    c.load.ensures.2.whole ∙ ap (λ v. length (mutator_of v).journal.seen) (sym view)

use Rattle.std.proofs.Common.{◌∙◌, ◌==◌, ap, refl}
use Rattle.st_rule.specs.Keys.{told_by}
use Rattle.st_rule.specs.Views.{mutator_of}
use Rattle.st_rule.specs.Turns.{looked}
use Rattle.st_rule.proofs.GateSteps.{look_keeps}
use Rattle.st_rule.proofs.SeatLemmas.{looked_steady, kept_at}
use Rattle.st_rule.proofs.tables.Shared.load_closing.Goals as goal

pub load-requires : goal.load-requires
load-requires g c =
    let told = told_by g.J.Judge.meant g.J.Judge.right c.args.self.now.table.shared.key in
    let slots = c.args.self.now.table.shared.table_id.slots in
    let me = c.seat.inside.seat.me in
    let same = ap (λ s. s.view) c.seat.view_is in (
      ap (λ s. s.table) c.seat.view_is ∙ c.requires.table.table,
      c.closing_place-word.ensures.within,
      look_keeps told slots c.seat.inside.seat.id me (mutator_of me.0) (ap (λ m. m.0) c.seat.invariant.mutator)
          c.closing_place-word.result c.closing_place-word.ensures.place (ap (λ v. v.gate.phase) same ∙ c.requires.phase),
    )

pub invariant_of-seat : goal.invariant_of-seat
invariant_of-seat g c =
    let word = c.load.result in
    kept_at c.seat.invariant looked word c.load.ensures.2 (looked_steady (word == 0) word (mutator_of c.seat.inside.seat.me.0)) refl refl

pub returns-clause-fair : goal.returns-clause-fair
returns-clause-fair g c =
    let word = c.load.result in
    (kept_at c.seat.invariant looked word c.load.ensures.2 (looked_steady (word == 0) word (mutator_of c.seat.inside.seat.me.0)) refl refl).fair

pub returns-clause-found : goal.returns-clause-found
returns-clause-found g c =
    let view = c.load.ensures.2.view (mutator_of c.seat.inside.seat.me.0) (ap (λ m. m.0) c.seat.invariant.mutator) in
    (ap (λ v. (mutator_of v).tally.found) view)

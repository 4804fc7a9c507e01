use Rattle.std.proofs.Common.{◌∙◌, ◌≤◌, sym, ap, subst}
use Rattle.atomic_table.specs.Table.{Allows}
use Rattle.st_rule.specs.Keys.{told_by}
use Rattle.st_rule.specs.Plays.{Learns, FindsAndLearns}
use Rattle.st_rule.specs.Rule.{IsSoundTable}
use Rattle.st_rule.specs.Turns.{saw, number_of_flag}
use Rattle.st_rule.specs.Views.{mutator_of}
use Rattle.st_rule.proofs.GateSteps.{see_keeps}
use Rattle.st_rule.proofs.SeatLemmas.{learned_at, saw_kept, number_of_place}
use Rattle.st_rule.proofs.tables.Shared.load_flag.Goals as goal

pub load-requires : goal.load-requires
load-requires g c =
    let told = told_by g.J.Judge.meant g.J.Judge.right c.args.self.now.table.shared.key in
    let slots = c.args.self.now.table.shared.table_id.slots in
    let me = c.seat.inside.seat.me in
    let same = ap (λ s. s.view) c.seat.view_is in
    let word = c.flag_place-word.result in
    let place = c.flag_place-word.ensures.place in
    let within = subst (λ t. c.args.k ≤ t.sizes.mutators) c.requires.table.terms c.requires.within in (
      ap (λ s. s.table) c.seat.view_is ∙ c.requires.table.table,
      c.flag_place-word.ensures.within,
      subst (λ n. Allows (IsSoundTable told) slots c.seat.inside.seat.id me word (λ x. x) (Learns (saw n) me)) (sym (number_of_place _ c.args.k word place))
          (see_keeps told slots c.seat.inside.seat.id me (mutator_of me.0) (ap (λ m. m.0) c.seat.invariant.mutator)
          word c.args.k place within (ap (λ v. v.gate.phase) same ∙ c.requires.phase)),
    )

pub invariant_of-seat : goal.invariant_of-seat
invariant_of-seat g c = saw_kept c.seat.invariant (number_of_flag c.flag_place-word.result) c.load.result c.load.ensures.2

pub returns-clause-view : goal.returns-clause-view
returns-clause-view g c =
    let word = c.flag_place-word.result in
    let learned = learned_at c.seat.invariant (saw (number_of_flag word)) c.load.result c.load.ensures.2 in
    subst (λ n. FindsAndLearns (saw n) c.args.seat.now.view (mutator_of c.load.new.seat.me.0)) (number_of_place _ c.args.k word c.flag_place-word.ensures.place)
    (learned c.args.seat.now.view (ap (λ s. s.view) c.seat.view_is))

pub returns-clause-fair : goal.returns-clause-fair
returns-clause-fair g c = (saw_kept c.seat.invariant (number_of_flag c.flag_place-word.result) c.load.result c.load.ensures.2).fair

pub returns-clause-found : goal.returns-clause-found
returns-clause-found g c =
    let view = c.load.ensures.2.view (mutator_of c.seat.inside.seat.me.0) (ap (λ m. m.0) c.seat.invariant.mutator) in
    (ap (λ v. (mutator_of v).tally.found) view)

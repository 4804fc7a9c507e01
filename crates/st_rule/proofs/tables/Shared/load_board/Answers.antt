use Rattle.std.proofs.Common.{◌∙◌, ◌<◌, sym, ap, refl, subst}
use Rattle.st_layout.specs.Layout.{words_of}
use Rattle.st_rule.specs.declared.views.Terms.{Terms}
use Rattle.st_rule.specs.Board.{plan_of}
use Rattle.st_rule.specs.Keys.{told_by}
use Rattle.st_rule.specs.Turns.{board_loaded}
use Rattle.st_rule.specs.Views.{mutator_of}
use Rattle.st_rule.proofs.ActSteps.{board_load_keeps}
use Rattle.st_rule.proofs.SeatLemmas.{kept_at}
use Rattle.st_rule.proofs.ObjectSeats.{board_found}
use Rattle.st_rule.proofs.tables.Shared.load_board.Goals as goal

pub load-requires : goal.load-requires
load-requires g c =
    let told = told_by g.J.Judge.meant g.J.Judge.right c.args.self.now.table.shared.key in
    let slots = c.args.self.now.table.shared.table_id.slots in
    let me = c.seat.inside.seat.me in
    let table = c.args.self.now in (
      ap (λ s. s.table) c.seat.view_is ∙ c.requires.table.table,
      subst (λ k. c.args.word < k) (sym (table.counted ∙ ap words_of table.plan_is))
          (subst (λ (t : Terms). c.args.word < words_of (plan_of t.sizes)) c.requires.table.terms c.requires.board.within),
      board_load_keeps told slots c.seat.inside.seat.id me (mutator_of me.0) (ap (λ m. m.0) c.seat.invariant.mutator) c.args.word,
    )

pub invariant_of-seat : goal.invariant_of-seat
invariant_of-seat g c = kept_at c.seat.invariant (board_loaded c.args.word) c.load.result c.load.ensures.2.becomes (record { terms = refl; number = refl; entries = refl }) refl refl

pub returns-clause-fair : goal.returns-clause-fair
returns-clause-fair g c = (invariant_of-seat g c).fair

pub returns-clause-view : goal.returns-clause-view
returns-clause-view g c = board_found c.seat.invariant c.args.word c.load.result c.load.ensures.2 c.args.seat.now.view (ap (λ s. s.view) c.seat.view_is)

pub returns-clause-found : goal.returns-clause-found
returns-clause-found g c =
    let view = c.load.ensures.2.becomes.view (mutator_of c.seat.inside.seat.me.0) (ap (λ m. m.0) c.seat.invariant.mutator) in
    (ap (λ v. (mutator_of v).tally.found) view)

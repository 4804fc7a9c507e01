-- An Alone seat excludes all others.
use Rattle.std.proofs.Common.{◌≡◌, ◌≢◌, ℕ, ◌+◌, sym, ap, ◌∙◌, arith}
use Rattle.st_layout.specs.Names.{ClosingWord}
use Rattle.st_rule.specs.Rule.{Told}
use Rattle.st_rule.specs.SeatValue.{SeatValue}
use Rattle.st_rule.specs.Views.{is_closer}
use Rattle.st_gate.specs.Exclusion.{ExcludesOthers}
use Rattle.st_gate.specs.Phases.{IsAlone}

-- while a seat is Alone, every other seat of its table is neither Inside nor Alone, at each moment at which the rule holds
pub alone_excludes_others : (told : Told) (seat : SeatValue) → IsAlone seat → ExcludesOthers told seat
alone_excludes_others told seat alone m words views h sits other view apart there =
    let v = seat.view in
    let k : ℕ = v.gate.number in
    let n : ℕ = view.gate.number in
    let n_fits = h.seating.numbers other view there in
    let other_number : n ≢ k = λ same. apart (sym (h.gate_part.one_view_each other view there) ∙ ap m.seat same ∙ h.gate_part.one_view_each seat.id v sits) in
    let seen = h.gate_part.alone_saw_all seat.id v sits alone n n_fits other_number in
    let mine : m.board ClosingWord ≡ k + 1 = (h.gate_part.closer k (h.seating.numbers seat.id v sits)).0 (ap is_closer (h.seating.phases seat.id v sits ∙ alone)) in (
      (λ inside. h.gate_part.clear seat.id v sits (ap is_closer alone) n seen (h.seating.phases other view there ∙ inside)),
      (λ also.
          let its : m.board ClosingWord ≡ n + 1 = (h.gate_part.closer n n_fits).0 (ap is_closer (h.seating.phases other view there ∙ also)) in
          other_number (omega (arith, mine, its))),
    )

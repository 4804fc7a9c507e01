-- The numbers that a closer sees, in order.
use Rattle.std.specs.Prelude.{◌≡◌, ℕ, zero, suc, ◌==◌, if◌then◌else◌, List, [], ◌∷◌}
use Rattle.st_rule.specs.SeatValue.{SeatValue}
use Rattle.st_rule.specs.Turns.{closer_phase}

-- the numbers below `count` but for the closer's own, the last one first
abbrev pub others_below : (count number : ℕ) → List ℕ
others_below zero number = []
others_below (suc n) number = if n == number then others_below n number else n ∷ others_below n number

-- the seat has the closing word and saw these flags clear, and its phase is by them
pub record HasSeen (seat : SeatValue) (clear : List ℕ) : Type 0 where
  pub clear_is : seat.view.gate.clear ≡ clear
  pub phase_is : seat.view.gate.phase ≡ closer_phase seat.view.terms.sizes.mutators seat.view.gate.number clear

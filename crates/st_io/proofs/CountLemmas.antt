-- Laws of counts that rise.
use Rattle.std.proofs.Common.{ℕ, ◌+◌, ◌≤◌, ◌<◌, arith}
use Rattle.st_io.specs.Counts.{RoseBy}

-- what rose in the first part of a call rose in the whole
pub rise_in_the_first_part_is_a_rise : (n before now later : ℕ)
    → RoseBy n before now → now ≤ later → RoseBy n before later
rise_in_the_first_part_is_a_rise n before now later rose no_fall = omega arith

-- what rose in the last part of a call rose in the whole
pub rise_in_the_last_part_is_a_rise : (n earlier before now : ℕ)
    → earlier ≤ before → RoseBy n before now → RoseBy n earlier now
rise_in_the_last_part_is_a_rise n earlier before now no_fall rose = omega arith

-- two rises that follow one another add up
pub rises_add_up : (m n before between now : ℕ)
    → RoseBy m before between → RoseBy n between now → RoseBy (m + n) before now
rises_add_up m n before between now first second = omega arith

-- a count that is always 0 never rose
pub count_of_0_never_rose : (n : ℕ) → 0 < n → RoseBy n 0 0 → ⊥
count_of_0_never_rose n some rose = omega arith

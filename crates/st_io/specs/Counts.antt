-- Counts of faults and of bytes taken. A count is kept in 64 bits and stands still at its last value.
use Rattle.std.specs.Prelude.{ℕ, ◌+◌, ◌-◌, ◌^◌, ◌≤◌, min}

-- the count raised by n, or its last value
abbrev pub raised : ℕ → ℕ → ℕ
raised n count = min (count + n) (2 ^ 64 - 1)

-- the count rose by at least n, or stands at its last value
abbrev pub RoseBy : ℕ → ℕ → ℕ → Type 0
RoseBy n before now = raised n before ≤ now

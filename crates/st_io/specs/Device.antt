-- Devices of the system, which tell no content.
use Rattle.std.specs.Prelude.{ℕ, List, Option, None}

-- what was counted at the files of the system: the calls that were refused, and the bytes taken
pub record Counted : Type 0 where
  pub faults : ℕ
  pub taken : ℕ

-- so many calls were refused, and so many bytes were taken
abbrev pub counts_of : ℕ → ℕ → Counted
counts_of faults taken = record { faults = faults; taken = taken }

-- the bytes of no file are told
abbrev pub untold : List ℕ → Option (List ℕ)
untold _ = None

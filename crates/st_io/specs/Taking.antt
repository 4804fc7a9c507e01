-- What a reading takes from a source of bytes.
use Rattle.std.specs.Prelude.{◌≡◌, ℕ, ◌≤◌, List, ◌++◌, length, Option}
use Rattle.std.specs.Io.KnownBytes.{Consumes}
use Rattle.st_io.specs.Counts.{raised}

-- some bytes went from the front of the source to the end of a buffer, no more than these many, and were counted
pub record TakesSome (most : ℕ) (source-before source-now : Option (List ℕ)) (before now : List ℕ)
    (taken-before taken-now : ℕ) : Type 0 where
  pub bytes : List ℕ
  pub consumed : Consumes source-before source-now bytes
  pub appended : now ≡ before ++ bytes
  pub bounded : length bytes ≤ most
  pub counted : taken-now ≡ raised (length bytes) taken-before

-- Which of the checks that claim to be abandoned have lost the version that they name.
use Rattle.std.specs.Prelude.{◌≡◌, ℕ, ◌+◌, Bool, false, List, length, Some, get_or, slice_get}
use Rattle.st_events.specs.declared.verdicts.Verdict.{Verdict}
use Rattle.st_events.specs.Terms.{Pair, is_lost}
use Rattle.st_events.specs.declared.verdicts.Verdict.TheVariants.{Abandoned}

-- there is a mark for each verdict; that of one that claims to be abandoned at an object says whether the pair of the object and its check is lost
pub record AreMarks (verdicts : List Verdict) (pairs : List Pair) (marks : List Bool) : Type 0 where
  pub count : length marks ≡ length verdicts
  pub each : (n obj : ℕ) → slice_get verdicts n ≡ Some (Abandoned obj) → get_or marks n false ≡ is_lost pairs obj (n + 1)

-- Lanes of which no two have one number
use Rattle.std.proofs.Common.{◌≡◌, ◌≢◌, ℕ, ◌+◌, ◌<◌, inl, inr, List, [], length, slice_get, Some, sym, subst, arith, get_or}
use Rattle.std.specs.List.{All, remove}
use Rattle.std.proofs.lemmas.Bool.{cases_lt}
use Rattle.std.proofs.lemmas.List.Edits.{get_or-remove_below, get_or-remove_above, length-remove}
use Rattle.std.proofs.lemmas.Option.{slice_get_within, get_or_from_slice_get}
use Rattle.st_snap.specs.declared.lanes.Lane.{Lane}
use Rattle.tests_snap.specs.Drive.{HaveOwnNumbers}

-- no lane, no two of them
pub apart_where_none : HaveOwnNumbers []
apart_where_none = λ i j d below lt. absurd (omega (arith, lt))

-- what is left has other numbers than the lane that was removed
pub removed_is_apart :
    (held : List Lane) (i : ℕ) (lane : Lane)
    → slice_get held i ≡ Some lane
    → HaveOwnNumbers held
    → All (λ other. other.number ≢ lane.number) (remove held i)
removed_is_apart held i lane found apart = λ k e lt. elim (cases_lt k i) [
  | inl below ↦ subst (λ (other : Lane). other.number ≢ lane.number) (sym (get_or-remove_below held i e k below within))
      (subst (λ (at : Lane). (get_or held k e).number ≢ at.number) (get_or_from_slice_get held i lane e found) (apart k i e below within))
  | inr above ↦ subst (λ (other : Lane). other.number ≢ lane.number) (sym (get_or-remove_above held i e k above within))
      (subst (λ (at : Lane). (get_or held (k + 1) e).number ≢ at.number) (get_or_from_slice_get held i lane e found)
      (λ same. apart i (k + 1) e (omega (arith, above)) (omega (arith, lt, length-remove held i within)) (sym same)))
]
  where
    within : i < length held
    within = slice_get_within held i lane found

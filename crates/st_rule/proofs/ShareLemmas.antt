-- Rows kept that two checks share, and the copy of the row that a change adds.
use Rattle.std.proofs.Common.{◌≡◌, ℕ, ◌==◌, Bool, true, false, if◌then◌else◌, ◌⊎◌, inl, inr, ⊎_elim, List, [], ◌∷◌, ◌++◌, refl, ap}
use Rattle.std.specs.Prelude.{◌&&◌}
use Rattle.st_events.specs.World.{World, Row, is_among, is_kept, needing_in, row_if_needed}
use Rattle.st_events.proofs.AmongLemmas.{or_cases, or_first, or_second, same_numbers, same_number}
use Rattle.st_events.proofs.KeptLemmas.{and_parts, and_both}
use Rattle.st_rule.specs.Versions.{share_row, with_row}

abbrev row_has_both : Row → (o n k : ℕ) → Bool
row_has_both row o n k = (row.obj == o) && (is_among row.checks n && is_among row.checks k)

-- the row is in the front or among the rest
pub shared_in_either :
    (rows more : List Row) (o n k : ℕ) → share_row (rows ++ more) o n k ≡ true
    → (share_row rows o n k ≡ true) ⊎ (share_row more o n k ≡ true)
shared_in_either [] more o n k e = inr e
shared_in_either (row ∷ rows) more o n k e = ⊎_elim
    (λ here. inl (or_first (row_has_both row o n k) (share_row rows o n k) here))
    (λ rest. ⊎_elim
    (λ front. inl (or_second (row_has_both row o n k) (share_row rows o n k) front))
    (λ back. inr back)
    (shared_in_either rows more o n k rest))
    (or_cases (row_has_both row o n k) (share_row (rows ++ more) o n k) e)

-- a shared row is still one with more rows behind
pub shared_in_front : (rows more : List Row) (o n k : ℕ) → share_row rows o n k ≡ true → share_row (rows ++ more) o n k ≡ true
shared_in_front [] more o n k e = absurd cc
shared_in_front (row ∷ rows) more o n k e = ⊎_elim
    (λ here. or_first (row_has_both row o n k) (share_row (rows ++ more) o n k) here)
    (λ rest. or_second (row_has_both row o n k) (share_row (rows ++ more) o n k) (shared_in_front rows more o n k rest))
    (or_cases (row_has_both row o n k) (share_row rows o n k) e)

-- and with more rows before
pub shared_in_back : (rows more : List Row) (o n k : ℕ) → share_row more o n k ≡ true → share_row (rows ++ more) o n k ≡ true
shared_in_back [] more o n k e = e
shared_in_back (row ∷ rows) more o n k e = or_second (row_has_both row o n k) (share_row (rows ++ more) o n k) (shared_in_back rows more o n k e)

-- the row that a change adds is of its object, and of the checks that need it
pub shared_by_row : (object : ℕ) (ns : List ℕ) (o n k : ℕ) → share_row (row_if_needed object ns) o n k ≡ true
    → (object ≡ o) × (is_among ns n ≡ true) × (is_among ns k ≡ true)
shared_by_row object [] o n k e = absurd cc
shared_by_row object (m ∷ ms) o n k e = ⊎_elim
    (λ here.
    let parts = and_parts (object == o) (is_among (m ∷ ms) n && is_among (m ∷ ms) k) here in
    let checks = and_parts (is_among (m ∷ ms) n) (is_among (m ∷ ms) k) parts.1 in
    (same_numbers object o parts.0, checks.0, checks.1))
    (λ none. absurd cc)
    (or_cases ((object == o) && (is_among (m ∷ ms) n && is_among (m ∷ ms) k)) false e)

-- and of each two of them
pub row_is_shared : (object : ℕ) (ns : List ℕ) (n k : ℕ) → is_among ns n ≡ true → is_among ns k ≡ true → share_row (row_if_needed object ns) object n k ≡ true
row_is_shared object [] n k a b = absurd cc
row_is_shared object (m ∷ ms) n k a b = or_first ((object == object) && (is_among (m ∷ ms) n && is_among (m ∷ ms) k)) false
    (and_both (object == object) (is_among (m ∷ ms) n && is_among (m ∷ ms) k) (same_number object) (and_both (is_among (m ∷ ms) n) (is_among (m ∷ ms) k) a b))

-- who shares a row has one
pub shared_is_kept : (rows : List Row) (o n k : ℕ) → share_row rows o n k ≡ true → (is_kept rows o n ≡ true) × (is_kept rows o k ≡ true)
shared_is_kept [] o n k e = absurd cc
shared_is_kept (row ∷ rows) o n k e = ⊎_elim
    (λ here.
    let parts = and_parts (row.obj == o) (is_among row.checks n && is_among row.checks k) here in
    let checks = and_parts (is_among row.checks n) (is_among row.checks k) parts.1 in (
      or_first ((row.obj == o) && is_among row.checks n) (is_kept rows o n) (and_both (row.obj == o) (is_among row.checks n) parts.0 checks.0),
      or_first ((row.obj == o) && is_among row.checks k) (is_kept rows o k) (and_both (row.obj == o) (is_among row.checks k) parts.0 checks.1),
    ))
    (λ rest.
    let old = shared_is_kept rows o n k rest in (
      or_second ((row.obj == o) && is_among row.checks n) (is_kept rows o n) old.0,
      or_second ((row.obj == o) && is_among row.checks k) (is_kept rows o k) old.1,
    ))
    (or_cases (row_has_both row o n k) (share_row rows o n k) e)

-- the copy of a check that needs the old version is the drawn one
pub row_here : (world : World) (object copy : ℕ) (copy_of : ℕ → ℕ → ℕ) (n : ℕ) → is_among (needing_in world object) n ≡ true → with_row world object copy copy_of object n ≡ copy
row_here world object copy copy_of n among =
    ap (λ b. if b then copy else copy_of object n) (and_both (object == object) (is_among (needing_in world object) n) (same_number object) among)

-- and that of another is as before
pub row_else : (world : World) (object copy : ℕ) (copy_of : ℕ → ℕ → ℕ) (o n : ℕ) → ((o ≡ object) → is_among (needing_in world object) n ≡ true → ⊥)
    → with_row world object copy copy_of o n ≡ copy_of o n
row_else world object copy copy_of o n other = by_test ((o == object) && is_among (needing_in world object) n) refl
  where
    by_test : (b : Bool) → ((o == object) && is_among (needing_in world object) n) ≡ b → (if b then copy else copy_of o n) ≡ copy_of o n
    by_test true e = let parts = and_parts (o == object) (is_among (needing_in world object) n) e in absurd (other (same_numbers o object parts.0) parts.1)
    by_test false e = refl

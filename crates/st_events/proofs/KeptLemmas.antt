-- Rows kept and pairs lost: one more, and what a Retire leaves
use Rattle.std.proofs.Common.{◌≡◌, ◌≢◌, ℕ, ◌≤◌, ◌==◌, Bool, true, false, ◌⊎◌, inl, inr, List, [], ◌∷◌, ◌++◌, length, map, refl, subst, arith}
use Rattle.std.specs.Prelude.{◌&&◌}
use Rattle.std.proofs.lemmas.List.{length-append}
use Rattle.st_events.specs.Terms.{Row, Pair, is_among, is_kept, is_lost, without}
use Rattle.st_events.specs.World.{row_if_needed, released}
use Rattle.st_events.proofs.AmongLemmas.{or_cases, or_first, or_second, same_numbers, same_number, among_without, without_is_among}

-- both of two tests hold
pub and_parts : (a b : Bool) → (a && b) ≡ true → (a ≡ true) × (b ≡ true)
and_parts true b h = (refl, h)
and_parts false b h = cc

-- where both of two tests hold
pub and_both : (a b : Bool) → a ≡ true → b ≡ true → (a && b) ≡ true
and_both true b h k = k
and_both false b h k = cc

abbrev row_has : Row → ℕ → ℕ → Bool
row_has row obj n = (row.obj == obj) && is_among row.checks n

-- what is kept by rows and more rows is kept by the one or the other
pub kept_in_either :
    (rows more : List Row) (obj n : ℕ)
    → is_kept (rows ++ more) obj n ≡ true
    → (is_kept rows obj n ≡ true) ⊎ (is_kept more obj n ≡ true)
kept_in_either [] more obj n h = inr h
kept_in_either (row ∷ rows) more obj n h = elim (or_cases (row_has row obj n) (is_kept (rows ++ more) obj n) h) [
  | inl e ↦ inl (or_first (row_has row obj n) (is_kept rows obj n) e)
  | inr r ↦ elim (kept_in_either rows more obj n r) [ inl f ↦ inl (or_second (row_has row obj n) (is_kept rows obj n) f) | inr b ↦ inr b ]
]

-- what rows keep stays kept with more of them behind
pub kept_in_front : (rows more : List Row) (obj n : ℕ) → is_kept rows obj n ≡ true → is_kept (rows ++ more) obj n ≡ true
kept_in_front [] more obj n h = cc
kept_in_front (row ∷ rows) more obj n h = elim (or_cases (row_has row obj n) (is_kept rows obj n) h) [
  | inl e ↦ or_first (row_has row obj n) (is_kept (rows ++ more) obj n) e
  | inr r ↦ or_second (row_has row obj n) (is_kept (rows ++ more) obj n) (kept_in_front rows more obj n r)
]

-- and with more of them before
pub kept_in_back : (rows more : List Row) (obj n : ℕ) → is_kept more obj n ≡ true → is_kept (rows ++ more) obj n ≡ true
kept_in_back [] more obj n h = h
kept_in_back (row ∷ rows) more obj n h = or_second (row_has row obj n) (is_kept (rows ++ more) obj n) (kept_in_back rows more obj n h)

-- the row that a change adds keeps its object for its checks alone
pub kept_by_row : (o : ℕ) (ns : List ℕ) (obj n : ℕ) → is_kept (row_if_needed o ns) obj n ≡ true → (o ≡ obj) × (is_among ns n ≡ true)
kept_by_row o [] obj n h = cc
kept_by_row o (k ∷ ks) obj n h = elim (or_cases ((o == obj) && is_among (k ∷ ks) n) false h) [
  | inl e ↦ (let b = and_parts (o == obj) (is_among (k ∷ ks) n) e in (same_numbers o obj b.0, b.1))
  | inr f ↦ cc
]

-- and for each of them
pub row_keeps : (obj : ℕ) (ns : List ℕ) (n : ℕ) → is_among ns n ≡ true → is_kept (row_if_needed obj ns) obj n ≡ true
row_keeps obj [] n h = cc
row_keeps obj (k ∷ ks) n h = or_first ((obj == obj) && is_among (k ∷ ks) n) false (and_both (obj == obj) (is_among (k ∷ ks) n) (same_number obj) h)

-- a change adds one row at most
pub one_row_at_most : (obj : ℕ) (ns : List ℕ) → length (row_if_needed obj ns) ≤ 1
one_row_at_most obj [] = omega arith
one_row_at_most obj (k ∷ ks) = omega arith

-- ---- what a Retire leaves

-- what is kept after a Retire was kept before, for another check
pub released_was_kept :
    (number : ℕ) (rows : List Row) (obj n : ℕ)
    → is_kept (released number rows) obj n ≡ true
    → (is_kept rows obj n ≡ true) × (n ≢ number)
released_was_kept number [] obj n h = cc
released_was_kept number (row ∷ rows) obj n h = elim (kept_in_either (row_if_needed row.obj (without number row.checks)) (released number rows) obj n h) [
  | inl f ↦ (let k = kept_by_row row.obj (without number row.checks) obj n f in let a = among_without number row.checks n k.1 in (
    or_first (row_has row obj n) (is_kept rows obj n)
        (and_both (row.obj == obj) (is_among row.checks n) (subst (λ (o : ℕ). (row.obj == o) ≡ true) k.0 (same_number row.obj)) a.0),
    a.1,
  ))
  | inr b ↦ (let i = released_was_kept number rows obj n b in (or_second (row_has row obj n) (is_kept rows obj n) i.0, i.1))
]

-- what is kept for another check stays kept
pub others_stay_kept :
    (number : ℕ) (rows : List Row) (obj n : ℕ)
    → is_kept rows obj n ≡ true
    → n ≢ number
    → is_kept (released number rows) obj n ≡ true
others_stay_kept number [] obj n h ne = cc
others_stay_kept number (row ∷ rows) obj n h ne = elim (or_cases (row_has row obj n) (is_kept rows obj n) h) [
  | inl e ↦ (let b = and_parts (row.obj == obj) (is_among row.checks n) e in
      kept_in_front (row_if_needed row.obj (without number row.checks)) (released number rows) obj n
      (subst (λ (o : ℕ). is_kept (row_if_needed row.obj (without number row.checks)) o n ≡ true) (same_numbers row.obj obj b.0)
      (row_keeps row.obj (without number row.checks) n (without_is_among number row.checks n b.1 ne))))
  | inr r ↦ kept_in_back (row_if_needed row.obj (without number row.checks)) (released number rows) obj n (others_stay_kept number rows obj n r ne)
]

-- a Retire adds no row
pub released_are_no_more : (number : ℕ) (rows : List Row) → length (released number rows) ≤ length rows
released_are_no_more number [] = omega arith
released_are_no_more number (row ∷ rows) =
    omega (
      arith,
      released_are_no_more number rows,
      one_row_at_most row.obj (without number row.checks),
      length-append (row_if_needed row.obj (without number row.checks)) (released number rows),
    )

-- ---- pairs lost

abbrev pairs_of : ℕ → List ℕ → List Pair
pairs_of obj ns = map (λ n. record { obj = obj; check = n }) ns

abbrev pair_is : Pair → ℕ → ℕ → Bool
pair_is pair obj n = (pair.obj == obj) && (pair.check == n)

-- what is lost by pairs and more pairs is lost by the one or the other
pub lost_in_either :
    (pairs more : List Pair) (obj n : ℕ)
    → is_lost (pairs ++ more) obj n ≡ true
    → (is_lost pairs obj n ≡ true) ⊎ (is_lost more obj n ≡ true)
lost_in_either [] more obj n h = inr h
lost_in_either (pair ∷ pairs) more obj n h = elim (or_cases (pair_is pair obj n) (is_lost (pairs ++ more) obj n) h) [
  | inl e ↦ inl (or_first (pair_is pair obj n) (is_lost pairs obj n) e)
  | inr r ↦ elim (lost_in_either pairs more obj n r) [ inl f ↦ inl (or_second (pair_is pair obj n) (is_lost pairs obj n) f) | inr b ↦ inr b ]
]

-- what is lost stays lost with more pairs behind
pub lost_in_front : (pairs more : List Pair) (obj n : ℕ) → is_lost pairs obj n ≡ true → is_lost (pairs ++ more) obj n ≡ true
lost_in_front [] more obj n h = cc
lost_in_front (pair ∷ pairs) more obj n h = elim (or_cases (pair_is pair obj n) (is_lost pairs obj n) h) [
  | inl e ↦ or_first (pair_is pair obj n) (is_lost (pairs ++ more) obj n) e
  | inr r ↦ or_second (pair_is pair obj n) (is_lost (pairs ++ more) obj n) (lost_in_front pairs more obj n r)
]

-- and with more of them before
pub lost_in_back : (pairs more : List Pair) (obj n : ℕ) → is_lost more obj n ≡ true → is_lost (pairs ++ more) obj n ≡ true
lost_in_back [] more obj n h = h
lost_in_back (pair ∷ pairs) more obj n h = or_second (pair_is pair obj n) (is_lost (pairs ++ more) obj n) (lost_in_back pairs more obj n h)

-- the pairs that a change adds are of its object and of the checks that need it
pub lost_by_pairs : (o : ℕ) (ns : List ℕ) (obj n : ℕ) → is_lost (pairs_of o ns) obj n ≡ true → (o ≡ obj) × (is_among ns n ≡ true)
lost_by_pairs o [] obj n h = cc
lost_by_pairs o (k ∷ ks) obj n h = elim (or_cases ((o == obj) && (k == n)) (is_lost (pairs_of o ks) obj n) h) [
  | inl e ↦ (let b = and_parts (o == obj) (k == n) e in (same_numbers o obj b.0, or_first (k == n) (is_among ks n) b.1))
  | inr r ↦ (let i = lost_by_pairs o ks obj n r in (i.0, or_second (k == n) (is_among ks n) i.1))
]

-- and of each of them
pub pairs_are_lost : (obj : ℕ) (ns : List ℕ) (n : ℕ) → is_among ns n ≡ true → is_lost (pairs_of obj ns) obj n ≡ true
pairs_are_lost obj [] n h = cc
pairs_are_lost obj (k ∷ ks) n h = elim (or_cases (k == n) (is_among ks n) h) [
  | inl e ↦ or_first ((obj == obj) && (k == n)) (is_lost (pairs_of obj ks) obj n) (and_both (obj == obj) (k == n) (same_number obj) e)
  | inr r ↦ or_second ((obj == obj) && (k == n)) (is_lost (pairs_of obj ks) obj n) (pairs_are_lost obj ks n r)
]

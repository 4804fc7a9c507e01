-- How many rows keep a copy for a check, and how many objects have changed since a check was launched
use Rattle.std.proofs.Common.{◌≡◌, ℕ, ◌+◌, ◌*◌, ◌<◌, ◌≤◌, ◌==◌, cond, Bool, true, false, inl, inr, List, [], ◌∷◌, ◌++◌}
use Rattle.std.proofs.Common.{length, refl, ap, arith, nat_le}
use Rattle.std.specs.Prelude.{◌&&◌}
use Rattle.std.proofs.lemmas.Bool.{le-leb, lt-leb, leb-true}
use Rattle.std.proofs.lemmas.Bool.Decides.{eqb_tells}
use Rattle.st_events.specs.Terms.{Row, at, is_among, is_kept, without}
use Rattle.st_events.specs.World.{row_if_needed, released}
use Rattle.st_events.proofs.AmongLemmas.{or_cases, or_first, or_second, same_numbers, same_number, among_without}
use Rattle.st_events.proofs.KeptLemmas.{and_both}

-- ---- counts

-- 1 where the test holds
abbrev pub one_if : Bool → ℕ
one_if holds = cond holds 1 0

-- how many of the rows are needed by a check
abbrev pub rows_for : ℕ → List Row → ℕ
rows_for n [] = 0
rows_for n (row ∷ rows) = one_if (is_among row.checks n) + rows_for n rows

-- how many rows the checks need, a row counted once for each check that needs it
abbrev pub needs : List ℕ → List Row → ℕ
needs [] rows = 0
needs (n ∷ ns) rows = rows_for n rows + needs ns rows

-- how many of the objects have a stamp from n on: those that changed, or were made, since check n was launched
abbrev pub changed_since : ℕ → (ℕ → ℕ) → List ℕ → ℕ
changed_since n stamp [] = 0
changed_since n stamp (obj ∷ objs) = one_if (nat_le n (stamp obj)) + changed_since n stamp objs

-- each row is needed by some check
abbrev pub HaveChecks : List Row → Type 0
HaveChecks [] = Unit {0}
HaveChecks (row ∷ rows) = ((n : ℕ) × (is_among row.checks n ≡ true)) × HaveChecks rows

-- it is at most 1
pub one_if_is_few : (b : Bool) → one_if b ≤ 1
one_if_is_few true = omega arith
one_if_is_few false = omega arith

-- where one test implies another
pub one_if_implies : (a b : Bool) → (a ≡ true → b ≡ true) → one_if a ≤ one_if b
one_if_implies false b h = omega arith
one_if_implies true b h = rw (h refl) (omega arith)

-- ---- rows

-- rows for a check, in rows and more rows
pub rows_for_joined : (n : ℕ) (rows more : List Row) → rows_for n (rows ++ more) ≡ rows_for n rows + rows_for n more
rows_for_joined n [] more = omega arith
rows_for_joined n (row ∷ rows) more = omega (arith, rows_for_joined n rows more)

-- in the row that a change adds
pub rows_for_a_row : (n obj : ℕ) (ns : List ℕ) → rows_for n (row_if_needed obj ns) ≡ one_if (is_among ns n)
rows_for_a_row n obj [] = refl
rows_for_a_row n obj (k ∷ ks) = omega arith

-- a Retire only takes rows away
pub rows_for_released : (n number : ℕ) (rows : List Row) → rows_for n (released number rows) ≤ rows_for n rows
rows_for_released n number [] = omega arith
rows_for_released n number (row ∷ rows) =
    let left = without number row.checks in
    omega (
      arith,
      rows_for_joined n (row_if_needed row.obj left) (released number rows),
      rows_for_a_row n row.obj left,
      one_if_implies (is_among left n) (is_among row.checks n) (λ h. (among_without number row.checks n h).0),
      rows_for_released n number rows,
    )

-- rows and more rows
pub joined_have_checks : (rows more : List Row) → HaveChecks rows → HaveChecks more → HaveChecks (rows ++ more)
joined_have_checks [] more h k = k
joined_have_checks (row ∷ rows) more h k = (h.0, joined_have_checks rows more h.1 k)

-- the row that a change adds
pub row_has_checks : (obj : ℕ) (ns : List ℕ) → HaveChecks (row_if_needed obj ns)
row_has_checks obj [] = tt
row_has_checks obj (n ∷ ns) = ((n, or_first (n == n) (is_among ns n) (same_number n)), tt)

-- the rows that a Retire leaves
pub released_have_checks : (number : ℕ) (rows : List Row) → HaveChecks (released number rows)
released_have_checks number [] = tt
released_have_checks number (row ∷ rows) =
    joined_have_checks (row_if_needed row.obj (without number row.checks)) (released number rows) (row_has_checks row.obj (without number row.checks))
    (released_have_checks number rows)

-- ---- no more rows than needs

needs_grow : (ns : List ℕ) (row : Row) (rows : List Row) → needs ns rows ≤ needs ns (row ∷ rows)
needs_grow [] row rows = omega arith
needs_grow (n ∷ ns) row rows = omega (arith, needs_grow ns row rows)

needs_one_more :
    (ns : List ℕ) (row : Row) (rows : List Row) (n : ℕ)
    → is_among ns n ≡ true
    → is_among row.checks n ≡ true
    → needs ns rows + 1 ≤ needs ns (row ∷ rows)
needs_one_more [] row rows n h t = cc
needs_one_more (k ∷ ks) row rows n h t = elim (or_cases (k == n) (is_among ks n) h) [
  | inl e ↦ (let one : one_if (is_among row.checks k) ≡ 1 = rw (same_numbers k n e) (rw t refl) in omega (arith, one, needs_grow ks row rows))
  | inr r ↦ omega (arith, needs_one_more ks row rows n r t)
]

-- where each row is needed, and only by these checks
pub rows_are_needed :
    (ns : List ℕ) (rows : List Row)
    → HaveChecks rows
    → ((obj n : ℕ) → is_kept rows obj n ≡ true → is_among ns n ≡ true)
    → length rows ≤ needs ns rows
rows_are_needed ns [] h only = omega arith
rows_are_needed ns (row ∷ rows) h only =
    let row_has = λ (obj : ℕ) (n : ℕ). (row.obj == obj) && is_among row.checks n in
    let here = only row.obj h.0.0
    (or_first (row_has row.obj h.0.0) (is_kept rows row.obj h.0.0) (and_both (row.obj == row.obj) (is_among row.checks h.0.0) (same_number row.obj) h.0.1)) in
    let rest = rows_are_needed ns rows h.1 (λ obj n k. only obj n (or_second (row_has obj n) (is_kept rows obj n) k)) in
    omega (arith, rest, needs_one_more ns row rows h.0.0 here h.0.1)

-- where no check needs more than so many rows
pub needs_are_few : (ns : List ℕ) (rows : List Row) (most : ℕ) → ((n : ℕ) → rows_for n rows ≤ most) → needs ns rows ≤ length ns * most
needs_are_few [] rows most few = omega arith
needs_are_few (n ∷ ns) rows most few = omega (arith, few n, needs_are_few ns rows most few)

-- ---- objects changed since

-- no more objects have changed than there are
pub changed_are_few : (n : ℕ) (stamp : ℕ → ℕ) (objs : List ℕ) → changed_since n stamp objs ≤ length objs
changed_are_few n stamp [] = omega arith
changed_are_few n stamp (obj ∷ objs) = omega (arith, one_if_is_few (nat_le n (stamp obj)), changed_are_few n stamp objs)

-- stamps only rise
pub changed_since_rises :
    (n epoch obj : ℕ) (stamp : ℕ → ℕ) (objs : List ℕ)
    → stamp obj ≤ epoch
    → changed_since n stamp objs ≤ changed_since n (at obj epoch stamp) objs
changed_since_rises n epoch obj stamp [] low = omega arith
changed_since_rises n epoch obj stamp (o ∷ os) low =
    omega (arith, one_if_implies (nat_le n (stamp o)) (nat_le n (at obj epoch stamp o)) rises, changed_since_rises n epoch obj stamp os low)
  where
    rises : nat_le n (stamp o) ≡ true → nat_le n (at obj epoch stamp o) ≡ true
    rises t = elim (eqb_tells o obj) [
      | inl e ↦ rw e.0 (le-leb n epoch (omega (arith, leb-true n (stamp o) t, ap stamp e.1, low)))
      | inr e ↦ rw e.0 t
    ]

-- the stamp of one of the objects rises to n or above
pub changed_one_more :
    (n epoch obj : ℕ) (stamp : ℕ → ℕ) (objs : List ℕ)
    → is_among objs obj ≡ true
    → stamp obj < n
    → n ≤ epoch
    → changed_since n stamp objs + 1 ≤ changed_since n (at obj epoch stamp) objs
changed_one_more n epoch obj stamp [] h old new = cc
changed_one_more n epoch obj stamp (o ∷ os) h old new = elim (or_cases (o == obj) (is_among os obj) h) [
  | inl e ↦ omega (arith, before (same_numbers o obj e), after (same_numbers o obj e), changed_since_rises n epoch obj stamp os low)
  | inr r ↦ omega (arith, changed_since_rises n epoch obj stamp (o ∷ []) low, changed_one_more n epoch obj stamp os r old new)
]
  where
    low : stamp obj ≤ epoch
    low = omega (arith, old, new)

    before : o ≡ obj → one_if (nat_le n (stamp o)) ≡ 0
    before e = rw (lt-leb n (stamp o) (omega (arith, ap stamp e, old))) refl

    after : o ≡ obj → one_if (nat_le n (at obj epoch stamp o)) ≡ 1
    after e = elim (eqb_tells o obj) [ inl t ↦ rw t.0 (rw (le-leb n epoch new) refl) | inr t ↦ absurd (t.1 e) ]

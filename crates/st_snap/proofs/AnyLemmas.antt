-- Tests over lists: some element that passes, and what passes
use Rattle.std.proofs.Common.{◌≡◌, ℕ, zero, suc, ◌+◌, ◌==◌, cond, not, Bool, true, false, inl, inr, List, [], ◌∷◌, length, slice_get, Some, refl}
use Rattle.std.proofs.Common.{sym, ◌∙◌, ap, arith, filter}
use Rattle.std.specs.Prelude.{◌||◌}
use Rattle.std.specs.List.{list_any}
use Rattle.std.proofs.lemmas.Bool.Decides.{eqb_tells}
use Rattle.st_events.specs.World.{is_among, without, row_if_needed}
use Rattle.st_events.specs.Sound.{IsRising}
use Rattle.st_events.proofs.AmongLemmas.{or_cases, or_first, or_second, same_number, same_numbers}

-- two tests of which each holds where the other does
pub bool_same : (a b : Bool) → (a ≡ true → b ≡ true) → (b ≡ true → a ≡ true) → a ≡ b
bool_same true b f g = sym (f refl)
bool_same false true f g = g refl
bool_same false false f g = refl

-- where some element passes, it stands somewhere
pub any_found : {X : Type 0} (p : X → Bool) (xs : List X) → list_any p xs ≡ true → (k : ℕ) × (x : X) × (slice_get xs k ≡ Some x) × (p x ≡ true)
any_found p [] h = cc
any_found p (x ∷ xs) h = elim (or_cases (p x) (list_any p xs) h) [
  | inl e ↦ (0, x, refl, e)
  | inr r ↦ let f = any_found p xs r in (suc f.0, f.1, f.2, f.3)
]

-- an element that passes
pub found_any : {X : Type 0} (p : X → Bool) (xs : List X) (k : ℕ) (x : X) → slice_get xs k ≡ Some x → p x ≡ true → list_any p xs ≡ true
found_any p [] k x h t = cc
found_any p (y ∷ ys) zero x h t = or_first (p y) (list_any p ys) (let e : y ≡ x = cc in ap p e ∙ t)
found_any p (y ∷ ys) (suc k) x h t = or_second (p y) (list_any p ys) (found_any p ys k x h t)

-- a number of a list that passes
pub among_any : (p : ℕ → Bool) (ns : List ℕ) (n : ℕ) → is_among ns n ≡ true → p n ≡ true → list_any p ns ≡ true
among_any p [] n h t = cc
among_any p (x ∷ xs) n h t = elim (or_cases (x == n) (is_among xs n) h) [
  | inl e ↦ or_first (p x) (list_any p xs) (ap p (same_numbers x n e) ∙ t)
  | inr r ↦ or_second (p x) (list_any p xs) (among_any p xs n r t)
]

-- where some number passes, one of the list does
pub any_among : (p : ℕ → Bool) (ns : List ℕ) → list_any p ns ≡ true → (n : ℕ) × (is_among ns n ≡ true) × (p n ≡ true)
any_among p [] h = cc
any_among p (x ∷ xs) h = elim (or_cases (p x) (list_any p xs) h) [
  | inl e ↦ (x, or_first (x == x) (is_among xs x) (same_number x), e)
  | inr r ↦ let f = any_among p xs r in (f.0, or_second (x == f.0) (is_among xs f.0) f.1, f.2)
]

-- tests that agree on the list leave the same
pub same_tests_pass_same : (p q : ℕ → Bool) (ns : List ℕ) → ((n : ℕ) → is_among ns n ≡ true → p n ≡ q n) → filter p ns ≡ filter q ns
same_tests_pass_same p q [] h = refl
same_tests_pass_same p q (x ∷ xs) h = rw (h x (or_first (x == x) (is_among xs x) (same_number x)), same_tests_pass_same p q xs (λ n a. h n (or_second (x == n) (is_among xs n) a))) refl

-- where none passes nothing is left
pub none_passes : (p : ℕ → Bool) (ns : List ℕ) → list_any p ns ≡ false → filter p ns ≡ []
none_passes p [] h = refl
none_passes p (x ∷ xs) h = cases (p x) (list_any p xs) h (none_passes p xs)
  where
    cases : (b c : Bool) → (b || c) ≡ false → (c ≡ false → filter p xs ≡ []) → cond b (x ∷ filter p xs) (filter p xs) ≡ []
    cases true c e f = cc
    cases false c e f = f e

-- a row stands where some check needs it
pub needed_row_stands :
    (obj : ℕ) (p : ℕ → Bool) (ns : List ℕ)
    → list_any p ns ≡ true
    → row_if_needed obj (filter p ns) ≡ record { obj = obj; checks = filter p ns } ∷ []
needed_row_stands obj p [] h = cc
needed_row_stands obj p (x ∷ xs) h = cases (p x) h (needed_row_stands obj p xs)
  where
    cases :
        (b : Bool)
        → (b || list_any p xs) ≡ true
        → (list_any p xs ≡ true → row_if_needed obj (filter p xs) ≡ record { obj = obj; checks = filter p xs } ∷ [])
        → row_if_needed obj (cond b (x ∷ filter p xs) (filter p xs)) ≡ record { obj = obj; checks = cond b (x ∷ filter p xs) (filter p xs) } ∷ []
    cases true e f = refl
    cases false e f = f e

-- two tests one after the other
pub filters_swap : (p q : ℕ → Bool) (ns : List ℕ) → filter p (filter q ns) ≡ filter q (filter p ns)
filters_swap p q [] = refl
filters_swap p q (x ∷ xs) = cases (p x) refl (q x) refl (filters_swap p q xs)
  where
    cases :
        (b : Bool)
        → p x ≡ b
        → (c : Bool)
        → q x ≡ c
        → filter p (filter q xs) ≡ filter q (filter p xs)
        → filter p (cond c (x ∷ filter q xs) (filter q xs)) ≡ filter q (cond b (x ∷ filter p xs) (filter p xs))
    cases true e true f r = rw (e, f, r) refl
    cases true e false f r = rw (f, r) refl
    cases false e true f r = rw (e, r) refl
    cases false e false f r = r

-- a number that is not there
pub without_absent_is_same : (n : ℕ) (ns : List ℕ) → is_among ns n ≡ false → without n ns ≡ ns
without_absent_is_same n [] h = refl
without_absent_is_same n (x ∷ xs) h = cases (x == n) (is_among xs n) h (without_absent_is_same n xs)
  where
    cases : (b c : Bool) → (b || c) ≡ false → (c ≡ false → without n xs ≡ xs) → cond (not b) (x ∷ without n xs) (without n xs) ≡ x ∷ xs
    cases true c e f = cc
    cases false c e f = ap (λ ys. x ∷ ys) (f e)

-- of numbers that rise, one less where one is left out
pub one_left_out_is_one_less : (n : ℕ) (ns : List ℕ) → IsRising ns → is_among ns n ≡ true → length (without n ns) + 1 ≡ length ns
one_left_out_is_one_less n [] r h = cc
one_left_out_is_one_less n (x ∷ xs) r h = elim (eqb_tells x n) [
  | inl e ↦ rw (e.0, without_absent_is_same n xs (not_among (is_among xs n) refl e.1)) (omega arith)
  | inr e ↦ rw e.0 (let rest : is_among xs n ≡ true = ap (λ b. b || is_among xs n) (sym e.0) ∙ h in omega (arith, one_left_out_is_one_less n xs r.1 rest))
]
  where
    not_among : (b : Bool) → is_among xs n ≡ b → x ≡ n → is_among xs n ≡ false
    not_among true e s = absurd (omega (arith, r.0 n e, s))
    not_among false e s = e

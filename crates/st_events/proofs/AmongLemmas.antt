-- Numbers of a list: one more at the end, all but one, those that pass a test
use Rattle.std.proofs.Common.{◌≡◌, ◌≢◌, ℕ, ◌<◌, ◌≤◌, ◌==◌, cond, not, Bool, true, false, ◌⊎◌, inl, inr, List, [], ◌∷◌}
use Rattle.std.proofs.Common.{◌++◌, zero, suc, length, get_or, remove, refl, sym, ◌∙◌, ap, subst, arith, filter}
use Rattle.std.specs.Prelude.{◌||◌}
use Rattle.std.proofs.lemmas.Bool.Decides.{eqb_tells, nat_tests}
use Rattle.st_events.specs.Terms.{is_among, without}
use Rattle.st_events.specs.Sound.{IsRising}

-- one of two tests holds
pub or_cases : (a b : Bool) → (a || b) ≡ true → (a ≡ true) ⊎ (b ≡ true)
or_cases true b h = inl refl
or_cases false b h = inr h

-- where the first of two tests holds
pub or_first : (a b : Bool) → a ≡ true → (a || b) ≡ true
or_first true b h = refl
or_first false b h = cc

-- where the second does
pub or_second : (a b : Bool) → b ≡ true → (a || b) ≡ true
or_second true b h = refl
or_second false b h = h

-- numbers that test as the same are
pub same_numbers : (a b : ℕ) → (a == b) ≡ true → a ≡ b
same_numbers a b t = grind (arith, nat_tests)

-- a number tests as itself
pub same_number : (a : ℕ) → (a == a) ≡ true
same_number a = elim (eqb_tells a a) [ inl e ↦ e.0 | inr e ↦ absurd (e.1 refl) ]

-- a number of a list with one more at its end is of the list, or is that one
pub among_one_more : (ns : List ℕ) (k n : ℕ) → is_among (ns ++ k ∷ []) n ≡ true → (is_among ns n ≡ true) ⊎ (n ≡ k)
among_one_more [] k n h = elim (or_cases (k == n) false h) [ inl e ↦ inr (sym (same_numbers k n e)) | inr f ↦ cc ]
among_one_more (x ∷ xs) k n h = elim (or_cases (x == n) (is_among (xs ++ k ∷ []) n) h) [
  | inl e ↦ inl (or_first (x == n) (is_among xs n) e)
  | inr r ↦ elim (among_one_more xs k n r) [ inl a ↦ inl (or_second (x == n) (is_among xs n) a) | inr e ↦ inr e ]
]

-- what is of a list is of a longer one
pub among_front : (ns ks : List ℕ) (n : ℕ) → is_among ns n ≡ true → is_among (ns ++ ks) n ≡ true
among_front [] ks n h = cc
among_front (x ∷ xs) ks n h = elim (or_cases (x == n) (is_among xs n) h) [
  | inl e ↦ or_first (x == n) (is_among (xs ++ ks) n) e
  | inr r ↦ or_second (x == n) (is_among (xs ++ ks) n) (among_front xs ks n r)
]

-- what is of the end of a list is of the list
pub among_back : (ns ks : List ℕ) (n : ℕ) → is_among ks n ≡ true → is_among (ns ++ ks) n ≡ true
among_back [] ks n h = h
among_back (x ∷ xs) ks n h = or_second (x == n) (is_among (xs ++ ks) n) (among_back xs ks n h)

-- a number that passes a test stays among those that pass it
pub among_passing : (p : ℕ → Bool) (ns : List ℕ) (n : ℕ) → is_among (filter p ns) n ≡ true → (is_among ns n ≡ true) × (p n ≡ true)
among_passing p [] n h = cc
among_passing p (x ∷ xs) n h = cases (among_passing p xs n) (p x) refl h
  where
    cases :
        (is_among (filter p xs) n ≡ true → (is_among xs n ≡ true) × (p n ≡ true))
        → (b : Bool)
        → p x ≡ b
        → is_among (cond b (x ∷ filter p xs) (filter p xs)) n ≡ true
        → (is_among (x ∷ xs) n ≡ true) × (p n ≡ true)
    cases others true t g = elim (or_cases (x == n) (is_among (filter p xs) n) g) [
      | inl e ↦ (or_first (x == n) (is_among xs n) e, ap p (sym (same_numbers x n e)) ∙ t)
      | inr r ↦ (let i = others r in (or_second (x == n) (is_among xs n) i.0, i.1))
    ]
    cases others false t g = let i = others g in (or_second (x == n) (is_among xs n) i.0, i.1)

-- a number of the list that passes the test is of those that pass it
pub passing_is_among : (p : ℕ → Bool) (ns : List ℕ) (n : ℕ) → is_among ns n ≡ true → p n ≡ true → is_among (filter p ns) n ≡ true
passing_is_among p [] n h t = cc
passing_is_among p (x ∷ xs) n h t = cases (λ r. passing_is_among p xs n r t) (p x) refl (or_cases (x == n) (is_among xs n) h)
  where
    cases :
        (is_among xs n ≡ true → is_among (filter p xs) n ≡ true)
        → (b : Bool)
        → p x ≡ b
        → (((x == n) ≡ true) ⊎ (is_among xs n ≡ true))
        → is_among (cond b (x ∷ filter p xs) (filter p xs)) n ≡ true
    cases others true e (inl s) = or_first (x == n) (is_among (filter p xs) n) s
    cases others true e (inr r) = or_second (x == n) (is_among (filter p xs) n) (others r)
    cases others false e (inl s) = let f : false ≡ true = sym e ∙ ap p (same_numbers x n s) ∙ t in cc
    cases others false e (inr r) = others r

-- what is left without a number was there, and is another
pub among_without : (number : ℕ) (ns : List ℕ) (n : ℕ) → is_among (without number ns) n ≡ true → (is_among ns n ≡ true) × (n ≢ number)
among_without number ns n h = let i = among_passing (λ k. not (k == number)) ns n h in (i.0, other i.1)
  where
    other : not (n == number) ≡ true → n ≢ number
    other t e = elim (eqb_tells n number) [ inl s ↦ (let f : not true ≡ true = subst (λ (b : Bool). not b ≡ true) s.0 t in cc) | inr s ↦ s.1 e ]

-- another number is left
pub without_is_among : (number : ℕ) (ns : List ℕ) (n : ℕ) → is_among ns n ≡ true → n ≢ number → is_among (without number ns) n ≡ true
without_is_among number ns n h ne = passing_is_among (λ k. not (k == number)) ns n h (elim (eqb_tells n number) [ inl s ↦ absurd (ne s.1) | inr s ↦ ap not s.0 ])

-- the part that passes a test is no longer
pub passing_are_no_more : (p : ℕ → Bool) (ns : List ℕ) → length (filter p ns) ≤ length ns
passing_are_no_more p [] = omega arith
passing_are_no_more p (x ∷ xs) = cases (passing_are_no_more p xs) (p x)
  where
    cases : length (filter p xs) ≤ length xs → (b : Bool) → length (cond b (x ∷ filter p xs) (filter p xs)) ≤ length (x ∷ xs)
    cases others true = omega (arith, others)
    cases others false = omega (arith, others)

-- order stays
pub passing_are_rising : (p : ℕ → Bool) (ns : List ℕ) → IsRising ns → IsRising (filter p ns)
passing_are_rising p [] r = tt
passing_are_rising p (x ∷ xs) r = cases (passing_are_rising p xs r.1) (p x)
  where
    cases : IsRising (filter p xs) → (b : Bool) → IsRising (cond b (x ∷ filter p xs) (filter p xs))
    cases others true = (λ k h. r.0 k (among_passing p xs k h).0, others)
    cases others false = others

-- a number above all others at the end
pub one_more_is_rising : (ns : List ℕ) (k : ℕ) → IsRising ns → ((n : ℕ) → is_among ns n ≡ true → n < k) → IsRising (ns ++ k ∷ [])
one_more_is_rising [] k r below = (λ j h. cc, tt)
one_more_is_rising (x ∷ xs) k r below = (first, one_more_is_rising xs k r.1 (λ n h. below n (or_second (x == n) (is_among xs n) h)))
  where
    first : (j : ℕ) → is_among (xs ++ k ∷ []) j ≡ true → x < j
    first j h = elim (among_one_more xs k j h) [ inl a ↦ r.0 j a | inr e ↦ rw e (below x (or_first (x == x) (is_among xs x) (same_number x))) ]

-- the test for equal numbers
same_true : (a b : ℕ) → a ≡ b → (a == b) ≡ true
same_true a b h = grind (arith, nat_tests)

-- taking out a number that stands there
pub remove_then_without :
    (number : ℕ) (xs : List ℕ) (p : ℕ)
    → p < length xs
    → get_or xs p 0 ≡ number
    → without number (remove xs p) ≡ without number xs
remove_then_without number [] p h e = absurd (omega arith)
remove_then_without number (x ∷ xs) zero h e = rw (same_true x number e) refl
remove_then_without number (x ∷ xs) (suc p) h e = ap (λ ys. cond (not (x == number)) (x ∷ ys) ys) (remove_then_without number xs p (omega arith) e)

-- a list without the number stays as it is
pub without_what_is_absent : (number : ℕ) (xs : List ℕ) → ((k : ℕ) → k < length xs → get_or xs k 0 ≢ number) → without number xs ≡ xs
without_what_is_absent number [] h = refl
without_what_is_absent number (x ∷ xs) h = elim (eqb_tells x number) [
  | inl e ↦ absurd (h 0 (omega arith) e.1)
  | inr e ↦ rw e.0 (ap (λ ys. x ∷ ys) (without_what_is_absent number xs (λ k lt. h (suc k) (omega arith))))
]

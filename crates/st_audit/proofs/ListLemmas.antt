-- Lists: a number taken out, and what passes a test.
use Rattle.std.proofs.Common.{◌≡◌, ◌≢◌, ℕ, zero, suc, ◌<◌, ◌≤◌, ◌==◌, cond, not, Bool, true, false, filter, inl, inr, List, [], ◌∷◌, length, get_or, remove, refl, ap, arith}
use Rattle.std.proofs.lemmas.Bool.Decides.{eqb_tells}
use Rattle.st_events.specs.Terms.{without}
use Rattle.st_events.proofs.LegalEvents.{same_holds}

-- taking out a number that stands there
pub remove_then_without :
    (number : ℕ) (xs : List ℕ) (p : ℕ)
    → p < length xs
    → get_or xs p 0 ≡ number
    → without number (remove xs p) ≡ without number xs
remove_then_without number [] p h e = absurd (omega arith)
remove_then_without number (x ∷ xs) zero h e = rw (same_holds x number e) refl
remove_then_without number (x ∷ xs) (suc p) h e = ap (λ ys. cond (not (x == number)) (x ∷ ys) ys) (remove_then_without number xs p (omega arith) e)

-- a list without the number stays as it is
pub without_what_is_absent : (number : ℕ) (xs : List ℕ) → ((k : ℕ) → k < length xs → get_or xs k 0 ≢ number) → without number xs ≡ xs
without_what_is_absent number [] h = refl
without_what_is_absent number (x ∷ xs) h = elim (eqb_tells x number) [
  | inl e ↦ absurd (h 0 (omega arith) e.1)
  | inr e ↦ rw e.0 (ap (λ ys. x ∷ ys) (without_what_is_absent number xs (λ k lt. h (suc k) (omega arith))))
]

-- those that pass a test are no more than all
pub filtered_are_few : {X : Type 0} (p : X → Bool) (xs : List X) → length (filter p xs) ≤ length xs
filtered_are_few p [] = omega arith
filtered_are_few {X} p (x ∷ xs) = by (p x) (filtered_are_few p xs)
  where
    by : (b : Bool) → length (filter p xs) ≤ length xs → length (cond b (x ∷ filter p xs) (filter p xs)) ≤ length (x ∷ xs)
    by true h = omega (arith, h)
    by false h = omega (arith, h)

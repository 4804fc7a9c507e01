-- What the steps of a replay ask of lists and tests
use Rattle.std.proofs.Common.{◌≡◌, ℕ, zero, suc, ◌-◌, ◌<◌, ◌≤◌, true, false, List, []}
use Rattle.std.proofs.Common.{◌∷◌, length, drop, take, refl, subst, ap, arith}
use Rattle.std.specs.Prelude.{nat_lt}
use Rattle.std.specs.List.{slice_range}
use Rattle.std.proofs.lemmas.Bool.Decides.{nat_tests}
use Rattle.st_events.specs.Terms.{Kind, Heap}
use Rattle.st_events.specs.Legal.{have_kinds}

-- where the words have ended and a kind is left
pub words_ended_too_soon :
    (heap : Heap) (kinds : List Kind) (words : List ℕ) (p : ℕ)
    → p < length kinds
    → length words ≤ p
    → have_kinds heap (drop p kinds) (drop p words) ≡ false
words_ended_too_soon heap [] words p h w = absurd (omega arith)
words_ended_too_soon heap (x ∷ xs) [] zero h w = refl
words_ended_too_soon heap (x ∷ xs) [] (suc p) h w =
    subst (λ (vs : List ℕ). have_kinds heap (drop p xs) vs ≡ false) (drop-none p) (words_ended_too_soon heap xs [] p (omega arith) (omega arith))
  where
    drop-none : (n : ℕ) → drop {A = ℕ} n [] ≡ []
    drop-none zero = refl
    drop-none (suc n) = refl
words_ended_too_soon heap (x ∷ xs) (v ∷ vs) zero h w = absurd (omega arith)
words_ended_too_soon heap (x ∷ xs) (v ∷ vs) (suc p) h w = words_ended_too_soon heap xs vs p (omega arith) (omega arith)

take_the_whole : {X : Type 0} (xs : List X) → take (length xs) xs ≡ xs
take_the_whole [] = refl
take_the_whole (x ∷ xs) = ap (λ ys. x ∷ ys) (take_the_whole xs)

-- the rest of a list from a place on
pub rest_of_slice : {X : Type 0} (xs : List X) (n : ℕ) → slice_range xs n (length xs) ≡ drop n xs
rest_of_slice [] zero = refl
rest_of_slice [] (suc n) = rest (0 - suc n)
  where
    rest : {X : Type 0} (k : ℕ) → take {A = X} k [] ≡ []
    rest zero = refl
    rest (suc k) = refl
rest_of_slice (x ∷ xs) zero = let e : suc (length xs) - 0 ≡ suc (length xs) = omega arith in rw e (take_the_whole (x ∷ xs))
rest_of_slice (x ∷ xs) (suc n) = let e : suc (length xs) - suc n ≡ length xs - n = omega arith in rw e (rest_of_slice xs n)

-- tests that hold
pub below_true : (a b : ℕ) → a < b → nat_lt a b ≡ true
below_true a b h = grind (arith, nat_tests)

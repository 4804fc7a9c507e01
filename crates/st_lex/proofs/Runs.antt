-- The longest run at the front of a list whose elements pass a test, and lists all of whose elements pass.
use Rattle.std.proofs.Common.{◌*◌, ◌≡◌, ℕ, zero, suc, ◌+◌, ◌-◌, ◌≤◌, Bool, true, false, cond, List, [], ◌∷◌, length, take, refl, arith, fold}
use Rattle.std.proofs.Math.Numerals.{one-add}
use Rattle.std.proofs.lemmas.Bool.{and_parts, and_from}
use Rattle.std.specs.List.{prefix_len, list_all}

-- a value by a test, with how the test went
pub chosen : {A : Type 0} (P : A → Type 0) (b : Bool) (x y : A) → (b ≡ true → P x) → (b ≡ false → P y) → P (cond b x y)
chosen P true x y when_true when_false = when_true refl
chosen P false x y when_true when_false = when_false refl

-- what is not true is false
pub false_where_not_true : (b : Bool) → (b ≡ true → ⊥) → b ≡ false
false_where_not_true true h = absurd (h refl)
false_where_not_true false h = refl

-- each element of the run passes
pub run_passes : {X : Type 0} (p : X → Bool) (xs : List X) → list_all p (take (prefix_len p xs) xs) ≡ true
run_passes p [] = refl
run_passes p (x ∷ xs) =
    elim (p x) as (λ b. p x ≡ b → list_all p (take (cond b (1 + prefix_len p xs) 0) (x ∷ xs)) ≡ true) [
      | true ↦ λ h. rw (one-add (prefix_len p xs)) (rw (h, run_passes p xs) refl)
      | false ↦ λ h. refl
    ] refl

-- no more elements from the front pass
pub run_longest : {X : Type 0} (p : X → Bool) (xs : List X) (n : ℕ) → n ≤ length xs → list_all p (take n xs) ≡ true
    → n ≤ prefix_len p xs
run_longest p xs zero within passes = omega arith
run_longest p [] (suc n) within passes = absurd (omega arith)
run_longest p (x ∷ xs) (suc n) within passes =
    let parts = and_parts (p x) (list_all p (take n xs)) passes in
    let rest : n ≤ prefix_len p xs = run_longest p xs n (omega arith) parts.1 in
    rw parts.0 (omega arith)

-- what passes a test passes a weaker one
pub all_weaker : {X : Type 0} (p q : X → Bool) → ((x : X) → p x ≡ true → q x ≡ true) → (xs : List X) → list_all p xs ≡ true
    → list_all q xs ≡ true
all_weaker p q weaker [] passes = refl
all_weaker p q weaker (x ∷ xs) passes =
    let parts = and_parts (p x) (list_all p xs) passes in
    and_from (q x) (list_all q xs) (weaker x parts.0) (all_weaker p q weaker xs parts.1)

-- one more digit
abbrev pub with_digit : ℕ → ℕ → ℕ
with_digit value digit = 10 * value + (digit - 48)

-- more digits never make a number smaller
pub value_grows : (value : ℕ) (digits : List ℕ) → value ≤ fold with_digit value digits
value_grows value [] = omega arith
value_grows value (d ∷ digits) = omega (arith, value_grows (with_digit value d) digits)

-- Lists in which one element changes
use Rattle.std.proofs.Common.{◌≡◌, ◌≢◌, ℕ, zero, suc, ◌<◌, List, [], ◌∷◌, length, replicate, get_or, set, slice_get, Some, refl, ap, sym, arith}
use Rattle.std.specs.Option.{option_map}
use Rattle.st_snap.specs.Table.{adjust}

-- each element of a list of one element is that one
pub replicated_is_one : {X : Type 0} (n : ℕ) (x : X) (k : ℕ) (y : X) → slice_get (replicate n x) k ≡ Some y → y ≡ x
replicated_is_one zero x k y e = cc
replicated_is_one (suc n) x zero y e = cc
replicated_is_one (suc n) x (suc k) y e = replicated_is_one n x k y e

-- the element that was read, changed
pub set_is_adjusted : {X : Type 0} (f : X → X) (xs : List X) (i : ℕ) (x : X) → i < length xs → x ≡ get_or xs i x → set xs i (f x) ≡ adjust f xs i
set_is_adjusted f [] i x h e = absurd (omega arith)
set_is_adjusted f (y ∷ ys) zero x h e = ap (λ z. f z ∷ ys) e
set_is_adjusted f (y ∷ ys) (suc i) x h e = ap (λ zs. y ∷ zs) (set_is_adjusted f ys i x (omega arith) e)

-- a list with one element changed is as long
pub adjusting_keeps_length : {X : Type 0} (f : X → X) (xs : List X) (i : ℕ) → length (adjust f xs i) ≡ length xs
adjusting_keeps_length f [] i = refl
adjusting_keeps_length f (x ∷ xs) zero = refl
adjusting_keeps_length f (x ∷ xs) (suc i) = ap suc (adjusting_keeps_length f xs i)

-- what stands at another place, and at the place itself
pub adjusted_elsewhere : {X : Type 0} (f : X → X) (xs : List X) (i k : ℕ) → k ≢ i → slice_get (adjust f xs i) k ≡ slice_get xs k
adjusted_elsewhere f [] i k ne = refl
adjusted_elsewhere f (x ∷ xs) zero zero ne = absurd (ne refl)
adjusted_elsewhere f (x ∷ xs) zero (suc k) ne = refl
adjusted_elsewhere f (x ∷ xs) (suc i) zero ne = refl
adjusted_elsewhere f (x ∷ xs) (suc i) (suc k) ne = adjusted_elsewhere f xs i k (λ e. ne (ap suc e))

-- the element that is changed
pub adjusted_here : {X : Type 0} (f : X → X) (xs : List X) (i : ℕ) (x : X) → slice_get xs i ≡ Some x → slice_get (adjust f xs i) i ≡ Some (f x)
adjusted_here f [] i x e = cc
adjusted_here f (y ∷ ys) zero x e = ap (option_map f) e
adjusted_here f (y ∷ ys) (suc i) x e = adjusted_here f ys i x e

-- an element that was read stands there
pub read_is_found : {X : Type 0} (xs : List X) (i : ℕ) (x : X) → i < length xs → x ≡ get_or xs i x → slice_get xs i ≡ Some x
read_is_found [] i x h e = absurd (omega arith)
read_is_found (y ∷ ys) zero x h e = ap Some (sym e)
read_is_found (y ∷ ys) (suc i) x h e = read_is_found ys i x (omega arith) e

-- what was changed stood there before
pub adjusted_stood_before :
    {X : Type 0} (f : X → X) (xs : List X) (i : ℕ) (y : X)
    → slice_get (adjust f xs i) i ≡ Some y
    → (x : X) × (slice_get xs i ≡ Some x) × (y ≡ f x)
adjusted_stood_before f [] i y e = cc
adjusted_stood_before f (x ∷ xs) zero y e = (x, refl, let s : f x ≡ y = cc in sym s)
adjusted_stood_before f (x ∷ xs) (suc i) y e = adjusted_stood_before f xs i y e

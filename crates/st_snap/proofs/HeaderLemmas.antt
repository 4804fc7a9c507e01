-- Forwarding words, lane by lane
use Rattle.std.proofs.Common.{◌≡◌, ℕ, zero, suc, ◌+◌, ◌<◌, List, [], ◌∷◌, length, take, get_or, set, Option, None, refl, ap, sym, ◌∙◌, arith, add-one}
use Rattle.st_snap.specs.declared.headers.Forward.{Forward}
use Rattle.st_snap.specs.declared.headers.Header.{Header}
use Rattle.st_snap.specs.declared.headers.Target.{Target}
use Rattle.st_snap.specs.Headers.{forward_one, forward_all}

-- no lane
pub forward_none : (stamp : ℕ) (target : Target) (fs : List Forward) → forward_all stamp target [] fs ≡ fs
forward_none stamp target [] = refl
forward_none stamp target (f ∷ fs) = refl

-- one lane more
forward_more :
    (stamp : ℕ) (target : Target) (lanes : List (Option ℕ)) (fs : List Forward) (i : ℕ) (d : Forward)
    → i < length lanes
    → set (forward_all stamp target (take i lanes) fs) i
    (forward_one stamp target (get_or lanes i None) (get_or (forward_all stamp target (take i lanes) fs) i d)) ≡ forward_all stamp target (take (suc i) lanes) fs
forward_more stamp target [] fs i d h = absurd (omega arith)
forward_more stamp target (l ∷ lanes) [] i d h = refl
forward_more stamp target (l ∷ lanes) (g ∷ fs) zero d h = ap (λ xs. forward_one stamp target l g ∷ xs) (sym (forward_none stamp target fs))
forward_more stamp target (l ∷ lanes) (g ∷ fs) (suc i) d h = ap (λ xs. forward_one stamp target l g ∷ xs) (forward_more stamp target lanes fs i d (omega arith))

-- the same, with the next index as the code has it
pub forward_next :
    (stamp : ℕ) (target : Target) (lanes : List (Option ℕ)) (fs : List Forward) (i : ℕ) (d : Forward)
    → i < length lanes
    → set (forward_all stamp target (take i lanes) fs) i
    (forward_one stamp target (get_or lanes i None) (get_or (forward_all stamp target (take i lanes) fs) i d)) ≡ forward_all stamp target (take (i + 1) lanes) fs
forward_next stamp target lanes fs i d h = rw add-one (forward_more stamp target lanes fs i d h)

-- two headers of the same parts
pub headers_of_same_parts : (a b : Header) → a.stamp ≡ b.stamp → a.forward ≡ b.forward → a ≡ b
headers_of_same_parts a b s f = ap (λ (n : ℕ). record a { stamp = n }) s ∙ ap (λ (fs : List Forward). record b { forward = fs }) f

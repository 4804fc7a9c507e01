-- Values one after another: how far a loop has come.
use Rattle.std.proofs.Common.{◌≡◌, ℕ, ◌+◌, ◌<◌, ◌≤◌, List, [], ◌∷◌, ◌++◌, map, length, drop, get_or}
use Rattle.std.proofs.Common.{Ok, Err, refl, ap, add-one, drop-cons, append_assoc, append-nil, suc}
use Rattle.std.proofs.lemmas.List.{drop_all}
use Rattle.st_types.specs.declared.errors.TypeError.{TypeError}
use Rattle.st_types.specs.Checked.{Checked, ◌>>=◌}
use Rattle.st_types.specs.Judged.{each_of}

-- values that are there already, and then others
abbrev pub with_front : {A : Type 0} → List A → Checked (List A) → Checked (List A)
with_front front (Ok rest) = Ok (front ++ rest)
with_front front (Err e) = Err e

-- no values in front change nothing
pub nothing_in_front : {A : Type 0} (r : Checked (List A)) → with_front [] r ≡ r
nothing_in_front (Ok rest) = refl
nothing_in_front (Err e) = refl

one_more_in_front : {A : Type 0} (front : List A) (a : A) (r : Checked (List A)) → with_front (front ++ a ∷ []) r ≡ with_front front (r >>= (λ rest. Ok (a ∷ rest)))
one_more_in_front front a (Ok rest) = ap Ok (append_assoc front (a ∷ []) rest)
one_more_in_front front a (Err e) = refl

-- the value at the index joins those in front
pub each_goes : {X A : Type 0} (f : X → Checked A) (front : List A) (xs : List X) (i : ℕ) (d : X) (a : A) → i < length xs → f (get_or xs i d) ≡ Ok a
    → with_front (front ++ a ∷ []) (each_of (map f (drop (i + 1) xs))) ≡ with_front front (each_of (map f (drop i xs)))
each_goes f front xs i d a h e = rw (drop-cons xs i d h, e, add-one) (one_more_in_front front a (each_of (map f (drop (suc i) xs))))

-- the fault at the index is that of all
pub each_fails : {X A : Type 0} (f : X → Checked A) (front : List A) (xs : List X) (i : ℕ) (d : X) (e : TypeError) → i < length xs → f (get_or xs i d) ≡ Err e
    → with_front front (each_of (map f (drop i xs))) ≡ Err e
each_fails f front xs i d e h k = rw (drop-cons xs i d h, k) refl

-- past the last, those in front are all
pub each_ends : {X A : Type 0} (f : X → Checked A) (front : List A) (xs : List X) (i : ℕ) → length xs ≤ i
    → with_front front (each_of (map f (drop i xs))) ≡ Ok front
each_ends f front xs i h = rw (drop_all i xs h) (ap Ok (append-nil front))

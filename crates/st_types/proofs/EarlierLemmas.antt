-- Declarations one after another, each with those before it: how far a loop over them has come.
use Rattle.std.proofs.Common.{◌≡◌, ℕ, ◌+◌, ◌<◌, ◌≤◌, List, [], ◌∷◌, ◌++◌, map, length, take, drop, get_or, Ok, Err, IsErrAnd, refl, ap, sym}
use Rattle.std.proofs.Common.{◌∙◌, subst, add-one, drop-cons}
use Rattle.std.proofs.Math.Seq.{take-suc}
use Rattle.std.proofs.lemmas.List.{drop_all, take_all, map-append, take_more}
use Rattle.st_types.specs.declared.errors.TypeError.{TypeError}
use Rattle.st_types.specs.Checked.{Checked, verdict, Fails}
use Rattle.st_types.proofs.CheckedLemmas.{no_faults, first_of_more, fails_too, same_fault}
use Rattle.st_types.specs.Rules.{each_with_earlier}

-- the one at the index has no fault
one_earlier : {X : Type 0} (f : List X → X → List TypeError) (xs : List X) (i : ℕ) (d : X) → i < length xs → f (take i xs) (get_or xs i d) ≡ []
    → each_with_earlier f (take (i + 1) xs) (drop (i + 1) xs) ≡ each_with_earlier f (take i xs) (drop i xs)
one_earlier f xs i d h e = rw (drop-cons xs i d h, e, add-one, take-suc xs i d h) refl

-- a turn of the loop: where the one at the index has no fault, the faults left behind it are still all faults
pub earlier_goes : {X : Type 0} (f : List X → X → List TypeError) (xs : List X) (i : ℕ) (d : X) → i < length xs → d ≡ get_or xs i d
    → Ok (tt {0}) ≡ verdict (f (take i xs) d) (tt {0}) → each_with_earlier f (take i xs) (drop i xs) ≡ each_with_earlier f [] xs
    → each_with_earlier f (take (i + 1) xs) (drop (i + 1) xs) ≡ each_with_earlier f [] xs
earlier_goes f xs i d h is ok inv =
    let none : f (take i xs) (get_or xs i d) ≡ [] = ap (f (take i xs)) (sym is) ∙ no_faults (f (take i xs) d) (tt {0}) (tt {0}) (sym ok) in
    one_earlier f xs i d h none ∙ inv

-- the same, where the faults are known to be none
pub earlier_passes : {X : Type 0} (f : List X → X → List TypeError) (xs : List X) (i : ℕ) (d : X) → i < length xs → d ≡ get_or xs i d → f (take i xs) d ≡ []
    → each_with_earlier f (take i xs) (drop i xs) ≡ each_with_earlier f [] xs → each_with_earlier f (take (i + 1) xs) (drop (i + 1) xs) ≡ each_with_earlier f [] xs
earlier_passes f xs i d h is none inv = one_earlier f xs i d h (ap (f (take i xs)) (sym is) ∙ none) ∙ inv

-- what is made of each, as far as the loop has come
pub mapped_goes : {X A C : Type 0} (view : C → A) (at : X → A) (done new : List C) (c : C) (xs : List X) (i : ℕ) (d : X) → i < length xs → d ≡ get_or xs i d
    → new ≡ done ++ c ∷ [] → at d ≡ view c → map view done ≡ map at (take i xs) → map view new ≡ map at (take (i + 1) xs)
mapped_goes view at done new c xs i d h is n same inv =
    rw (n, map-append view done (c ∷ []), inv, take_more xs i d h, map-append at (take i xs) (get_or xs i d ∷ []), ← is, same) refl

-- its first fault is that of all
pub earlier_fails : {X A : Type 0} (f : List X → X → List TypeError) (xs : List X) (i : ℕ) (d : X) (e : TypeError) (a : A) → i < length xs → d ≡ get_or xs i d
    → Err e ≡ verdict (f (take i xs) d) (tt {0}) → each_with_earlier f (take i xs) (drop i xs) ≡ each_with_earlier f [] xs
    → verdict (each_with_earlier f [] xs) a ≡ Err e
earlier_fails f xs i d e a h is err inv =
    let here : Err e ≡ verdict (f (take i xs) (get_or xs i d)) (tt {0}) = err ∙ ap (λ x. verdict (f (take i xs) x) (tt {0})) is in
    ap (λ fs. verdict fs a) (sym inv) ∙ (rw (drop-cons xs i d h) (first_of_more (f (take i xs) (get_or xs i d)) _ (tt {0}) a e (sym here)))

-- an error that is handed on is what was expected
pub handed : {A : Type 0} (result expected : Checked A) (e : TypeError) → IsErrAnd result (λ x. x ≡ e) → expected ≡ Err e → result ≡ expected
handed (Ok a) expected e r h = elim r [ ]
handed (Err x) expected e r h = ap Err r ∙ sym h

-- past the last, none is left
pub earlier_ends : {X : Type 0} (f : List X → X → List TypeError) (xs : List X) (i : ℕ) → length xs ≤ i → each_with_earlier f (take i xs) (drop i xs) ≡ each_with_earlier f [] xs
    → each_with_earlier f [] xs ≡ []
earlier_ends f xs i h inv = sym inv ∙ (rw (drop_all i xs h) refl)

-- all of them, and what is made of each: `given` are the declarations
pub preds_fail : {X A : Type 0} (f : List X → X → List TypeError) (at : X → A) (given xs : List X) (i : ℕ) (d : X) (e : TypeError) → i < length given → d ≡ get_or given i d
    → given ≡ xs → Fails e (verdict (f (take i given) d) (at d)) → each_with_earlier f (take i given) (drop i given) ≡ each_with_earlier f [] given
    → Fails e (verdict (each_with_earlier f [] xs) (map at xs))
preds_fail f at given xs i d e h is g k inv =
    fails_too (verdict (f (take i given) d) (at d)) (verdict (each_with_earlier f [] xs) (map at xs)) e k
    (λ err. subst (λ ys. verdict (each_with_earlier f [] ys) (map at ys) ≡ Err e) g
    (earlier_fails f given i d e (map at given) h is (sym (same_fault (f (take i given) d) (at d) (tt {0}) e err)) inv))

-- behind the last, all declarations are without faults, and what was made of them is what the definition makes of each
pub preds_are : {X A C : Type 0} (f : List X → X → List TypeError) (at : X → A) (view : C → A) (given xs : List X) (i : ℕ) (done all : List C) → length given ≤ i
    → given ≡ xs → all ≡ done → each_with_earlier f (take i given) (drop i given) ≡ each_with_earlier f [] given → map view done ≡ map at (take i given)
    → verdict (each_with_earlier f [] xs) (map at xs) ≡ Ok (map view all)
preds_are f at view given xs i done all h g a inv k =
    rw (← g, earlier_ends f given i h inv, a, k, take_all i given h) refl

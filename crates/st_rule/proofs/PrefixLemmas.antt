-- Prefixes of one list.
use Rattle.std.proofs.Common.{◌≡◌, ◌<◌, ◌≤◌, ◌⊎◌, Bool, true, false, if◌then◌else◌, nat_lt, List, [], ◌∷◌, ◌++◌, length}
use Rattle.std.proofs.Common.{refl, ap, sym, subst, ◌∙◌, arith, append_assoc, length-append, ⊎_elim}
use Rattle.std.proofs.lemmas.Bool.Decides.{nat_tests}
use mathlib.Core.List.{IsPrefix}
use Rattle.st_events.specs.declared.events.Event.{Event}
use Rattle.st_rule.specs.Turns.{longer}

-- each list begins with itself
pub prefix_self : {A : Type 0} (xs : List A) → IsPrefix xs xs
prefix_self [] = ([], refl)
prefix_self (x ∷ xs) = let r = prefix_self xs in (r.0, ap (λ ys. x ∷ ys) r.1)

-- the empty list begins every list
pub prefix_empty : {A : Type 0} (xs : List A) → IsPrefix [] xs
prefix_empty xs = (xs, refl)

-- what begins a beginning begins the whole
pub prefix_trans : {A : Type 0} (xs ys zs : List A) → IsPrefix xs ys → IsPrefix ys zs → IsPrefix xs zs
prefix_trans xs ys zs p q = (p.0 ++ q.0, sym (append_assoc xs p.0 q.0) ∙ (ap (λ w. w ++ q.0) p.1 ∙ q.1))

-- of two prefixes of one list the shorter begins the longer
pub prefix_shorter : {A : Type 0} (xs ys zs : List A) → IsPrefix xs zs → IsPrefix ys zs → length xs ≤ length ys → IsPrefix xs ys
prefix_shorter [] ys zs p q le = (ys, refl)
prefix_shorter (x ∷ xs) [] zs p q le = absurd (omega arith)
prefix_shorter (x ∷ xs) (y ∷ ys) [] p q le = absurd (cc (p.1))
prefix_shorter (x ∷ xs) (y ∷ ys) (z ∷ zs) p q le =
    let heads : x ≡ y = cc (p.1, q.1) in
    let rest = prefix_shorter xs ys zs (p.0, cc (p.1)) (q.0, cc (q.1)) (omega arith) in
    (rest.0, cc (heads, rest.1))

-- a prefix as long as the whole is the whole
pub prefix_whole : {A : Type 0} (xs ys : List A) → IsPrefix xs ys → length ys ≤ length xs → xs ≡ ys
prefix_whole [] [] p le = refl
prefix_whole [] (y ∷ ys) p le = absurd (omega arith)
prefix_whole (x ∷ xs) [] p le = absurd (cc (p.1))
prefix_whole (x ∷ xs) (y ∷ ys) p le = let rest = prefix_whole xs ys (p.0, cc (p.1)) (omega arith) in cc (p.1, rest)

-- a beginning is no longer than the whole
pub prefix_length : {A : Type 0} (xs ys : List A) → IsPrefix xs ys → length xs ≤ length ys
prefix_length xs ys p = omega (arith, sym (ap length p.1) ∙ length-append xs p.0)

-- the longer of two prefixes of a list is one, and both begin it
pub record IsLonger (xs ys whole : List Event) : Type 0 where
  pub within : IsPrefix (longer xs ys) whole
  pub this : IsPrefix xs (longer xs ys)
  pub that : IsPrefix ys (longer xs ys)

longer_by : (xs ys whole : List Event) → IsPrefix xs whole → IsPrefix ys whole → (less : Bool) → nat_lt (length xs) (length ys) ≡ less
    → IsPrefix (if less then ys else xs) whole × IsPrefix xs (if less then ys else xs) × IsPrefix ys (if less then ys else xs)
longer_by xs ys whole p q true is = (q, prefix_shorter xs ys whole p q (let le : length xs < length ys = grind (arith, nat_tests, is) in omega (arith, le)), prefix_self ys)
longer_by xs ys whole p q false is = (p, prefix_self xs, prefix_shorter ys xs whole q p (let le : length ys ≤ length xs = grind (arith, nat_tests, is) in le))

-- of two beginnings of one list the longer is one of them, and both begin it
pub longer_is : (xs ys whole : List Event) → IsPrefix xs whole → IsPrefix ys whole → IsLonger xs ys whole
longer_is xs ys whole p q = let t = longer_by xs ys whole p q (nat_lt (length xs) (length ys)) refl in record { within = t.0; this = t.1; that = t.2 }

-- where one of two prefixes is the whole, the longer is
pub longer_whole : (xs ys whole : List Event) → IsPrefix xs whole → IsPrefix ys whole → (whole ≡ xs) ⊎ (whole ≡ ys) → longer xs ys ≡ whole
longer_whole xs ys whole p q one =
    let l = longer_is xs ys whole p q in
    prefix_whole (longer xs ys) whole l.within (prefix_length whole (longer xs ys) (⊎_elim
    (λ e. subst (λ zs. IsPrefix zs (longer xs ys)) (sym e) l.this)
    (λ e. subst (λ zs. IsPrefix zs (longer xs ys)) (sym e) l.that)
    one))

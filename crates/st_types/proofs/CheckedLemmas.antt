-- Faults one after another, and the first of them.
use Rattle.std.proofs.Common.{◌≡◌, List, [], ◌∷◌, ◌++◌, Ok, Err, IsErrAnd, refl, ap, sym, ◌∙◌, subst}
use Rattle.st_types.specs.declared.errors.TypeError.{TypeError}
use Rattle.st_types.specs.declared.errors.TypeError.TheVariants.{Memory, UnknownName, Twice, Mismatch, WrongCount, NotPure, NotHere}
use Rattle.st_types.specs.Checked.{Checked, verdict, ◌>>=◌, Fails, Gives}

-- a fault that is told is the one that is expected
pub fails_so : {B : Type 0} (e : TypeError) (expected : Checked B) → expected ≡ Err e → Fails e expected
fails_so Memory expected h = tt
fails_so (UnknownName at) expected h = h
fails_so (Twice at) expected h = h
fails_so (Mismatch at wanted found) expected h = h
fails_so (WrongCount at) expected h = h
fails_so (NotPure at) expected h = h
fails_so (NotHere at) expected h = h

-- faults, and others after them
pub verdict_append : {A : Type 0} (xs ys : List TypeError) (a : A) → verdict (xs ++ ys) a ≡ verdict xs (tt {0}) >>= (λ _. verdict ys a)
verdict_append [] ys a = refl
verdict_append (x ∷ xs) ys a = refl

-- the verdict of another value
pub same_fault : {A B : Type 0} (xs : List TypeError) (a : A) (b : B) (e : TypeError) → verdict xs a ≡ Err e → verdict xs b ≡ Err e
same_fault [] a b e h = cc
same_fault (x ∷ xs) a b e h = let same : x ≡ e = cc in ap Err same

-- no fault among the first, and one among the others
pub second_fails : {A B : Type 0} (view : A → B) (xs ys : List TypeError) (b : B) (e : TypeError) (result : Checked A)
    → Ok (tt {0}) ≡ verdict xs (tt {0}) → Err e ≡ verdict ys (tt {0}) → result ≡ Err e
    → Gives view result (verdict (xs ++ ys) b)
second_fails view [] ys b e result h k r = subst (λ (x : Checked _). Gives view x (verdict ys b)) (sym r) (fails_so e (verdict ys b) (same_fault ys (tt {0}) b e (sym k)))
second_fails view (x ∷ xs) ys b e result h k r = cc

-- a fault that is handed on
pub handed_on : {A B : Type 0} (view : A → B) (xs : List TypeError) (b : B) (e : TypeError) (result : Checked A) → Err e ≡ verdict xs (tt {0}) → IsErrAnd result (λ x. x ≡ e)
    → Gives view result (verdict xs b)
handed_on view xs b e (Ok a) k r = elim r [ ]
handed_on view xs b e (Err x) k r = fails_so x (verdict xs b) (same_fault xs (tt {0}) b x (sym k ∙ ap Err (sym r)))

-- where the first of two fails, both do
pub fails_next : {A B C : Type 0} (view : C → B) (p : Checked A) (f : A → Checked B) (e : TypeError) (result : Checked C) → Fails e p → IsErrAnd result (λ x. x ≡ e)
    → Gives view result (p >>= f)
fails_next view p f e (Ok a) h r = elim r [ ]
fails_next view p f e (Err x) h r = subst (λ y. Fails y (p >>= f)) (sym r) (later e h)
  where
    later : (e : TypeError) → Fails e p → Fails e (p >>= f)
    later Memory h = tt
    later (UnknownName at) h = ap (λ q. q >>= f) h
    later (Twice at) h = ap (λ q. q >>= f) h
    later (Mismatch at wanted found) h = ap (λ q. q >>= f) h
    later (WrongCount at) h = ap (λ q. q >>= f) h
    later (NotPure at) h = ap (λ q. q >>= f) h
    later (NotHere at) h = ap (λ q. q >>= f) h

-- a fault that is told of one is told of the other
pub fails_too : {A B : Type 0} (p : Checked A) (q : Checked B) (e : TypeError) → Fails e p → (p ≡ Err e → q ≡ Err e) → Fails e q
fails_too p q Memory h k = tt
fails_too p q (UnknownName at) h k = k h
fails_too p q (Twice at) h k = k h
fails_too p q (Mismatch at wanted found) h k = k h
fails_too p q (WrongCount at) h k = k h
fails_too p q (NotPure at) h k = k h
fails_too p q (NotHere at) h k = k h

-- a fault that is handed on is told
pub gives_fault : {A B : Type 0} (view : A → B) (result : Checked A) (expected : Checked B) (e : TypeError) → IsErrAnd result (λ x. x ≡ e) → Fails e expected
    → Gives view result expected
gives_fault view (Ok a) expected e r h = elim r [ ]
gives_fault view (Err x) expected e r h = subst (λ y. Fails y expected) (sym r) h

-- a value means that there is no fault, and it is the one that is asked for
pub no_faults : {A : Type 0} (faults : List TypeError) (a b : A) → verdict faults a ≡ Ok b → faults ≡ []
no_faults [] a b h = refl
no_faults (x ∷ faults) a b h = cc

-- where a verdict is a value, it is the one that was to be given
pub value_is : {A : Type 0} (faults : List TypeError) (a b : A) → verdict faults a ≡ Ok b → a ≡ b
value_is [] a b h = cc
value_is (x ∷ faults) a b h = cc

-- none, and then others
pub none_before : {A : Type 0} (xs ys : List TypeError) (a b : A) (c : Checked A) → Ok (tt {0}) ≡ verdict xs (tt {0}) → verdict ys a ≡ c → verdict (xs ++ ys) a ≡ c
none_before [] ys a b c h k = k
none_before (x ∷ xs) ys a b c h k = cc

-- the first of some is the first of more
pub first_of_more : {A B : Type 0} (xs ys : List TypeError) (a : A) (b : B) (e : TypeError) → verdict xs a ≡ Err e → verdict (xs ++ ys) b ≡ Err e
first_of_more [] ys a b e h = cc
first_of_more (x ∷ xs) ys a b e h = let same : x ≡ e = cc in ap Err same

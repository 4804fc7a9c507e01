-- Loops of readers, one turn at a time.
use Rattle.std.proofs.Common.{◌≡◌, ℕ, zero, suc, ◌≤◌, ◌<◌, Bool, true, false, if◌then◌else◌, nat_lt, List, [], ◌∷◌, ◌++◌, length, Result, Ok, Err, refl}
use Rattle.std.proofs.Common.{sym, ap, subst, ◌∙◌, arith}
use Rattle.std.proofs.lemmas.Bool.{ltb-true, lt-ltb}
use Rattle.st_grammar.specs.declared.sorts.Sort.{Sort}
use Rattle.st_grammar.specs.Terminals.{Terminal, Is, next_sort}
use Rattle.st_grammar.specs.Sorts.{same_sort}
use Rattle.st_grammar_laws.specs.Reading.{Outcome, Reader, and_then, ◌>>=◌, pure, take_any, expect, if_shorter, turns_from, turns, is_sort, sees}
use Rattle.st_grammar.proofs.SortLemmas.{sort_self}

-- where a reader succeeds, the next one goes on with what it made and left
pub then_ok : {A B : Type 0} (o : Outcome A) (f : A → Reader B) (x : A) (us : List Terminal) (out : Outcome B) → o ≡ Ok (x, us) → f x us ≡ out → and_then o f ≡ out
then_ok o f x us out e h = ap (λ p. and_then p f) e ∙ h

-- a token of a sort passes the test for it
pub same_is : (s : Sort) (t : Terminal) → Is s t → same_sort t.sort s ≡ true
same_is s t h = subst (λ (x : Sort). same_sort x s ≡ true) (sym h.same) (sort_self s)

-- a token of the expected sort is taken
pub expect_ok : (s : Sort) (t : Terminal) (ts : List Terminal) → Is s t → expect s (t ∷ ts) ≡ Ok (t, ts)
unfolding expect
expect_ok s t ts h = ap (λ (b : Bool). if b then Ok (t, ts) else Err (t ∷ ts)) (same_is s t h)

-- the next terminal is of the sort, and then something
pub expect_then : {B : Type 0} (s : Sort) (f : Terminal → Reader B) (t : Terminal) (ts : List Terminal) (out : Outcome B) → Is s t → f t ts ≡ out → and_then (expect s (t ∷ ts)) f ≡ out
expect_then s f t ts out h e = then_ok (expect s (t ∷ ts)) f t ts out (expect_ok s t ts h) e

module _ {A : Type 0} (asks : Sort → Bool) (turn : A → Reader A) where
  same_test : (n m : ℕ) (t : Terminal) (ts vs : List Terminal) (y : A) (b : Bool) → nat_lt (length vs) (length (t ∷ ts)) ≡ b
      → (nat_lt (length vs) (length (t ∷ ts)) ≡ true → turns_from asks turn n y vs ≡ turns_from asks turn m y vs)
      → (if b then turns_from asks turn n y vs else Err vs) ≡ (if b then turns_from asks turn m y vs else Err vs)
  same_test n m t ts vs y true e h = h e
  same_test n m t ts vs y false e h = refl

  same_turn : (n m : ℕ) (t : Terminal) (ts : List Terminal) (o : Outcome A)
      → ((vs : List Terminal) (y : A) → nat_lt (length vs) (length (t ∷ ts)) ≡ true → turns_from asks turn n y vs ≡ turns_from asks turn m y vs)
      → and_then o (λ y. if_shorter (t ∷ ts) (turns_from asks turn n y)) ≡ and_then o (λ y. if_shorter (t ∷ ts) (turns_from asks turn m y))
  same_turn n m t ts (Ok p) h = same_test n m t ts p.1 p.0 (nat_lt (length p.1) (length (t ∷ ts))) refl (h p.1 p.0)
  same_turn n m t ts (Err rest) h = refl

  same_asked : (t : Terminal) (ts : List Terminal) (x : A) (b : Bool) (o p : Outcome A) → o ≡ p → (if b then o else Ok (x, t ∷ ts)) ≡ (if b then p else Ok (x, t ∷ ts))
  same_asked t ts x true o p e = e
  same_asked t ts x false o p e = refl

  -- more turns than terminals change nothing
  enough : (n m : ℕ) (x : A) (ts : List Terminal) → length ts ≤ n → length ts ≤ m → turns_from asks turn n x ts ≡ turns_from asks turn m x ts
  unfolding turns_from
  enough n m x [] a b = refl
  enough zero m x (t ∷ ts) a b = absurd (omega arith)
  enough (suc n) zero x (t ∷ ts) a b = absurd (omega arith)
  enough (suc n) (suc m) x (t ∷ ts) a b =
      same_asked t ts x (asks t.sort) _ _ (same_turn n m t ts (turn x (t ∷ ts))
      (λ vs y e. let fewer : length vs < length (t ∷ ts) = ltb-true _ _ e in enough n m y vs (omega arith) (omega arith)))

  pub turns_end : (x : A) (ts : List Terminal) → asks (next_sort ts) ≡ false → turns asks turn x ts ≡ Ok (x, ts)
  unfolding turns turns_from
  turns_end x [] e = refl
  turns_end x (t ∷ ts) e = ap (λ (b : Bool). if b then (and_then (turn x (t ∷ ts)) (λ y. if_shorter (t ∷ ts) (turns_from asks turn (length ts) y))) else Ok (x, t ∷ ts)) e

  pub turns_go : (x y : A) (t : Terminal) (ts us : List Terminal) → asks t.sort ≡ true → turn x (t ∷ ts) ≡ Ok (y, us) → length us < length (t ∷ ts)
      → turns asks turn x (t ∷ ts) ≡ turns asks turn y us
  unfolding turns turns_from
  turns_go x y t ts us e h fewer =
      ap (λ (b : Bool). if b then (and_then (turn x (t ∷ ts)) (λ z. if_shorter (t ∷ ts) (turns_from asks turn (length ts) z))) else Ok (x, t ∷ ts)) e
      ∙ then_ok (turn x (t ∷ ts)) (λ z. if_shorter (t ∷ ts) (turns_from asks turn (length ts) z)) y us (turns_from asks turn (length ts) y us) h
      (ap (λ (b : Bool). if b then turns_from asks turn (length ts) y us else Err us) (lt-ltb _ _ fewer))
      ∙ enough (length ts) (length us) y us (omega arith) (omega arith)

-- A loop of turns goes on by one turn where the next terminal asks for one.
use Rattle.std.proofs.Common.{◌≡◌, ℕ, zero, suc, ◌+◌, ◌<◌, ◌≤◌, Bool, true, false, if◌then◌else◌, nat_lt, List, [], ◌∷◌, length, Result, Ok, Err, refl, ap}
use Rattle.std.proofs.Common.{◌∙◌, arith, rules}
use Rattle.st_grammar.specs.declared.sorts.Sort.{Sort}
use Rattle.st_grammar.specs.declared.sorts.Sort.TheVariants as sort
use Rattle.st_grammar.specs.Terminals.{Terminal, next_sort}
use Rattle.st_grammar_laws.specs.Reading.{Outcome, Reader, and_then, if_shorter, turns_from, turns}

-- two choices by one test are the same where their first branches are, given that the test holds
pub chosen_alike : {B : Type 0} (b : Bool) (x y z : B) → (b ≡ true → x ≡ y) → (if b then x else z) ≡ (if b then y else z)
chosen_alike true x y z e = e refl
chosen_alike false x y z e = refl

-- two readers that go on from one outcome give the same where they give the same from everything that was read
pub goes_on_alike : {A B : Type 0} (o : Outcome A) (f g : A → Reader B) → ((x : A) (us : List Terminal) → f x us ≡ g x us) → and_then o f ≡ and_then o g
goes_on_alike (Ok p) f g e = e p.0 p.1
goes_on_alike (Err rest) f g e = refl

-- two readers give the same where fewer terminals are left if they do so given that fewer are left
pub shorter_alike : {A : Type 0} (ts us : List Terminal) (r s : Reader A) → (length us < length ts → r us ≡ s us) → if_shorter ts r us ≡ if_shorter ts s us
shorter_alike ts us r s e = chosen_alike (nat_lt (length us) (length ts)) (r us) (s us) (Err us) (λ h. e (search (rules, h)))

-- any number of turns does that is no less than that of the terminals
pub any_number : {A : Type 0} (asks : Sort → Bool) (turn : A → Reader A) (m n : ℕ) (x : A) (ts : List Terminal)
    → length ts ≤ m → length ts ≤ n → turns_from asks turn m x ts ≡ turns_from asks turn n x ts
unfolding turns_from
any_number asks turn m n x [] p q = refl
any_number asks turn zero n x (t ∷ ts) p q = absurd (omega (arith, p))
any_number asks turn (suc m) zero x (t ∷ ts) p q = absurd (omega (arith, q))
any_number asks turn (suc m) (suc n) x (t ∷ ts) p q =
    chosen_alike (asks t.sort) _ _ _ (λ _. goes_on_alike (turn x (t ∷ ts)) _ _ (λ y us.
    shorter_alike (t ∷ ts) us (turns_from asks turn m y) (turns_from asks turn n y) (λ less.
    any_number asks turn m n y us (omega (arith, p, less)) (omega (arith, q, less)))))

-- a loop over at least one terminal asks it for a turn, and goes on after the turn where fewer terminals are left
pub one_turn : {A : Type 0} (asks : Sort → Bool) (turn : A → Reader A) (x : A) (t : Terminal) (ts : List Terminal)
    → turns asks turn x (t ∷ ts) ≡ (if asks t.sort then and_then (turn x (t ∷ ts)) (λ y. if_shorter (t ∷ ts) (turns asks turn y)) else Ok (x, t ∷ ts))
unfolding turns turns_from
one_turn asks turn x t ts =
    chosen_alike (asks t.sort) _ _ _ (λ _. goes_on_alike (turn x (t ∷ ts)) _ _ (λ y us.
    shorter_alike (t ∷ ts) us (turns_from asks turn (length ts) y) (turns asks turn y) (λ less.
    any_number asks turn (length ts) (length us) y us (omega (arith, less)) (omega arith))))

chosen_true : {B : Type 0} (b : Bool) (y z : B) → b ≡ true → (if b then y else z) ≡ y
chosen_true true y z e = refl
chosen_true false y z e = cc

chosen_false : {B : Type 0} (b : Bool) (y z : B) → b ≡ false → (if b then y else z) ≡ z
chosen_false true y z e = cc
chosen_false false y z e = refl

-- where no turn is asked for, the loop is over
pub no_turn : {A : Type 0} (asks : Sort → Bool) (turn : A → Reader A) (x : A) (ts : List Terminal)
    → asks (next_sort ts) ≡ false → turns asks turn x ts ≡ Ok (x, ts)
unfolding turns turns_from
no_turn asks turn x [] none = refl
no_turn asks turn x (t ∷ ts) none = chosen_false (asks t.sort) _ _ none

-- where a turn is asked for and made, the loop goes on after it
pub turn_taken : {A : Type 0} (asks : Sort → Bool) (turn : A → Reader A) (x y : A) (ts us : List Terminal)
    → asks (next_sort ts) ≡ true → turn x ts ≡ Ok (y, us) → length us < length ts → turns asks turn x ts ≡ turns asks turn y us
turn_taken asks turn x y [] us asked made less = absurd (omega (arith, less))
turn_taken asks turn x y (t ∷ ts) us asked made less =
    one_turn asks turn x t ts ∙ chosen_true (asks t.sort) _ _ asked
    ∙ ap (λ o. and_then o (λ y. if_shorter (t ∷ ts) (turns asks turn y))) made
    ∙ chosen_true (nat_lt (length us) (length (t ∷ ts))) _ _ (search (rules, less))

-- where a turn is asked for and stops at a fault, so does the loop
pub turn_refused : {A : Type 0} (asks : Sort → Bool) (turn : A → Reader A) (x : A) (ts us : List Terminal)
    → asks sort.Other ≡ false → asks (next_sort ts) ≡ true → turn x ts ≡ Err us → turns asks turn x ts ≡ Err us
turn_refused asks turn x [] us none asked made = cc
turn_refused asks turn x (t ∷ ts) us none asked made =
    one_turn asks turn x t ts ∙ chosen_true (asks t.sort) _ _ asked
    ∙ ap (λ o. and_then o (λ y. if_shorter (t ∷ ts) (turns asks turn y))) made

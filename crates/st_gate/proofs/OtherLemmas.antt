-- The numbers that a closer sees in order are the others, each once.
use Rattle.std.proofs.Common.{◌≡◌, ◌≢◌, ℕ, zero, suc, ◌+◌, ◌<◌, ◌≤◌, ◌==◌, ◌&&◌, ◌||◌, Bool, true, false, if◌then◌else◌, List, ◌∷◌}
use Rattle.std.proofs.Common.{sym, ap, refl, subst, ◌∙◌, arith, eq-eqb, ne_eqb, eqb-true, add-one}
use Rattle.std.proofs.lemmas.Bool.{both_ways}
use Rattle.std.specs.Cmp.Derive.{both_true}
use mathlib.Core.Logic.{dite}
use native.Mathlib.Decide.{ℕ_discrete}
use Rattle.st_events.specs.World.{is_among}
use Rattle.st_rule.specs.declared.views.Phase.TheVariants.{Closing, Alone}
use Rattle.st_rule.specs.Turns.{saw_below, closer_phase}
use Rattle.st_gate.specs.Others.{others_below}

or_right : (a b : Bool) → b ≡ true → (a || b) ≡ true
or_right true b e = refl
or_right false b e = e

-- each number below, but for the closer's own, is among them
among_step :
    (count number n : ℕ) → n < suc count → n ≢ number
    → (n < count → is_among (others_below count number) n ≡ true)
    → (b : Bool) → (count == number) ≡ b
    → is_among (if b then others_below count number else count ∷ others_below count number) n ≡ true
among_step count number n within other rest true same = rest (let is : count ≡ number = eqb-true count number same in omega (arith, is, other))
among_step count number n within other rest false apart = dite (ℕ_discrete count n)
    (λ here. subst (λ b. (b || is_among (others_below count number) n) ≡ true) (sym (eq-eqb count n here)) refl)
    (λ later. or_right (count == n) (is_among (others_below count number) n) (rest (omega (arith, later))))

among_others : (count number n : ℕ) → n < count → n ≢ number → is_among (others_below count number) n ≡ true
among_others zero number n within other = absurd (omega (arith, within))
among_others (suc count) number n within other = among_step count number n within other (λ below. among_others count number n below other) (count == number) refl

-- and no number from there on is
beyond_step :
    (count number n : ℕ) → suc count ≤ n → is_among (others_below count number) n ≡ false
    → (b : Bool)
    → is_among (if b then others_below count number else count ∷ others_below count number) n ≡ false
beyond_step count number n beyond rest true = rest
beyond_step count number n beyond rest false =
    subst (λ b. (b || is_among (others_below count number) n) ≡ false) (sym (ne_eqb count n (λ e. let is : count ≡ n = e in absurd (omega (arith, is, beyond))))) rest

not_among_others : (count number n : ℕ) → count ≤ n → is_among (others_below count number) n ≡ false
not_among_others zero number n beyond = refl
not_among_others (suc count) number n beyond = beyond_step count number n beyond (not_among_others count number n (omega (arith, beyond))) (count == number)

either_way : (a b : Bool) → (a ≡ false → b ≡ true) → (a || b) ≡ true
either_way true b f = refl
either_way false b f = f refl

-- a closer that saw each other number saw all
saw_all_of : (clear : List ℕ) (count number : ℕ) → ((n : ℕ) → n < count → n ≢ number → is_among clear n ≡ true) → saw_below count number clear ≡ true
saw_all_of clear zero number each = refl
saw_all_of clear (suc count) number each = both_true
    (either_way (count == number) (is_among clear count) (λ other. each count (omega arith) (λ e. absurd (both_ways (count == number) other (eq-eqb count number e)))))
    (saw_all_of clear count number (λ n within other. each n (omega (arith, within)) other))

and_left : (a b : Bool) → a ≡ false → (a && b) ≡ false
and_left true b e = absurd cc
and_left false b e = refl

and_right : (a b : Bool) → b ≡ false → (a && b) ≡ false
and_right true b e = e
and_right false b e = refl

-- and one that has not seen some other number did not
not_yet : (clear : List ℕ) (count number k : ℕ) → k < count → k ≢ number → is_among clear k ≡ false → saw_below count number clear ≡ false
not_yet clear zero number k within other unseen = absurd (omega (arith, within))
not_yet clear (suc count) number k within other unseen = dite (ℕ_discrete count k)
    (λ here. and_left ((count == number) || is_among clear count) (saw_below count number clear)
    (subst (λ n. ((n == number) || is_among clear n) ≡ false) (sym here) (subst (λ b. (b || is_among clear k) ≡ false) (sym (ne_eqb k number other)) unseen)))
    (λ later. and_right ((count == number) || is_among clear count) (saw_below count number clear) (not_yet clear count number k (omega (arith, within, later)) other unseen))

-- before the last one the closer is Closing
pub closing_before : (mutators number k : ℕ) → k ≤ mutators → k ≢ number → closer_phase mutators number (others_below k number) ≡ Closing
closing_before mutators number k within other =
    ap (λ b. if b then Alone else Closing) (not_yet (others_below k number) (suc mutators) number k (omega (arith, within)) other (not_among_others k number k (omega arith)))

each_other : (mutators number n : ℕ) → n < suc mutators → n ≢ number → is_among (others_below (mutators + 1) number) n ≡ true
each_other mutators number n within other = among_others (mutators + 1) number n (omega (arith, within)) other

-- after the last one it is Alone
pub alone_after : (mutators number : ℕ) → closer_phase mutators number (others_below (mutators + 1) number) ≡ Alone
alone_after mutators number =
    ap (λ b. if b then Alone else Closing) (saw_all_of (others_below (mutators + 1) number) (suc mutators) number (each_other mutators number))

-- one number more: it is one of the others, or the closer's own
pub others_more : (k number : ℕ) → k ≢ number → others_below (k + 1) number ≡ k ∷ others_below k number
others_more k number other = ap (λ n. others_below n number) (add-one k) ∙ ap (λ b. if b then others_below k number else k ∷ others_below k number) (ne_eqb k number other)

-- the closer's own number is not one that is left to see
pub others_same : (k number : ℕ) → k ≡ number → others_below (k + 1) number ≡ others_below k number
others_same k number own = ap (λ n. others_below n number) (add-one k) ∙ ap (λ b. if b then others_below k number else k ∷ others_below k number) (eq-eqb k number own)

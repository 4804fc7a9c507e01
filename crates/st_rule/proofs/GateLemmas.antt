-- What the closing word and the flags say of the phases, after each step of the gate.
use Rattle.std.proofs.Common.{◌≡◌, ◌≢◌, ℕ, zero, suc, ◌+◌, ◌<◌, ◌≤◌, ◌==◌, ◌&&◌, ◌||◌, Bool, true, false, if◌then◌else◌, List}
use Rattle.std.proofs.Common.{sym, refl, ap, subst, ◌∙◌, arith, inl, inr, eq-eqb, ne_eqb}
use Rattle.std.proofs.lemmas.Bool.{both_ways}
use mathlib.Core.Logic.{◌↔◌, dite}
use native.Mathlib.Decide.{ℕ_discrete}
use Rattle.st_layout.specs.Names.{ClosingWord, FlagWord}
use Rattle.st_events.specs.World.{at, is_among}
use Rattle.st_rule.specs.declared.views.Phase.{Phase}
use Rattle.st_rule.specs.declared.views.Phase.TheVariants.{Inside, Closing, Alone}
use Rattle.st_rule.specs.Board.{Board, written}
use Rattle.st_rule.specs.Views.{flag_of, is_closer}
use Rattle.st_rule.specs.Turns.{saw_below, closer_phase}
use Rattle.st_rule.proofs.ViewLemmas.{at_here, at_else}
use Rattle.st_rule.proofs.TurnLemmas.{WordsTell}

-- phases are told apart
pub inside_is_no_closer : (p : Phase) → p ≡ Inside → is_closer p ≡ true → ⊥
inside_is_no_closer p is closes = absurd (cc (is, closes))

-- a number that has the closing word is a closer with its flag down, whether it saw every other flag 0 or not yet
pub closer_is : (saw : Bool) → (is_closer (if saw then Alone else Closing) ≡ true) × (flag_of (if saw then Alone else Closing) ≡ 0)
closer_is true = (refl, refl)
closer_is false = (refl, refl)

alone_only : (saw : Bool) → (if saw then Alone else Closing) ≡ Alone → saw ≡ true
alone_only true is = refl
alone_only false is = absurd cc

first_seen : (a b c : Bool) → ((a || b) && c) ≡ true → a ≡ false → b ≡ true
first_seen true b c all off = absurd cc
first_seen false true c all off = refl
first_seen false false c all off = absurd cc

rest_seen : (a b c : Bool) → ((a || b) && c) ≡ true → c ≡ true
rest_seen true b c all = all
rest_seen false true c all = all
rest_seen false false c all = absurd cc

saw_each : (count number : ℕ) (clear : List ℕ) → saw_below count number clear ≡ true → (n : ℕ) → n < count → n ≢ number → is_among clear n ≡ true
saw_each zero number clear all n within other = absurd (omega arith)
saw_each (suc count) number clear all n within other = dite (ℕ_discrete n count)
    (λ same. ap (is_among clear) same ∙ first_seen (count == number) (is_among clear count) (saw_below count number clear) all (ne_eqb count number (λ e. other (same ∙ e))))
    (λ apart. saw_each count number clear (rest_seen (count == number) (is_among clear count) (saw_below count number clear) all) n (omega (arith, apart)) other)

-- an Alone closer saw every other number
pub alone_saw_each : (mutators number : ℕ) (clear : List ℕ) → closer_phase mutators number clear ≡ Alone → (n : ℕ) → n ≤ mutators → n ≢ number → is_among clear n ≡ true
alone_saw_each mutators number clear is n within other = saw_each (suc mutators) number clear (alone_only (saw_below (suc mutators) number clear) is) n (omega arith) other

module _ (mutators k : ℕ) (phase' : Phase) (board : Board) (phase : ℕ → Phase) (tell : WordsTell mutators board phase) where
  flags_kept : flag_of phase' ≡ flag_of (phase k) → (n : ℕ) → n ≤ mutators → board (FlagWord n) ≡ flag_of (at k phase' phase n)
  flags_kept same n within = dite (ℕ_discrete n k)
      (λ is. tell.flags n within ∙ ap (λ j. flag_of (phase j)) is ∙ sym same ∙ ap flag_of (sym (at_here k phase' phase)) ∙ ap (λ j. flag_of (at k phase' phase j)) (sym is))
      (λ other. tell.flags n within ∙ ap flag_of (sym (at_else k phase' phase n other)))

  flags_written : (value : ℕ) → value ≡ flag_of phase' → (n : ℕ) → n ≤ mutators → written (FlagWord k) value board (FlagWord n) ≡ flag_of (at k phase' phase n)
  flags_written value is n within = dite (ℕ_discrete n k)
      (λ same. rw (eq-eqb n k same) is)
      (λ other. rw (ne_eqb n k other) (tell.flags n within))

  closer_kept : is_closer phase' ≡ is_closer (phase k) → (n : ℕ) → n ≤ mutators → (is_closer (at k phase' phase n) ≡ true) ↔ (board ClosingWord ≡ n + 1)
  closer_kept same n within = dite (ℕ_discrete n k)
      (λ is. subst (λ b. (b ≡ true) ↔ (board ClosingWord ≡ n + 1))
      (ap (λ j. is_closer (phase j)) is ∙ sym same ∙ ap is_closer (sym (at_here k phase' phase)) ∙ ap (λ j. is_closer (at k phase' phase j)) (sym is))
      (tell.closer n within))
      (λ other. subst (λ b. (b ≡ true) ↔ (board ClosingWord ≡ n + 1)) (ap is_closer (sym (at_else k phase' phase n other))) (tell.closer n within))

  -- the flag is written, and neither phase is a closer's
  pub flag_written : (value : ℕ) → value ≡ flag_of phase' → is_closer phase' ≡ is_closer (phase k) → WordsTell mutators (written (FlagWord k) value board) (at k phase' phase)
  flag_written value is same = record { flags = flags_written value is; closer = closer_kept same; nobody_closes = tell.nobody_closes }

  -- no word is written, and the phases say the same of the words
  pub words_kept : flag_of phase' ≡ flag_of (phase k) → is_closer phase' ≡ is_closer (phase k) → WordsTell mutators board (at k phase' phase)
  words_kept flag closes = record { flags = flags_kept flag; closer = closer_kept closes; nobody_closes = tell.nobody_closes }

  closer_took : board ClosingWord ≡ 0 → is_closer phase' ≡ true → (n : ℕ) → n ≤ mutators → (is_closer (at k phase' phase n) ≡ true) ↔ (k + 1 ≡ n + 1)
  closer_took is_open closes n within = dite (ℕ_discrete n k)
      (λ same. (
        (λ _. ap (λ j. j + 1) (sym same)),
        (λ _. ap (λ j. is_closer (at k phase' phase j)) same ∙ ap is_closer (at_here k phase' phase) ∙ closes),
      ))
      (λ other. (
        (λ closer. let taken : board ClosingWord ≡ n + 1 = (tell.closer n within).0 (ap is_closer (sym (at_else k phase' phase n other)) ∙ closer) in absurd (omega (arith, taken, is_open))),
        (λ same. absurd (other (omega (arith, same)))),
      ))

  -- the closing word is taken
  pub closing_taken :
      k ≤ mutators → board ClosingWord ≡ 0 → flag_of phase' ≡ flag_of (phase k) → is_closer phase' ≡ true
      → WordsTell mutators (written ClosingWord (k + 1) board) (at k phase' phase)
  closing_taken within is_open flag closes = record { flags = flags_kept flag; closer = closer_took is_open closes; nobody_closes = inr (k, within, refl) }

  closer_gave : board ClosingWord ≡ k + 1 → is_closer phase' ≡ false → (n : ℕ) → n ≤ mutators → (is_closer (at k phase' phase n) ≡ true) ↔ (0 ≡ n + 1)
  closer_gave mine out n within = dite (ℕ_discrete n k)
      (λ same. (
        (λ closes. absurd (both_ways (is_closer phase') out (ap is_closer (sym (at_here k phase' phase)) ∙ ap (λ j. is_closer (at k phase' phase j)) (sym same) ∙ closes))),
        (λ none. absurd (omega (arith, none))),
      ))
      (λ other. (
        (λ closes. let taken : board ClosingWord ≡ n + 1 = (tell.closer n within).0 (ap is_closer (sym (at_else k phase' phase n other)) ∙ closes) in absurd (other (omega (arith, taken, mine)))),
        (λ none. absurd (omega (arith, none))),
      ))

  -- the closing word is given back
  pub closing_given : board ClosingWord ≡ k + 1 → flag_of phase' ≡ flag_of (phase k) → is_closer phase' ≡ false → WordsTell mutators (written ClosingWord 0 board) (at k phase' phase)
  closing_given mine flag out = record { flags = flags_kept flag; closer = closer_gave mine out; nobody_closes = inl refl }

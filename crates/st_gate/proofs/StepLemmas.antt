-- What the steps of a closer leave of its seat.
use Rattle.std.proofs.Common.{◌≡◌, ◌≢◌, ℕ, ◌==◌, Bool, true, false, List, [], ◌∷◌, Some, sym, ap, refl, subst, ◌∙◌, eq-eqb, ne_eqb}
use mathlib.Core.List.{IsPrefix}
use Rattle.st_events.specs.declared.events.Event.{Event}
use Rattle.st_rule.specs.declared.views.MutView.{MutView}
use Rattle.st_rule.specs.Plays.{FindsAndLearns}
use Rattle.st_rule.specs.SeatValue.{SeatValue}
use Rattle.st_rule.specs.Seats.{IsSameSeat}
use Rattle.st_rule.specs.Turns.{took, took_gate, saw_flag, saw, closer_phase}
use Rattle.st_rule.proofs.PrefixLemmas.{prefix_self}
use Rattle.st_gate.specs.Later.{IsLater}
use Rattle.st_gate.specs.Others.{HasSeen}

some_is : (a b : ℕ) → Some a ≡ Some b → a ≡ b
some_is a b e = cc

-- what neither answer changes
record Stays (v w : MutView) : Type 0 where
  terms : w.terms ≡ v.terms
  number : w.gate.number ≡ v.gate.number
  split : w.gate.split ≡ v.gate.split
  hands : w.hands ≡ v.hands
  entries : w.journal.entries ≡ v.journal.entries
  goes_on : IsPrefix v.journal.seen w.journal.seen

took_stays : (b : Bool) (word : ℕ) (seen : List Event) (v : MutView) → IsPrefix v.journal.seen seen → Stays v (took b word seen v)
took_stays true word seen v goes = record { terms = refl; number = refl; split = refl; hands = refl; entries = refl; goes_on = goes }
took_stays false word seen v goes = record { terms = refl; number = refl; split = refl; hands = refl; entries = refl; goes_on = prefix_self v.journal.seen }

saw_stays : (b : Bool) (k word : ℕ) (seen : List Event) (v : MutView) → IsPrefix v.journal.seen seen → Stays v (saw_flag b k word seen v)
saw_stays true k word seen v goes = record { terms = refl; number = refl; split = refl; hands = refl; entries = refl; goes_on = goes }
saw_stays false k word seen v goes = record { terms = refl; number = refl; split = refl; hands = refl; entries = refl; goes_on = prefix_self v.journal.seen }

later_of : (before after : SeatValue) → IsSameSeat before after → Stays before.view after.view → IsLater before after
later_of before after same stays = record {
  table = same.table;
  id = same.id;
  terms = stays.terms;
  number = stays.number;
  split = stays.split;
  hands = stays.hands;
  entries = stays.entries;
  goes_on = stays.goes_on;
}

seen_of : (before after : SeatValue) (clear : List ℕ) → Stays before.view after.view → after.view.gate.clear ≡ clear
    → after.view.gate.phase ≡ closer_phase before.view.terms.sizes.mutators before.view.gate.number clear → HasSeen after clear
seen_of before after clear stays is_clear is_phase = record {
  clear_is = is_clear;
  phase_is = is_phase ∙ (λ i. closer_phase (sym stays.terms i).sizes.mutators (sym stays.number i) clear);
}

module _ (before after : SeatValue) (same : IsSameSeat before after) (found : FindsAndLearns took_gate before.view after.view) where
  took_all : Stays before.view after.view
  took_all = subst (Stays before.view) (sym found.view) (took_stays (found.word == 0) found.word found.seen before.view found.goes_on)

  pub take_later : IsLater before after
  take_later = later_of before after same took_all

  -- where the closing word was 0 the seat has it, and has seen no flag yet
  pub take_seen : after.view.tally.found ≡ Some 0 → HasSeen after []
  take_seen zero_found =
      let word_is : found.word ≡ 0 = some_is found.word 0 (sym (ap (λ (v : MutView). v.tally.found) found.view) ∙ zero_found) in
      let view : after.view ≡ took true found.word found.seen before.view = found.view ∙ ap (λ b. took b found.word found.seen before.view) (eq-eqb found.word 0 word_is) in
      seen_of before after [] took_all (ap (λ (v : MutView). v.gate.clear) view) (ap (λ (v : MutView). v.gate.phase) view)

  -- else it is where it was
  pub take_missed : after.view.tally.found ≢ Some 0 → after.view.gate.phase ≡ before.view.gate.phase
  take_missed not_zero =
      let apart : found.word ≢ 0 = λ e. not_zero (ap (λ (v : MutView). v.tally.found) found.view ∙ ap Some e) in
      ap (λ (v : MutView). v.gate.phase) (found.view ∙ ap (λ b. took b found.word found.seen before.view) (ne_eqb found.word 0 apart))

module _ (k : ℕ) (before after : SeatValue) (same : IsSameSeat before after) (found : FindsAndLearns (saw k) before.view after.view) where
  saw_all : Stays before.view after.view
  saw_all = subst (Stays before.view) (sym found.view) (saw_stays (found.word == 0) k found.word found.seen before.view found.goes_on)

  pub see_later : IsLater before after
  see_later = later_of before after same saw_all

  -- where the flag was 0, it is seen
  pub see_seen : after.view.tally.found ≡ Some 0 → HasSeen after (k ∷ before.view.gate.clear)
  see_seen zero_found =
      let word_is : found.word ≡ 0 = some_is found.word 0 (sym (ap (λ (v : MutView). v.tally.found) found.view) ∙ zero_found) in
      let view : after.view ≡ saw_flag true k found.word found.seen before.view = found.view ∙ ap (λ b. saw_flag b k found.word found.seen before.view) (eq-eqb found.word 0 word_is) in
      seen_of before after (k ∷ before.view.gate.clear) saw_all (ap (λ (v : MutView). v.gate.clear) view) (ap (λ (v : MutView). v.gate.phase) view)

  -- else the seat has seen what it had
  pub see_missed : after.view.tally.found ≢ Some 0 → after.view.gate ≡ before.view.gate
  see_missed not_zero =
      let apart : found.word ≢ 0 = λ e. not_zero (ap (λ (v : MutView). v.tally.found) found.view ∙ ap Some e) in
      ap (λ (v : MutView). v.gate) (found.view ∙ ap (λ b. saw_flag b k found.word found.seen before.view) (ne_eqb found.word 0 apart))

-- From what a step tells its seat to what contracts say of it.
use Rattle.std.proofs.Common.{◌≡◌, ℕ, ◌+◌, ◌==◌, ◌<◌, ◌≤◌, IsTrue, Bool, true, false, List, Option, Some, sym, refl, ap, subst, ◌∙◌}
use Rattle.std.proofs.Common.{arith}
use Rattle.std.proofs.lemmas.Bool.Decides.{nat_tests}
use mathlib.Core.Logic.{◌↔◌}
use mathlib.Core.List.{IsPrefix}
use Rattle.st_layout.specs.declared.plans.Plan.{Plan}
use Rattle.st_layout.specs.Names.{FlagWord}
use Rattle.st_layout.specs.Layout.{word_of}
use Rattle.st_events.specs.declared.events.Event.{Event}
use Rattle.st_events.specs.declared.limits.Sizes.{Sizes}
use Rattle.st_events.specs.Legal.{IsLegal}
use Rattle.st_rule.specs.declared.views.Entry.{Entry}
use Rattle.st_rule.specs.declared.views.MutView.{MutView}
use Rattle.st_rule.specs.declared.views.View.TheVariants.{Mut}
use Rattle.st_rule.specs.Plays.{Seated, Becomes, Learns, Finds, FindsAndLearns}
use Rattle.st_rule.specs.declared.views.Held.{Held}
use Rattle.st_rule.specs.declared.views.Terms.{Terms}
use Rattle.st_layout.specs.Names.{cells_of}
use Rattle.st_events.specs.Shape.{IsWithinLimits}
use Rattle.st_events.specs.Sizes.{AreWithinLimits}
use Rattle.st_rule.specs.Board.{plan_of}
use Rattle.st_rule.specs.Entries.{own_entries, charge_of_all, news_among, charge_spent, objects_made, whole_charge, whole_region}
use Rattle.st_rule.specs.SeatValue.{IsFairView, KeepsSeat}
use Rattle.st_rule.specs.Turns.{looked_at, took, took_gate, saw_flag, saw, number_of_flag}
use Rattle.st_rule.specs.Views.{mutator_of}

-- what a step that draws nothing leaves of what the seat's struct keeps
pub record Steady (v w : MutView) : Type 0 where
  pub terms : w.terms ≡ v.terms
  pub number : w.gate.number ≡ v.gate.number
  pub entries : w.journal.entries ≡ v.journal.entries

steady_count : {v w : MutView} (P : List Entry → Sizes → ℕ → Type 0) → Steady v w → P v.journal.entries v.terms.sizes v.gate.number → P w.journal.entries w.terms.sizes w.gate.number
steady_count P steady p = subst (λ (t : List Entry × Sizes × ℕ). P t.0 t.1 t.2) (λ k. (sym steady.entries k, (sym steady.terms k).sizes, sym steady.number k)) p

-- the new view is fair where what it has seen is, and what it holds is within the table
pub fair_after :
    (v w : MutView) → Steady v w → IsFairView v
    → IsLegal v.terms.shape v.terms.sizes w.journal.seen
    → own_entries v.gate.number 0 w.journal.seen ≡ v.journal.entries
    → ((h : Held) → w.held ≡ Some h → h.object < cells_of (plan_of v.terms.sizes))
    → IsFairView w
fair_after v w steady fair legal own held = record {
  within = subst (λ (t : ℕ × Terms). t.0 ≤ t.1.sizes.mutators) (λ k. (sym steady.number k, sym steady.terms k)) fair.within;
  shape_fits = subst (λ t. IsWithinLimits t.shape) (sym steady.terms) fair.shape_fits;
  sizes_fit = subst (λ t. AreWithinLimits t.sizes) (sym steady.terms) fair.sizes_fit;
  legal = subst (λ t. IsLegal t.shape t.sizes w.journal.seen) (sym steady.terms) legal;
  own = ap (λ n. own_entries n 0 w.journal.seen) steady.number ∙ own ∙ sym steady.entries;
  held_within = subst (λ t. (h : Held) → w.held ≡ Some h → h.object < cells_of (plan_of t.sizes)) (sym steady.terms) held;
}

-- the same where the hand is as it was
pub held_same : (v w : MutView) → w.held ≡ v.held → IsFairView v → (h : Held) → w.held ≡ Some h → h.object < cells_of (plan_of v.terms.sizes)
held_same v w same fair h is = fair.held_within h (sym same ∙ is)

-- a look leaves the seat's terms, its number and its entries
pub looked_steady : (b : Bool) (word : ℕ) (v : MutView) → Steady v (looked_at b word v)
looked_steady true word v = record { terms = refl; number = refl; entries = refl }
looked_steady false word v = record { terms = refl; number = refl; entries = refl }

took_steady : (b : Bool) (word : ℕ) (seen : List Event) (v : MutView) → Steady v (took b word seen v)
took_steady true word seen v = record { terms = refl; number = refl; entries = refl }
took_steady false word seen v = record { terms = refl; number = refl; entries = refl }

-- a list that the view had seen, or the one that the step showed, is as is asked of it
took_seen : (P : List Event → Type 0) (b : Bool) (word : ℕ) (seen : List Event) (v : MutView) → P seen → P v.journal.seen → P (took b word seen v).journal.seen
took_seen P true word seen v new old = new
took_seen P false word seen v new old = old

saw_steady : (b : Bool) (n word : ℕ) (seen : List Event) (v : MutView) → Steady v (saw_flag b n word seen v)
saw_steady true n word seen v = record { terms = refl; number = refl; entries = refl }
saw_steady false n word seen v = record { terms = refl; number = refl; entries = refl }

saw_seen : (P : List Event → Type 0) (b : Bool) (n word : ℕ) (seen : List Event) (v : MutView) → P seen → P v.journal.seen → P (saw_flag b n word seen v).journal.seen
saw_seen P true n word seen v new old = new
saw_seen P false n word seen v new old = old

-- the number whose flag a place is
pub number_of_place : (plan : Plan) (n place : ℕ) → place ≡ word_of plan (FlagWord n) → number_of_flag place ≡ n
unfolding word_of
number_of_place plan n place is = omega (arith, is)

module _ {before : Seated} {number spare room capacity : ℕ} {entries : List Entry} (keeps : KeepsSeat before number spare room entries capacity) where
  abbrev pub v : MutView
  v = mutator_of before.0

  pub v_is : before.0 ≡ Mut v
  v_is = ap (λ m. m.0) keeps.mutator

  module _ {after : Seated} where
    pub seat_kept : (w : MutView) → after.0 ≡ Mut w → after.1 ≡ before.1 → Steady v w → IsFairView w → KeepsSeat after number spare room entries capacity
    seat_kept w is slots steady fair =
        let same : w ≡ mutator_of after.0 = sym (ap mutator_of is) in
        let view : (P : MutView → Type 0) → P w → P (mutator_of after.0) = λ P p. subst P same p in
        record {
          mutator = λ k. ((is ∙ ap Mut same) k, (slots ∙ ap (λ m. m.1) keeps.mutator) k);
          fair = view IsFairView fair;
          number_is = keeps.number_is ∙ sym steady.number ∙ ap (λ (u : MutView). u.gate.number) same;
          entries_are = keeps.entries_are ∙ sym steady.entries ∙ ap (λ (u : MutView). u.journal.entries) same;
          reserved = keeps.reserved;
          spare_is = view (λ u. spare + charge_spent u ≡ whole_charge u.terms.sizes u.gate.number)
              (steady_count (λ es sizes n. spare + charge_of_all es ≡ whole_charge sizes n) steady keeps.spare_is);
          room_is = view (λ u. room + objects_made u ≡ whole_region u.terms.sizes u.gate.number)
              (steady_count (λ es sizes n. room + news_among es ≡ whole_region sizes n) steady keeps.room_is);
        }

    -- a step that leaves the list seen, and holds nothing else than before
    pub kept_with :
        (change : ℕ → MutView → MutView) (word : ℕ)
        → Becomes change before word after → Steady v (change word v) → (change word v).journal.seen ≡ v.journal.seen
        → ((h : Held) → (change word v).held ≡ Some h → h.object < cells_of (plan_of v.terms.sizes))
        → KeepsSeat after number spare room entries capacity
    kept_with change word becomes steady same held = seat_kept (change word v) (becomes.view v v_is) becomes.slots steady
        (fair_after v (change word v) steady keeps.fair (subst (IsLegal v.terms.shape v.terms.sizes) (sym same) keeps.fair.legal)
        (ap (own_entries v.gate.number 0) same ∙ keeps.fair.own) held)

    pub kept_at :
        (change : ℕ → MutView → MutView) (word : ℕ)
        → Becomes change before word after → Steady v (change word v) → (change word v).journal ≡ v.journal → (change word v).held ≡ v.held
        → KeepsSeat after number spare room entries capacity
    kept_at change word becomes steady same held = kept_with change word becomes steady (ap (λ j. j.seen) same) (held_same v (change word v) held keeps.fair)

    pub changed_at : (change : ℕ → MutView → MutView) (word : ℕ) → Becomes change before word after → (old : MutView) → v ≡ old → Finds change old (mutator_of after.0)
    changed_at change word becomes old is = record { word = word; view = ap mutator_of (becomes.view v v_is) ∙ ap (change word) is }

    -- a step that may show more of the journal
    pub learned_at :
        (change : ℕ → List Event → MutView → MutView) (word : ℕ) → Learns change before word after
        → (old : MutView) → v ≡ old → FindsAndLearns change old (mutator_of after.0)
    learned_at change word learns old is = record {
      word = word;
      seen = learns.seen;
      view = ap mutator_of (learns.view v v_is) ∙ ap (change word learns.seen) is;
      goes_on = subst (λ (u : MutView). IsPrefix u.journal.seen learns.seen) is (learns.goes_on v v_is);
      legal = subst (λ (u : MutView). IsLegal u.terms.shape u.terms.sizes learns.seen) is (learns.legal v v_is);
      own = subst (λ (u : MutView). own_entries u.gate.number 0 learns.seen ≡ u.journal.entries) is (learns.own v v_is);
    }

    -- close
    pub took_kept : (word : ℕ) → Learns took_gate before word after → KeepsSeat after number spare room entries capacity
    took_kept word learns = let steady = took_steady (word == 0) word learns.seen v in
        seat_kept (took_gate word learns.seen v) (learns.view v v_is) learns.slots steady
        (fair_after v (took_gate word learns.seen v) steady keeps.fair
        (took_seen (IsLegal v.terms.shape v.terms.sizes) (word == 0) word learns.seen v (learns.legal v v_is) keeps.fair.legal)
        (took_seen (λ es. own_entries v.gate.number 0 es ≡ v.journal.entries) (word == 0) word learns.seen v (learns.own v v_is) keeps.fair.own)
        (held_same v (took_gate word learns.seen v) refl keeps.fair))

    -- see
    pub saw_kept : (n word : ℕ) → Learns (saw n) before word after → KeepsSeat after number spare room entries capacity
    saw_kept n word learns = let steady = saw_steady (word == 0) n word learns.seen v in
        seat_kept (saw n word learns.seen v) (learns.view v v_is) learns.slots steady
        (fair_after v (saw n word learns.seen v) steady keeps.fair
        (saw_seen (IsLegal v.terms.shape v.terms.sizes) (word == 0) n word learns.seen v (learns.legal v v_is) keeps.fair.legal)
        (saw_seen (λ es. own_entries v.gate.number 0 es ≡ v.journal.entries) (word == 0) n word learns.seen v (learns.own v v_is) keeps.fair.own)
        (held_same v (saw n word learns.seen v) refl keeps.fair))

some_is : (a b : ℕ) → Some a ≡ Some b → a ≡ b
some_is a b e = cc

T-is : (word : ℕ) → IsTrue (word == 0) → word ≡ 0
T-is word t = grind (arith, nat_tests)

is-T : (word : ℕ) → word ≡ 0 → IsTrue (word == 0)
is-T word e = grind (arith, nat_tests)

-- the answer of a step that asks whether the word is 0
pub answers_zero : (word : ℕ) (found : Option ℕ) → found ≡ Some word → IsTrue (word == 0) ↔ (found ≡ Some 0)
answers_zero word found is = ((λ zero_found. is ∙ ap Some (T-is word zero_found)), (λ zero_kept. is-T word (some_is word 0 (sym is ∙ zero_kept))))

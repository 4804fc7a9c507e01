-- At the close the main thread's seat has seen the whole journal.
use Rattle.std.proofs.Common.{◌≡◌, ℕ, zero, suc, ◌+◌, ◌-◌, ◌^◌, ◌<◌, ◌≤◌, ◌==◌, ◌||◌, Bool, true, false, List, [], ◌∷◌, length, map}
use Rattle.std.proofs.Common.{get_or, sym, refl, ap, subst, ◌∙◌, arith, ⊎_elim, inl, inr}
use Rattle.std.specs.Prelude.{◌⊎◌}
use Rattle.std.proofs.lemmas.Bool.Decides.{nat_tests}
use mathlib.Core.Logic.{dite}
use native.Mathlib.Decide.{ℕ_discrete}
use mathlib.Core.Option.{some, some-injective, some-ne-none}
use lib.ListN.{get_elem?}
use Rattle.atomic_table.specs.Table.{State, Final, Seen}
use Rattle.st_layout.specs.Layout.{word_of}
use Rattle.st_layout.specs.Names.{ClockWord, AvailableWord, RowWord, HasWord}
use Rattle.st_layout.specs.Packed.{high_half, low_half}
use Rattle.st_events.specs.History.{epoch_of, active_checks, kept_rows}
use Rattle.st_events.specs.Legal.{IsLegal}
use Rattle.st_events.specs.World.{is_among}
use Rattle.st_rule.specs.declared.views.JoinedView.{JoinedView}
use Rattle.st_rule.specs.declared.views.MutView.{MutView}
use Rattle.st_rule.specs.declared.views.View.{View}
use Rattle.st_rule.specs.declared.views.View.TheVariants.{Mut, Gone}
use Rattle.st_rule.specs.Board.{plan_of}
use Rattle.st_rule.specs.Ends.{IsHistoryOf, HasLogs}
use Rattle.st_rule.specs.Entries.{own_entries}
use Rattle.st_rule.specs.Parts.{Sits}
use Rattle.st_rule.specs.Rule.{Told, Moment, HoldsAt, IsSoundTable, world_of}
use Rattle.st_rule.specs.Rows.{IsUnretired, rows_told, row_word}
use Rattle.st_rule.specs.Seats.{HasJoinedAll, HasSeenAll}
use Rattle.st_rule.specs.SeatValue.{SeatValue}
use Rattle.st_rule.proofs.PrefixLemmas.{prefix_whole}
use Rattle.st_rule.proofs.ReachLemmas.{sound}
use Rattle.st_rule.proofs.RowLemmas.{row_is, none_retired}
use Rattle.st_rule.proofs.ViewLemmas.{sits_once, mut_is, gone_is_no_mutator}

-- where a seat has seen as many events as the clock counts, it has seen the whole journal
pub sees_all : (told : Told) (seat : SeatValue) (clock : ℕ) → high_half clock ≡ length seat.view.journal.seen → HasSeenAll told seat clock
sees_all told seat clock counts m words views h sits is_clock =
    let same : length m.journal ≡ length seat.view.journal.seen = sym h.journal_part.tickets ∙ ap high_half is_clock ∙ counts in
    sym (prefix_whole seat.view.journal.seen m.journal (h.journal_part.prefixes seat.id (Mut seat.view) sits) (omega (arith, same)))

-- how many copies are left and how many rows are kept, where so many were listed and so many drawn
left_and_kept :
    (available drawn kept copies : ℕ) → (drawn ≤ available → kept + available ≡ copies + drawn) → (available ≤ drawn → kept ≡ copies)
    → (available - drawn) + kept ≡ copies
left_and_kept available drawn kept copies some_left none_left = ⊎_elim
    (λ below. omega (arith, below, some_left below))
    (λ beyond. omega (arith, beyond, none_left beyond))
    (le_or_ge drawn available)
  where
    le_or_ge : (a b : ℕ) → (a ≤ b) ⊎ (b ≤ a)
    le_or_ge a b = grind arith

first_or_rest : (a b : Bool) → (a || b) ≡ true → (a ≡ true) ⊎ (b ≡ true)
first_or_rest true b e = inl refl
first_or_rest false b e = inr e

numbers_same : (a b : ℕ) → (a == b) ≡ true → a ≡ b
numbers_same a b e = grind (arith, nat_tests)

-- a number among those that were joined is that of some joined seat
joined_at : (joined : List JoinedView) (n : ℕ) (d : JoinedView) → is_among (map (λ j. j.number) joined) n ≡ true → (k : ℕ) × (k < length joined) × ((get_or joined k d).number ≡ n)
joined_at [] n d e = absurd cc
joined_at (j ∷ joined) n d e = ⊎_elim
    (λ here. (0, omega arith, numbers_same j.number n here))
    (λ rest. let r = joined_at joined n d rest in (suc r.0, omega (arith, r.1), r.2))
    (first_or_rest (j.number == n) (is_among (map (λ j. j.number) joined) n) e)

module _ (told : Told) (id : ℕ) (v : MutView) (m : Moment) (words : List ℕ) (views : List View) (h : HoldsAt told m words views) (sits : Sits views id (Mut v))
    (is_main : v.gate.number ≡ told.terms.sizes.mutators) (all_joined : HasJoinedAll v) where
  -- no other mutator's seat is left
  alone_left : (j : ℕ) (u : MutView) → Sits views j (Mut u) → j ≡ id
  alone_left j u there = dite (ℕ_discrete u.gate.number v.gate.number)
      (λ same. sym (h.gate_part.one_view_each j u there) ∙ ap m.seat same ∙ h.gate_part.one_view_each id v sits)
      (λ other.
      let within = h.seating.numbers j u there in
      let below : u.gate.number < told.terms.sizes.mutators = omega (arith, within, is_main, other) in
      let split : u.gate.number < v.gate.split = subst (λ k. u.gate.number < k) (sym (h.seating.counts id v sits is_main)) (h.gate_part.split_off j u there below) in
      let at = joined_at v.hands.joined u.gate.number (record { number = 0; seen = []; entries = [] }) (all_joined u.gate.number split) in
      let joined = h.hand_part.joined id v sits at.0 (record { number = 0; seen = []; entries = [] }) at.1 in
      let gone : Sits views j Gone = subst (λ k. Sits views k Gone) (ap m.seat at.2 ∙ h.gate_part.one_view_each j u there) joined.gone in
      absurd (gone_is_no_mutator u (sits_once views j Gone (Mut u) gone there)))

  -- so it has seen the whole journal
  pub saw_all : m.journal ≡ v.journal.seen
  saw_all =
      let whole = h.journal_part.seen_whole in
      let here = subst (λ k. Sits views k (Mut whole.1)) (alone_left whole.0 whole.1 whole.2) whole.2 in
      sym whole.3 ∙ ap (λ (u : MutView). u.journal.seen) (mut_is whole.1 v (sits_once views id (Mut whole.1) (Mut v) here sits))

  pub is_history : IsHistoryOf told v.journal.seen
  is_history = record { moment = m; words = words; views = views; holds = h; journal_is = saw_all }

  -- the logs are its own events
  pub has_logs : HasLogs v.journal.seen v.hands.joined
  has_logs = λ k d within. ap (own_entries (get_or v.hands.joined k d).number 0) (sym saw_all) ∙ (h.hand_part.joined id v sits k d within).own

  -- the clock counts its events
  pub clock_counts : high_half (get_or words (word_of (plan_of told.terms.sizes) ClockWord) 0) ≡ length v.journal.seen
  clock_counts = ap high_half (h.displayed.says ClockWord tt) ∙ h.journal_part.tickets ∙ ap length saw_all

  -- the free copies and the rows kept number all copies
  pub copies_counted :
      (get_or words (word_of (plan_of told.terms.sizes) AvailableWord) 0 - low_half (get_or words (word_of (plan_of told.terms.sizes) ClockWord) 0))
      + length (kept_rows told.terms.shape told.terms.sizes v.journal.seen) ≡ told.terms.sizes.copies
  copies_counted =
      let available = h.displayed.says AvailableWord tt in
      let clock = h.displayed.says ClockWord tt in
      let journal = sym saw_all in
      (λ i. (available i - low_half (clock i)) + length (kept_rows told.terms.shape told.terms.sizes (journal i)))
      ∙ left_and_kept (m.board AvailableWord) (low_half (m.board ClockWord)) (length (world_of told.terms m).kept) told.terms.sizes.copies
      h.copy_part.some_left h.copy_part.none_left

  -- the free list is short
  pub few_listed : get_or words (word_of (plan_of told.terms.sizes) AvailableWord) 0 < 2 ^ 32
  few_listed = omega (arith, h.displayed.says AvailableWord tt, h.copy_part.listed, h.limits.copies)

  -- where no check is active no row is kept
  pub none_kept : active_checks told.terms.shape told.terms.sizes v.journal.seen ≡ [] → kept_rows told.terms.shape told.terms.sizes v.journal.seen ≡ []
  none_kept = subst (λ es. active_checks told.terms.shape told.terms.sizes es ≡ [] → kept_rows told.terms.shape told.terms.sizes es ≡ []) saw_all
      (sound told id v m words views h sits).rows.none_idle

  -- the row of a check that was not retired is all 0
  pub rows_unwritten :
      (check k : ℕ) → HasWord (plan_of told.terms.sizes) (RowWord check k) → IsUnretired v.journal.seen check
      → row_word (rows_told (plan_of told.terms.sizes) words) check k ≡ 0
  rows_unwritten check k has none =
      row_is (plan_of told.terms.sizes) words check k
      ∙ h.displayed.says (RowWord check k) has ∙ h.row_part.unwritten check k (subst (λ es. IsUnretired es check) (sym saw_all) none)

get_there : (l : List ℕ) (i a : ℕ) → get_elem? l i ≡ some a → get_or l i 0 ≡ a
get_there [] i a e = absurd (some-ne-none a (sym e))
get_there (x ∷ xs) zero a e = some-injective x a e
get_there (x ∷ xs) (suc i) a e = get_there xs i a e

-- what the words and the views are when nobody steps any more
module _ (told : Told) (id : ℕ) (v : MutView) (is_main : v.gate.number ≡ told.terms.sizes.mutators) (all_joined : HasJoinedAll v)
    (words : List ℕ) (slots : List (Unit {0})) (final : Final (Seen (IsSoundTable told) id (Mut v)) words slots) where
  abbrev s : State Unit View
  s = final.0

  abbrev m : Moment
  m = final.1.0.0

  abbrev h : HoldsAt told m s.words s.views
  h = final.1.0.1

  pub final_history : IsHistoryOf told v.journal.seen
  final_history = is_history told id v m s.words s.views h final.1.1 is_main all_joined

  pub final_logs : HasLogs v.journal.seen v.hands.joined
  final_logs = has_logs told id v m s.words s.views h final.1.1 is_main all_joined

  word_is : (place word : ℕ) → get_elem? words place ≡ some word → get_or s.words place 0 ≡ word
  word_is place word found = ap (λ ws. get_or ws place 0) final.2 ∙ get_there words place word found

  pub final_clock : (place word : ℕ) → place ≡ word_of (plan_of told.terms.sizes) ClockWord → get_elem? words place ≡ some word → high_half word ≡ length v.journal.seen
  final_clock place word is_place found =
      ap high_half (sym (word_is place word found) ∙ ap (λ i. get_or s.words i 0) is_place) ∙ clock_counts told id v m s.words s.views h final.1.1 is_main all_joined

  pub final_copies :
      (place word clock_place clock : ℕ) → place ≡ word_of (plan_of told.terms.sizes) AvailableWord → get_elem? words place ≡ some word
      → clock_place ≡ word_of (plan_of told.terms.sizes) ClockWord → get_elem? words clock_place ≡ some clock
      → (word - low_half clock) + length (kept_rows told.terms.shape told.terms.sizes v.journal.seen) ≡ told.terms.sizes.copies
  final_copies place word clock_place clock is_place found is_clock_place found_clock =
      let available = sym (word_is place word found) ∙ ap (λ i. get_or s.words i 0) is_place in
      let drawn = ap low_half (sym (word_is clock_place clock found_clock) ∙ ap (λ i. get_or s.words i 0) is_clock_place) in
      (λ i. (available i - drawn i) + length (kept_rows told.terms.shape told.terms.sizes v.journal.seen))
      ∙ copies_counted told id v m s.words s.views h final.1.1 is_main all_joined

  pub final_few : (place word : ℕ) → place ≡ word_of (plan_of told.terms.sizes) AvailableWord → get_elem? words place ≡ some word → word < 2 ^ 32
  final_few place word is_place found =
      subst (λ k. k < 2 ^ 32) (sym (sym (word_is place word found) ∙ ap (λ i. get_or s.words i 0) is_place))
      (few_listed told id v m s.words s.views h final.1.1 is_main all_joined)

  pub final_idle : active_checks told.terms.shape told.terms.sizes v.journal.seen ≡ [] → kept_rows told.terms.shape told.terms.sizes v.journal.seen ≡ []
  final_idle = none_kept told id v m s.words s.views h final.1.1 is_main all_joined

  pub final_rows :
      (check k : ℕ) → HasWord (plan_of told.terms.sizes) (RowWord check k) → IsUnretired v.journal.seen check
      → row_word (rows_told (plan_of told.terms.sizes) words) check k ≡ 0
  final_rows check k has none =
      ap (λ ws. row_word (rows_told (plan_of told.terms.sizes) ws) check k) (sym final.2) ∙ rows_unwritten told id v m s.words s.views h final.1.1 is_main all_joined check k has none

  pub final_no_rows :
      epoch_of told.terms.shape told.terms.sizes v.journal.seen ≡ 0
      → (check k : ℕ) → HasWord (plan_of told.terms.sizes) (RowWord check k)
      → row_word (rows_told (plan_of told.terms.sizes) words) check k ≡ 0
  final_no_rows none check k has =
      final_rows check k has (none_retired told.terms.shape told.terms.sizes h.shape_limits v.journal.seen
      (subst (IsLegal told.terms.shape told.terms.sizes) (saw_all told id v m s.words s.views h final.1.1 is_main all_joined) h.journal_part.legal) none check)

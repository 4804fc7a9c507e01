-- The draw of an event keeps the rule, whatever the table is when the clock changes.
use Rattle.std.proofs.Common.{◌≡◌, ◌≢◌, ℕ, suc, ◌+◌, ◌%◌, ◌^◌, ◌<◌, ◌≤◌, Bool, true, false, if◌then◌else◌, List}
use Rattle.std.proofs.Common.{[], ◌∷◌, ◌++◌, length, get_or, set}
use Rattle.std.proofs.Common.{Option, Some, sym, refl, ap, subst, ◌∙◌, arith, ⊎_elim, inl, inr, length-append}
use Rattle.std.specs.Prelude.{All}
use mathlib.Core.Logic.{dite}
use mathlib.Core.List.{IsPrefix}
use mathlib.Core.Option.{some}
use native.Mathlib.Decide.{ℕ_discrete}
use Rattle.atomic_table.specs.Table.{keeps, Allows}
use Rattle.st_layout.specs.Names.{ClosingWord, ClockWord, EpochWord, AvailableWord, FlagWord, LaneWord, ClassWord, HeaderWord, ForwardWord, FieldWord, RowWord}
use Rattle.st_layout.specs.Layout.{word_of}
use Rattle.st_layout.specs.Packed.{packed, high_half, low_half}
use Rattle.st_events.specs.declared.events.Event.{Event}
use Rattle.st_events.specs.declared.events.Event.TheVariants.{New, Load, Store, Cas, Launch, Retire}
use Rattle.st_events.specs.History.{is_own}
use Rattle.st_events.specs.Legal.{IsLegal}
use Rattle.st_events.specs.World.{World, world_after, next, at, is_among}
use Rattle.st_events.proofs.LegalLemmas.{one_more_is_legal}
use Rattle.st_events.proofs.WorldLemmas.{world_after_one_more}
use Rattle.st_rule.specs.declared.views.Held.{Held}
use Rattle.st_rule.specs.declared.views.JoinedView.{JoinedView}
use Rattle.st_rule.specs.declared.views.MutView.{MutView}
use Rattle.st_rule.specs.declared.views.Phase.{Phase}
use Rattle.st_rule.specs.declared.views.Phase.TheVariants.{Outside, Entering, Inside, Closing, Alone}
use Rattle.st_rule.specs.declared.views.Terms.{Terms}
use Rattle.st_rule.specs.declared.views.View.{View}
use Rattle.st_rule.specs.declared.views.View.TheVariants.{Mut, Gone}
use Rattle.st_rule.specs.Board.{Board, Displays, plan_of, written, same_name}
use Rattle.st_rule.specs.Draws.{MayDraw, drew, drawn_hand, left_in_flight}
use Rattle.st_rule.specs.Entries.{own_entries, charge_of, charge_of_all, charge_below}
use Rattle.st_rule.specs.Board.{stays_loaded}
use Rattle.st_rule.specs.Parts.{Sits, JournalPart, GatePart, BoardPart, LoadedPart, HasLoaded, ObjectPart, HandPart, IsJoined, Seating}
use Rattle.st_rule.specs.Plays.{Seated, Draws}
use Rattle.st_rule.specs.Rule.{Told, Moment, HoldsAt, IsSoundTable, world_of, flights_of, LanesAt, CopiesAt, KeptAt, ReadsAt}
use Rattle.st_rule.specs.Needs.{needing_lanes, copies_of}
use Rattle.st_rule.proofs.DrawVersions.{VersionsAfter, after_event, versions_drawn, copies_after}
use Rattle.st_rule.specs.Views.{seen_by, is_closer}
use Rattle.st_rule.proofs.DrawEvents.{suits_own, suits_other}
use Rattle.st_rule.proofs.DrawLegal.{legal_next, objects_next, epoch_same, active_same, launched_same, mutator}
use Rattle.st_rule.proofs.ReadLemmas.{lanes_stay, reading_on}
use Rattle.st_rule.proofs.RowLemmas.{rows_drawn, rows_stay}
use Rattle.st_rule.specs.Reading.{IsReading}
use Rattle.st_rule.proofs.EntryLemmas.{entry, own_more, own_other, charge_more, below_more}
use Rattle.st_rule.proofs.GateSteps.{learns, found_is, store_fits, journal_legal}
use Rattle.st_rule.proofs.LoadedLemmas.{written_else}
use Rattle.st_rule.proofs.PackedLemmas.{high_packed, low_packed, clock_sum}
use Rattle.st_rule.proofs.PrefixLemmas.{prefix_self, prefix_trans}
use Rattle.st_rule.proofs.ReachLemmas.{journal_short}
use Rattle.st_rule.proofs.TurnLemmas.{still_gone, seating_after}
use Rattle.st_rule.proofs.ViewLemmas.{set_there, sits_once, mut_is, gone_is_no_mutator, all_set, all_mut_set, at_here, at_else}

one_longer : {A : Type 0} (xs : List A) (x : A) → length (xs ++ x ∷ []) ≡ length xs + 1
one_longer xs x = length-append xs (x ∷ [])

-- each own event of a number costs something
charge_is : (n : ℕ) (e : Event) → is_own n e ≡ true → 1 ≤ charge_of e
charge_is n (New m obj class) own = omega arith
charge_is n (Load m obj field value) own = omega arith
charge_is n (Store m obj field value) own = omega arith
charge_is n (Cas m obj field expect value done) own = omega arith
charge_is n (Launch m number site args) own = omega arith
charge_is n (Retire m number) own = absurd (let f : false ≡ true = own in cc)

few_copies : (copy : Bool) → copies_of copy ≤ 1
few_copies true = omega arith
few_copies false = omega arith

not_alone_fleets : (p : Phase) → p ≢ Alone → stays_loaded p ClockWord ≡ false
not_alone_fleets Outside other = refl
not_alone_fleets Entering other = refl
not_alone_fleets Inside other = refl
not_alone_fleets Closing other = refl
not_alone_fleets Alone other = absurd (other refl)

module _ (told : Told) (id : ℕ) (v : MutView) (m : Moment) (words : List ℕ) (views : List View) (h : HoldsAt told m words views) (sits : Sits views id (Mut v))
    (event : Event) (copy : Bool) (may : MayDraw v event copy) (word : ℕ) (is_clock : word ≡ m.board ClockWord) where
  is_found : high_half word ≡ length m.journal
  is_found = ap high_half is_clock ∙ h.journal_part.tickets

  abbrev n : ℕ
  n = v.gate.number

  abbrev w : MutView
  w = drew event word m.journal v

  abbrev journal' : List Event
  journal' = m.journal ++ event ∷ []

  abbrev views' : List View
  views' = set views id (Mut w)

  abbrev before : World
  before = world_of told.terms m

  abbrev after : World
  after = next told.terms.shape told.terms.sizes before event

  pub world_is : world_after told.terms.shape told.terms.sizes journal' ≡ after
  world_is = world_after_one_more told.terms.shape told.terms.sizes m.journal event

  own : is_own n event ≡ true
  own = suits_own v may.hand event may.suits

  other : (k : ℕ) → k ≢ n → is_own k event ≡ false
  other k apart = suits_other v may.hand event may.suits k apart

  is_mutator : n < told.terms.sizes.mutators
  is_mutator = mutator told id v m words views h sits event copy may

  below_split : n < m.split
  below_split = h.gate_part.split_off id v sits is_mutator

  -- another seat has another number
  apart : (j : ℕ) (u : MutView) → j ≢ id → Sits views j (Mut u) → u.gate.number ≢ n
  apart j u not_id there same = not_id (sym (h.gate_part.one_view_each j u there) ∙ ap m.seat same ∙ h.gate_part.one_view_each id v sits)

  is_inside : m.phase n ≡ Inside
  is_inside = h.seating.phases id v sits ∙ may.inside

  -- while a seat is inside, nobody is alone
  none_alone : (j : ℕ) (u : MutView) → Sits views j (Mut u) → u.gate.phase ≢ Alone
  none_alone j u there alone = dite (ℕ_discrete n u.gate.number)
      (λ same.
      let e : Alone ≡ Inside = sym alone ∙ sym (h.seating.phases j u there) ∙ ap m.phase (sym same) ∙ is_inside in
      absurd (cc e))
      (λ differs.
      h.gate_part.clear j u there (ap is_closer alone) n (h.gate_part.alone_saw_all j u there alone n (h.seating.numbers id v sits) differs) is_inside)

  -- the length of the journal, and the clock
  short : length m.journal + 1 < 2 ^ 32
  short = journal_short told id v m words views h sits

  abbrev pub new_clock : ℕ
  new_clock = packed (high_half (m.board ClockWord) + 1) (low_half (m.board ClockWord) + copies_of copy)

  low_fits : low_half (m.board ClockWord) + copies_of copy < 2 ^ 32
  low_fits = omega (arith, h.journal_part.copies_drawn, few_copies copy, short)

  pub clock_is : (m.board ClockWord + packed 1 (copies_of copy)) % 2 ^ 64 ≡ new_clock
  clock_is = clock_sum (m.board ClockWord) (copies_of copy) (omega (arith, h.journal_part.tickets, short)) low_fits

  abbrev board' : Board
  board' = written ClockWord (packed (high_half (m.board ClockWord) + 1) (low_half (m.board ClockWord) + copies_of copy)) m.board

  -- the own events of each number
  own_here : own_entries n 0 journal' ≡ w.journal.entries
  own_here = own_more n m.journal event own ∙ (λ i. h.journal_part.own id v sits i ++ entry (sym is_found i) event ∷ [])

  own_there : (k : ℕ) → k ≢ n → own_entries k 0 journal' ≡ own_entries k 0 m.journal
  own_there k differs = own_other k m.journal event (other k differs)

  longer_prefix : IsPrefix m.journal journal'
  longer_prefix = (event ∷ [], refl)

  charged_after : (k : ℕ) → k < told.terms.sizes.mutators → charge_of_all (own_entries k 0 journal') ≤ told.terms.sizes.events
  charged_after k below = dite (ℕ_discrete k n)
      (λ same.
      let sum : charge_of_all (own_entries k 0 journal') ≡ charge_of_all v.journal.entries + charge_of event =
      ap (λ j. charge_of_all (own_entries j 0 journal')) same ∙ ap charge_of_all own_here ∙ charge_more v.journal.entries (high_half word) event in
      let most : charge_of_all v.journal.entries + charge_of event ≤ told.terms.sizes.events =
      subst (λ (t : Terms). charge_of_all v.journal.entries + charge_of event ≤ t.sizes.events) (h.seating.told id v sits) may.charge in
      omega (arith, sum, most))
      (λ differs. subst (λ es. charge_of_all es ≤ told.terms.sizes.events) (sym (own_there k differs)) (h.journal_part.charged k below))

  paid_after : length journal' + length (world_after told.terms.shape told.terms.sizes journal').active ≤ charge_below told.terms.sizes.mutators journal'
  paid_after =
      let more = below_more told.terms.sizes.mutators n m.journal event other own is_mutator in
      let active = ap (λ (x : World). length x.active) world_is ∙ ap length (active_same v may.hand told.terms.shape told.terms.sizes before event may.suits) in
      omega (arith, more, active, one_longer m.journal event, h.journal_part.paid, charge_is n event own)

  journal_after : JournalPart told.terms journal' (board' ClockWord) m.split views'
  journal_after = record {
    legal = one_more_is_legal told.terms.shape told.terms.sizes m.journal event h.journal_part.legal (legal_next told id v m words views h sits event copy may event may.suits);
    prefixes = all_set (λ j u. IsPrefix (seen_by u) journal') views id (Mut w) (prefix_self journal')
        (λ j u differs there. prefix_trans (seen_by u) m.journal journal' (h.journal_part.prefixes j u there) longer_prefix);
    seen_whole = (id, w, set_there views id (Mut v) (Mut w) sits, refl);
    tickets = high_packed (high_half (m.board ClockWord) + 1) (low_half (m.board ClockWord) + copies_of copy) low_fits
        ∙ ap (λ k. k + 1) h.journal_part.tickets ∙ sym (one_longer m.journal event);
    copies_drawn =
        let low = low_packed (high_half (m.board ClockWord) + 1) (low_half (m.board ClockWord) + copies_of copy) low_fits in
        omega (arith, low, h.journal_part.copies_drawn, few_copies copy, one_longer m.journal event);
    own = all_mut_set (λ j u. own_entries u.gate.number 0 journal' ≡ u.journal.entries) views id w own_here
        (λ j u differs there. own_there u.gate.number (apart j u differs there) ∙ h.journal_part.own j u there);
    own_seen = all_mut_set (λ j u. own_entries u.gate.number 0 u.journal.seen ≡ u.journal.entries) views id w own_here
        (λ j u differs there. h.journal_part.own_seen j u there);
    own_unsplit = λ k beyond below. own_there k (λ e. absurd (omega (arith, beyond, below_split, e))) ∙ h.journal_part.own_unsplit k beyond below;
    charged = charged_after;
    paid = paid_after;
  }

  gate_after : GatePart told.terms.sizes.mutators (λ k. board' (FlagWord k)) (board' ClosingWord) m.phase m.seat m.split journal' views'
  gate_after = record {
    flags = h.gate_part.flags;
    closer = h.gate_part.closer;
    nobody_closes = h.gate_part.nobody_closes;
    clear = all_mut_set (λ j u. is_closer u.gate.phase ≡ true → (k : ℕ) → is_among u.gate.clear k ≡ true → m.phase k ≢ Inside) views id w
        (h.gate_part.clear id v sits) (λ j u differs there. h.gate_part.clear j u there);
    alone_saw_all = all_mut_set (λ j u. u.gate.phase ≡ Alone → (k : ℕ) → k ≤ told.terms.sizes.mutators → k ≢ u.gate.number → is_among u.gate.clear k ≡ true) views id w
        (h.gate_part.alone_saw_all id v sits) (λ j u differs there. h.gate_part.alone_saw_all j u there);
    alone_saw_journal = all_mut_set (λ j u. u.gate.phase ≡ Alone → u.journal.seen ≡ journal') views id w
        (λ alone. absurd (none_alone id v sits alone)) (λ j u differs there alone. absurd (none_alone j u there alone));
    one_view_each = all_mut_set (λ j u. m.seat u.gate.number ≡ j) views id w (h.gate_part.one_view_each id v sits) (λ j u differs there. h.gate_part.one_view_each j u there);
    split_off = all_mut_set (λ j u. u.gate.number < told.terms.sizes.mutators → u.gate.number < m.split) views id w
        (h.gate_part.split_off id v sits) (λ j u differs there. h.gate_part.split_off j u there);
  }

  -- the parts on old versions
  versions : VersionsAfter told m (after_event told m event) (flights_of (at n (Some (record may.hand { flight = left_in_flight before.heap (needing_lanes v may.hand) (low_half word) event })) m.grip)
      (at may.hand.object (suc n) m.holder)) (copies_after told m may.hand.object)
      (written ClockWord (packed (high_half (m.board ClockWord) + 1) (low_half (m.board ClockWord) + copies_of copy)) m.board)
  versions = versions_drawn told id v m words views h sits event copy may (low_half word) (ap low_half is_clock)
      (packed (high_half (m.board ClockWord) + 1) (low_half (m.board ClockWord) + copies_of copy))
      (low_packed (high_half (m.board ClockWord) + 1) (low_half (m.board ClockWord) + copies_of copy) low_fits)

  board_next : BoardPart told.terms.sizes after (board' EpochWord) (λ l. board' (LaneWord l))
  board_next =
      let epoch = epoch_same v may.hand told.terms.shape told.terms.sizes before event may.suits in
      let active = active_same v may.hand told.terms.shape told.terms.sizes before event may.suits in
      record {
        epoch_is = h.board_part.epoch_is ∙ sym epoch;
        lanes = λ k is_active. h.board_part.lanes k (ap (λ ns. is_among ns k) (sym active) ∙ is_active);
        idle = λ l within. ⊎_elim (λ none. inl none) (λ one. inr (ap (λ ns. is_among ns (m.board (LaneWord l))) active ∙ one)) (h.board_part.idle l within);
      }

  loaded_after : LoadedPart (plan_of told.terms.sizes) board' views'
  loaded_after =
      let same : (j : ℕ) (u : MutView) → Sits views j (Mut u) → HasLoaded (plan_of told.terms.sizes) board' u =
      λ j u there name has keeps' x found.
      written_else u.gate.phase ClockWord name new_clock m.board (not_alone_fleets u.gate.phase (none_alone j u there)) keeps' (same_name name ClockWord) refl
      ∙ h.loaded_part.loaded j u there name has keeps' x found in
      record { loaded = all_mut_set (λ j u. HasLoaded (plan_of told.terms.sizes) board' u) views id w (same id v sits) (λ j u differs there. same j u there) }

  -- what was joined has no more events
  joined_after : (seen longer : List Event) (joined : List JoinedView) → IsPrefix seen longer → All (IsJoined m.seat m.split m.journal views seen) joined
      → All (IsJoined m.seat m.split journal' views' longer) joined
  joined_after seen longer joined goes all = λ k d within. let old = all k d within in
      let number : ℕ = (get_or joined k d).number in
      let gone_here : number ≢ n = λ e.
      gone_is_no_mutator v (sits_once views id Gone (Mut v) (subst (λ i. Sits views i Gone) (ap m.seat e ∙ h.gate_part.one_view_each id v sits) old.gone) sits) in
      record {
        goes_on = prefix_trans (get_or joined k d).seen seen longer old.goes_on goes;
        below = old.below;
        gone = still_gone views id v (Mut w) sits (m.seat number) old.gone;
        own = own_there number gone_here ∙ old.own;
      }

  hands_after : HandPart m.seat m.split journal' views'
  hands_after = record {
    joined = all_mut_set (λ j u. All (IsJoined m.seat m.split journal' views' u.journal.seen) u.hands.joined) views id w
        (joined_after v.journal.seen journal' v.hands.joined (prefix_trans v.journal.seen m.journal journal' (h.journal_part.prefixes id (Mut v) sits) longer_prefix)
        (h.hand_part.joined id v sits))
        (λ j u differs there. joined_after u.journal.seen u.journal.seen u.hands.joined (prefix_self u.journal.seen) (h.hand_part.joined j u there));
  }

  abbrev flown : Option Held
  flown = Some (record may.hand { flight = left_in_flight before.heap (needing_lanes v may.hand) (low_half word) event })

  flown_is : w.held ≡ Some (record may.hand { flight = left_in_flight before.heap (needing_lanes v may.hand) (low_half word) event })
  flown_is = (λ i. drawn_hand v (world_after (h.seating.told id v sits i).shape (h.seating.told id v sits i).sizes m.journal).heap (low_half word) event (may.held i))

  grip_here : at n (Some (record may.hand { flight = left_in_flight before.heap (needing_lanes v may.hand) (low_half word) event })) m.grip w.gate.number ≡ w.held
  grip_here = at_here n (Some (record may.hand { flight = left_in_flight before.heap (needing_lanes v may.hand) (low_half word) event })) m.grip ∙ sym flown_is

  abbrev pub drawn : Moment
  drawn = record m {
    board = written ClockWord (packed (high_half (m.board ClockWord) + 1) (low_half (m.board ClockWord) + copies_of copy)) m.board;
    journal = m.journal ++ event ∷ [];
    grip = at v.gate.number (Some (record may.hand { flight = left_in_flight before.heap (needing_lanes v may.hand) (low_half word) event })) m.grip;
    holder = at may.hand.object (suc v.gate.number) m.holder;
    copy_of = copies_after told m may.hand.object;
  }

  seating_next : Seating told.terms m.phase (at n (Some (record may.hand { flight = left_in_flight before.heap (needing_lanes v may.hand) (low_half word) event })) m.grip) m.seat m.split views'
  seating_next =
      let old = seating_after told m words views h id v w sits (record { terms = refl; number = refl; split = refl; joined = refl })
      (at n (Some (record may.hand { flight = left_in_flight before.heap (needing_lanes v may.hand) (low_half word) event })) m.grip) grip_here
      (λ k differs. at_else n (Some (record may.hand { flight = left_in_flight before.heap (needing_lanes v may.hand) (low_half word) event })) m.grip k differs) in
      record {
        phases = all_mut_set (λ j u. m.phase u.gate.number ≡ u.gate.phase) views id w (h.seating.phases id v sits) (λ j u differs there. h.seating.phases j u there);
        grips = old.grips;
        numbers = old.numbers;
        told = old.told;
        counts = old.counts;
        seated = λ k. ⊎_elim
            (λ out. dite (ℕ_discrete k n)
            (λ same. absurd (let e : Inside ≡ Outside = sym may.inside ∙ sym (at_here n v.gate.phase m.phase) ∙ ap (at n v.gate.phase m.phase) (sym same) ∙ out in cc e))
            (λ differs. inl (sym (at_else n v.gate.phase m.phase k differs) ∙ out)))
            (λ there. inr there)
            (old.seated k);
      }

  pub draw_holds : (words' : List ℕ) → Displays (plan_of told.terms.sizes) words' board' → HoldsAt told drawn words' views'
  draw_holds words' displays = record {
    limits = h.limits;
    shape_limits = h.shape_limits;
    displayed = displays;
    journal_part = journal_after;
    gate_part = gate_after;
    board_part = subst (λ x. BoardPart told.terms.sizes x (board' EpochWord) (λ l. board' (LaneWord l))) (sym world_is) board_next;
    loaded_part = loaded_after;
    object_part = subst (λ x. ObjectPart told.terms.sizes x m.phase (at n (Some (record may.hand { flight = left_in_flight before.heap (needing_lanes v may.hand) (low_half word) event })) m.grip)
        (at may.hand.object (suc n) m.holder) (λ o. m.board (HeaderWord o)) (λ o. m.board (ClassWord o)) (λ o f. m.board (FieldWord o f)) (λ o l. m.board (ForwardWord o l)))
        (sym world_is) (objects_next told id v m words views h sits event copy may (low_half word) event may.suits);
    lane_part = subst (λ x. LanesAt told.terms.sizes x board' (flights_of drawn.grip drawn.holder)) (sym world_is) versions.0;
    copy_part = subst (λ x. CopiesAt told.terms.sizes x board' m.since (flights_of drawn.grip drawn.holder)) (sym world_is) versions.1;
    kept_part = subst (λ x. KeptAt told.terms.sizes x board' (copies_after told m may.hand.object) (flights_of drawn.grip drawn.holder)) (sym world_is) versions.2;
    read_part = subst (λ x. ReadsAt told.terms x board' views') (sym world_is) (record {
      reads = lanes_stay views id w (λ j u. IsReading told.terms after (λ l. board' (LaneWord l)) (λ o l. board' (ForwardWord o l)) u)
          (λ j u there. reading_on told.terms before after (λ l. m.board (LaneWord l)) (λ l. board' (LaneWord l))
          (λ o l. m.board (ForwardWord o l)) (λ o l. board' (ForwardWord o l)) u
          (active_same v may.hand told.terms.shape told.terms.sizes before event may.suits) (launched_same v may.hand told.terms.shape told.terms.sizes before event may.suits)
          (λ l. refl) (λ o l epoch. refl) (h.read_part.reads j u there));
    });
    row_part = rows_drawn m.journal event (λ check k. board' (RowWord check k)) (rows_stay m.journal m.board board' (λ check k. refl) h.row_part);
    hand_part = hands_after;
    seating = seating_next;
  }

module _ (told : Told) (slots id : ℕ) (me : Seated) (v : MutView) (is : me.0 ≡ Mut v) where
  pub draw_keeps :
      (word k : ℕ) (event : Event) (copy : Bool) → word ≡ word_of (plan_of told.terms.sizes) ClockWord
      → k ≡ packed 1 (copies_of copy)
      → MayDraw v event copy
      → Allows (IsSoundTable told) slots id me word (λ n. (n + k) % 2 ^ 64) (Draws event me)
  draw_keeps word k event copy is_word is_k may s holds wide at_id _ =
      let sits : Sits s.views id (Mut v) = at_id ∙ ap some is in
      let m = holds.0 in
      let h = holds.1 in
      let found : ℕ = get_or s.words word 0 in
      let clock : found ≡ m.board ClockWord = found_is told id v m s.words s.views h sits word ClockWord is_word tt in
      let ticket : high_half found ≡ length m.journal = ap high_half clock ∙ h.journal_part.tickets in
      let value : (found + k) % 2 ^ 64 ≡ new_clock told id v m s.words s.views h sits event copy may found clock =
      (λ i. (clock i + is_k i) % 2 ^ 64) ∙ clock_is told id v m s.words s.views h sits event copy may found clock in
      let w = drew event found m.journal v in (
        Mut w,
        keeps,
        tt,
        (
          drawn told id v m s.words s.views h sits event copy may found clock,
          draw_holds told id v m s.words s.views h sits event copy may found clock (set s.words word ((found + k) % 2 ^ 64))
              (subst (λ x. Displays (plan_of told.terms.sizes) (set s.words word x)
              (written ClockWord (new_clock told id v m s.words s.views h sits event copy may found clock) m.board)) (sym value)
              (store_fits told id v m s.words s.views h sits word ClockWord (new_clock told id v m s.words s.views h sits event copy may found clock) is_word tt)),
        ),
        record {
          learns = learns (drew event) me v found m.journal w is refl (h.journal_part.prefixes id (Mut v) sits) (journal_legal told id v m s h sits) (h.journal_part.own id v sits);
          legal = λ u e.
              let same = mut_is v u (sym is ∙ e) in
              subst (λ (x : MutView). IsLegal x.terms.shape x.terms.sizes (m.journal ++ event ∷ [])) same
              (subst (λ (t : Terms). IsLegal t.shape t.sizes (m.journal ++ event ∷ [])) (sym (h.seating.told id v sits))
              (one_more_is_legal told.terms.shape told.terms.sizes m.journal event h.journal_part.legal (legal_next told id v m s.words s.views h sits event copy may event may.suits)));
          ticket = ticket;
        },
      )

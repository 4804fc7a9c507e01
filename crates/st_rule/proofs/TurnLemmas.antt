-- A turn: one seat's view changes, and with it at most a word of the gate, or the header, class or a field of one object, while no event is drawn.
-- This one lemma serves all steps but the draw.
use Rattle.std.proofs.Common.{◌≡◌, ◌≢◌, ℕ, ◌+◌, ◌<◌, ◌≤◌, ◌⊎◌, true, List, length, Option, refl, get_or, set, sym, ap, subst, ◌∙◌}
use Rattle.std.proofs.Common.{arith, ⊎_elim, inl, inr}
use Rattle.std.specs.Prelude.{All}
use mathlib.Core.Logic.{◌↔◌, dite}
use native.Mathlib.Decide.{ℕ_discrete}
use mathlib.Core.List.{IsPrefix}
use Rattle.st_layout.specs.Names.{WordName, ClosingWord, ClockWord, EpochWord, AvailableWord, FlagWord, LaneWord, ClassWord, HeaderWord, ForwardWord, FieldWord}
use Rattle.st_layout.specs.Names.{RowWord}
use Rattle.st_events.specs.declared.limits.Sizes.{Sizes}
use Rattle.st_events.specs.declared.events.Event.{Event}
use Rattle.st_events.specs.World.{at, is_among}
use Rattle.st_rule.specs.declared.views.Phase.{Phase}
use Rattle.st_rule.specs.declared.views.Phase.TheVariants.{Inside, Alone}
use Rattle.st_layout.specs.Packed.{high_half, low_half}
use Rattle.st_rule.specs.declared.views.Held.{Held}
use Rattle.st_rule.specs.declared.views.JoinedView.{JoinedView}
use Rattle.st_rule.specs.declared.views.MutView.{MutView}
use Rattle.st_rule.specs.declared.views.View.{View}
use Rattle.st_rule.specs.declared.views.View.TheVariants.{Mut, Gone}
use Rattle.st_rule.specs.Board.{Board, Displays, plan_of}
use Rattle.st_rule.specs.Board.{stays_loaded}
use Rattle.st_rule.specs.Parts.{Sits, JournalPart, GatePart, BoardPart, LoadedPart, HasLoaded, ObjectPart, HandPart, IsJoined, Seating}
use Rattle.atomic_table.specs.Table.{State}
use Rattle.st_rule.specs.Rule.{Told, Moment, HoldsAt, IsSoundTable, world_of, flights_of, LanesAt, CopiesAt, KeptAt}
use Rattle.st_rule.specs.declared.views.Flight.{Flight}
use Rattle.st_rule.specs.Entries.{own_entries}
use Rattle.st_rule.specs.Views.{seen_by, flag_of, is_closer}
use Rattle.st_rule.proofs.ViewLemmas.{set_there, sits_once, mut_is, gone_is_no_mutator, all_set, all_mut_set, at_here, at_else}
use Rattle.st_rule.proofs.PrefixLemmas.{prefix_self, prefix_trans}
use Rattle.st_rule.proofs.ReadLemmas.{lanes_stay, reading_on}
use Rattle.st_rule.proofs.RowLemmas.{rows_stay}
use Rattle.st_rule.specs.Reading.{IsReading}
use Rattle.atomic_table.proofs.Lists.{set_else}

-- what no step changes of a view
pub record StaysPut (v w : MutView) : Type 0 where
  pub terms : w.terms ≡ v.terms
  pub number : w.gate.number ≡ v.gate.number
  pub split : w.gate.split ≡ v.gate.split
  pub joined : w.hands ≡ v.hands

-- and what is left too where no event is drawn
pub record StaysSeated (v w : MutView) : Type 0 where
  pub put : StaysPut v w
  pub entries : w.journal.entries ≡ v.journal.entries

-- what the words say of the phases
pub record WordsTell (mutators : ℕ) (board : Board) (phase : ℕ → Phase) : Type 0 where
  pub flags : (n : ℕ) → n ≤ mutators → board (FlagWord n) ≡ flag_of (phase n)
  pub closer : (n : ℕ) → n ≤ mutators → (is_closer (phase n) ≡ true) ↔ (board ClosingWord ≡ n + 1)
  pub nobody_closes : (board ClosingWord ≡ 0) ⊎ ((n : ℕ) × (n ≤ mutators) × (board ClosingWord ≡ n + 1))

-- what the new view has to show of itself
pub record TurnsTo (m : Moment) (sizes : Sizes) (w : MutView) : Type 0 where
  pub clear : is_closer w.gate.phase ≡ true → (n : ℕ) → is_among w.gate.clear n ≡ true → at w.gate.number w.gate.phase m.phase n ≢ Inside
  pub saw_all : w.gate.phase ≡ Alone → (n : ℕ) → n ≤ sizes.mutators → n ≢ w.gate.number → is_among w.gate.clear n ≡ true
  pub saw_journal : w.gate.phase ≡ Alone → w.journal.seen ≡ m.journal
  pub open_inside : w.gate.phase ≡ Inside → (m.board ClosingWord ≡ 0) ⊎ (m.phase w.gate.number ≡ Inside)
  pub loaded : HasLoaded (plan_of sizes) m.board w

-- the board's words, and those that only who is alone keeps, are as before
abbrev pub LeavesBoard : Board → Board → Type 0
LeavesBoard before after = (p : Phase) (name : WordName) → stays_loaded p name ≡ true → after name ≡ before name

-- the clock, the board's words, and those that some number may keep in its phase, are as before
pub record StaysOnBoard (phase : ℕ → Phase) (before after : Board) : Type 0 where
  pub clock : after ClockWord ≡ before ClockWord
  pub board : (name : WordName) → stays_loaded Inside name ≡ true → after name ≡ before name
  pub loaded : (n : ℕ) (name : WordName) → stays_loaded (phase n) name ≡ true → after name ≡ before name
  -- and a forwarding word of its lane's check is not written
  pub forwarded : (o l : ℕ) → high_half (before (ForwardWord o l)) ≡ before (LaneWord l) → after (ForwardWord o l) ≡ before (ForwardWord o l)
  -- nor a check row
  pub rows : (check k : ℕ) → after (RowWord check k) ≡ before (RowWord check k)

-- where no phase could keep a word that was changed, every number's loaded words stand, whatever its phase is
pub leaves_board : {phase : ℕ → Phase} {before after : Board} → LeavesBoard before after → StaysOnBoard phase before after
leaves_board leaves = record {
  clock = leaves Alone ClockWord refl;
  board = λ name keeps. leaves Inside name keeps;
  loaded = λ n name keeps. leaves _ name keeps;
  forwarded = λ o l epoch. leaves Alone (ForwardWord o l) refl;
  rows = λ check k. leaves Alone (RowWord check k) refl;
}

-- the parts on old versions, for what is in flight at each object and these words
abbrev pub VersionsAt : Told → Moment → (ℕ → Option Flight) → Board → Type 0
VersionsAt told m flight board =
    LanesAt told.terms.sizes (world_of told.terms m) board flight × CopiesAt told.terms.sizes (world_of told.terms m) board m.since flight
    × KeptAt told.terms.sizes (world_of told.terms m) board m.copy_of flight

-- what was joined is still a prefix of a longer list, and nobody has sat down where a joined seat was
pub joined_still :
    (seat : ℕ → ℕ) (split : ℕ) (journal : List Event) (views views' : List View) (seen longer : List Event) (joined : List JoinedView)
    → IsPrefix seen longer
    → ((j : ℕ) → Sits views j Gone → Sits views' j Gone)
    → All (IsJoined seat split journal views seen) joined
    → All (IsJoined seat split journal views' longer) joined
joined_still seat split journal views views' seen longer joined goes still all = λ k d within. let old = all k d within in record {
  goes_on = prefix_trans (get_or joined k d).seen seen longer old.goes_on goes;
  below = old.below;
  gone = still (seat (get_or joined k d).number) old.gone;
  own = old.own;
}

-- where a mutator's seat is, nobody was joined away
pub still_gone : (views : List View) (id : ℕ) (v : MutView) (w : View) → Sits views id (Mut v) → (j : ℕ) → Sits views j Gone → Sits (set views id w) j Gone
still_gone views id v w sits j gone =
    let other : j ≢ id = λ same. gone_is_no_mutator v (sits_once views id Gone (Mut v) (subst (λ k. Sits views k Gone) same gone) sits) in
    set_else views id j w other ∙ gone

module _ (told : Told) (m : Moment) (words : List ℕ) (views : List View) (h : HoldsAt told m words views) (id : ℕ) (v w : MutView) (sits : Sits views id (Mut v)) (stays : StaysPut v w)
    (grip' : ℕ → Option Held) (grip_here : grip' w.gate.number ≡ w.held) (grip_else : (k : ℕ) → k ≢ w.gate.number → grip' k ≡ m.grip k) where
  abbrev pub phases' : ℕ → Phase
  phases' = at w.gate.number w.gate.phase m.phase

  abbrev views' : List View
  views' = set views id (Mut w)

  -- another seat has another number
  pub apart : (j : ℕ) (u : MutView) → j ≢ id → Sits views j (Mut u) → u.gate.number ≢ w.gate.number
  apart j u other there same = other (sym (h.gate_part.one_view_each j u there) ∙ ap m.seat (same ∙ stays.number) ∙ h.gate_part.one_view_each id v sits)

  -- where some other view is a closer, the closing word is not 0
  closed_by : (j : ℕ) (u : MutView) → Sits views j (Mut u) → is_closer u.gate.phase ≡ true → m.board ClosingWord ≢ 0
  closed_by j u there closes is_open =
      let is_one : m.board ClosingWord ≡ u.gate.number + 1 =
      (h.gate_part.closer u.gate.number (h.seating.numbers j u there)).0 (ap is_closer (h.seating.phases j u there) ∙ closes) in
      absurd (omega (arith, is_open, is_one))

  number_fits : w.gate.number ≤ told.terms.sizes.mutators
  number_fits = subst (λ n. n ≤ told.terms.sizes.mutators) (sym stays.number) (h.seating.numbers id v sits)

  -- who sits where after the turn
  pub seating_after : Seating told.terms phases' grip' m.seat m.split views'
  seating_after = record {
    phases = all_mut_set (λ j u. phases' u.gate.number ≡ u.gate.phase) views id w
        (at_here w.gate.number w.gate.phase m.phase)
        (λ j u other there. at_else w.gate.number w.gate.phase m.phase u.gate.number (apart j u other there) ∙ h.seating.phases j u there);
    grips = all_mut_set (λ j u. grip' u.gate.number ≡ u.held) views id w grip_here
        (λ j u other there. grip_else u.gate.number (apart j u other there) ∙ h.seating.grips j u there);
    numbers = all_mut_set (λ j u. u.gate.number ≤ told.terms.sizes.mutators) views id w number_fits (λ j u other there. h.seating.numbers j u there);
    told = all_mut_set (λ j u. u.terms ≡ told.terms) views id w (stays.terms ∙ h.seating.told id v sits) (λ j u other there. h.seating.told j u there);
    counts = all_mut_set (λ j u. u.gate.number ≡ told.terms.sizes.mutators → u.gate.split ≡ m.split) views id w
        (λ is_main. stays.split ∙ h.seating.counts id v sits (sym stays.number ∙ is_main))
        (λ j u other there. h.seating.counts j u there);
    seated = λ n. dite (ℕ_discrete n w.gate.number)
        (λ same. inr (
          w,
          subst (λ k. Sits views' (m.seat k) (Mut w)) (sym same)
              (subst (λ k. Sits views' k (Mut w)) (sym (ap m.seat stays.number ∙ h.gate_part.one_view_each id v sits)) (set_there views id (Mut v) (Mut w) sits)),
          sym same,
        ))
        (λ other. ⊎_elim
        (λ out. inl (at_else w.gate.number w.gate.phase m.phase n other ∙ out))
        (λ there. inr (
          there.0,
          set_else views id (m.seat n) (Mut w) (λ same_seat.
              let here : Sits views id (Mut there.0) = subst (λ k. Sits views k (Mut there.0)) same_seat there.1 in
              let one : there.0 ≡ v = mut_is there.0 v (sits_once views id (Mut there.0) (Mut v) here sits) in
              other (sym there.2 ∙ ap (λ (u : MutView). u.gate.number) one ∙ sym stays.number))
              ∙ there.1,
          there.2,
        ))
        (h.seating.seated n));
  }

  module _ (turns : TurnsTo m told.terms.sizes w) (seen : (w.journal.seen ≡ v.journal.seen) ⊎ (w.journal.seen ≡ m.journal))
      (same_entries : w.journal.entries ≡ v.journal.entries) where
    seen_fits : IsPrefix w.journal.seen m.journal
    seen_fits = ⊎_elim
        (λ same. subst (λ es. IsPrefix es m.journal) (sym same) (h.journal_part.prefixes id (Mut v) sits))
        (λ whole. subst (λ es. IsPrefix es m.journal) (sym whole) (prefix_self m.journal))
        seen

    -- the list seen goes on from the one before
    pub seen_goes_on : IsPrefix v.journal.seen w.journal.seen
    seen_goes_on = ⊎_elim
        (λ same. subst (λ es. IsPrefix v.journal.seen es) (sym same) (prefix_self v.journal.seen))
        (λ whole. subst (λ es. IsPrefix v.journal.seen es) (sym whole) (h.journal_part.prefixes id (Mut v) sits))
        seen

    -- some view has still seen the whole journal
    seen_whole_after : (j : ℕ) × (u : MutView) × Sits views' j (Mut u) × (u.journal.seen ≡ m.journal)
    seen_whole_after = let whole = h.journal_part.seen_whole in dite (ℕ_discrete whole.0 id)
        (λ same. (
          id,
          w,
          set_there views id (Mut v) (Mut w) sits,
          ⊎_elim
              (λ kept. kept ∙ ap seen_by (sits_once views id (Mut v) (Mut whole.1) sits (subst (λ k. Sits views k (Mut whole.1)) same whole.2)) ∙ whole.3)
              (λ all. all)
              seen,
        ))
        (λ other. (whole.0, whole.1, set_else views id whole.0 (Mut w) other ∙ whole.2, whole.3))

    -- what was joined is still a prefix
    hands_after : HandPart m.seat m.split m.journal views'
    hands_after = record {
      joined = all_mut_set (λ j u. All (IsJoined m.seat m.split m.journal views' u.journal.seen) u.hands.joined) views id w
          (subst (λ hands. All (IsJoined m.seat m.split m.journal views' w.journal.seen) hands.joined) (sym stays.joined)
          (joined_still m.seat m.split m.journal views views' v.journal.seen w.journal.seen v.hands.joined seen_goes_on (still_gone views id v (Mut w) sits)
          (h.hand_part.joined id v sits)))
          (λ j u other there. joined_still m.seat m.split m.journal views views' u.journal.seen u.journal.seen u.hands.joined (prefix_self u.journal.seen)
          (still_gone views id v (Mut w) sits) (h.hand_part.joined j u there));
    }

    -- the entries of each view are still its own events
    own_same : own_entries w.gate.number 0 m.journal ≡ w.journal.entries
    own_same = ap (λ n. own_entries n 0 m.journal) stays.number ∙ h.journal_part.own id v sits ∙ sym same_entries

    own_seen_same : own_entries w.gate.number 0 w.journal.seen ≡ w.journal.entries
    own_seen_same = ⊎_elim
        (λ same. (λ i. own_entries (stays.number i) 0 (same i)) ∙ h.journal_part.own_seen id v sits ∙ sym same_entries)
        (λ whole. ap (own_entries w.gate.number 0) whole ∙ own_same)
        seen

    module _ (board' : Board) (quiet : StaysOnBoard phases' m.board board') (tell : WordsTell told.terms.sizes.mutators board' phases') (holder' : ℕ → ℕ)
        (objects : ObjectPart told.terms.sizes (world_of told.terms m) phases' grip' holder' (λ o. board' (HeaderWord o)) (λ o. board' (ClassWord o))
        (λ o f. board' (FieldWord o f)) (λ o l. board' (ForwardWord o l)))
        (versions : VersionsAt told m (flights_of grip' holder') board') where
      same_clock : board' ClockWord ≡ m.board ClockWord
      same_clock = quiet.clock

      journal_after : JournalPart told.terms m.journal (board' ClockWord) m.split views'
      journal_after = record {
        legal = h.journal_part.legal;
        prefixes = all_set (λ j u. IsPrefix (seen_by u) m.journal) views id (Mut w) seen_fits (λ j u other there. h.journal_part.prefixes j u there);
        seen_whole = seen_whole_after;
        tickets = subst (λ c. high_half c ≡ length m.journal) (sym same_clock) h.journal_part.tickets;
        copies_drawn = subst (λ c. low_half c ≤ length m.journal) (sym same_clock) h.journal_part.copies_drawn;
        own = all_mut_set (λ j u. own_entries u.gate.number 0 m.journal ≡ u.journal.entries) views id w own_same (λ j u other there. h.journal_part.own j u there);
        own_seen = all_mut_set (λ j u. own_entries u.gate.number 0 u.journal.seen ≡ u.journal.entries) views id w own_seen_same
            (λ j u other there. h.journal_part.own_seen j u there);
        own_unsplit = h.journal_part.own_unsplit;
        charged = h.journal_part.charged;
        paid = h.journal_part.paid;
      }

      board_after : BoardPart told.terms.sizes (world_of told.terms m) (board' EpochWord) (λ l. board' (LaneWord l))
      board_after =
          let lane_is : (l : ℕ) → board' (LaneWord l) ≡ m.board (LaneWord l) = λ l. quiet.board (LaneWord l) refl in
          record {
            epoch_is = quiet.board EpochWord refl ∙ h.board_part.epoch_is;
            lanes = λ n active. let l = h.board_part.lanes n active in (l.0, l.1, lane_is l.0 ∙ l.2, λ k within same. l.3 k within (sym (lane_is k) ∙ same));
            idle = λ l within. ⊎_elim (λ none. inl (lane_is l ∙ none)) (λ one. inr (ap (is_among (world_of told.terms m).active) (lane_is l) ∙ one)) (h.board_part.idle l within);
          }

      loaded_after : LoadedPart (plan_of told.terms.sizes) board' views'
      loaded_after = record {
        loaded = all_mut_set (λ j u. HasLoaded (plan_of told.terms.sizes) board' u) views id w
            (λ name has keeps word found. quiet.loaded w.gate.number name (ap (λ p. stays_loaded p name) (at_here w.gate.number w.gate.phase m.phase) ∙ keeps)
            ∙ turns.loaded name has keeps word found)
            (λ j u other there name has keeps word found.
            quiet.loaded u.gate.number name
            (ap (λ p. stays_loaded p name) (at_else w.gate.number w.gate.phase m.phase u.gate.number (apart j u other there) ∙ h.seating.phases j u there) ∙ keeps)
            ∙ h.loaded_part.loaded j u there name has keeps word found);
      }

      -- a number that another closer saw clear did not go Inside at this turn: the closing word was not 0
      clear_after : (j : ℕ) (u : MutView) → j ≢ id → Sits views j (Mut u) → is_closer u.gate.phase ≡ true → (n : ℕ) → is_among u.gate.clear n ≡ true → phases' n ≢ Inside
      clear_after j u other there closes n among = dite (ℕ_discrete n w.gate.number)
          (λ same inside. ⊎_elim
          (λ is_open. closed_by j u there closes is_open)
          (λ before. h.gate_part.clear j u there closes n among (ap m.phase same ∙ before))
          (turns.open_inside (sym (at_here w.gate.number w.gate.phase m.phase) ∙ ap phases' (sym same) ∙ inside)))
          (λ apart' inside. h.gate_part.clear j u there closes n among (sym (at_else w.gate.number w.gate.phase m.phase n apart') ∙ inside))

      gate_after : GatePart told.terms.sizes.mutators (λ n. board' (FlagWord n)) (board' ClosingWord) phases' m.seat m.split m.journal views'
      gate_after = record {
        flags = tell.flags;
        closer = tell.closer;
        nobody_closes = tell.nobody_closes;
        clear = all_mut_set (λ j u. is_closer u.gate.phase ≡ true → (n : ℕ) → is_among u.gate.clear n ≡ true → phases' n ≢ Inside) views id w turns.clear clear_after;
        alone_saw_all = all_mut_set (λ j u. u.gate.phase ≡ Alone → (n : ℕ) → n ≤ told.terms.sizes.mutators → n ≢ u.gate.number → is_among u.gate.clear n ≡ true) views id w
            turns.saw_all (λ j u other there. h.gate_part.alone_saw_all j u there);
        alone_saw_journal = all_mut_set (λ j u. u.gate.phase ≡ Alone → u.journal.seen ≡ m.journal) views id w
            turns.saw_journal (λ j u other there. h.gate_part.alone_saw_journal j u there);
        one_view_each = all_mut_set (λ j u. m.seat u.gate.number ≡ j) views id w
            (ap m.seat stays.number ∙ h.gate_part.one_view_each id v sits) (λ j u other there. h.gate_part.one_view_each j u there);
        split_off = all_mut_set (λ j u. u.gate.number < told.terms.sizes.mutators → u.gate.number < m.split) views id w
            (subst (λ n. n < told.terms.sizes.mutators → n < m.split) (sym stays.number) (h.gate_part.split_off id v sits)) (λ j u other there. h.gate_part.split_off j u there);
      }

      -- the moment after the turn
      abbrev pub turned : Moment
      turned = record m { board = board'; phase = phases'; grip = grip'; holder = holder' }

      -- after the turn every part holds
      pub turn : (words' : List ℕ) → Displays (plan_of told.terms.sizes) words' board' → HoldsAt told turned words' views'
      turn words' displays = record {
        limits = h.limits;
        shape_limits = h.shape_limits;
        displayed = displays;
        journal_part = journal_after;
        gate_part = gate_after;
        board_part = board_after;
        loaded_part = loaded_after;
        object_part = objects;
        lane_part = versions.0;
        copy_part = versions.1;
        kept_part = versions.2;
        read_part = record {
          reads = lanes_stay views id w (λ j u. IsReading told.terms (world_of told.terms m) (λ l. board' (LaneWord l)) (λ o l. board' (ForwardWord o l)) u)
              (λ j u there. reading_on told.terms (world_of told.terms m) (world_of told.terms m) (λ l. m.board (LaneWord l)) (λ l. board' (LaneWord l))
              (λ o l. m.board (ForwardWord o l)) (λ o l. board' (ForwardWord o l)) u refl refl (λ l. quiet.board (LaneWord l) refl) quiet.forwarded (h.read_part.reads j u there));
        };
        row_part = rows_stay m.journal m.board board' quiet.rows h.row_part;
        hand_part = hands_after;
        seating = seating_after;
      }

      -- after the turn the rule holds
      pub turn_keeps : (s' : State Unit View) → s'.views ≡ views' → Displays (plan_of told.terms.sizes) s'.words board' → IsSoundTable told s'
      turn_keeps s' same displays = (turned, subst (HoldsAt told turned s'.words) (sym same) (turn s'.words displays))

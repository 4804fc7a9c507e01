-- The loads, the lock, the unlock and the stores of a holder keep the rule, whatever the table is when the word changes.
use Rattle.std.proofs.Common.{◌≡◌, ◌≢◌, ℕ, suc, ◌^◌, ◌<◌, ◌≤◌, ◌⊎◌, ◌==◌, eqb, Bool, true, false, if◌then◌else◌, List, []}
use Rattle.std.proofs.Common.{◌∷◌, Option, Some, None, set}
use Rattle.std.proofs.Common.{get_or, sym, refl, ap, subst, ◌∙◌, arith, ⊎_elim, inl, inr, eq-eqb, ne_eqb, eqb-true}
use mathlib.Core.Option.{some}
use prog.Atomic.{either}
use Rattle.atomic_table.specs.Table.{State, Act, keeps, Valid, carried_after, stepped, Allows}
use Rattle.atomic_table.proofs.Lists.{exchanged}
use Rattle.st_layout.specs.Names.{ClosingWord, ClockWord, EpochWord, AvailableWord, FlagWord, LaneWord, ClassWord, HeaderWord, ForwardWord, FieldWord}
use Rattle.st_layout.specs.Names.{CopyWord, FreeWord, cells_of}
use Rattle.st_layout.specs.declared.limits.TheConstants.{MOST_FIELDS}
use Rattle.st_layout.specs.Layout.{word_of}
use Rattle.st_layout.specs.Packed.{packed, high_half, low_half}
use Rattle.st_events.specs.World.{at, is_among}
use Rattle.st_rule.specs.declared.views.Flight.{Flight}
use Rattle.st_rule.specs.declared.views.Held.{Held}
use Rattle.st_rule.specs.declared.views.Phase.{Phase}
use Rattle.st_rule.specs.declared.views.Phase.TheVariants.{Inside}
use Rattle.st_rule.specs.declared.views.Terms.{Terms}
use Rattle.st_rule.specs.declared.views.MutView.{MutView}
use Rattle.st_rule.specs.declared.views.View.{View}
use Rattle.st_rule.specs.declared.views.View.TheVariants.{Mut}
use Rattle.st_rule.specs.Board.{Board, Displays, plan_of, written}
use Rattle.st_rule.specs.Draws.{MayLock, MayUnlock, HasInHand, AwaitsField, AwaitsClass, IsNextOf}
use Rattle.st_rule.specs.Holding.{Holds, holding, flight_of, shown_stamp, word_loaded}
use Rattle.st_rule.specs.Board.{stays_loaded}
use Rattle.st_rule.specs.Parts.{Sits, HasLoaded, ObjectPart}
use Rattle.st_rule.specs.Plays.{Seated, Becomes, LooksLast, LoadsBoard, IsBoardWord, Locks}
use Rattle.st_rule.specs.Rule.{Told, Moment, HoldsAt, IsSoundTable, world_of, flights_of, CopiesAt, KeptAt}
use Rattle.st_rule.specs.Turns.{looked_last, board_loaded, locked_at, locked, unlocked, field_found, word_written, with_field, with_written, landed}
use Rattle.st_rule.proofs.BoardLemmas.{load_displays}
use Rattle.st_rule.proofs.ViewLemmas.{mut_is, at_here, at_else, at_same}
use Rattle.st_rule.proofs.LaneLemmas.{lanes_settled, one_flight, none_among}
use Rattle.st_rule.proofs.CopyLemmas.{ComesFrom, copies_kept}
use Rattle.st_rule.proofs.KeptLemmas.{kept_reflown}
use Rattle.st_rule.proofs.KeptLemmas.{kept_reflown}
use Rattle.st_rule.proofs.ObjectLemmas.{flights_taken, flights_given}
use Rattle.st_rule.specs.Versions.{LanePart, IsAwaiting}
use Rattle.st_rule.proofs.ReachLemmas.{may_stand, holder_fits, fresh_header, epoch_short, sound as sound_world}
use Rattle.st_rule.proofs.PackedLemmas.{packed_halves}
use Rattle.st_rule.proofs.TurnLemmas.{StaysSeated, StaysOnBoard, VersionsAt, leaves_board}
use Rattle.st_rule.proofs.LoadedLemmas.{headers_fleet, classes_fleet, fields_fleet, written_quiet, same_loaded}
use Rattle.st_rule.proofs.HoldLemmas.{objects_locked, objects_unlocked, objects_found, objects_stored, objects_classed, field_elsewhere, holds_one, holds_none}
use Rattle.st_rule.proofs.GateSteps.{becomes, learns, stays_of, found_is, store_fits, acts_keep, still_keeps, journal_legal, holds_inside}

module _ (told : Told) (slots id : ℕ) (me : Seated) (v : MutView) (is : me.0 ≡ Mut v) where
  -- last look
  pub last_look_keeps :
      (word : ℕ) → word ≡ word_of (plan_of told.terms.sizes) ClockWord
      → Allows (IsSoundTable told) slots id me word (λ n. n) (LooksLast me)
  last_look_keeps word is_word s sound wide at_id _ =
      let sits : Sits s.views id (Mut v) = at_id ∙ ap some is in
      let m = sound.0 in
      let h = sound.1 in
      let found : ℕ = get_or s.words word 0 in
      let w = looked_last found m.journal v in (
        Mut w,
        keeps,
        tt,
        still_keeps told id v m s.words s.views h sits w (stays_of v w refl refl refl refl refl) refl (inr refl)
            (same_loaded (plan_of told.terms.sizes) m.board v w refl refl (h.loaded_part.loaded id v sits)) refl
            (record { words = set s.words word found; homes = s.homes; views = set s.views id (Mut w) }) refl
            (load_displays (plan_of told.terms.sizes) s.words m.board word h.displayed),
        record {
          learns = learns looked_last me v found m.journal w is refl (h.journal_part.prefixes id (Mut v) sits) (journal_legal told id v m s h sits) (h.journal_part.own id v sits);
          whole = ap high_half (found_is told id v m s.words s.views h sits word ClockWord is_word tt) ∙ h.journal_part.tickets;
        },
      )

  -- a lane word is 0, or the number of an active check
  lane_short : (s : State Unit View) (m : Moment) (h : HoldsAt told m s.words s.views) (sits : Sits s.views id (Mut v)) (l : ℕ) → l < told.terms.sizes.lanes → m.board (LaneWord l) < 2 ^ 32
  lane_short s m h sits l within = ⊎_elim
      (λ none. omega (arith, none))
      (λ active.
      let most = ((sound_world told id v m s.words s.views h sits).active.launched (m.board (LaneWord l)) active).1 in
      let epoch = h.board_part.epoch_is in
      let short = epoch_short told id v m s.words s.views h sits in
      omega (arith, most, epoch, short))
      (h.board_part.idle l within)

  -- what was loaded of the board, with one word more
  more_loaded : (m : Moment) (words : List ℕ) (views : List View) (h : HoldsAt told m words views) (sits : Sits views id (Mut v)) (word : ℕ)
      → HasLoaded (plan_of told.terms.sizes) m.board (board_loaded word (get_or words word 0) v)
  more_loaded m words views h sits word name has keeps' found e =
      here (word == word_of (plan_of told.terms.sizes) name) refl e
    where
      here : (b : Bool) → (word == word_of (plan_of told.terms.sizes) name) ≡ b
          → (if b then Some (get_or words word 0) else word_loaded v.board.loaded (word_of (plan_of told.terms.sizes) name)) ≡ Some found → m.board name ≡ found
      here true same e = sym (h.displayed.says name has) ∙ ap (λ i. get_or words i 0) (sym (eqb-true word (word_of (plan_of told.terms.sizes) name) same)) ∙ some_is e
        where
          some_is : {a b : ℕ} → Some a ≡ Some b → a ≡ b
          some_is e = cc
      here false other e = h.loaded_part.loaded id v sits name has keeps' found e

  -- what a load of the board finds is within what it may be
  board_word : (s : State Unit View) (m : Moment) (h : HoldsAt told m s.words s.views) (sits : Sits s.views id (Mut v)) (word : ℕ) → IsBoardWord told.terms.sizes word (get_or s.words word 0)
  board_word s m h sits word = record {
    epoch = λ here. subst (λ k. k < 2 ^ 32) (sym (found_is told id v m s.words s.views h sits word EpochWord here tt)) (epoch_short told id v m s.words s.views h sits);
    lane = λ l within here. subst (λ k. k < 2 ^ 32) (sym (found_is told id v m s.words s.views h sits word (LaneWord l) here within)) (lane_short s m h sits l within);
    available = λ here. subst (λ k. k ≤ told.terms.sizes.copies) (sym (found_is told id v m s.words s.views h sits word AvailableWord here tt)) h.copy_part.listed;
    free = λ i within here. subst (λ k. k < told.terms.sizes.copies) (sym (found_is told id v m s.words s.views h sits word (FreeWord i) here within)) (h.copy_part.named i within);
  }

  -- board load
  pub board_load_keeps : (word : ℕ) → Allows (IsSoundTable told) slots id me word (λ n. n) (LoadsBoard word me)
  board_load_keeps word s sound wide at_id _ =
      let sits : Sits s.views id (Mut v) = at_id ∙ ap some is in
      let m = sound.0 in
      let h = sound.1 in
      let found : ℕ = get_or s.words word 0 in
      let w = board_loaded word found v in (
        Mut w,
        keeps,
        tt,
        still_keeps told id v m s.words s.views h sits w (stays_of v w refl refl refl refl refl) refl (inl refl) (more_loaded m s.words s.views h sits word) refl
            (record { words = set s.words word found; homes = s.homes; views = set s.views id (Mut w) }) refl
            (load_displays (plan_of told.terms.sizes) s.words m.board word h.displayed),
        record {
          becomes = becomes (board_loaded word) me v found is;
          fits = λ u e.
              let same = mut_is v u (sym is ∙ e) in
              subst (λ (t : Terms). IsBoardWord t.sizes word found) (sym (h.seating.told id v sits) ∙ ap (λ (x : MutView). x.terms) same) (board_word s m h sits word);
        },
      )

  -- a step of a holder on one object
  module _ (s : State Unit View) (m : Moment) (h : HoldsAt told m s.words s.views) (sits : Sits s.views id (Mut v)) where
    abbrev n : ℕ
    n = v.gate.number

    abbrev pub phases' : ℕ → Phase
    phases' = at v.gate.number v.gate.phase m.phase

    pub others : (k : ℕ) → k ≢ n → phases' k ≡ m.phase k
    others k other = at_else n v.gate.phase m.phase k other

    pub inside_is : v.gate.phase ≡ Inside → phases' n ≡ Inside
    inside_is inside = at_here n v.gate.phase m.phase ∙ inside

    -- the same, with the words that it leaves, where one word is written that nobody keeps
    pub holder_keeps :
        (w : MutView) → StaysSeated v w → w.gate ≡ v.gate → w.journal.seen ≡ v.journal.seen → w.board ≡ v.board
        → (hand : Option Held) → w.held ≡ hand
        → (board' : Board) → StaysOnBoard phases' m.board board' → ((j : ℕ) → board' (FlagWord j) ≡ m.board (FlagWord j)) → board' ClosingWord ≡ m.board ClosingWord
        → (holder' : ℕ → ℕ)
        → ObjectPart told.terms.sizes (world_of told.terms m) phases' (at n hand m.grip) holder' (λ o. board' (HeaderWord o)) (λ o. board' (ClassWord o))
        (λ o f. board' (FieldWord o f)) (λ o l. board' (ForwardWord o l))
        → VersionsAt told m (flights_of (at n hand m.grip) holder') board'
        → (word value : ℕ) → Displays (plan_of told.terms.sizes) (set s.words word value) board'
        → IsSoundTable told (record { words = set s.words word value; homes = s.homes; views = set s.views id (Mut w) })
    holder_keeps w stays same_gate same_seen same_board hand is_hand board' quiet flags closing holder' objects versions word value displays =
        let same_number = ap (λ g. g.number) same_gate in
        acts_keep told id v m s.words s.views h sits w stays same_gate (inl same_seen)
        (same_loaded (plan_of told.terms.sizes) m.board v w (ap (λ g. g.phase) same_gate) same_board (h.loaded_part.loaded id v sits))
        (at n hand m.grip) (ap (at n hand m.grip) same_number ∙ at_here n hand m.grip ∙ sym is_hand) (λ j other. at_else n hand m.grip j (λ e. other (e ∙ sym same_number)))
        board' (subst (λ g. StaysOnBoard (at g.number g.phase m.phase) m.board board') (sym same_gate) quiet) flags closing holder'
        (subst (λ g. ObjectPart told.terms.sizes (world_of told.terms m) (at g.number g.phase m.phase) (at n hand m.grip) holder' (λ o. board' (HeaderWord o))
        (λ o. board' (ClassWord o)) (λ o f. board' (FieldWord o f)) (λ o l. board' (ForwardWord o l))) (sym same_gate) objects)
        versions
        (record { words = set s.words word value; homes = s.homes; views = set s.views id (Mut w) }) refl displays

    -- what is in flight at each object
    abbrev pub F : ℕ → Option Flight
    F = flights_of m.grip m.holder

    -- the same in flight everywhere
    same_versions : (flight' : ℕ → Option Flight) → ((o : ℕ) → flight' o ≡ F o) → VersionsAt told m flight' m.board
    same_versions flight' same = subst (λ (x : ℕ → Option Flight). VersionsAt told m x m.board) (λ i o. sym (same o) i) (h.lane_part, h.copy_part, h.kept_part)

    pub held_alone : (hand : Held) → v.held ≡ Some hand → (o : ℕ) → Holds (m.grip n) o → o ≡ hand.object
    held_alone hand held o holds = sym (holds_one hand o (subst (λ g. Holds g o) (h.seating.grips id v sits ∙ held) holds))

    pub flight_is : (hand : Held) → v.held ≡ Some hand → F hand.object ≡ hand.flight
    flight_is hand held =
        ap (λ j. flight_of (holding m.grip j)) ((h.object_part.named n hand.object).0 (record { held = hand; is = h.seating.grips id v sits ∙ held; object_is = refl }))
        ∙ ap flight_of (h.seating.grips id v sits ∙ held)

    -- each active check was launched before the change in flight
    pub launched_before : (hand : Held) (x : Flight) → v.held ≡ Some hand → hand.flight ≡ Some x → (k : ℕ) → is_among (world_of told.terms m).active k ≡ true
        → k ≤ (world_of told.terms m).stamp hand.object
    launched_before hand x held flies k active =
        let most = ((sound_world told id v m s.words s.views h sits).active.launched k active).1 in
        subst (λ e. k ≤ e) (sym (h.object_part.flying n hand x (h.seating.grips id v sits ∙ held) flies).epoch) most

    -- nothing is owed any more: the hand is empty, or the word of what was in flight is written
    over_versions :
        (hand : Held) → v.held ≡ Some hand → (x' : Option Flight) → (flight' : ℕ → Option Flight) → ((o : ℕ) → flight' o ≡ at hand.object x' F o)
        → (board' : Board)
        → ((o f : ℕ) → o ≢ hand.object → board' (FieldWord o f) ≡ m.board (FieldWord o f))
        → ((l : ℕ) → IsAwaiting hand.flight l → ⊥)
        → ((y : Flight) → x' ≡ Some y → (y.written ≡ true) × (y.awaiting ≡ []))
        → ((f : ℕ) → board' (FieldWord hand.object f) ≡ m.board (FieldWord hand.object f))
        ⊎ ((k : ℕ) → is_among (world_of told.terms m).active k ≡ true → k ≤ (world_of told.terms m).stamp hand.object)
        → ComesFrom hand.flight x'
        → LanePart told.terms.sizes (world_of told.terms m) (λ l. m.board (LaneWord l)) (m.board AvailableWord) flight' (λ o f. board' (FieldWord o f)) (λ o l. m.board (ForwardWord o l))
        (λ c k. m.board (CopyWord c k)) (λ i. m.board (FreeWord i))
        × CopiesAt told.terms.sizes (world_of told.terms m) m.board m.since flight'
        × KeptAt told.terms.sizes (world_of told.terms m) m.board m.copy_of flight'
    over_versions hand held x' flight' is board' else' settled over shows comes =
        let same = flight_is hand held in
        subst (λ (x : ℕ → Option Flight).
        LanePart told.terms.sizes (world_of told.terms m) (λ l. m.board (LaneWord l)) (m.board AvailableWord) x (λ o f. board' (FieldWord o f)) (λ o l. m.board (ForwardWord o l))
        (λ c k. m.board (CopyWord c k)) (λ i. m.board (FreeWord i))
        × CopiesAt told.terms.sizes (world_of told.terms m) m.board m.since x
        × KeptAt told.terms.sizes (world_of told.terms m) m.board m.copy_of x) (λ i o. sym (is o) i) (
          lanes_settled told.terms.sizes (world_of told.terms m) (λ l. m.board (LaneWord l)) (m.board AvailableWord) F (λ o f. m.board (FieldWord o f)) (λ o l. m.board (ForwardWord o l))
              (λ c k. m.board (CopyWord c k)) (λ i. m.board (FreeWord i)) h.lane_part hand.object x' (λ o f. board' (FieldWord o f)) else'
              (λ l a. settled l (subst (λ z. IsAwaiting z l) same a)) over shows,
          copies_kept told.terms.sizes (world_of told.terms m) (λ l. m.board (LaneWord l)) (m.board AvailableWord) (low_half (m.board ClockWord)) m.since F
              (λ o l. m.board (ForwardWord o l)) (λ i. m.board (FreeWord i)) h.copy_part hand.object x' (subst (λ z. ComesFrom z x') (sym same) comes),
          kept_reflown told.terms.sizes (world_of told.terms m) (λ l. m.board (LaneWord l)) (m.board AvailableWord) (low_half (m.board ClockWord)) F
              (λ o l. m.board (ForwardWord o l)) (λ i. m.board (FreeWord i)) m.copy_of h.kept_part hand.object x' (subst (λ z. ComesFrom z x') (sym same) comes)
              (λ l a. absurd (settled l (subst (λ z. IsAwaiting z l) same a))),
        )

    -- lock, where the object was free
    locks :
        (word object stamp new : ℕ) → word ≡ word_of (plan_of told.terms.sizes) (HeaderWord object)
        → object < cells_of (plan_of told.terms.sizes)
        → new ≡ packed stamp (suc v.gate.number)
        → v.gate.phase ≡ Inside → v.held ≡ None → MayLock v object
        → get_or s.words word 0 ≡ packed stamp 0
        → IsSoundTable told (record { words = set s.words word new; homes = s.homes; views = set s.views id (Mut (locked_at true object stamp (get_or s.words word 0) v)) })
    locks word object stamp new is_word within is_new inside empty may found =
        let w = locked_at true object stamp (get_or s.words word 0) v in
        let header : packed (shown_stamp (holding m.grip (m.holder object)) ((world_of told.terms m).stamp object)) (m.holder object) ≡ packed stamp 0 =
        sym (h.object_part.headers object) ∙ sym (found_is told id v m s.words s.views h sits word (HeaderWord object) is_word within) ∙ found in
        let halves = packed_halves (shown_stamp (holding m.grip (m.holder object)) ((world_of told.terms m).stamp object)) (m.holder object) stamp 0
        (holder_fits told id v m s.words s.views h sits object) (omega arith) header in
        let free : m.holder object ≡ 0 = halves.1 in
        let is_stamp : stamp ≡ (world_of told.terms m).stamp object = sym halves.0 ∙ ap (λ k. shown_stamp (holding m.grip k) ((world_of told.terms m).stamp object)) free in
        holder_keeps w (stays_of v w refl refl refl refl refl) refl refl refl (Some (record { object = object; stamp = stamp; loaded = []; flight = None })) refl
        (written (HeaderWord object) (packed stamp (suc v.gate.number)) m.board) (leaves_board (written_quiet (HeaderWord object) (packed stamp (suc v.gate.number)) m.board (headers_fleet object)))
        (λ j. refl) refl (at object (suc n) m.holder)
        (objects_locked told.terms.sizes (world_of told.terms m) m.phase phases' m.grip m.holder (λ o. m.board (HeaderWord o)) (λ o. m.board (ClassWord o))
        (λ o f. m.board (FieldWord o f)) (λ o l. m.board (ForwardWord o l)) h.object_part n others object stamp (inside_is inside) (h.seating.grips id v sits ∙ empty) free is_stamp
        (may_stand told id v m s.words s.views h sits object may))
        (same_versions (flights_of (at n (Some (record { object = object; stamp = stamp; loaded = []; flight = None })) m.grip) (at object (suc n) m.holder))
        (λ o. flights_taken m.grip m.holder h.object_part.named n object (Some (record { object = object; stamp = stamp; loaded = []; flight = None }))
        (λ p holds. absurd (holds_none p (subst (λ g. Holds g p) (h.seating.grips id v sits ∙ empty) holds))) o
        ∙ at_same object None F o (ap (λ j. flight_of (holding m.grip j)) free)))
        word new
        (subst (λ x. Displays (plan_of told.terms.sizes) (set s.words word x) (written (HeaderWord object) (packed stamp (suc v.gate.number)) m.board)) (sym is_new)
        (store_fits told id v m s.words s.views h sits word (HeaderWord object) (packed stamp (suc v.gate.number)) is_word within))

    -- the hand as the rule has it
    pub grip_is : (hand : Held) → v.held ≡ Some hand → m.grip n ≡ Some hand
    grip_is hand held = h.seating.grips id v sits ∙ held

    pub is_inside : (hand : Held) → v.held ≡ Some hand → v.gate.phase ≡ Inside
    is_inside hand held = holds_inside told id v m s.words s.views h sits hand.object (record { held = hand; is = held; object_is = refl })

    -- the stamp that an unlock gives is the object's
    stamp_now : (object stamp : ℕ) (may : MayUnlock v object stamp) → (flight : Option Flight) → may.has.hand.flight ≡ flight → stamp ≡ (world_of told.terms m).stamp may.has.hand.object
    stamp_now object stamp may None quiet =
        may.found quiet ∙ h.object_part.stamps n may.has.hand (grip_is may.has.hand may.has.held) quiet
    stamp_now object stamp may (Some x) flies =
        let fly = h.object_part.flying n may.has.hand x (grip_is may.has.hand may.has.held) flies in
        let inside = is_inside may.has.hand may.has.held in
        let loaded = h.loaded_part.loaded id v sits EpochWord tt (ap (λ p. stays_loaded p EpochWord) inside) stamp
        (ap (λ t. word_loaded v.board.loaded (word_of (plan_of t.sizes) EpochWord)) (sym (h.seating.told id v sits)) ∙ may.epoch x flies) in
        sym loaded ∙ h.board_part.epoch_is ∙ sym fly.epoch

    unlocks :
        (word object stamp new : ℕ) → word ≡ word_of (plan_of told.terms.sizes) (HeaderWord object)
        → object < cells_of (plan_of told.terms.sizes)
        → new ≡ packed stamp 0
        → MayUnlock v object stamp
        → IsSoundTable told (record { words = set s.words word new; homes = s.homes; views = set s.views id (Mut (unlocked v)) })
    unlocks word object stamp new is_word within is_new may =
        let w = unlocked v in
        let hand = may.has.hand in
        let value : ℕ = packed stamp 0 in
        holder_keeps w (stays_of v w refl refl refl refl refl) refl refl refl None refl
        (written (HeaderWord hand.object) value m.board) (leaves_board (written_quiet (HeaderWord hand.object) value m.board (headers_fleet hand.object)))
        (λ j. refl) refl (at hand.object 0 m.holder)
        (objects_unlocked told.terms.sizes (world_of told.terms m) m.phase phases' m.grip m.holder (λ o. m.board (HeaderWord o)) (λ o. m.board (ClassWord o))
        (λ o f. m.board (FieldWord o f)) (λ o l. m.board (ForwardWord o l)) h.object_part n others hand (grip_is hand may.has.held) stamp
        (stamp_now object stamp may hand.flight refl) may.written)
        (over_versions hand may.has.held None (flights_of (at n None m.grip) (at hand.object 0 m.holder))
        (flights_given m.grip m.holder h.object_part.named n hand.object None (held_alone hand may.has.held)) m.board (λ o f other. refl)
        (λ l a.
        let owed = h.lane_part.owed hand.object l a.one (flight_is hand may.has.held ∙ a.flies) a.awaits in
        let e : true ≡ false = sym (may.written a.one a.flies) ∙ owed.unwritten in absurd cc)
        (λ y e. absurd cc) (inl (λ f. refl)) (λ y e. absurd cc))
        word new
        (subst (λ (x : ℕ × ℕ). Displays (plan_of told.terms.sizes) (set s.words word x.1) (written (HeaderWord x.0) value m.board)) (λ i. (may.has.object_is i, sym is_new i))
        (store_fits told id v m s.words s.views h sits word (HeaderWord object) value is_word within))

    finds :
        (word object f : ℕ) → word ≡ word_of (plan_of told.terms.sizes) (FieldWord object f)
        → object < cells_of (plan_of told.terms.sizes) → f < MOST_FIELDS
        → HasInHand v object
        → IsSoundTable told (record { words = set s.words word (get_or s.words word 0); homes = s.homes; views = set s.views id (Mut (field_found f (get_or s.words word 0) v)) })
    finds word object f is_word within few has =
        let found : ℕ = get_or s.words word 0 in
        let w = field_found f found v in
        let hand = has.hand in
        let is_found : found ≡ m.board (FieldWord hand.object f) =
        found_is told id v m s.words s.views h sits word (FieldWord object f) is_word (within, few) ∙ ap (λ o. m.board (FieldWord o f)) has.object_is in
        holder_keeps w (stays_of v w refl refl refl refl refl) refl refl refl (Some (record hand { loaded = record { field = f; value = found } ∷ hand.loaded }))
        (ap (with_field f found) has.held)
        m.board (leaves_board (λ p name keeps'. refl)) (λ j. refl) refl (at hand.object (suc n) m.holder)
        (objects_found told.terms.sizes (world_of told.terms m) m.phase phases' m.grip m.holder (λ o. m.board (HeaderWord o)) (λ o. m.board (ClassWord o))
        (λ o f. m.board (FieldWord o f)) (λ o l. m.board (ForwardWord o l)) h.object_part n others hand (grip_is hand has.held) (inside_is (is_inside hand has.held)) f found is_found)
        (same_versions (flights_of (at n (Some (record hand { loaded = record { field = f; value = found } ∷ hand.loaded })) m.grip) (at hand.object (suc n) m.holder))
        (λ o. flights_taken m.grip m.holder h.object_part.named n hand.object (Some (record hand { loaded = record { field = f; value = found } ∷ hand.loaded }))
        (held_alone hand has.held) o
        ∙ at_same hand.object hand.flight F o (flight_is hand has.held)))
        word found
        (load_displays (plan_of told.terms.sizes) s.words m.board word h.displayed)

    -- no lane awaits what is in flight
    settled_by : (hand : Held) (y : Flight) → hand.flight ≡ Some y → y.awaiting ≡ [] → (l : ℕ) → IsAwaiting hand.flight l → ⊥
    settled_by hand y flies none l a =
        let same : y ≡ a.one = one_flight y a.one (sym flies ∙ a.flies) in
        none_among l (ap (λ ns. is_among ns l) (sym none) ∙ ap (λ (z : Flight). is_among z.awaiting l) same ∙ a.awaits)

    over_by : (y : Flight) → y.awaiting ≡ [] → (z : Flight) → Some (record y { written = true }) ≡ Some z → (z.written ≡ true) × (z.awaiting ≡ [])
    over_by y none z e = let s : record y { written = true } ≡ z = one_flight (record y { written = true }) z e in
        (ap (λ (t : Flight). t.written) (sym s), ap (λ (t : Flight). t.awaiting) (sym s) ∙ none)

    comes_by : (hand : Held) (y : Flight) → hand.flight ≡ Some y → ComesFrom hand.flight (Some (record y { written = true }))
    comes_by hand y flies z e = let s : record y { written = true } ≡ z = one_flight (record y { written = true }) z e in (
      y,
      flies,
      record {
        index = ap (λ (t : Flight). t.index) (sym s);
        built = subst (λ k. y.built ≤ k) (ap (λ (t : Flight). t.built) s) (omega arith);
        awaits = λ l among. ap (λ (t : Flight). is_among t.awaiting l) s ∙ among;
      },
    )

    stores :
        (word object f value new : ℕ) → word ≡ word_of (plan_of told.terms.sizes) (FieldWord object f)
        → object < cells_of (plan_of told.terms.sizes) → f < MOST_FIELDS
        → new ≡ value
        → AwaitsField v object f value
        → IsSoundTable told (record { words = set s.words word new; homes = s.homes; views = set s.views id (Mut (word_written v)) })
    stores word object f value new is_word within few is_new awaits =
        let w = word_written v in
        let hand = awaits.has.hand in
        let y = awaits.flight in
        holder_keeps w (stays_of v w refl refl refl refl refl) refl refl refl (Some (record hand { loaded = []; flight = Some (record y { written = true }) }))
        (ap with_written awaits.has.held ∙ ap (λ x. Some (record hand { loaded = []; flight = landed x })) awaits.flies)
        (written (FieldWord hand.object f) value m.board) (leaves_board (written_quiet (FieldWord hand.object f) value m.board (fields_fleet hand.object f)))
        (λ j. refl) refl (at hand.object (suc n) m.holder)
        (objects_stored told.terms.sizes (world_of told.terms m) m.phase phases' m.grip m.holder (λ o. m.board (HeaderWord o)) (λ o. m.board (ClassWord o))
        (λ o f. m.board (FieldWord o f)) (λ o l. m.board (ForwardWord o l)) h.object_part n others hand (grip_is hand awaits.has.held)
        (inside_is (is_inside hand awaits.has.held)) y awaits.flies f value awaits.sets)
        (over_versions hand awaits.has.held (Some (record y { written = true }))
        (flights_of (at n (Some (record hand { loaded = []; flight = Some (record y { written = true }) })) m.grip) (at hand.object (suc n) m.holder))
        (flights_taken m.grip m.holder h.object_part.named n hand.object (Some (record hand { loaded = []; flight = Some (record y { written = true }) }))
        (held_alone hand awaits.has.held)) (written (FieldWord hand.object f) value m.board)
        (λ o g other. field_elsewhere hand.object f value (λ o f. m.board (FieldWord o f)) o g other)
        (settled_by hand y awaits.flies awaits.forwarded)
        (over_by y awaits.forwarded)
        (inr (launched_before hand y awaits.has.held awaits.flies)) (comes_by hand y awaits.flies))
        word new
        (subst (λ (x : ℕ × ℕ). Displays (plan_of told.terms.sizes) (set s.words word x.1) (written (FieldWord x.0 f) value m.board)) (λ i. (awaits.has.object_is i, sym is_new i))
        (store_fits told id v m s.words s.views h sits word (FieldWord object f) value is_word (within, few)))

    classes :
        (word object c new : ℕ) → word ≡ word_of (plan_of told.terms.sizes) (ClassWord object)
        → object < cells_of (plan_of told.terms.sizes)
        → new ≡ c
        → AwaitsClass v object c
        → IsSoundTable told (record { words = set s.words word new; homes = s.homes; views = set s.views id (Mut (word_written v)) })
    classes word object c new is_word within is_new awaits =
        let w = word_written v in
        let hand = awaits.has.hand in
        let y = awaits.flight in
        holder_keeps w (stays_of v w refl refl refl refl refl) refl refl refl (Some (record hand { loaded = []; flight = Some (record y { written = true }) }))
        (ap with_written awaits.has.held ∙ ap (λ x. Some (record hand { loaded = []; flight = landed x })) awaits.flies)
        (written (ClassWord hand.object) c m.board) (leaves_board (written_quiet (ClassWord hand.object) c m.board (classes_fleet hand.object)))
        (λ j. refl) refl (at hand.object (suc n) m.holder)
        (objects_classed told.terms.sizes (world_of told.terms m) m.phase phases' m.grip m.holder (λ o. m.board (HeaderWord o)) (λ o. m.board (ClassWord o))
        (λ o f. m.board (FieldWord o f)) (λ o l. m.board (ForwardWord o l)) h.object_part n others hand (grip_is hand awaits.has.held)
        (inside_is (is_inside hand awaits.has.held)) y awaits.flies c awaits.making)
        (over_versions hand awaits.has.held (Some (record y { written = true }))
        (flights_of (at n (Some (record hand { loaded = []; flight = Some (record y { written = true }) })) m.grip) (at hand.object (suc n) m.holder))
        (flights_taken m.grip m.holder h.object_part.named n hand.object (Some (record hand { loaded = []; flight = Some (record y { written = true }) }))
        (held_alone hand awaits.has.held)) m.board (λ o f other. refl)
        (settled_by hand y awaits.flies awaits.forwarded)
        (over_by y awaits.forwarded)
        (inl (λ f. refl)) (comes_by hand y awaits.flies))
        word new
        (subst (λ (x : ℕ × ℕ). Displays (plan_of told.terms.sizes) (set s.words word x.1) (written (ClassWord x.0) c m.board)) (λ i. (awaits.has.object_is i, sym is_new i))
        (store_fits told id v m s.words s.views h sits word (ClassWord object) c is_word within))

  -- lock
  abbrev LockGoes : ℕ → ℕ → State Unit View → ℕ → ℕ → ℕ → Type 0
  LockGoes object stamp s word found new =
      (x : View) × (a : Act Unit) × Valid s.homes me.1 a × IsSoundTable told (stepped s word new id me.1 x a) × Locks object stamp me found (x, carried_after me.1 a)

  pub lock_keeps :
      (word object stamp old new : ℕ) → word ≡ word_of (plan_of told.terms.sizes) (HeaderWord object)
      → object < cells_of (plan_of told.terms.sizes)
      → old ≡ packed stamp 0 → new ≡ packed stamp (suc v.gate.number)
      → v.gate.phase ≡ Inside → v.held ≡ None → MayLock v object
      → Allows (IsSoundTable told) slots id me word (λ n. either (eqb n old) new n) (Locks object stamp me)
  lock_keeps word object stamp old new is_word within is_old is_new inside empty may s sound wide at_id _ =
      let sits : Sits s.views id (Mut v) = at_id ∙ ap some is in
      let found : ℕ = get_or s.words word 0 in
      let m = sound.0 in
      let h = sound.1 in
      let fresh : (u : MutView) → me.0 ≡ Mut u → IsNextOf u object → found ≡ 0 = λ u e next.
      found_is told id v m s.words s.views h sits word (HeaderWord object) is_word within
      ∙ fresh_header told id v m s.words s.views h sits object empty (subst (λ (x : MutView). IsNextOf x object) (sym (mut_is v u (sym is ∙ e))) next) in
      exchanged found old new (LockGoes object stamp s word found)
      (λ hit.
      let same : (found == packed stamp 0) ≡ true = eq-eqb found (packed stamp 0) (hit ∙ is_old) in (
        Mut (locked_at true object stamp found v),
        keeps,
        tt,
        locks s m h sits word object stamp new is_word within is_new inside empty may (hit ∙ is_old),
        record {
          becomes = subst (λ b. Becomes (locked object stamp) me found (Mut (locked_at b object stamp found v), me.1)) same (becomes (locked object stamp) me v found is);
          fresh = fresh;
        },
      ))
      (λ miss.
      let w = locked_at false object stamp found v in
      let apart : (found == packed stamp 0) ≡ false = ne_eqb found (packed stamp 0) (λ e. miss (e ∙ sym is_old)) in (
        Mut w,
        keeps,
        tt,
        still_keeps told id v m s.words s.views h sits w (stays_of v w refl refl refl refl refl) refl (inl refl)
            (same_loaded (plan_of told.terms.sizes) m.board v w refl refl (h.loaded_part.loaded id v sits)) refl
            (record { words = set s.words word found; homes = s.homes; views = set s.views id (Mut w) }) refl
            (load_displays (plan_of told.terms.sizes) s.words m.board word h.displayed),
        record {
          becomes = subst (λ b. Becomes (locked object stamp) me found (Mut (locked_at b object stamp found v), me.1)) apart (becomes (locked object stamp) me v found is);
          fresh = fresh;
        },
      ))

  -- unlock
  pub unlock_keeps :
      (word object stamp new : ℕ) → word ≡ word_of (plan_of told.terms.sizes) (HeaderWord object)
      → object < cells_of (plan_of told.terms.sizes)
      → new ≡ packed stamp 0
      → MayUnlock v object stamp
      → Allows (IsSoundTable told) slots id me word (λ _. new) (λ _ after. Becomes (λ _ u. unlocked u) me new after)
  unlock_keeps word object stamp new is_word within is_new may s sound wide at_id _ =
      (Mut (unlocked v), keeps, tt, unlocks s sound.0 sound.1 (at_id ∙ ap some is) word object stamp new is_word within is_new may, becomes (λ _ u. unlocked u) me v new is)

  -- field load
  pub field_load_keeps :
      (word object f : ℕ) → word ≡ word_of (plan_of told.terms.sizes) (FieldWord object f)
      → object < cells_of (plan_of told.terms.sizes) → f < MOST_FIELDS
      → HasInHand v object
      → Allows (IsSoundTable told) slots id me word (λ n. n) (Becomes (field_found f) me)
  field_load_keeps word object f is_word within few has s sound wide at_id _ =
      let found : ℕ = get_or s.words word 0 in
      (Mut (field_found f found v), keeps, tt, finds s sound.0 sound.1 (at_id ∙ ap some is) word object f is_word within few has, becomes (field_found f) me v found is)

  -- field store
  pub field_store_keeps :
      (word object f value new : ℕ) → word ≡ word_of (plan_of told.terms.sizes) (FieldWord object f)
      → object < cells_of (plan_of told.terms.sizes) → f < MOST_FIELDS
      → new ≡ value
      → AwaitsField v object f value
      → Allows (IsSoundTable told) slots id me word (λ _. new) (λ _ after. Becomes (λ _ u. word_written u) me new after)
  field_store_keeps word object f value new is_word within few is_new awaits s sound wide at_id _ =
      (Mut (word_written v), keeps, tt, stores s sound.0 sound.1 (at_id ∙ ap some is) word object f value new is_word within few is_new awaits, becomes (λ _ u. word_written u) me v new is)

  -- class store
  pub class_store_keeps :
      (word object c new : ℕ) → word ≡ word_of (plan_of told.terms.sizes) (ClassWord object)
      → object < cells_of (plan_of told.terms.sizes)
      → new ≡ c
      → AwaitsClass v object c
      → Allows (IsSoundTable told) slots id me word (λ _. new) (λ _ after. Becomes (λ _ u. word_written u) me new after)
  class_store_keeps word object c new is_word within is_new awaits s sound wide at_id _ =
      (Mut (word_written v), keeps, tt, classes s sound.0 sound.1 (at_id ∙ ap some is) word object c new is_word within is_new awaits, becomes (λ _ u. word_written u) me v new is)

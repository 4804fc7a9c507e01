-- What a draw makes of the parts on old versions. The ticket and the index are drawn at one step, so that which copy keeps a version, and which versions
-- are lost, is by the order of the journal.
use Rattle.std.proofs.Common.{◌≡◌, ℕ, suc, ◌+◌, ◌<◌, ◌≤◌, ◌⊎◌, Bool, true, false, List, []}
use Rattle.std.proofs.Common.{◌∷◌, length, Option, Some, None, sym, refl, ap, subst, ◌∙◌, arith, ⊎_elim, inl, inr}
use Rattle.std.specs.Prelude.{IsSome, nat_lt}
use Rattle.st_layout.specs.Names.{ClockWord, AvailableWord, LaneWord, FieldWord, ForwardWord, CopyWord, FreeWord}
use Rattle.st_layout.specs.Packed.{low_half}
use Rattle.st_events.specs.declared.events.Event.{Event}
use Rattle.st_events.specs.declared.events.Event.TheVariants.{New, Load, Store, Cas, Launch, Retire}
use Rattle.st_events.specs.Heap.{Object}
use Rattle.st_events.specs.World.{World, Launched, next, changed, at, is_among, is_kept, needing_in, row_if_needed}
use Rattle.st_events.proofs.AmongLemmas.{among_passing}
use Rattle.st_events.proofs.KeptLemmas.{kept_in_back, row_keeps}
use Rattle.st_rule.specs.declared.views.Flight.{Flight}
use Rattle.st_rule.specs.declared.views.Held.{Held}
use Rattle.st_rule.specs.declared.views.MutView.{MutView}
use Rattle.st_rule.specs.declared.views.View.{View}
use Rattle.st_rule.specs.declared.views.View.TheVariants.{Mut}
use Rattle.st_rule.specs.Board.{Board, written}
use Rattle.st_rule.specs.Draws.{MayDraw, Suits, left_in_flight, fresh_change, fresh_new}
use Rattle.st_rule.specs.Holding.{Holds, holding, flight_of, word_or_zero}
use Rattle.st_rule.specs.Needs.{KnowsNeed, needing_lanes, is_change, is_any, takes_copy, copies_of, index_for}
use Rattle.st_rule.specs.Parts.{Sits}
use Rattle.st_rule.specs.Rule.{Told, Moment, HoldsAt, world_of, flights_of, LanesAt, CopiesAt, KeptAt}
use Rattle.st_rule.specs.Versions.{IsOwed, LanePart, CopyPart, KeptPart, with_row}
use Rattle.st_rule.proofs.CopyLemmas.{copies_drawn}
use Rattle.st_rule.proofs.HoldLemmas.{holds_one}
use Rattle.st_rule.proofs.KeptLemmas.{AddsRow, kept_drawn}
use Rattle.st_rule.proofs.LaneLemmas.{GoesOn, lanes_drawn, one_flight}
use Rattle.st_rule.proofs.NeedLemmas.{needs, needed, same_need, check_needs, any_of, lt_true}
use Rattle.st_rule.proofs.ObjectLemmas.{flights_taken}
use Rattle.st_rule.proofs.PoolLemmas.{lost_stays, lost_now, kept_after, kept_grows, kept_same}
use Rattle.st_rule.proofs.ReachLemmas.{sound, next_is, next_absent}
use Rattle.st_rule.proofs.ViewLemmas.{at_here, at_else}

-- the world once the event is drawn
abbrev pub after_event : Told → Moment → Event → World
after_event told m event = next told.terms.shape told.terms.sizes (world_of told.terms m) event

-- the parts on old versions after an event
abbrev pub VersionsAfter : Told → Moment → World → (ℕ → Option Flight) → (ℕ → ℕ → ℕ) → Board → Type 0
VersionsAfter told m after flight copy_of board =
    LanesAt told.terms.sizes after board flight × CopiesAt told.terms.sizes after board m.since flight × KeptAt told.terms.sizes after board copy_of flight

-- the copies of the rows once a seat has drawn an event of this object
abbrev pub copies_after : Told → Moment → ℕ → ℕ → ℕ → ℕ
copies_after told m object = with_row (world_of told.terms m) object (m.board (FreeWord (low_half (m.board ClockWord)))) m.copy_of

one_index : (a b : ℕ) → Some a ≡ Some b → a ≡ b
one_index a b e = cc

-- an index is drawn where some lane needs the old version
index_is : (lanes : List ℕ) (index i : ℕ) → index_for lanes index ≡ Some i → (index ≡ i) × (is_any lanes ≡ true)
index_is [] index i e = absurd cc
index_is (l ∷ lanes) index i e = (one_index index i e, refl)

lt_or_ge : (a b : ℕ) → (a < b) ⊎ (b ≤ a)
lt_or_ge a b = grind arith

one_or_none : (copy : Bool) (drawn : ℕ) → (drawn + copies_of copy ≡ drawn) ⊎ (drawn + copies_of copy ≡ drawn + 1)
one_or_none true drawn = inr refl
one_or_none false drawn = inl (omega arith)

module _ (told : Told) (id : ℕ) (v : MutView) (m : Moment) (words : List ℕ) (views : List View) (h : HoldsAt told m words views) (sits : Sits views id (Mut v))
    (event : Event) (copy : Bool) (may : MayDraw v event copy) (index : ℕ) (is_index : index ≡ low_half (m.board ClockWord)) where
  abbrev before : World
  before = world_of told.terms m

  abbrev hand : Held
  hand = may.hand

  abbrev o : ℕ
  o = hand.object

  abbrev lanes : List ℕ
  lanes = needing_lanes v may.hand

  abbrev F : ℕ → Option Flight
  F = flights_of m.grip m.holder

  abbrev drawn : ℕ
  drawn = low_half (m.board ClockWord)

  grip_is : m.grip v.gate.number ≡ Some hand
  grip_is = h.seating.grips id v sits ∙ may.held

  nothing_flies : F o ≡ None
  nothing_flies =
      ap (λ j. flight_of (holding m.grip j)) ((h.object_part.named v.gate.number o).0 (record { held = hand; is = grip_is; object_is = refl }))
      ∙ ap flight_of grip_is ∙ may.quiet

  abbrev Both : World → Option Flight → Type 0
  Both after x' =
      LanePart told.terms.sizes after (λ l. m.board (LaneWord l)) (m.board AvailableWord) (at o x' F) (λ o f. m.board (FieldWord o f)) (λ o l. m.board (ForwardWord o l))
      (λ c k. m.board (CopyWord c k)) (λ i. m.board (FreeWord i))
      × CopyPart told.terms.sizes after (λ l. m.board (LaneWord l)) (m.board AvailableWord) (drawn + copies_of copy) m.since (at o x' F) (λ o l. m.board (ForwardWord o l))
      (λ i. m.board (FreeWord i))
      × KeptPart told.terms.sizes after (λ l. m.board (LaneWord l)) (m.board AvailableWord) (drawn + copies_of copy) (at o x' F) (λ o l. m.board (ForwardWord o l))
      (λ i. m.board (FreeWord i)) (copies_after told m o)

  -- a check that needs the old version has no row at the object yet
  unkept : (n : ℕ) → is_among (needing_in before o) n ≡ true → is_kept before.kept o n ≡ true → ⊥
  unkept n among kept =
      let above = lt_true (before.stamp o) n (among_passing (λ k. nat_lt (before.stamp o) k) before.active n among).1 in
      let noted = ((sound told id v m words views h sits).copies.kept_noted o n kept).changed in
      absurd (omega (arith, above, noted))

  -- nothing more is kept or lost, and no index is drawn
  quietly :
      (after : World) (x' : Option Flight) → GoesOn before after o → copy ≡ false → after.kept ≡ before.kept
      → ((l : ℕ) (launch : Launched) → before.launched (m.board (LaneWord l)) ≡ Some launch → IsSome (launch.past o) → before.stamp o < m.board (LaneWord l)
      → m.board (LaneWord l) ≤ after.stamp o → ⊥)
      → ((y : Flight) → x' ≡ Some y → (y.awaiting ≡ []) × (y.index ≡ None) × (y.built ≡ 0))
      → Both after x'
  quietly after x' goes none kept unneeded fresh =
      let same : drawn + copies_of copy ≡ drawn = ap (λ c. drawn + copies_of c) none ∙ omega arith in (
        lanes_drawn told.terms.sizes before after (λ l. m.board (LaneWord l)) (m.board AvailableWord) F (λ o f. m.board (FieldWord o f)) (λ o l. m.board (ForwardWord o l))
            (λ c k. m.board (CopyWord c k)) (λ i. m.board (FreeWord i)) h.lane_part o goes nothing_flies x'
            (λ l launch within active launched stood above later. absurd (unneeded l launch launched stood above later))
            (λ y l is among. let e : false ≡ true = ap (λ ns. is_among ns l) (sym (fresh y is).0) ∙ among in absurd cc)
            (λ y is. (fresh y is).2),
        copies_drawn told.terms.sizes before (λ l. m.board (LaneWord l)) (m.board AvailableWord) drawn m.since F (λ o l. m.board (ForwardWord o l)) (λ i. m.board (FreeWord i)) h.copy_part
            after o (drawn + copies_of copy) x' nothing_flies goes.active (one_or_none copy drawn)
            (λ le. ap (λ rows. length rows + m.board AvailableWord) kept
            ∙ h.copy_part.some_left (subst (λ k. k ≤ m.board AvailableWord) same le) ∙ ap (λ k. told.terms.sizes.copies + k) (sym same))
            (λ ge. ap length kept ∙ h.copy_part.none_left (subst (λ k. m.board AvailableWord ≤ k) same ge))
            (λ y i is e. let f : None ≡ Some i = sym (fresh y is).1 ∙ e in absurd cc),
        kept_drawn told.terms.sizes before (λ l. m.board (LaneWord l)) (m.board AvailableWord) drawn F (λ o l. m.board (ForwardWord o l)) (λ i. m.board (FreeWord i)) m.copy_of h.kept_part
            m.since h.copy_part after o (drawn + copies_of copy) x' nothing_flies goes.active (omega arith) unkept (inl kept)
            (λ y l i is among e lt. let f : None ≡ Some i = sym (fresh y is).1 ∙ e in absurd cc),
      )

  -- an event that changes nothing
  unchanged : copy ≡ false → Both before None
  unchanged none = quietly before None (record { active = refl; launched = refl; rises = omega arith; stamp_else = λ i ne. refl; lost = λ i n e. e }) none refl
      (λ l launch launched stood above later. absurd (omega (arith, above, later))) (λ y e. absurd cc)

  -- a New: no launched check has the object in its past
  made : (class : ℕ) → copy ≡ false → before.heap o ≡ None → Both (next told.terms.shape told.terms.sizes before (New v.gate.number o class)) (Some (fresh_new (New v.gate.number o class)))
  made class none absent = quietly (next told.terms.shape told.terms.sizes before (New v.gate.number o class)) (Some (fresh_new (New v.gate.number o class)))
      (record {
        active = refl;
        launched = refl;
        rises = subst (λ k. before.stamp o ≤ k) (sym (at_here o before.epoch before.stamp)) ((sound told id v m words views h sits).stamps.epoch o);
        stamp_else = λ i ne. at_else o before.epoch before.stamp i ne;
        lost = λ i n e. e;
      })
      none refl
      (λ l launch launched stood above later.
      let past = (sound told id v m words views h sits).pasts.same o (m.board (LaneWord l)) launch launched above in
      nowhere (subst (λ (x : Option Object). IsSome x) (past ∙ absent) stood))
      (λ y e. let s = one_flight (fresh_new (New v.gate.number o class)) y e in
      (ap (λ (z : Flight). z.awaiting) (sym s), ap (λ (z : Flight). z.index) (sym s), ap (λ (z : Flight). z.built) (sym s)))
    where
      nowhere : IsSome {T = Object} None → ⊥
      nowhere e = absurd cc

  -- a change: each lane that needs the old version is owed its forwarding word. Where the index reaches a free copy one row more is kept, and else the
  -- version is lost for each of them
  module _ (f value : ℕ) (x : Flight) (awaits : x.awaiting ≡ lanes) (drawn_index : x.index ≡ index_for lanes index) (unwritten : x.written ≡ false) (unbuilt : x.built ≡ 0)
      (copied : copy ≡ is_any lanes) (knows : KnowsNeed v may.hand) where
    abbrev after : World
    after = changed told.terms.sizes before o f value

    goes : GoesOn before after o
    goes = record {
      active = refl;
      launched = refl;
      rises = subst (λ k. before.stamp o ≤ k) (sym (at_here o before.epoch before.stamp)) ((sound told id v m words views h sits).stamps.epoch o);
      stamp_else = λ i ne. at_else o before.epoch before.stamp i ne;
      lost = λ i n e. lost_stays told.terms.sizes before o i n e;
    }

    owes : (y : Flight) (l : ℕ) → Some x ≡ Some y → is_among y.awaiting l ≡ true
        → IsOwed told.terms.sizes after (λ l. m.board (LaneWord l)) (m.board AvailableWord) (m.board (ForwardWord o l)) y o l
    owes y l is among =
        let s = one_flight x y is in
        let needs_it : is_among lanes l ≡ true = ap (λ ns. is_among ns l) (sym awaits) ∙ ap (λ (z : Flight). is_among z.awaiting l) s ∙ among in
        let r = needs told id v m words views h sits may.hand may.held may.quiet may.inside l needs_it in
        let above = r.2 in
        record {
          within = r.0;
          active = r.1;
          apart = λ e. let old = h.lane_part.epochs o l in absurd (omega (arith, old, e, above));
          unwritten = ap (λ (z : Flight). z.written) (sym s) ∙ unwritten;
          lost = λ i e full.
              let is = (index_is lanes index i (sym drawn_index ∙ ap (λ (z : Flight). z.index) s ∙ e)).0 in
              let none = h.copy_part.none_left (subst (λ k. m.board AvailableWord ≤ k) (sym is ∙ is_index) full) in
              lost_now told.terms.sizes before o (omega (arith, none)) (m.board (LaneWord l))
              (check_needs told id v m words views h sits may.hand may.held may.quiet may.inside l needs_it);
        }

    -- where a copy is left, no more rows are kept than there are copies
    not_full : drawn < m.board AvailableWord → length before.kept < told.terms.sizes.copies
    not_full lt = let left = h.copy_part.some_left (omega (arith, lt)) in omega (arith, left, lt)

    -- a check needs the old version exactly where a lane does
    some_need : is_any (needing_in before o) ≡ copy
    some_need = same_need told id v m words views h sits may.hand may.held may.quiet may.inside knows ∙ sym copied

    -- so where a copy is left there is one row more, and each lane of its checks awaits its word
    row_or_none : ((changed told.terms.sizes before o f value).kept ≡ before.kept)
        ⊎ AddsRow told.terms.sizes before (changed told.terms.sizes before o f value) (λ l. m.board (LaneWord l)) (m.board AvailableWord) drawn (drawn + copies_of copy) o (Some x)
    row_or_none = ⊎_elim
        (λ lt. inr (record {
          rows = kept_grows told.terms.sizes before o (not_full lt);
          left = lt;
          taken = λ n among. ap (λ c. drawn + copies_of c) (sym some_need ∙ any_of (needing_in before o) n among);
          awaits = λ l within active among. record {
            one = x;
            flies = refl;
            awaits = ap (λ ns. is_among ns l) awaits ∙ needed told id v m words views h sits may.hand may.held may.quiet may.inside knows l within active
                (lt_true (before.stamp o) (m.board (LaneWord l)) (among_passing (λ k. nat_lt (before.stamp o) k) before.active (m.board (LaneWord l)) among).1);
          };
        }))
        (λ full. let none = h.copy_part.none_left full in inl (kept_same told.terms.sizes before o (omega (arith, none))))
        (lt_or_ge drawn (m.board AvailableWord))

    -- a lane that awaits its word with an index below the list's length has a row, whose copy is the drawn one
    drew : (y : Flight) (l i : ℕ) → Some x ≡ Some y → is_among y.awaiting l ≡ true → y.index ≡ Some i → i < m.board AvailableWord
        → (i ≡ drawn) × (is_among (needing_in before o) (m.board (LaneWord l)) ≡ true)
        × (is_kept (changed told.terms.sizes before o f value).kept o (m.board (LaneWord l)) ≡ true)
    drew y l i is among e lt =
        let s = one_flight x y is in
        let r = index_is lanes index i (sym drawn_index ∙ ap (λ (z : Flight). z.index) s ∙ e) in
        let i_is : i ≡ drawn = sym r.0 ∙ is_index in
        let need = check_needs told id v m words views h sits may.hand may.held may.quiet may.inside l
        (ap (λ ns. is_among ns l) (sym awaits) ∙ ap (λ (z : Flight). is_among z.awaiting l) s ∙ among) in
        let rows = kept_grows told.terms.sizes before o (not_full (subst (λ k. k < m.board AvailableWord) i_is lt)) in (
          i_is,
          need,
          ap (λ rs. is_kept rs o (m.board (LaneWord l))) rows
              ∙ kept_in_back before.kept (row_if_needed o (needing_in before o)) o (m.board (LaneWord l)) (row_keeps o (needing_in before o) (m.board (LaneWord l)) need),
        )

    change_versions : Both (changed told.terms.sizes before o f value) (Some x)
    change_versions =
        let kept = kept_after told.terms.sizes before o (m.board AvailableWord) drawn h.copy_part.some_left h.copy_part.none_left copy some_need in (
          lanes_drawn told.terms.sizes before after (λ l. m.board (LaneWord l)) (m.board AvailableWord) F (λ o f. m.board (FieldWord o f)) (λ o l. m.board (ForwardWord o l))
              (λ c k. m.board (CopyWord c k)) (λ i. m.board (FreeWord i)) h.lane_part o goes nothing_flies (Some x)
              (λ l launch within active launched stood above later. record {
                one = x;
                flies = refl;
                awaits = ap (λ ns. is_among ns l) awaits
                    ∙ needed told id v m words views h sits may.hand may.held may.quiet may.inside knows l within active above;
              })
              owes
              (λ y is. ap (λ (z : Flight). z.built) (sym (one_flight x y is)) ∙ unbuilt),
          copies_drawn told.terms.sizes before (λ l. m.board (LaneWord l)) (m.board AvailableWord) drawn m.since F (λ o l. m.board (ForwardWord o l)) (λ i. m.board (FreeWord i)) h.copy_part
              after o (drawn + copies_of copy) (Some x) nothing_flies refl (one_or_none copy drawn) kept.0 kept.1
              (λ y i is e.
              let s = one_flight x y is in
              let r = index_is lanes index i (sym drawn_index ∙ ap (λ (z : Flight). z.index) s ∙ e) in
              (sym r.0 ∙ is_index, ap (λ c. drawn + copies_of c) (copied ∙ r.1))),
          kept_drawn told.terms.sizes before (λ l. m.board (LaneWord l)) (m.board AvailableWord) drawn F (λ o l. m.board (ForwardWord o l)) (λ i. m.board (FreeWord i)) m.copy_of h.kept_part
              m.since h.copy_part after o (drawn + copies_of copy) (Some x) nothing_flies refl (omega arith) unkept row_or_none drew,
        )

  by_event : (e : Event) → Suits v may.hand e → copy ≡ takes_copy e lanes → (is_change e ≡ true → KnowsNeed v may.hand)
      → Both (next told.terms.shape told.terms.sizes before e) (left_in_flight before.heap lanes index e)
  by_event (New t obj class) s copied knows =
      let is_next = next_is told id v m words views h sits obj s.2.next in
      let absent = next_absent told.terms.sizes before v.gate.number obj (sound told id v m words views h sits).regions is_next in
      subst (λ (x : ℕ × ℕ). Both (next told.terms.shape told.terms.sizes before (New x.0 x.1 class)) (Some (fresh_new (New x.0 x.1 class)))) (λ i. (sym s.0 i, sym s.1 i))
      (made class copied (ap before.heap (sym s.1) ∙ absent))
  by_event (Load t obj f value) s copied knows = unchanged copied
  by_event (Store t obj f value) s copied knows =
      subst (λ k. Both (changed told.terms.sizes before k f value) (Some (fresh_change (Store t k f value) (word_or_zero before.heap k f) lanes index))) (sym s.1)
      (change_versions f value (fresh_change (Store t o f value) (word_or_zero before.heap o f) lanes index) refl refl refl refl copied (knows refl))
  by_event (Cas t obj f expect value true) s copied knows =
      subst (λ k. Both (changed told.terms.sizes before k f value) (Some (fresh_change (Cas t k f expect value true) (word_or_zero before.heap k f) lanes index))) (sym s.1)
      (change_versions f value (fresh_change (Cas t o f expect value true) (word_or_zero before.heap o f) lanes index) refl refl refl refl copied (knows refl))
  by_event (Cas t obj f expect value false) s copied knows = unchanged copied
  by_event (Launch t site number args) s copied knows = absurd s
  by_event (Retire t number) s copied knows = absurd s

  pub versions_drawn :
      (clock : ℕ) → low_half clock ≡ low_half (m.board ClockWord) + copies_of copy
      → VersionsAfter told m (after_event told m event)
      (flights_of (at v.gate.number (Some (record may.hand { flight = left_in_flight (world_of told.terms m).heap (needing_lanes v may.hand) index event })) m.grip)
      (at may.hand.object (suc v.gate.number) m.holder)) (copies_after told m may.hand.object) (written ClockWord clock m.board)
  versions_drawn clock low =
      let x' : Option Flight = left_in_flight before.heap lanes index event in
      let both : Both (after_event told m event) x' = by_event event may.suits may.copied may.known in
      let same = flights_taken m.grip m.holder h.object_part.named v.gate.number o (Some (record may.hand { flight = left_in_flight before.heap lanes index event }))
      (λ p holds. sym (holds_one hand p (subst (λ g. Holds g p) grip_is holds))) in
      subst (λ (t : (ℕ → Option Flight) × ℕ).
      LanePart told.terms.sizes (after_event told m event) (λ l. m.board (LaneWord l)) (m.board AvailableWord) t.0 (λ o f. m.board (FieldWord o f)) (λ o l. m.board (ForwardWord o l))
      (λ c k. m.board (CopyWord c k)) (λ i. m.board (FreeWord i))
      × CopyPart told.terms.sizes (after_event told m event) (λ l. m.board (LaneWord l)) (m.board AvailableWord) t.1 m.since t.0 (λ o l. m.board (ForwardWord o l))
      (λ i. m.board (FreeWord i))
      × KeptPart told.terms.sizes (after_event told m event) (λ l. m.board (LaneWord l)) (m.board AvailableWord) t.1 t.0 (λ o l. m.board (ForwardWord o l))
      (λ i. m.board (FreeWord i)) (copies_after told m o)) (λ i. ((λ p. sym (same p) i), sym low i)) both

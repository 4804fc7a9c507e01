-- The copy store and the forward store of a holder keep the rule, whatever the table is when the word changes.
use Rattle.std.proofs.Common.{◌≡◌, ◌≢◌, ℕ, zero, suc, ◌+◌, ◌^◌, ◌<◌, ◌≤◌, ◌⊎◌, true, false}
use Rattle.std.proofs.Common.{Option, Some, set}
use Rattle.std.proofs.Common.{sym, refl, ap, subst, ◌∙◌, arith, ⊎_elim, inl, inr}
use mathlib.Core.Logic.{dite}
use native.Mathlib.Decide.{ℕ_discrete}
use mathlib.Core.Option.{some}
use Rattle.atomic_table.specs.Table.{State, keeps, Allows}
use Rattle.st_layout.specs.declared.limits.TheConstants.{MOST_FIELDS}
use Rattle.st_layout.specs.Names.{WordName, ClockWord, AvailableWord, LaneWord, ClassWord, HeaderWord, ForwardWord, FieldWord, CopyWord, FreeWord, RowWord}
use Rattle.st_layout.specs.Names.{HasWord, cells_of}
use Rattle.st_layout.specs.Layout.{word_of}
use Rattle.st_layout.specs.Packed.{packed, high_half, low_half}
use Rattle.st_events.specs.declared.limits.TheConstants.{MOST_COPIES}
use Rattle.st_events.specs.World.{World, at, is_among, is_lost, without}
use Rattle.st_events.proofs.AmongLemmas.{among_without}
use Rattle.st_rule.specs.declared.forwards.TheConstants.{LOST}
use Rattle.st_rule.specs.declared.views.Flight.{Flight}
use Rattle.st_rule.specs.declared.views.Held.{Held}
use Rattle.st_rule.specs.declared.views.MutView.{MutView}
use Rattle.st_rule.specs.declared.views.Phase.{Phase}
use Rattle.st_rule.specs.declared.views.Phase.TheVariants.{Outside, Entering, Inside, Closing, Alone}
use Rattle.st_rule.specs.declared.views.Terms.{Terms}
use Rattle.st_rule.specs.declared.views.View.{View}
use Rattle.st_rule.specs.declared.views.View.TheVariants.{Mut}
use Rattle.st_rule.specs.Board.{Displays, plan_of, written, same_name, stays_loaded}
use Rattle.st_rule.specs.Holding.{word_loaded}
use Rattle.st_rule.specs.Needs.{HasFlight, HasFreeCopy, AwaitsCopyWord, AwaitsForward, IsVersionWord, IsTarget}
use Rattle.st_rule.specs.Parts.{Sits, ObjectPart}
use Rattle.st_rule.specs.Plays.{Seated, Becomes}
use Rattle.st_rule.specs.Rule.{Told, Moment, HoldsAt, IsSoundTable, world_of, flights_of}
use Rattle.st_rule.specs.Turns.{copy_stored, forwarded, with_built, with_forward, one_built, owed_less}
use Rattle.st_rule.specs.Versions.{version_word}
use Rattle.st_rule.specs.Views.{is_closer}
use Rattle.st_rule.proofs.ActSteps.{phases', holder_keeps, held_alone, flight_is, launched_before, grip_is, is_inside, inside_is, others}
use Rattle.st_rule.proofs.CopyLemmas.{ComesFrom, copies_kept, copies_forwarded}
use Rattle.st_rule.proofs.GateSteps.{becomes, store_fits, stays_of}
use Rattle.st_rule.proofs.KeptLemmas.{kept_reflown, kept_forwarded}
use Rattle.st_rule.proofs.HoldLemmas.{at_field, field_other, field_elsewhere, objects_reflown, objects_forwarded, landed_there}
use Rattle.st_rule.proofs.LaneLemmas.{lanes_built, lanes_forwarded, one_flight}
use Rattle.st_rule.proofs.LoadedLemmas.{written_else}
use Rattle.st_rule.proofs.ObjectLemmas.{flights_taken}
use Rattle.st_rule.proofs.PackedLemmas.{high_packed, low_packed}
use Rattle.st_rule.proofs.ReachLemmas.{sound as sound_world}
use Rattle.st_rule.proofs.TurnLemmas.{StaysOnBoard, VersionsAt}
use Rattle.st_rule.proofs.ViewLemmas.{at_here, at_else}

-- words that only who is alone keeps what it has loaded of
abbrev IsLoneWord : WordName → Type 0
IsLoneWord name = (p : Phase) → p ≢ Alone → stays_loaded p name ≡ false

copies_are_lone : (c k : ℕ) → IsLoneWord (CopyWord c k)
copies_are_lone c k Outside other = refl
copies_are_lone c k Entering other = refl
copies_are_lone c k Inside other = refl
copies_are_lone c k Closing other = refl
copies_are_lone c k Alone other = absurd (other refl)

forwards_are_lone : (o l : ℕ) → IsLoneWord (ForwardWord o l)
forwards_are_lone o l Outside other = refl
forwards_are_lone o l Entering other = refl
forwards_are_lone o l Inside other = refl
forwards_are_lone o l Closing other = refl
forwards_are_lone o l Alone other = absurd (other refl)

not_alone : Inside ≢ Alone
not_alone e = absurd (cc e)

-- a copy's number is no sign that a version is lost
pub copy_is_not_lost : (copies c : ℕ) → copies ≤ MOST_COPIES → c < copies → suc c ≢ LOST
copy_is_not_lost copies c most below e = absurd (omega (arith, most, below, e))

module _ (told : Told) (slots id : ℕ) (me : Seated) (v : MutView) (is : me.0 ≡ Mut v) (s : State Unit View) (m : Moment) (h : HoldsAt told m s.words s.views)
    (sits : Sits s.views id (Mut v)) where
  abbrev n : ℕ
  n = v.gate.number

  abbrev w : World
  w = world_of told.terms m

  abbrev flights : ℕ → Option Flight
  flights = flights_of m.grip m.holder

  -- while a seat is inside, nobody is alone
  none_alone : v.gate.phase ≡ Inside → (j : ℕ) → at v.gate.number v.gate.phase m.phase j ≢ Alone
  none_alone inside j = dite (ℕ_discrete j n)
      (λ same alone. not_alone (sym inside ∙ sym (at_here n v.gate.phase m.phase) ∙ ap (at n v.gate.phase m.phase) (sym same) ∙ alone))
      (λ other alone. there j (sym (at_else n v.gate.phase m.phase j other) ∙ alone) other)
    where
      there : (j : ℕ) → m.phase j ≡ Alone → j ≢ n → ⊥
      there j alone other = ⊎_elim
          (λ out. absurd (let e : Outside ≡ Alone = sym out ∙ alone in cc e))
          (λ seated.
          let is_alone : seated.0.gate.phase ≡ Alone = sym (h.seating.phases (m.seat j) seated.0 seated.1) ∙ ap m.phase seated.2 ∙ alone in
          h.gate_part.clear (m.seat j) seated.0 seated.1 (ap is_closer is_alone) n
          (h.gate_part.alone_saw_all (m.seat j) seated.0 seated.1 is_alone n (h.seating.numbers id v sits) (λ e. other (sym seated.2 ∙ sym e)))
          (h.seating.phases id v sits ∙ inside))
          (h.seating.seated j)

  -- a store of such a word leaves what anyone keeps
  lone_quiet : (inside : v.gate.phase ≡ Inside) (name : WordName) (value : ℕ) → IsLoneWord name → (clock : written name value m.board ClockWord ≡ m.board ClockWord)
      → ((o l : ℕ) → high_half (m.board (ForwardWord o l)) ≡ m.board (LaneWord l) → written name value m.board (ForwardWord o l) ≡ m.board (ForwardWord o l))
      → ((check k : ℕ) → written name value m.board (RowWord check k) ≡ m.board (RowWord check k))
      → StaysOnBoard (at v.gate.number v.gate.phase m.phase) m.board (written name value m.board)
  lone_quiet inside name value lone clock forwarded rows = record {
    clock = clock;
    forwarded = forwarded;
    rows = rows;
    board = λ other keeps'. written_else Inside name other value m.board (lone Inside not_alone) keeps' (same_name other name) refl;
    loaded = λ j other keeps'. written_else (phases' told slots id me v is s m h sits j) name other value m.board
        (lone (phases' told slots id me v is s m h sits j) (none_alone inside j)) keeps' (same_name other name) refl;
  }

  -- what was loaded of the board is what its words are
  loaded_is : v.gate.phase ≡ Inside → (name : WordName) → HasWord (plan_of told.terms.sizes) name → stays_loaded Inside name ≡ true
      → (x : ℕ) → word_loaded v.board.loaded (word_of (plan_of v.terms.sizes) name) ≡ Some x → m.board name ≡ x
  loaded_is inside name has keeps' x found = h.loaded_part.loaded id v sits name has (ap (λ p. stays_loaded p name) inside ∙ keeps') x
      (ap (λ (t : Terms). word_loaded v.board.loaded (word_of (plan_of t.sizes) name)) (sym (h.seating.told id v sits)) ∙ found)

  module _ (has : HasFlight v) where
    abbrev hand : Held
    hand = has.hand

    abbrev y : Flight
    y = has.flight

    inside : v.gate.phase ≡ Inside
    inside = is_inside told slots id me v is s m h sits hand has.held

    flies_is : flights hand.object ≡ Some y
    flies_is = flight_is told slots id me v is s m h sits hand has.held ∙ has.flies

    -- the word of the version is the field that is not overwritten
    version_is : (k value : ℕ) → IsVersionWord hand k value → value ≡ version_word (λ o f. m.board (FieldWord o f)) hand.object k
    version_is zero value word = word
    version_is (suc f) value word = sym (h.object_part.loaded n hand (grip_is told slots id me v is s m h sits hand has.held) f value word)

    -- the copy is the one that the free list names at the drawn index
    module _ (copy : ℕ) (free : HasFreeCopy v has.flight copy) where
      available_is : m.board AvailableWord ≡ free.available
      available_is = loaded_is inside AvailableWord tt refl free.available free.loaded

      below : free.index < m.board AvailableWord
      below = subst (λ k. free.index < k) (sym available_is) free.below

      index_within : free.index < told.terms.sizes.copies
      index_within = let listed = h.copy_part.listed in omega (arith, below, listed)

      copy_is : m.board (FreeWord free.index) ≡ copy
      copy_is = loaded_is inside (FreeWord free.index) index_within refl copy free.named

      copy_within : copy < told.terms.sizes.copies
      copy_within = subst (λ k. k < told.terms.sizes.copies) copy_is (h.copy_part.named free.index index_within)

    -- the hand with another flight on the same event
    objects_with : (z : Flight) → z.event ≡ y.event → z.old ≡ y.old → z.written ≡ y.written
        → ObjectPart told.terms.sizes w (phases' told slots id me v is s m h sits) (at n (Some (record hand { flight = Some z })) m.grip) (at hand.object (suc n) m.holder)
        (λ o. m.board (HeaderWord o)) (λ o. m.board (ClassWord o)) (λ o f. m.board (FieldWord o f)) (λ o l. m.board (ForwardWord o l))
    objects_with z event old written = objects_reflown told.terms.sizes w m.phase (phases' told slots id me v is s m h sits) m.grip m.holder (λ o. m.board (HeaderWord o))
        (λ o. m.board (ClassWord o)) (λ o f. m.board (FieldWord o f)) (λ o l. m.board (ForwardWord o l)) h.object_part n (others told slots id me v is s m h sits) hand
        (grip_is told slots id me v is s m h sits hand has.held) (inside_is told slots id me v is s m h sits inside) y has.flies z event old written

    flights_now : (z : Flight) → (o : ℕ)
        → flights_of (at n (Some (record hand { flight = Some z })) m.grip) (at hand.object (suc n) m.holder) o ≡ at hand.object (Some z) flights o
    flights_now z = flights_taken m.grip m.holder h.object_part.named n hand.object (Some (record hand { flight = Some z })) (held_alone told slots id me v is s m h sits hand has.held)

    comes : (z : Flight) → z.index ≡ y.index → y.built ≤ z.built → ((l : ℕ) → is_among z.awaiting l ≡ true → is_among y.awaiting l ≡ true)
        → ComesFrom (flights hand.object) (Some z)
    comes z index more fewer x e = let same = one_flight z x e in (
      y,
      flies_is,
      record {
        index = ap (λ (t : Flight). t.index) (sym same) ∙ index;
        built = subst (λ (t : Flight). y.built ≤ t.built) same more;
        awaits = λ l among. fewer l (ap (λ (t : Flight). is_among t.awaiting l) same ∙ among);
      },
    )

  -- copy store
  copies_word :
      (word copy k value new : ℕ) → word ≡ word_of (plan_of told.terms.sizes) (CopyWord copy k)
      → new ≡ value
      → AwaitsCopyWord v copy k value
      → IsSoundTable told (record { words = set s.words word new; homes = s.homes; views = set s.views id (Mut (copy_stored v)) })
  copies_word word copy k value new is_word is_new awaits =
      let hand : Held = awaits.has.hand in
      let y : Flight = awaits.has.flight in
      let free = awaits.free in
      let z : Flight = record y { built = y.built + 1 } in
      let c : ℕ = m.board (FreeWord free.index) in
      let is_copy : c ≡ copy = copy_is awaits.has copy free in
      let at_most : y.built ≤ MOST_FIELDS = subst (λ i. i ≤ MOST_FIELDS) awaits.next awaits.within in
      let is_version : value ≡ version_word (λ o f. m.board (FieldWord o f)) hand.object y.built =
      version_is awaits.has k value awaits.word ∙ ap (version_word (λ o f. m.board (FieldWord o f)) hand.object) awaits.next in
      let is_below = below awaits.has copy free in
      let mine = h.copy_part.indexes hand.object y free.index (flies_is awaits.has) free.drawn in
      holder_keeps told slots id me v is s m h sits (copy_stored v) (stays_of v (copy_stored v) refl refl refl refl refl) refl refl refl (Some (record hand { flight = Some z }))
      (ap with_built awaits.has.held ∙ ap (λ x. Some (record hand { flight = one_built x })) awaits.has.flies)
      (written (CopyWord c y.built) value m.board)
      (lone_quiet (inside awaits.has) (CopyWord c y.built) value (copies_are_lone c y.built) refl (λ o l epoch. refl)
      (λ check k. refl)) (λ j. refl) refl (at hand.object (suc n) m.holder)
      (objects_with awaits.has z refl refl refl)
      (subst (λ (x : ℕ → Option Flight). VersionsAt told m x (written (CopyWord c y.built) value m.board)) (λ i o. sym (flights_now awaits.has z o) i) (
        lanes_built told.terms.sizes w (λ l. m.board (LaneWord l)) (m.board AvailableWord) flights (λ o f. m.board (FieldWord o f)) (λ o l. m.board (ForwardWord o l))
            (λ c k. m.board (CopyWord c k)) (λ i. m.board (FreeWord i)) h.lane_part hand.object y (flies_is awaits.has) free.index free.drawn value is_version
            (λ o l c' named. h.copy_part.spares_built o l c' named hand.object y free.index (flies_is awaits.has) free.drawn is_below at_most)
            (λ o x j other flies drawn lt same.
            let theirs = h.copy_part.indexes o x j flies drawn in
            let one = h.copy_part.once j free.index theirs.0 lt mine.0 is_below same in
            other (h.copy_part.differ o hand.object x y j flies (flies_is awaits.has) drawn (free.drawn ∙ ap Some (sym one))))
            (λ c' lt. copy_is_not_lost told.terms.sizes.copies c' h.limits.copies lt),
        copies_kept told.terms.sizes w (λ l. m.board (LaneWord l)) (m.board AvailableWord) (low_half (m.board ClockWord)) m.since flights
            (λ o l. m.board (ForwardWord o l)) (λ i. m.board (FreeWord i)) h.copy_part hand.object (Some z) (comes awaits.has z refl (omega arith) (λ l among. among)),
        kept_reflown told.terms.sizes w (λ l. m.board (LaneWord l)) (m.board AvailableWord) (low_half (m.board ClockWord)) flights
            (λ o l. m.board (ForwardWord o l)) (λ i. m.board (FreeWord i)) m.copy_of h.kept_part hand.object (Some z) (comes awaits.has z refl (omega arith) (λ l among. among))
            (λ l waits. record { one = z; flies = refl; awaits = ap (λ (t : Flight). is_among t.awaiting l) (one_flight y waits.one (sym (flies_is awaits.has) ∙ waits.flies)) ∙ waits.awaits }),
      ))
      word new
      (subst (λ (x : (ℕ × ℕ) × ℕ). Displays (plan_of told.terms.sizes) (set s.words word x.1) (written (CopyWord x.0.0 x.0.1) value m.board))
      (λ i. ((sym is_copy i, awaits.next i), sym is_new i))
      (store_fits told id v m s.words s.views h sits word (CopyWord copy k) value is_word (copy_within awaits.has copy free, awaits.within)))

  -- forward store
  forwards_word :
      (word object lane value new : ℕ) → word ≡ word_of (plan_of told.terms.sizes) (ForwardWord object lane)
      → object < cells_of (plan_of told.terms.sizes) → lane < told.terms.sizes.lanes
      → new ≡ value
      → AwaitsForward v object lane value
      → IsSoundTable told (record { words = set s.words word new; homes = s.homes; views = set s.views id (Mut (forwarded lane v)) })
  forwards_word word object lane value new is_word within lane_within is_new awaits =
      let hand : Held = awaits.has.hand in
      let y : Flight = awaits.has.flight in
      let z : Flight = record y { awaiting = without lane y.awaiting } in
      let check : m.board (LaneWord lane) ≡ awaits.check = loaded_is (inside awaits.has) (LaneWord lane) lane_within refl awaits.check awaits.loaded in
      let t = target_is awaits.has awaits.check value lane awaits.awaits awaits.target in
      let low : ℕ = t.0 in
      let value_is : value ≡ packed (m.board (LaneWord lane)) low = t.1 ∙ ap (λ c. packed c low) (sym check) in
      let low_is = low_packed (m.board (LaneWord lane)) low t.2 in
      holder_keeps told slots id me v is s m h sits (forwarded lane v) (stays_of v (forwarded lane v) refl refl refl refl refl) refl refl refl (Some (record hand { flight = Some z }))
      (ap (with_forward lane) awaits.has.held ∙ ap (λ x. Some (record hand { flight = owed_less lane x })) awaits.has.flies)
      (written (ForwardWord hand.object lane) (packed (m.board (LaneWord lane)) low) m.board)
      (lone_quiet (inside awaits.has) (ForwardWord hand.object lane) (packed (m.board (LaneWord lane)) low) (forwards_are_lone hand.object lane) refl
      (still_told awaits.has lane awaits.awaits (packed (m.board (LaneWord lane)) low)) (λ check k. refl)) (λ j. refl) refl (at hand.object (suc n) m.holder)
      (objects_forwarded told.terms.sizes w (phases' told slots id me v is s m h sits) (at n (Some (record hand { flight = Some z })) m.grip) (at hand.object (suc n) m.holder)
      (λ o. m.board (HeaderWord o)) (λ o. m.board (ClassWord o)) (λ o f. m.board (FieldWord o f)) (λ o l. m.board (ForwardWord o l))
      (at_field hand.object lane (packed (m.board (LaneWord lane)) low) (λ o l. m.board (ForwardWord o l)))
      (λ o l none. dite (ℕ_discrete o hand.object)
      (λ here. absurd (landed_there w.heap hand.object y.event (h.object_part.flying n hand y (grip_is told slots id me v is s m h sits hand awaits.has.held) awaits.has.flies).landed
      (ap w.heap (sym here) ∙ none)))
      (λ other. field_elsewhere hand.object lane (packed (m.board (LaneWord lane)) low) (λ o l. m.board (ForwardWord o l)) o l other ∙ h.object_part.unmade o l none))
      (objects_with awaits.has z refl refl refl))
      (subst (λ (x : ℕ → Option Flight). VersionsAt told m x (written (ForwardWord hand.object lane) (packed (m.board (LaneWord lane)) low) m.board))
      (λ i o. sym (flights_now awaits.has z o) i) (
        lanes_forwarded told.terms.sizes w (λ l. m.board (LaneWord l)) (m.board AvailableWord) flights (λ o f. m.board (FieldWord o f)) (λ o l. m.board (ForwardWord o l))
            (λ c k. m.board (CopyWord c k)) (λ i. m.board (FreeWord i)) h.lane_part hand.object y (flies_is awaits.has) lane awaits.awaits low t.2
            (launched_before told slots id me v is s m h sits hand y awaits.has.held awaits.has.flies)
            (high_packed (m.board (LaneWord lane)) low t.2) low_is t.3,
        copies_forwarded told.terms.sizes w (λ l. m.board (LaneWord l)) (m.board AvailableWord) (low_half (m.board ClockWord)) m.since flights
            (λ o l. m.board (ForwardWord o l)) (λ i. m.board (FreeWord i)) h.copy_part hand.object (Some z)
            (comes awaits.has z refl (omega arith) (λ l among. (among_without lane y.awaiting l among).0))
            lane (packed (m.board (LaneWord lane)) low) y (flies_is awaits.has)
            (λ c is_low kept. t.4 c (sym low_is ∙ is_low) (λ e. kept (low_is ∙ e))),
        kept_forwarded told.terms.sizes w (λ l. m.board (LaneWord l)) (m.board AvailableWord) (low_half (m.board ClockWord)) flights
            (λ o l. m.board (ForwardWord o l)) (λ i. m.board (FreeWord i)) m.copy_of h.kept_part hand.object y (flies_is awaits.has)
            lane (packed (m.board (LaneWord lane)) low) awaits.awaits lane_within
            (h.lane_part.owed hand.object lane y (flies_is awaits.has) awaits.awaits).active (high_packed (m.board (LaneWord lane)) low t.2)
            (λ c is_low named. let free = t.4 c (sym low_is ∙ is_low) (λ e. named (low_is ∙ e)) in (free.0, free.1, free.2, free.3))
            (⊎_elim
            (λ one. inl (one.0, low_is ∙ one.1, λ e. copy_is_not_lost told.terms.sizes.copies one.0 h.limits.copies one.2 (sym one.1 ∙ sym low_is ∙ e)))
            (λ gone. inr (λ kept.
            let e : false ≡ true = sym ((sound_world told id v m s.words s.views h sits).rows.not_both hand.object (m.board (LaneWord lane)) kept) ∙ gone.1 in absurd cc))
            t.3),
      ))
      word new
      (subst (λ (x : ℕ × ℕ × ℕ). Displays (plan_of told.terms.sizes) (set s.words word x.1) (written (ForwardWord x.0 lane) x.2 m.board))
      (λ i. (awaits.object_is i, sym is_new i, value_is i))
      (store_fits told id v m s.words s.views h sits word (ForwardWord object lane) value is_word (within, lane_within)))
    where
      -- a lane that is owed its word has none of its check
      still_told : (has : HasFlight v) (lane : ℕ) → is_among has.flight.awaiting lane ≡ true → (word : ℕ)
          → (o l : ℕ) → high_half (m.board (ForwardWord o l)) ≡ m.board (LaneWord l) → written (ForwardWord has.hand.object lane) word m.board (ForwardWord o l) ≡ m.board (ForwardWord o l)
      still_told has lane awaits' word o l epoch = dite (ℕ_discrete o has.hand.object)
          (λ here. dite (ℕ_discrete l lane)
          (λ same. absurd ((h.lane_part.owed has.hand.object lane has.flight (flies_is has) awaits').apart
          (subst (λ (p : ℕ × ℕ). high_half (m.board (ForwardWord p.0 p.1)) ≡ m.board (LaneWord p.1)) (λ i. (here i, same i)) epoch)))
          (λ other. field_other has.hand.object lane word (λ o l. m.board (ForwardWord o l)) o l other))
          (λ other. field_elsewhere has.hand.object lane word (λ o l. m.board (ForwardWord o l)) o l other)

      -- what the low half of the word is: it names the complete copy, or says that the version is lost
      target_is :
          (has : HasFlight v) (check value lane : ℕ) → is_among has.flight.awaiting lane ≡ true → IsTarget v has.flight check value
          → (low : ℕ) × (value ≡ packed check low) × (low < 2 ^ 32)
          × (((c : ℕ) × (low ≡ suc c) × (c < told.terms.sizes.copies) × ((k : ℕ) → k ≤ MOST_FIELDS → m.board (CopyWord c k) ≡ version_word (λ o f. m.board (FieldWord o f)) has.hand.object k))
          ⊎ ((low ≡ LOST) × (is_lost w.lost has.hand.object (m.board (LaneWord lane)) ≡ true)))
          × ((c : ℕ) → low ≡ suc c → low ≢ LOST
          → (index : ℕ) × (has.flight.index ≡ Some index) × (index < m.board AvailableWord) × (m.board (FreeWord index) ≡ c) × (MOST_FIELDS < has.flight.built))
      target_is has check value lane awaits' (inl kept) =
          let copy : ℕ = kept.0 in
          let free = kept.1 in
          let is_copy = copy_is has copy free in
          let lt = copy_within has copy free in
          let most = h.limits.copies in
          let whole : MOST_FIELDS < has.flight.built = kept.2 in
          let owed = h.lane_part.owed has.hand.object lane has.flight (flies_is has) awaits' in (
            suc copy,
            kept.3 ∙ ap (packed check) (omega arith),
            omega (arith, lt, most),
            inl (
              copy,
              refl,
              lt,
              λ k few. ap (λ c. m.board (CopyWord c k)) (sym is_copy)
                  ∙ h.lane_part.built has.hand.object has.flight (flies_is has) owed.unwritten free.index free.drawn (below has copy free) k (omega (arith, few, whole)),
            ),
            λ c e kept'. (free.index, free.drawn, below has copy free, is_copy ∙ omega (arith, e), whole),
          )
      target_is has check value lane awaits' (inr lost) =
          let none = lost.0 in
          let available : m.board AvailableWord ≡ none.available = loaded_is (inside has) AvailableWord tt refl none.available none.loaded in
          let owed = h.lane_part.owed has.hand.object lane has.flight (flies_is has) awaits' in (
            LOST,
            lost.1,
            omega arith,
            inr (refl, owed.lost none.index none.drawn (subst (λ k. k ≤ none.index) (sym available) none.beyond)),
            λ c e kept'. absurd (kept' refl),
          )

module _ (told : Told) (slots id : ℕ) (me : Seated) (v : MutView) (is : me.0 ≡ Mut v) where
  -- copy store
  pub copy_store_keeps :
      (word copy k value new : ℕ) → word ≡ word_of (plan_of told.terms.sizes) (CopyWord copy k)
      → new ≡ value
      → AwaitsCopyWord v copy k value
      → Allows (IsSoundTable told) slots id me word (λ _. new) (λ _ after. Becomes (λ _ u. copy_stored u) me new after)
  copy_store_keeps word copy k value new is_word is_new awaits s sound wide at_id _ =
      (Mut (copy_stored v), keeps, tt, copies_word told slots id me v is s sound.0 sound.1 (at_id ∙ ap some is) word copy k value new is_word is_new awaits, becomes (λ _ u. copy_stored u) me v new is)

  -- forward store
  pub forward_store_keeps :
      (word object lane value new : ℕ) → word ≡ word_of (plan_of told.terms.sizes) (ForwardWord object lane)
      → object < cells_of (plan_of told.terms.sizes) → lane < told.terms.sizes.lanes
      → new ≡ value
      → AwaitsForward v object lane value
      → Allows (IsSoundTable told) slots id me word (λ _. new) (λ _ after. Becomes (λ _ u. forwarded lane u) me new after)
  forward_store_keeps word object lane value new is_word within lane_within is_new awaits s sound wide at_id _ = (
    Mut (forwarded lane v),
    keeps,
    tt,
    forwards_word told slots id me v is s sound.0 sound.1 (at_id ∙ ap some is) word object lane value new is_word within lane_within is_new awaits,
    becomes (λ _ u. forwarded lane u) me v new is,
  )

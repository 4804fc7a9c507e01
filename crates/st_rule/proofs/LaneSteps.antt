-- The three steps of a check's read keep the rule, whatever the table is when the word is loaded.
use Rattle.std.proofs.Common.{◌≡◌, ◌≢◌, ℕ, suc, ◌+◌, ◌<◌, ◌≤◌, Bool, true, false, List}
use Rattle.std.proofs.Common.{Option, Some, None, set, get_or, sym, refl, ap, subst, ◌∙◌, arith, ⊎_elim, inl, inr}
use Rattle.std.specs.Prelude.{IsSome, All}
use mathlib.Core.Logic.{dite}
use mathlib.Core.List.{IsPrefix}
use native.Mathlib.Decide.{ℕ_discrete}
use mathlib.Core.Option.{some}
use Rattle.atomic_table.specs.Table.{State, keeps, Allows}
use Rattle.atomic_table.proofs.Lists.{set_else}
use Rattle.st_layout.specs.declared.limits.TheConstants.{MOST_FIELDS}
use Rattle.st_layout.specs.Names.{WordName, LaneWord, ForwardWord, FieldWord, CopyWord, HasWord, cells_of}
use Rattle.st_layout.specs.Layout.{word_of}
use Rattle.st_layout.specs.Packed.{high_half, low_half}
use Rattle.st_events.specs.Heap.{Heap, Object, word_of as field_of, word_at}
use Rattle.st_events.specs.Legal.{IsLegal}
use Rattle.st_events.specs.World.{World, world_after, is_among, is_lost}
use Rattle.st_rule.specs.declared.views.HalfRead.{HalfRead}
use Rattle.st_rule.specs.declared.views.LaneView.{LaneView}
use Rattle.st_rule.specs.declared.views.MutView.{MutView}
use Rattle.st_rule.specs.declared.views.Phase.TheVariants.{Inside, Alone}
use Rattle.st_rule.specs.declared.views.Terms.{Terms}
use Rattle.st_rule.specs.declared.views.View.{View}
use Rattle.st_rule.specs.declared.views.View.TheVariants.{Mut, Lane, Gone}
use Rattle.st_rule.specs.Board.{Displays, plan_of}
use Rattle.st_rule.specs.Entries.{own_entries}
use Rattle.st_rule.specs.Holding.{word_or_zero}
use Rattle.st_rule.specs.LaneSeats.{LaneBecomes, ReadsForward, ReadsCopy, lane_of}
use Rattle.st_rule.specs.Parts.{Sits, HasLoaded, IsJoined}
use Rattle.st_rule.specs.Plays.{Seated}
use Rattle.st_rule.specs.Reading.{IsReading, IsHalfDone, IsFirstHalf, IsSecondHalf, TellsOfVersion, past_of, names_copy, with_target, field_read, forward_read, copy_read}
use Rattle.st_rule.specs.Rule.{Told, Moment, HoldsAt, IsSoundTable, world_of, flights_of}
use Rattle.st_rule.specs.Versions.{LaneAt}
use Rattle.st_rule.specs.Views.{seen_by, is_closer}
use Rattle.st_rule.proofs.BarrierSteps.{copy_is_not_lost}
use Rattle.st_rule.proofs.BoardLemmas.{load_displays}
use Rattle.st_rule.proofs.PrefixLemmas.{prefix_self}
use Rattle.st_rule.proofs.ReadLemmas.{mut_is_no_lane, gone_is_lane, muts_stay, names_epoch, names_some}
use Rattle.st_rule.proofs.TurnLemmas.{joined_still}
use Rattle.st_rule.proofs.ViewLemmas.{sits_once, all_set}

lane_is : (u x : LaneView) → Lane u ≡ Lane x → u ≡ x
lane_is u x e = ap lane_of e

half_is : (r x : HalfRead) → Some r ≡ Some x → r ≡ x
half_is r x e = cc

-- a cell of the past is of an object of the past
pub object_of_cell : (z : Option Object) (f : ℕ) → IsSome (field_of z f) → IsSome z
object_of_cell None f stood = absurd cc
object_of_cell (Some x) f stood = refl

module _ (told : Told) (id : ℕ) (u : LaneView) (m : Moment) (s : State Unit View) (h : HoldsAt told m s.words s.views) (sits : Sits s.views id (Lane u)) where
  abbrev w : World
  w = world_of told.terms m

  -- what the rule says of the lane
  pub reading : IsReading told.terms w (λ l. m.board (LaneWord l)) (λ o l. m.board (ForwardWord o l)) u
  reading = h.read_part.reads id u sits

  -- its lane at an object of its past
  pub lane_at : (object : ℕ) → IsSome (past_of u object)
      → LaneAt told.terms.sizes w (flights_of m.grip m.holder object) (λ f. m.board (FieldWord object f)) (m.board (ForwardWord object u.lane))
      (λ c k. m.board (CopyWord c k)) object u.lane u.check (past_of u)
  lane_at object stood =
      subst (λ (t : ℕ × Heap).
      LaneAt told.terms.sizes w (flights_of m.grip m.holder object) (λ f. m.board (FieldWord object f)) (m.board (ForwardWord object u.lane))
      (λ c k. m.board (CopyWord c k)) object u.lane t.0 t.1)
      (λ i. (reading.has_lane i, reading.past i))
      (h.lane_part.lanes u.lane object reading.launch reading.within (subst (λ n. is_among w.active n ≡ true) (sym reading.has_lane) reading.active)
      (ap w.launched reading.has_lane ∙ reading.launched) (subst (λ (x : Heap). IsSome (x object)) (sym reading.past) stood))

  -- the word that a load of a name finds
  pub found_there : (word : ℕ) (name : WordName) → word ≡ word_of (plan_of told.terms.sizes) name → HasWord (plan_of told.terms.sizes) name → get_or s.words word 0 ≡ m.board name
  found_there word name is_word has = ap (λ i. get_or s.words i 0) is_word ∙ h.displayed.says name has

  -- a load by a lane's seat changes its own view alone
  module _ (x : LaneView) (seen : IsPrefix x.seen m.journal) (reads : IsReading told.terms w (λ l. m.board (LaneWord l)) (λ o l. m.board (ForwardWord o l)) x) where
    abbrev views' : List View
    views' = set s.views id (Lane x)

    not_here : (j : ℕ) (v : MutView) → Sits s.views j (Mut v) → j ≢ id
    not_here j v there same = mut_is_no_lane v u (sits_once s.views id (Mut v) (Lane u) (subst (λ k. Sits s.views k (Mut v)) same there) sits)

    still_sits : (j : ℕ) (v : MutView) → Sits s.views j (Mut v) → Sits views' j (Mut v)
    still_sits j v there = set_else s.views id j (Lane x) (not_here j v there) ∙ there

    still_gone' : (j : ℕ) → Sits s.views j Gone → Sits views' j Gone
    still_gone' j gone = set_else s.views id j (Lane x)
        (λ same. gone_is_lane u (sits_once s.views id (Lane u) Gone sits (subst (λ k. Sits s.views k Gone) same gone))) ∙ gone

    lane_holds : (words' : List ℕ) → Displays (plan_of told.terms.sizes) words' m.board → HoldsAt told m words' views'
    lane_holds words' displays = record {
      limits = h.limits;
      shape_limits = h.shape_limits;
      displayed = displays;
      journal_part = record {
        legal = h.journal_part.legal;
        prefixes = all_set (λ j y. IsPrefix (seen_by y) m.journal) s.views id (Lane x) seen (λ j y other there. h.journal_part.prefixes j y there);
        seen_whole = let whole = h.journal_part.seen_whole in (whole.0, whole.1, still_sits whole.0 whole.1 whole.2, whole.3);
        tickets = h.journal_part.tickets;
        copies_drawn = h.journal_part.copies_drawn;
        own = muts_stay s.views id x (λ j v. own_entries v.gate.number 0 m.journal ≡ v.journal.entries) h.journal_part.own;
        own_seen = muts_stay s.views id x (λ j v. own_entries v.gate.number 0 v.journal.seen ≡ v.journal.entries) h.journal_part.own_seen;
        own_unsplit = h.journal_part.own_unsplit;
        charged = h.journal_part.charged;
        paid = h.journal_part.paid;
      };
      gate_part = record {
        flags = h.gate_part.flags;
        closer = h.gate_part.closer;
        nobody_closes = h.gate_part.nobody_closes;
        clear = muts_stay s.views id x (λ j v. is_closer v.gate.phase ≡ true → (n : ℕ) → is_among v.gate.clear n ≡ true → m.phase n ≢ Inside) h.gate_part.clear;
        alone_saw_all = muts_stay s.views id x (λ j v. v.gate.phase ≡ Alone → (n : ℕ) → n ≤ told.terms.sizes.mutators → n ≢ v.gate.number → is_among v.gate.clear n ≡ true)
            h.gate_part.alone_saw_all;
        alone_saw_journal = muts_stay s.views id x (λ j v. v.gate.phase ≡ Alone → v.journal.seen ≡ m.journal) h.gate_part.alone_saw_journal;
        one_view_each = muts_stay s.views id x (λ j v. m.seat v.gate.number ≡ j) h.gate_part.one_view_each;
        split_off = muts_stay s.views id x (λ j v. v.gate.number < told.terms.sizes.mutators → v.gate.number < m.split) h.gate_part.split_off;
      };
      board_part = h.board_part;
      loaded_part = record { loaded = muts_stay s.views id x (λ j v. HasLoaded (plan_of told.terms.sizes) m.board v) h.loaded_part.loaded };
      object_part = h.object_part;
      lane_part = h.lane_part;
      copy_part = h.copy_part;
      kept_part = h.kept_part;
      read_part = record {
        reads = λ j y there. all_set (λ j z. (y : LaneView) → z ≡ Lane y → IsReading told.terms w (λ l. m.board (LaneWord l)) (λ o l. m.board (ForwardWord o l)) y) s.views id (Lane x)
            (λ y e. subst (IsReading told.terms w (λ l. m.board (LaneWord l)) (λ o l. m.board (ForwardWord o l))) (lane_is x y e) reads)
            (λ j z other there y e. h.read_part.reads j y (subst (Sits s.views j) e there)) j (Lane y) there y refl;
      };
      row_part = h.row_part;
      hand_part = record {
        joined = muts_stay s.views id x (λ j v. All (IsJoined m.seat m.split m.journal views' v.journal.seen) v.hands.joined)
            (λ j v there. joined_still m.seat m.split m.journal s.views views' v.journal.seen v.journal.seen v.hands.joined (prefix_self v.journal.seen) still_gone'
            (h.hand_part.joined j v there));
      };
      seating = record {
        phases = muts_stay s.views id x (λ j v. m.phase v.gate.number ≡ v.gate.phase) h.seating.phases;
        grips = muts_stay s.views id x (λ j v. m.grip v.gate.number ≡ v.held) h.seating.grips;
        numbers = muts_stay s.views id x (λ j v. v.gate.number ≤ told.terms.sizes.mutators) h.seating.numbers;
        told = muts_stay s.views id x (λ j v. v.terms ≡ told.terms) h.seating.told;
        counts = muts_stay s.views id x (λ j v. v.gate.number ≡ told.terms.sizes.mutators → v.gate.split ≡ m.split) h.seating.counts;
        seated = λ n. ⊎_elim (λ out. inl out) (λ there. inr (there.0, still_sits (m.seat n) there.0 there.1, there.2)) (h.seating.seated n);
      };
    }

    pub lane_keeps : (word : ℕ) → IsSoundTable told (record { words = set s.words word (get_or s.words word 0); homes = s.homes; views = set s.views id (Lane x) })
    lane_keeps word = (m, lane_holds (set s.words word (get_or s.words word 0)) (load_displays (plan_of told.terms.sizes) s.words m.board word h.displayed))

  seen_fits : IsPrefix u.seen m.journal
  seen_fits = h.journal_part.prefixes id (Lane u) sits

  pub whole_legal : IsLegal u.terms.shape u.terms.sizes m.journal
  whole_legal = subst (λ (t : Terms). IsLegal t.shape t.sizes m.journal) (sym reading.told) h.journal_part.legal

  -- the first half: the live word is loaded first, so that it is right wherever the forwarding word is not the check's yet
  pub first_half : (word object field : ℕ) → word ≡ word_of (plan_of told.terms.sizes) (FieldWord object field)
      → object < cells_of (plan_of told.terms.sizes) → field < MOST_FIELDS → IsSome (word_at (past_of u) object field)
      → IsReading told.terms w (λ l. m.board (LaneWord l)) (λ o l. m.board (ForwardWord o l)) (field_read object field (get_or s.words word 0) u)
  first_half word object field is_word within few stood =
      let found : ℕ = get_or s.words word 0 in
      let r : HalfRead = record { object = object; field = field; value = found; forward = None } in
      let at = lane_at object (object_of_cell (past_of u object) field stood) in
      record {
        told = reading.told;
        within = reading.within;
        active = reading.active;
        has_lane = reading.has_lane;
        launch = reading.launch;
        launched = reading.launched;
        past = reading.past;
        known = reading.known;
        half = λ x e. subst (λ (y : HalfRead). IsHalfDone (field_read object field found u) y (m.board (ForwardWord y.object u.lane))) (half_is r x e) (record {
          stood = stood;
          first = λ none. dite (ℕ_discrete (high_half (m.board (ForwardWord object u.lane))) u.check)
              (λ epoch. inr epoch)
              (λ apart. inl (found_there word (FieldWord object field) is_word (within, few) ∙ at.live apart field));
          second = λ f e. absurd (let n : None ≡ Some f = e in cc);
        });
      }

  -- what the forwarding word tells after the first half
  pub tells : (r : HalfRead) → u.read ≡ Some r → r.forward ≡ None → TellsOfVersion u r (m.board (ForwardWord r.object u.lane)) m.journal
  tells r is none =
      let half = reading.half r is in
      let at = lane_at r.object (object_of_cell (past_of u r.object) r.field half.stood) in
      let world_is : (world_after u.terms.shape u.terms.sizes m.journal) ≡ w = ap (λ (t : Terms). world_after t.shape t.sizes m.journal) reading.told in
      record {
        live = λ apart. ⊎_elim (λ value. value) (λ epoch. absurd (apart epoch)) (half.first none);
        lost = λ epoch lost. subst (λ (x : World). is_lost x.lost r.object u.check ≡ true) (sym world_is) (⊎_elim
            (λ kept. absurd (copy_is_not_lost told.terms.sizes.copies kept.0 h.limits.copies kept.2 (sym kept.1 ∙ lost)))
            (λ gone. gone.1)
            (at.forwarded epoch));
        copy = λ epoch kept_one. ⊎_elim
            (λ kept. (kept.0, kept.1, subst (λ (t : Terms). kept.0 < t.sizes.copies) (sym reading.told) kept.2))
            (λ gone. absurd (kept_one gone.0))
            (at.forwarded epoch);
      }

  -- the second half: a word that names a copy stays as it is while the check is active
  second_half : (f : ℕ) (r : HalfRead) → u.read ≡ Some r → f ≡ m.board (ForwardWord r.object u.lane)
      → (b : Bool) → names_copy u.check f ≡ b → (x : HalfRead) → with_target b f u.read ≡ Some x → IsHalfDone u x (m.board (ForwardWord x.object u.lane))
  second_half f r is found true names x e =
      let y : HalfRead = record r { forward = Some f } in
      let same : y ≡ x = half_is y x (ap (with_target true f) (sym is) ∙ e) in
      subst (λ (y : HalfRead). IsHalfDone u y (m.board (ForwardWord y.object u.lane))) same (record {
        stood = (reading.half r is).stood;
        first = λ none. absurd (let n : Some f ≡ None = none in cc);
        second = λ g named. let one : f ≡ g = one_word f g named in (sym found ∙ one, ap (names_copy u.check) (sym one) ∙ names);
      })
    where
      one_word : (a b : ℕ) → Some a ≡ Some b → a ≡ b
      one_word a b e = cc
  second_half f r is found false names x e = absurd (let n : None ≡ Some x = e in cc)

  pub forward_half : (f : ℕ) (r : HalfRead) → u.read ≡ Some r → f ≡ m.board (ForwardWord r.object u.lane)
      → IsReading told.terms w (λ l. m.board (LaneWord l)) (λ o l. m.board (ForwardWord o l)) (forward_read f m.journal u)
  forward_half f r is found = record {
    told = reading.told;
    within = reading.within;
    active = reading.active;
    has_lane = reading.has_lane;
    launch = reading.launch;
    launched = reading.launched;
    past = reading.past;
    known = reading.launched;
    half = λ x e. let old = second_half f r is found (names_copy u.check f) refl x e in record { stood = old.stood; first = old.first; second = old.second };
  }

  pub done : (f : ℕ) → IsReading told.terms w (λ l. m.board (LaneWord l)) (λ o l. m.board (ForwardWord o l)) (copy_read f u)
  done f = record {
    told = reading.told;
    within = reading.within;
    active = reading.active;
    has_lane = reading.has_lane;
    launch = reading.launch;
    launched = reading.launched;
    past = reading.past;
    known = reading.known;
    half = λ x e. absurd (let n : None ≡ Some x = e in cc);
  }

  -- the copy's word is that of the past
  pub copy_word_is : (copy field : ℕ) → field < MOST_FIELDS → (second : IsSecondHalf u copy field) → m.board (CopyWord copy (field + 1)) ≡ word_or_zero (past_of u) second.half.object second.half.field
  copy_word_is copy field few second =
      let r : HalfRead = second.half in
      let half = reading.half r second.read in
      let named = half.second second.word second.forwarded in
      let at = lane_at r.object (object_of_cell (past_of u r.object) r.field half.stood) in
      let epoch : high_half (m.board (ForwardWord r.object u.lane)) ≡ u.check = ap high_half named.0 ∙ names_epoch u.check second.word named.1 in
      ⊎_elim
      (λ kept.
      let low : suc kept.0 ≡ copy + 1 = sym kept.1 ∙ ap low_half named.0 ∙ second.names in
      let one : kept.0 ≡ copy = omega (arith, low) in
      let next : field + 1 ≡ suc field = omega arith in
      (λ i. m.board (CopyWord (sym one i) (next i))) ∙ kept.3.fields field few ∙ ap (word_or_zero (past_of u) r.object) second.field_is)
      (λ gone. absurd (names_some u.check second.word named.1 (ap low_half (sym named.0) ∙ gone.0)))
      (at.forwarded epoch)

module _ (told : Told) (slots id : ℕ) (me : Seated) (u : LaneView) (is : me.0 ≡ Lane u) where
  became : (change : ℕ → LaneView → LaneView) (word : ℕ) → LaneBecomes change me word (Lane (change word u), me.1)
  became change word = record { view = λ x e. ap (λ y. Lane (change word y)) (lane_is u x (sym is ∙ e)); slots = refl }

  -- check field load
  pub check_field_keeps :
      (word object field : ℕ) → word ≡ word_of (plan_of told.terms.sizes) (FieldWord object field)
      → object < cells_of (plan_of told.terms.sizes) → field < MOST_FIELDS
      → IsSome (word_at (past_of u) object field)
      → Allows (IsSoundTable told) slots id me word (λ n. n) (LaneBecomes (field_read object field) me)
  check_field_keeps word object field is_word within few stood s sound wide at_id _ =
      let sits : Sits s.views id (Lane u) = at_id ∙ ap some is in
      let found : ℕ = get_or s.words word 0 in
      let m = sound.0 in
      let h = sound.1 in (
        Lane (field_read object field found u),
        keeps,
        tt,
        lane_keeps told id u m s h sits (field_read object field found u) (h.journal_part.prefixes id (Lane u) sits)
            (first_half told id u m s h sits word object field is_word within few stood) word,
        became (field_read object field) found,
      )

  -- check forward load
  pub check_forward_keeps :
      (word object : ℕ) → word ≡ word_of (plan_of told.terms.sizes) (ForwardWord object u.lane)
      → object < cells_of (plan_of told.terms.sizes)
      → IsFirstHalf u object
      → Allows (IsSoundTable told) slots id me word (λ n. n) (ReadsForward me)
  check_forward_keeps word object is_word within first s sound wide at_id _ =
      let sits : Sits s.views id (Lane u) = at_id ∙ ap some is in
      let found : ℕ = get_or s.words word 0 in
      let m = sound.0 in
      let h = sound.1 in
      let r : HalfRead = first.half in
      let is_found : found ≡ m.board (ForwardWord r.object u.lane) =
      found_there told id u m s h sits word (ForwardWord object u.lane) is_word (within, (reading told id u m s h sits).within) ∙ ap (λ o. m.board (ForwardWord o u.lane)) first.object_is in
      let same : (x : LaneView) → me.0 ≡ Lane x → u ≡ x = λ x e. lane_is u x (sym is ∙ e) in (
        Lane (forward_read found m.journal u),
        keeps,
        tt,
        lane_keeps told id u m s h sits (forward_read found m.journal u) (prefix_self m.journal)
            (forward_half told id u m s h sits found r first.read is_found) word,
        record {
          seen = m.journal;
          view = λ x e. ap (λ y. Lane (forward_read found m.journal y)) (same x e);
          goes_on = λ x e. subst (λ (y : LaneView). IsPrefix y.seen m.journal) (same x e) (h.journal_part.prefixes id (Lane u) sits);
          legal = λ x e. subst (λ (y : LaneView). IsLegal y.terms.shape y.terms.sizes m.journal) (same x e) (whole_legal told id u m s h sits);
          tells = λ x y e read.
              let one : r ≡ y = half_is r y (sym first.read ∙ ap (λ (z : LaneView). z.read) (same x e) ∙ read) in
              subst (λ (t : LaneView × HalfRead). TellsOfVersion t.0 t.1 found m.journal) (λ i. (same x e i, one i))
              (subst (λ k. TellsOfVersion u r k m.journal) (sym is_found) (tells told id u m s h sits r first.read first.unforwarded));
          slots = refl;
        },
      )

  -- check copy load
  pub check_copy_keeps :
      (word copy field : ℕ) → word ≡ word_of (plan_of told.terms.sizes) (CopyWord copy (field + 1))
      → field < MOST_FIELDS
      → IsSecondHalf u copy field
      → Allows (IsSoundTable told) slots id me word (λ n. n) (ReadsCopy me)
  check_copy_keeps word copy field is_word few second s sound wide at_id _ =
      let sits : Sits s.views id (Lane u) = at_id ∙ ap some is in
      let found : ℕ = get_or s.words word 0 in
      let m = sound.0 in
      let h = sound.1 in
      let r : HalfRead = second.half in
      let within : copy < told.terms.sizes.copies = subst (λ (t : Terms). copy < t.sizes.copies) (reading told id u m s h sits).told second.within in
      let is_found : found ≡ word_or_zero (past_of u) r.object r.field =
      found_there told id u m s h sits word (CopyWord copy (field + 1)) is_word (within, omega (arith, few)) ∙ copy_word_is told id u m s h sits copy field few second in
      let same : (x : LaneView) → me.0 ≡ Lane x → u ≡ x = λ x e. lane_is u x (sym is ∙ e) in (
        Lane (copy_read found u),
        keeps,
        tt,
        lane_keeps told id u m s h sits (copy_read found u) (h.journal_part.prefixes id (Lane u) sits) (done told id u m s h sits found) word,
        record {
          becomes = became copy_read found;
          tells = λ x y e read.
              let one : r ≡ y = half_is r y (sym second.read ∙ ap (λ (z : LaneView). z.read) (same x e) ∙ read) in
              subst (λ (t : LaneView × HalfRead). found ≡ word_or_zero (past_of t.0) t.1.object t.1.field) (λ i. (same x e i, one i)) is_found;
        },
      )

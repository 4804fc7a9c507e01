-- The six steps of the gate keep the rule, whatever the table is when the word changes.
use Rattle.std.proofs.Common.{◌≡◌, ◌≢◌, ℕ, suc, ◌+◌, ◌≤◌, ◌⊎◌, ◌==◌, ◌||◌, eqb, Bool, true, false, List, [], ◌∷◌, Option, Some, None, set}
use Rattle.std.proofs.Common.{get_or, sym, refl, ap, subst, ◌∙◌, arith, ⊎_elim, inl, inr, eq-eqb, ne_eqb, eqb-true}
use mathlib.Core.Logic.{◌↔◌, dite}
use native.Mathlib.Decide.{ℕ_discrete}
use mathlib.Core.Option.{some}
use mathlib.Core.List.{IsPrefix}
use prog.Atomic.{either}
use Rattle.atomic_table.specs.Table.{State, Act, keeps, Valid, carried_after, stepped, Allows}
use Rattle.atomic_table.proofs.Lists.{exchanged}
use Rattle.st_layout.specs.Names.{WordName, ClosingWord, FlagWord, ClassWord, HeaderWord, ForwardWord, FieldWord, HasWord}
use Rattle.st_layout.specs.Layout.{word_of}
use Rattle.st_events.specs.declared.events.Event.{Event}
use Rattle.st_events.specs.World.{at, is_among}
use Rattle.st_events.specs.Legal.{IsLegal}
use Rattle.st_rule.specs.declared.views.Phase.TheVariants.{Outside, Entering, Inside, Closing, Alone}
use Rattle.st_events.proofs.LegalLemmas.{prefix_is_legal}
use Rattle.st_rule.specs.declared.views.Terms.{Terms}
use Rattle.st_rule.specs.declared.views.MutView.{MutView}
use Rattle.st_rule.specs.declared.views.View.{View}
use Rattle.st_rule.specs.declared.views.View.TheVariants.{Mut}
use Rattle.st_rule.specs.Board.{Board, Displays, plan_of, written}
use Rattle.st_rule.specs.Parts.{Sits, HasLoaded, ObjectPart}
use Rattle.st_rule.specs.declared.views.Held.{Held}
use Rattle.st_rule.specs.Entries.{own_entries}
use Rattle.st_rule.specs.Holding.{Holds}
use Rattle.st_rule.specs.Plays.{Seated, Becomes, Learns}
use Rattle.st_rule.specs.Rule.{Told, Moment, HoldsAt, IsSoundTable, world_of, flights_of}
use Rattle.st_rule.specs.Turns.{no_board, flagged_in, looked_at, looked, flagged_out, took, took_gate, saw_flag, saw, gave_gate, closer_phase}
use Rattle.st_rule.specs.Turns.{saw_below}
use Rattle.std.proofs.lemmas.Bool.{both_ways}
use Rattle.st_rule.specs.Views.{flag_of, is_closer}
use Rattle.st_rule.proofs.BoardLemmas.{plan_fits, load_displays, store_displays}
use Rattle.st_rule.proofs.ViewLemmas.{mut_is, at_here, at_else, at_same}
use Rattle.st_rule.proofs.PrefixLemmas.{prefix_self}
use Rattle.st_rule.proofs.TurnLemmas.{StaysSeated, WordsTell, TurnsTo, StaysOnBoard, VersionsAt, leaves_board, turn_keeps}
use Rattle.st_rule.proofs.ObjectLemmas.{objects_turned}
use Rattle.st_rule.proofs.LoadedLemmas.{flags_fleet, closing_fleets, written_quiet, stays_nowhere, nothing_loaded, same_loaded}
use Rattle.st_rule.proofs.GateLemmas.{flag_written, words_kept, closing_taken, closing_given, closer_is, alone_saw_each}

-- a function of the view that the seat has
pub becomes : (change : ℕ → MutView → MutView) (me : Seated) (v : MutView) (word : ℕ) → me.0 ≡ Mut v → Becomes change me word (Mut (change word v), me.1)
becomes change me v word is = record { view = λ u e. ap (λ x. Mut (change word x)) (mut_is v u (sym is ∙ e)); slots = refl }

among_cons : (n : ℕ) (clear : List ℕ) (j : ℕ) → is_among (n ∷ clear) j ≡ true → (n ≡ j) ⊎ (is_among clear j ≡ true)
among_cons n clear j among = dite (ℕ_discrete n j) (λ same. inl same) (λ other. inr (subst (λ b. (b || is_among clear j) ≡ true) (ne_eqb n j other) among))

module _ (told : Told) (id : ℕ) (v : MutView) (m : Moment) (words : List ℕ) (views : List View) (h : HoldsAt told m words views) (sits : Sits views id (Mut v)) where
  abbrev pub k : ℕ
  k = v.gate.number

  abbrev pub mutators : ℕ
  mutators = told.terms.sizes.mutators

  tells : WordsTell mutators m.board m.phase
  tells = record { flags = h.gate_part.flags; closer = h.gate_part.closer; nobody_closes = h.gate_part.nobody_closes }

  pub is_phase : m.phase k ≡ v.gate.phase
  is_phase = h.seating.phases id v sits

  -- the word that a load of a name finds
  pub found_is : (word : ℕ) (name : WordName) → word ≡ word_of (plan_of told.terms.sizes) name → HasWord (plan_of told.terms.sizes) name → get_or words word 0 ≡ m.board name
  found_is word name is_word has = ap (λ i. get_or words i 0) is_word ∙ h.displayed.says name has

  -- the words after a store of a name
  pub store_fits :
      (word : ℕ) (name : WordName) (value : ℕ) → word ≡ word_of (plan_of told.terms.sizes) name → HasWord (plan_of told.terms.sizes) name
      → Displays (plan_of told.terms.sizes) (set words word value) (written name value m.board)
  store_fits word name value is_word has =
      subst (λ i. Displays (plan_of told.terms.sizes) (set words i value) (written name value m.board)) (sym is_word)
      (store_displays (plan_of told.terms.sizes) (plan_fits told.terms.sizes h.limits) words m.board name value has h.displayed)

  -- what a seat holds, it holds inside
  pub holds_inside : (o : ℕ) → Holds v.held o → v.gate.phase ≡ Inside
  holds_inside o holds = sym is_phase ∙ h.object_part.only_inside k o (subst (λ g. Holds g o) (sym (h.seating.grips id v sits)) holds)

  -- a turn of the gate, which leaves what the seat holds
  module _ (w : MutView) (stays : StaysSeated v w) (same_held : w.held ≡ v.held) (inside : (o : ℕ) → Holds w.held o → w.gate.phase ≡ Inside) where
    pub grip_kept : m.grip w.gate.number ≡ w.held
    grip_kept = ap m.grip stays.put.number ∙ h.seating.grips id v sits ∙ sym same_held

    pub objects_kept :
        ObjectPart told.terms.sizes (world_of told.terms m) (at w.gate.number w.gate.phase m.phase) m.grip m.holder (λ o. m.board (HeaderWord o)) (λ o. m.board (ClassWord o))
        (λ o f. m.board (FieldWord o f)) (λ o l. m.board (ForwardWord o l))
    objects_kept = objects_turned told.terms.sizes (world_of told.terms m) m.phase (at w.gate.number w.gate.phase m.phase) m.grip m.holder (λ o. m.board (HeaderWord o))
        (λ o. m.board (ClassWord o)) (λ o f. m.board (FieldWord o f)) (λ o l. m.board (ForwardWord o l))
        (λ n o holds. dite (ℕ_discrete n w.gate.number)
        (λ same. inr (ap (at w.gate.number w.gate.phase m.phase) same ∙ at_here w.gate.number w.gate.phase m.phase
        ∙ inside o (subst (λ g. Holds g o) (ap m.grip same ∙ grip_kept) holds)))
        (λ other. inl (at_else w.gate.number w.gate.phase m.phase n other)))
        h.object_part

  -- a step that leaves the gate as it is, as a load that found it shut
  module _ (w : MutView) (stays : StaysSeated v w) (same_gate : w.gate ≡ v.gate) (seen : (w.journal.seen ≡ v.journal.seen) ⊎ (w.journal.seen ≡ m.journal))
      (loaded : HasLoaded (plan_of told.terms.sizes) m.board w) where
    same_phase : w.gate.phase ≡ v.gate.phase
    same_phase = ap (λ g. g.phase) same_gate

    pub phase_is : m.phase w.gate.number ≡ w.gate.phase
    phase_is = ap (λ g. m.phase g.number) same_gate ∙ is_phase ∙ sym same_phase

    still : TurnsTo m told.terms.sizes w
    still = record {
      clear = λ closes n among inside. h.gate_part.clear id v sits (ap is_closer (sym same_phase) ∙ closes) n (ap (λ g. is_among g.clear n) (sym same_gate) ∙ among)
          (sym (at_same w.gate.number w.gate.phase m.phase n phase_is) ∙ inside);
      saw_all = λ alone n within other. ap (λ g. is_among g.clear n) same_gate ∙ h.gate_part.alone_saw_all id v sits (sym same_phase ∙ alone) n within (λ e. other (e ∙ sym stays.put.number));
      saw_journal = λ alone. ⊎_elim (λ same. same ∙ h.gate_part.alone_saw_journal id v sits (sym same_phase ∙ alone)) (λ whole. whole) seen;
      open_inside = λ inside. inr (phase_is ∙ inside);
      loaded = loaded;
    }

    -- it keeps the rule where what it makes of the words and of the hand keeps the object part
    pub acts_keep :
        (grip' : ℕ → Option Held) → grip' w.gate.number ≡ w.held → ((j : ℕ) → j ≢ w.gate.number → grip' j ≡ m.grip j)
        → (board' : Board) → StaysOnBoard (at w.gate.number w.gate.phase m.phase) m.board board' → ((n : ℕ) → board' (FlagWord n) ≡ m.board (FlagWord n)) → board' ClosingWord ≡ m.board ClosingWord
        → (holder' : ℕ → ℕ)
        → ObjectPart told.terms.sizes (world_of told.terms m) (at w.gate.number w.gate.phase m.phase) grip' holder' (λ o. board' (HeaderWord o)) (λ o. board' (ClassWord o))
        (λ o f. board' (FieldWord o f)) (λ o l. board' (ForwardWord o l))
        → VersionsAt told m (flights_of grip' holder') board'
        → (s' : State Unit View) → s'.views ≡ set views id (Mut w) → Displays (plan_of told.terms.sizes) s'.words board'
        → IsSoundTable told s'
    acts_keep grip' here else' board' quiet flags closing holder' objects versions s' is_views displays =
        let kept = words_kept mutators w.gate.number w.gate.phase m.board m.phase tells (sym (ap flag_of phase_is)) (sym (ap is_closer phase_is)) in
        let tell : WordsTell mutators board' (at w.gate.number w.gate.phase m.phase) = record {
          flags = λ n within. flags n ∙ kept.flags n within;
          closer = λ n within. subst (λ c. (is_closer (at w.gate.number w.gate.phase m.phase n) ≡ true) ↔ (c ≡ n + 1)) (sym closing) (kept.closer n within);
          nobody_closes = subst (λ c. (c ≡ 0) ⊎ ((n : ℕ) × (n ≤ mutators) × (c ≡ n + 1))) (sym closing) kept.nobody_closes;
        } in
        turn_keeps told m words views h id v w sits stays.put grip' here else' still seen stays.entries board' quiet tell holder' objects versions s' is_views displays

    -- and where it leaves the words and the hand
    pub still_keeps : w.held ≡ v.held → (s' : State Unit View) → s'.views ≡ set views id (Mut w) → Displays (plan_of told.terms.sizes) s'.words m.board → IsSoundTable told s'
    still_keeps same_held s' is_views displays =
        let inside : (o : ℕ) → Holds w.held o → w.gate.phase ≡ Inside = λ o holds. same_phase ∙ holds_inside o (subst (λ g. Holds g o) same_held holds) in
        acts_keep m.grip (grip_kept w stays same_held inside) (λ j other. refl) m.board (leaves_board (λ p name keeps. refl)) (λ n. refl) refl m.holder
        (objects_kept w stays same_held inside) (h.lane_part, h.copy_part, h.kept_part) s' is_views displays

-- the view that the seat has, where the step may also show it more of the journal
abbrev pub learns :
    (change : ℕ → List Event → MutView → MutView) (me : Seated) (v : MutView) (word : ℕ) (seen : List Event) (w : MutView)
    → me.0 ≡ Mut v
    → w ≡ change word seen v
    → IsPrefix v.journal.seen seen
    → IsLegal v.terms.shape v.terms.sizes seen
    → own_entries v.gate.number 0 seen ≡ v.journal.entries
    → Learns change me word (Mut w, me.1)
learns change me v word seen w is same_view goes legal own =
    let same : (u : MutView) → me.0 ≡ Mut u → v ≡ u = λ u e. mut_is v u (sym is ∙ e) in
    record {
      seen = seen;
      view = λ u e. ap Mut same_view ∙ ap (λ x. Mut (change word seen x)) (same u e);
      goes_on = λ u e. subst (λ (x : MutView). IsPrefix x.journal.seen seen) (same u e) goes;
      legal = λ u e. subst (λ (x : MutView). IsLegal x.terms.shape x.terms.sizes seen) (same u e) legal;
      own = λ u e. subst (λ (x : MutView). own_entries x.gate.number 0 seen ≡ x.journal.entries) (same u e) own;
      slots = refl;
    }

-- a step that changes none of these leaves who the seat is, and its entries
pub stays_of : (v w : MutView) → w.terms ≡ v.terms → w.gate.number ≡ v.gate.number → w.gate.split ≡ v.gate.split → w.hands ≡ v.hands
    → w.journal.entries ≡ v.journal.entries → StaysSeated v w
stays_of v w a b c d e = record { put = record { terms = a; number = b; split = c; joined = d }; entries = e }

module _ (told : Told) (id : ℕ) (v : MutView) (m : Moment) (s : State Unit View) (h : HoldsAt told m s.words s.views) (sits : Sits s.views id (Mut v)) where
  -- the journal is legal by the view's own terms, and so is what the view has seen of it
  pub journal_legal : IsLegal v.terms.shape v.terms.sizes m.journal
  journal_legal = subst (λ (t : Terms). IsLegal t.shape t.sizes m.journal) (sym (h.seating.told id v sits)) h.journal_part.legal

  pub seen_legal : IsLegal v.terms.shape v.terms.sizes v.journal.seen
  seen_legal = let p = h.journal_part.prefixes id (Mut v) sits in
      prefix_is_legal v.terms.shape v.terms.sizes v.journal.seen p.0 (subst (IsLegal v.terms.shape v.terms.sizes) (sym p.1) journal_legal)

  -- a step of the gate to a phase that is no closer's and not Inside
  module _ (w : MutView) (stays : StaysSeated v w) (same_journal : w.journal ≡ v.journal) (same_held : w.held ≡ v.held) (out : is_closer w.gate.phase ≡ false)
      (not_inside : w.gate.phase ≢ Inside) (empty : (o : ℕ) → Holds v.held o → ⊥) where
    pub none_inside : (o : ℕ) → Holds w.held o → w.gate.phase ≡ Inside
    none_inside o holds = absurd (empty o (subst (λ g. Holds g o) same_held holds))

    quiet : TurnsTo m told.terms.sizes w
    quiet = record {
      clear = λ closes. absurd (both_ways (is_closer w.gate.phase) out closes);
      saw_all = λ alone. absurd (both_ways (is_closer w.gate.phase) out (ap is_closer alone));
      saw_journal = λ alone. absurd (both_ways (is_closer w.gate.phase) out (ap is_closer alone));
      open_inside = λ inside. absurd (not_inside inside);
      loaded = λ name has keeps. absurd (stays_nowhere w.gate.phase name out not_inside keeps);
    }

    -- with the seat's flag written
    pub flag_keeps :
        (word value : ℕ) → word ≡ word_of (plan_of told.terms.sizes) (FlagWord v.gate.number)
        → value ≡ flag_of w.gate.phase
        → is_closer v.gate.phase ≡ false
        → IsSoundTable told (record { words = set s.words word value; homes = s.homes; views = set s.views id (Mut w) })
    flag_keeps word value is_word is_value was_out = turn_keeps told m s.words s.views h id v w sits stays.put
        m.grip (grip_kept told id v m s.words s.views h sits w stays same_held none_inside) (λ j other. refl) quiet (inl (ap (λ j. j.seen) same_journal)) stays.entries
        (written (FlagWord w.gate.number) value m.board) (leaves_board (written_quiet (FlagWord w.gate.number) value m.board (flags_fleet w.gate.number)))
        (flag_written told.terms.sizes.mutators w.gate.number w.gate.phase m.board m.phase (tells told id v m s.words s.views h sits) value is_value
        (out ∙ sym was_out ∙ ap is_closer (sym (is_phase told id v m s.words s.views h sits)) ∙ ap (λ n. is_closer (m.phase n)) (sym stays.put.number)))
        m.holder (objects_kept told id v m s.words s.views h sits w stays same_held none_inside) (h.lane_part, h.copy_part, h.kept_part)
        (record { words = set s.words word value; homes = s.homes; views = set s.views id (Mut w) }) refl
        (store_fits told id v m s.words s.views h sits word (FlagWord w.gate.number) value
        (is_word ∙ ap (λ n. word_of (plan_of told.terms.sizes) (FlagWord n)) (sym stays.put.number))
        (subst (λ n. n ≤ told.terms.sizes.mutators) (sym stays.put.number) (h.seating.numbers id v sits)))

closing_not_inside : Closing ≡ Inside → ⊥
closing_not_inside e = absurd (cc e)

module _ (told : Told) (slots id : ℕ) (me : Seated) (v : MutView) (is : me.0 ≡ Mut v) where
  -- a seat that is not inside holds nothing
  empty_handed : (s : State Unit View) (m : Moment) (h : HoldsAt told m s.words s.views) (sits : Sits s.views id (Mut v)) → v.gate.phase ≢ Inside → (o : ℕ) → Holds v.held o → ⊥
  empty_handed s m h sits out o holds = out (holds_inside told id v m s.words s.views h sits o holds)

  empty_is : (hand : Option Held) → ((o : ℕ) → Holds hand o → ⊥) → hand ≡ None
  empty_is None none = refl
  empty_is (Some x) none = absurd (none x.object (record { held = x; is = refl; object_is = refl }))

  -- flag in
  pub flag_in_keeps :
      (word value : ℕ) → word ≡ word_of (plan_of told.terms.sizes) (FlagWord v.gate.number)
      → value ≡ 1
      → v.gate.phase ≡ Outside
      → Allows (IsSoundTable told) slots id me word (λ _. value) (λ _ after. Becomes (λ _ u. flagged_in u) me value after)
  flag_in_keeps word value is_word is_value outside s sound wide at_id _ =
      let sits : Sits s.views id (Mut v) = at_id ∙ ap some is in
      let w = flagged_in v in
      let empty = empty_handed s sound.0 sound.1 sits (λ e. let f : Outside ≡ Inside = sym outside ∙ e in absurd (cc f)) in (
        Mut w,
        keeps,
        tt,
        flag_keeps told id v sound.0 s sound.1 sits w (stays_of v w refl refl refl refl refl) refl (sym (empty_is v.held empty)) refl (λ e. absurd cc) empty
            word value is_word is_value (ap is_closer outside),
        becomes (λ _ u. flagged_in u) me v value is,
      )

  -- flag out
  pub flag_out_keeps :
      (word value : ℕ) → word ≡ word_of (plan_of told.terms.sizes) (FlagWord v.gate.number)
      → value ≡ 0
      → is_closer v.gate.phase ≡ false
      → v.held ≡ None
      → Allows (IsSoundTable told) slots id me word (λ _. value) (λ _ after. Becomes (λ _ u. flagged_out u) me value after)
  flag_out_keeps word value is_word is_value out empty s sound wide at_id _ =
      let sits : Sits s.views id (Mut v) = at_id ∙ ap some is in
      let w = flagged_out v in (
        Mut w,
        keeps,
        tt,
        flag_keeps told id v sound.0 s sound.1 sits w (stays_of v w refl refl refl refl refl) refl refl refl (λ e. absurd cc)
            (λ o holds. let e : None ≡ Some holds.held = sym empty ∙ holds.is in absurd cc) word value is_word is_value out,
        becomes (λ _ u. flagged_out u) me v value is,
      )

  -- where a load of the closing word finds it 0, the seat goes Inside
  looks_as :
      (s : State Unit View) (m : Moment) (h : HoldsAt told m s.words s.views) (sits : Sits s.views id (Mut v))
      → (word : ℕ) → word ≡ word_of (plan_of told.terms.sizes) ClosingWord
      → v.gate.phase ≡ Entering
      → (is_open : Bool) → (get_or s.words word 0 == 0) ≡ is_open
      → IsSoundTable told (record { words = set s.words word (get_or s.words word 0); homes = s.homes; views = set s.views id (Mut (looked_at is_open (get_or s.words word 0) v)) })
  looks_as s m h sits word is_word entering true is_open =
      let w = looked_at true (get_or s.words word 0) v in
      let before : m.phase v.gate.number ≡ Entering = h.seating.phases id v sits ∙ entering in
      let zero_there : m.board ClosingWord ≡ 0 = sym (found_is told id v m s.words s.views h sits word ClosingWord is_word tt) ∙ eqb-true (get_or s.words word 0) 0 is_open in
      let turns : TurnsTo m told.terms.sizes w = record {
        clear = λ closes. absurd cc;
        saw_all = λ alone. absurd cc;
        saw_journal = λ alone. absurd cc;
        open_inside = λ _. inl zero_there;
        loaded = nothing_loaded (plan_of told.terms.sizes) m.board w refl;
      } in
      let stays = stays_of v w refl refl refl refl refl in
      turn_keeps told m s.words s.views h id v w sits stays.put
      m.grip (grip_kept told id v m s.words s.views h sits w stays refl (λ o holds. refl)) (λ j other. refl) turns (inl refl) stays.entries m.board (leaves_board (λ p name keeps. refl))
      (words_kept told.terms.sizes.mutators v.gate.number Inside m.board m.phase (tells told id v m s.words s.views h sits) (ap flag_of (sym before)) (ap is_closer (sym before)))
      m.holder (objects_kept told id v m s.words s.views h sits w stays refl (λ o holds. refl)) (h.lane_part, h.copy_part, h.kept_part)
      (record { words = set s.words word (get_or s.words word 0); homes = s.homes; views = set s.views id (Mut w) }) refl
      (load_displays (plan_of told.terms.sizes) s.words m.board word h.displayed)
  looks_as s m h sits word is_word entering false is_open =
      let w = looked_at false (get_or s.words word 0) v in
      still_keeps told id v m s.words s.views h sits w (stays_of v w refl refl refl refl refl) refl (inl refl)
      (same_loaded (plan_of told.terms.sizes) m.board v w refl refl (h.loaded_part.loaded id v sits)) refl
      (record { words = set s.words word (get_or s.words word 0); homes = s.homes; views = set s.views id (Mut w) }) refl
      (load_displays (plan_of told.terms.sizes) s.words m.board word h.displayed)

  -- look
  pub look_keeps :
      (word : ℕ) → word ≡ word_of (plan_of told.terms.sizes) ClosingWord
      → v.gate.phase ≡ Entering
      → Allows (IsSoundTable told) slots id me word (λ n. n) (Becomes looked me)
  look_keeps word is_word entering s sound wide at_id _ =
      let sits : Sits s.views id (Mut v) = at_id ∙ ap some is in
      let found : ℕ = get_or s.words word 0 in (
        Mut (looked found v),
        keeps,
        tt,
        looks_as s sound.0 sound.1 sits word is_word entering (found == 0) refl,
        becomes looked me v found is,
      )

  -- a closer that saw these flags clear, and the whole journal
  closes_to :
      (m : Moment) (w : MutView)
      → w.gate.phase ≡ closer_phase told.terms.sizes.mutators w.gate.number w.gate.clear
      → w.journal.seen ≡ m.journal
      → w.board ≡ no_board
      → ((n : ℕ) → is_among w.gate.clear n ≡ true → m.phase n ≢ Inside)
      → TurnsTo m told.terms.sizes w
  closes_to m w is_phase whole none clear =
      let closes : is_closer w.gate.phase ≡ true = ap is_closer is_phase ∙ (closer_is (saw_below (suc told.terms.sizes.mutators) w.gate.number w.gate.clear)).0 in
      record {
        clear = λ _ n among. dite (ℕ_discrete n w.gate.number)
            (λ same inside.
            let is_inside = sym (at_here w.gate.number w.gate.phase m.phase) ∙ ap (at w.gate.number w.gate.phase m.phase) (sym same) ∙ inside in
            both_ways (is_closer w.gate.phase) (ap is_closer is_inside) closes)
            (λ other inside. clear n among (sym (at_else w.gate.number w.gate.phase m.phase n other) ∙ inside));
        saw_all = λ alone. alone_saw_each told.terms.sizes.mutators w.gate.number w.gate.clear (sym is_phase ∙ alone);
        saw_journal = λ _. whole;
        open_inside = λ inside. absurd (both_ways (is_closer w.gate.phase) (ap is_closer inside) closes);
        loaded = nothing_loaded (plan_of told.terms.sizes) m.board w none;
      }

  -- what a step of a closer leads to, for the word found and the word written
  abbrev Goes : (ℕ → List Event → MutView → MutView) → State Unit View → ℕ → ℕ → ℕ → Type 0
  Goes change s word found written =
      (x : View) × (a : Act Unit) × Valid s.homes me.1 a × IsSoundTable told (stepped s word written id me.1 x a) × Learns change me found (x, carried_after me.1 a)

  -- a seat that found the gate shut, or a flag up, has learned nothing
  unlearned :
      (s : State Unit View) (m : Moment) (h : HoldsAt told m s.words s.views) (sits : Sits s.views id (Mut v))
      → (change : ℕ → List Event → MutView → MutView) (word found : ℕ) (w : MutView)
      → w ≡ change found v.journal.seen v
      → StaysSeated v w → w.gate ≡ v.gate → w.journal ≡ v.journal → w.board ≡ v.board → w.held ≡ v.held
      → found ≡ get_or s.words word 0
      → Goes change s word found found
  unlearned s m h sits change word found w is_change stays same_gate same_journal same_board same_held is_found = (
    Mut w,
    keeps,
    tt,
    still_keeps told id v m s.words s.views h sits w stays same_gate (inl (ap (λ j. j.seen) same_journal))
        (same_loaded (plan_of told.terms.sizes) m.board v w (ap (λ g. g.phase) same_gate) same_board (h.loaded_part.loaded id v sits)) same_held
        (record { words = set s.words word found; homes = s.homes; views = set s.views id (Mut w) }) refl
        (subst (λ x. Displays (plan_of told.terms.sizes) (set s.words word x) m.board) (sym is_found) (load_displays (plan_of told.terms.sizes) s.words m.board word h.displayed)),
    learns change me v found v.journal.seen w is is_change (prefix_self v.journal.seen) (seen_legal told id v m s h sits) (h.journal_part.own_seen id v sits),
  )

  -- close, where the closing word was 0
  takes :
      (s : State Unit View) (m : Moment) (h : HoldsAt told m s.words s.views) (sits : Sits s.views id (Mut v))
      → (word new : ℕ) → word ≡ word_of (plan_of told.terms.sizes) ClosingWord
      → new ≡ v.gate.number + 1
      → v.gate.phase ≡ Outside
      → get_or s.words word 0 ≡ 0
      → Goes took_gate s word (get_or s.words word 0) new
  takes s m h sits word new is_word is_new outside is_zero =
      let found : ℕ = get_or s.words word 0 in
      let w = took true found m.journal v in
      let mutators : ℕ = told.terms.sizes.mutators in
      let before : m.phase v.gate.number ≡ Outside = h.seating.phases id v sits ∙ outside in
      let told_it : v.terms.sizes.mutators ≡ mutators = ap (λ t. t.sizes.mutators) (h.seating.told id v sits) in
      let zero_there : m.board ClosingWord ≡ 0 = sym (found_is told id v m s.words s.views h sits word ClosingWord is_word tt) ∙ is_zero in
      let says = closer_is (saw_below (suc v.terms.sizes.mutators) v.gate.number []) in
      let turns : TurnsTo m told.terms.sizes w = closes_to m w (ap (λ n. closer_phase n v.gate.number []) told_it) refl refl (λ n among. absurd cc) in
      let tell = closing_taken mutators v.gate.number w.gate.phase m.board m.phase (tells told id v m s.words s.views h sits)
      (h.seating.numbers id v sits) zero_there (says.1 ∙ ap flag_of (sym before)) says.0 in
      let stays = stays_of v w refl refl refl refl refl in
      let none : (o : ℕ) → Holds w.held o → w.gate.phase ≡ Inside =
      λ o holds. absurd (empty_handed s m h sits (λ e. let f : Outside ≡ Inside = sym outside ∙ e in absurd (cc f)) o holds) in (
        Mut w,
        keeps,
        tt,
        turn_keeps told m s.words s.views h id v w sits stays.put m.grip (grip_kept told id v m s.words s.views h sits w stays refl none) (λ j other. refl) turns (inr refl) stays.entries
            (written ClosingWord (v.gate.number + 1) m.board) (leaves_board (written_quiet ClosingWord (v.gate.number + 1) m.board closing_fleets)) tell
            m.holder (objects_kept told id v m s.words s.views h sits w stays refl none) (h.lane_part, h.copy_part, h.kept_part)
            (record { words = set s.words word new; homes = s.homes; views = set s.views id (Mut w) }) refl
            (subst (λ x. Displays (plan_of told.terms.sizes) (set s.words word x) (written ClosingWord (v.gate.number + 1) m.board)) (sym is_new)
            (store_fits told id v m s.words s.views h sits word ClosingWord (v.gate.number + 1) is_word tt)),
        learns took_gate me v found m.journal w is (ap (λ b. took b found m.journal v) (sym (eq-eqb found 0 is_zero)))
            (h.journal_part.prefixes id (Mut v) sits) (journal_legal told id v m s h sits) (h.journal_part.own id v sits),
      )

  pub take_gate_keeps :
      (word new : ℕ) → word ≡ word_of (plan_of told.terms.sizes) ClosingWord
      → new ≡ v.gate.number + 1
      → v.gate.phase ≡ Outside
      → Allows (IsSoundTable told) slots id me word (λ n. either (eqb n 0) new n) (Learns took_gate me)
  take_gate_keeps word new is_word is_new outside s sound wide at_id _ =
      let sits : Sits s.views id (Mut v) = at_id ∙ ap some is in
      let found : ℕ = get_or s.words word 0 in
      exchanged found 0 new (Goes took_gate s word found)
      (takes s sound.0 sound.1 sits word new is_word is_new outside)
      (λ miss. unlearned s sound.0 sound.1 sits took_gate word found (took false found v.journal.seen v)
      (ap (λ b. took b found v.journal.seen v) (sym (ne_eqb found 0 miss))) (stays_of v (took false found v.journal.seen v) refl refl refl refl refl) refl refl refl refl refl)

  -- see, where the flag was 0
  sees :
      (s : State Unit View) (m : Moment) (h : HoldsAt told m s.words s.views) (sits : Sits s.views id (Mut v))
      → (word n : ℕ) → word ≡ word_of (plan_of told.terms.sizes) (FlagWord n)
      → n ≤ told.terms.sizes.mutators
      → v.gate.phase ≡ Closing
      → get_or s.words word 0 ≡ 0
      → Goes (saw n) s word (get_or s.words word 0) (get_or s.words word 0)
  sees s m h sits word n is_word within is_closing is_zero =
      let found : ℕ = get_or s.words word 0 in
      let w = saw_flag true n found m.journal v in
      let mutators : ℕ = told.terms.sizes.mutators in
      let before : m.phase v.gate.number ≡ Closing = h.seating.phases id v sits ∙ is_closing in
      let told_it : v.terms.sizes.mutators ≡ mutators = ap (λ t. t.sizes.mutators) (h.seating.told id v sits) in
      let flag_zero : m.board (FlagWord n) ≡ 0 = sym (found_is told id v m s.words s.views h sits word (FlagWord n) is_word within) ∙ is_zero in
      let says = closer_is (saw_below (suc v.terms.sizes.mutators) v.gate.number (n ∷ v.gate.clear)) in
      let not_inside : m.phase n ≢ Inside = λ inside. let e : 0 ≡ 1 = sym flag_zero ∙ h.gate_part.flags n within ∙ ap flag_of inside in absurd (omega (arith, e)) in
      let turns : TurnsTo m told.terms.sizes w = closes_to m w (ap (λ x. closer_phase x v.gate.number (n ∷ v.gate.clear)) told_it) refl refl
      (λ j among. ⊎_elim
      (λ same. subst (λ i. m.phase i ≢ Inside) same not_inside)
      (λ old. h.gate_part.clear id v sits (ap is_closer is_closing) j old)
      (among_cons n v.gate.clear j among)) in
      let stays = stays_of v w refl refl refl refl refl in
      let none : (o : ℕ) → Holds w.held o → w.gate.phase ≡ Inside =
      λ o holds. absurd (empty_handed s m h sits (λ e. closing_not_inside (sym is_closing ∙ e)) o holds) in (
        Mut w,
        keeps,
        tt,
        turn_keeps told m s.words s.views h id v w sits stays.put m.grip (grip_kept told id v m s.words s.views h sits w stays refl none) (λ j other. refl) turns (inr refl) stays.entries
            m.board (leaves_board (λ p name keeps. refl))
            (words_kept mutators v.gate.number w.gate.phase m.board m.phase (tells told id v m s.words s.views h sits) (says.1 ∙ ap flag_of (sym before)) (says.0 ∙ ap is_closer (sym before)))
            m.holder (objects_kept told id v m s.words s.views h sits w stays refl none) (h.lane_part, h.copy_part, h.kept_part)
            (record { words = set s.words word found; homes = s.homes; views = set s.views id (Mut w) }) refl
            (load_displays (plan_of told.terms.sizes) s.words m.board word h.displayed),
        learns (saw n) me v found m.journal w is (ap (λ b. saw_flag b n found m.journal v) (sym (eq-eqb found 0 is_zero)))
            (h.journal_part.prefixes id (Mut v) sits) (journal_legal told id v m s h sits) (h.journal_part.own id v sits),
      )

  pub see_keeps :
      (word n : ℕ) → word ≡ word_of (plan_of told.terms.sizes) (FlagWord n)
      → n ≤ told.terms.sizes.mutators
      → v.gate.phase ≡ Closing
      → Allows (IsSoundTable told) slots id me word (λ x. x) (Learns (saw n) me)
  see_keeps word n is_word within is_closing s sound wide at_id _ =
      let sits : Sits s.views id (Mut v) = at_id ∙ ap some is in
      let found : ℕ = get_or s.words word 0 in
      dite (ℕ_discrete found 0)
      (sees s sound.0 sound.1 sits word n is_word within is_closing)
      (λ miss. unlearned s sound.0 sound.1 sits (saw n) word found (saw_flag false n found v.journal.seen v)
      (ap (λ b. saw_flag b n found v.journal.seen v) (sym (ne_eqb found 0 miss))) (stays_of v (saw_flag false n found v.journal.seen v) refl refl refl refl refl) refl refl refl refl refl)

  -- open
  pub give_gate_keeps :
      (word value : ℕ) → word ≡ word_of (plan_of told.terms.sizes) ClosingWord
      → value ≡ 0
      → v.gate.phase ≡ Alone
      → Allows (IsSoundTable told) slots id me word (λ _. value) (λ _ after. Becomes (λ _ u. gave_gate u) me value after)
  give_gate_keeps word value is_word is_value is_alone s sound wide at_id _ =
      let sits : Sits s.views id (Mut v) = at_id ∙ ap some is in
      let m = sound.0 in
      let h = sound.1 in
      let w = gave_gate v in
      let before : m.phase v.gate.number ≡ Alone = h.seating.phases id v sits ∙ is_alone in
      let mine : m.board ClosingWord ≡ v.gate.number + 1 = (h.gate_part.closer v.gate.number (h.seating.numbers id v sits)).0 (ap is_closer before) in
      let stays = stays_of v w refl refl refl refl refl in
      let empty = empty_handed s m h sits (λ e. let f : Alone ≡ Inside = sym is_alone ∙ e in absurd (cc f)) in
      let none : (o : ℕ) → Holds w.held o → w.gate.phase ≡ Inside = λ o holds. absurd (empty o holds) in (
        Mut w,
        keeps,
        tt,
        turn_keeps told m s.words s.views h id v w sits stays.put m.grip (grip_kept told id v m s.words s.views h sits w stays refl none) (λ j other. refl)
            (quiet told id v m s h sits w stays refl refl refl (λ e. absurd cc) empty) (inl refl) stays.entries
            (written ClosingWord 0 m.board) (leaves_board (written_quiet ClosingWord 0 m.board closing_fleets))
            (closing_given told.terms.sizes.mutators v.gate.number Outside m.board m.phase (tells told id v m s.words s.views h sits) mine (ap flag_of (sym before)) refl)
            m.holder (objects_kept told id v m s.words s.views h sits w stays refl none) (h.lane_part, h.copy_part, h.kept_part)
            (record { words = set s.words word value; homes = s.homes; views = set s.views id (Mut w) }) refl
            (subst (λ x. Displays (plan_of told.terms.sizes) (set s.words word x) (written ClosingWord 0 m.board)) (sym is_value)
            (store_fits told id v m s.words s.views h sits word ClosingWord 0 is_word tt)),
        becomes (λ _ u. gave_gate u) me v value is,
      )

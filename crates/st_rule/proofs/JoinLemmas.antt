-- A join of a mutator's seat into another keeps the rule.
use Rattle.std.proofs.Common.{◌≡◌, ◌≢◌, ℕ, zero, suc, ◌<◌, ◌≤◌, ◌⊎◌, true, List, ◌∷◌, get_or}
use Rattle.std.proofs.Common.{set, sym, ap, subst, ◌∙◌, arith, ⊎_elim, inl, inr}
use Rattle.std.specs.Prelude.{All}
use mathlib.Core.Logic.{dite}
use mathlib.Core.List.{IsPrefix}
use native.Mathlib.Decide.{ℕ_discrete}
use Rattle.atomic_table.specs.Table.{Joins}
use Rattle.atomic_table.proofs.Lists.{at_set, set_else}
use Rattle.st_layout.specs.Names.{ClosingWord, ClockWord, FlagWord, LaneWord, ForwardWord}
use Rattle.st_events.specs.declared.events.Event.{Event}
use Rattle.st_events.specs.World.{is_among}
use Rattle.st_rule.specs.declared.views.JoinedView.{JoinedView}
use Rattle.st_rule.specs.declared.views.Phase.TheVariants.{Outside, Inside, Alone}
use Rattle.st_rule.specs.declared.views.MutView.{MutView}
use Rattle.st_rule.specs.declared.views.View.{View}
use Rattle.st_rule.specs.declared.views.View.TheVariants.{Mut, Lane, Gone}
use Rattle.st_rule.specs.Parts.{Sits, JournalPart, GatePart, LoadedPart, HasLoaded, HandPart, IsJoined, Seating}
use Rattle.st_rule.specs.Rule.{Told, Moment, HoldsAt, IsSoundTable, world_of}
use Rattle.st_rule.specs.Reading.{IsReading}
use Rattle.st_rule.proofs.ReadLemmas.{lanes_stay, gone_is_no_lane}
use Rattle.st_rule.specs.Turns.{joined_with}
use Rattle.st_rule.specs.Views.{seen_by, is_closer}
use Rattle.st_rule.proofs.PrefixLemmas.{prefix_empty, prefix_self, prefix_trans, IsLonger, longer_is, longer_whole}
use Rattle.st_rule.proofs.ViewLemmas.{set_there, sits_once, mut_is, gone_is_no_mutator, all_set}
use Rattle.st_rule.proofs.EntryLemmas.{own_between}
use Rattle.st_rule.specs.Board.{plan_of}
use Rattle.st_rule.specs.Entries.{own_entries}

-- one more joined seat
all_joined : (P : JoinedView → Type 0) (j : JoinedView) (joined : List JoinedView) → P j → All P joined → All P (j ∷ joined)
all_joined P j joined first rest zero d within = first
all_joined P j joined first rest (suc k) d within = rest k d (omega (arith, within))

module _ (told : Told) (id : ℕ) (v : MutView) (other : ℕ) (u : MutView) (m : Moment) (words : List ℕ) (views : List View) (h : HoldsAt told m words views)
    (sits : Sits views id (Mut v)) (apart : other ≢ id) (sits' : Sits views other (Mut u)) (outside : u.gate.phase ≡ Outside)
    (is_mutator : u.gate.number < told.terms.sizes.mutators) where
  abbrev b : MutView
  b = joined_with v u

  abbrev views' : List View
  views' = set (set views id (Mut b)) other Gone

  all_join :
      (P : ℕ → MutView → Type 0) → P id b
      → ((j : ℕ) (x : MutView) → j ≢ id → j ≢ other → Sits views j (Mut x) → P j x)
      → (j : ℕ) (x : MutView) → Sits views' j (Mut x) → P j x
  all_join P here others j x there = ⊎_elim
      (λ gone. absurd (gone_is_no_mutator x gone.1))
      (λ old. ⊎_elim
      (λ same. subst (λ (p : ℕ × MutView). P p.0 p.1) (λ k. (sym same.0 k, mut_is b x same.1 k)) here)
      (λ rest. others j x rest.0 old.0 rest.1)
      (at_set views id j (Mut b) (Mut x) old.1))
      (at_set (set views id (Mut b)) other j Gone (Mut x) there)

  lists : IsLonger v.journal.seen u.journal.seen m.journal
  lists = longer_is v.journal.seen u.journal.seen m.journal (h.journal_part.prefixes id (Mut v) sits) (h.journal_part.prefixes other (Mut u) sits')

  both_sit : Sits views' id (Mut b)
  both_sit = set_else (set views id (Mut b)) other id Gone (λ e. apart (sym e)) ∙ set_there views id (Mut v) (Mut b) sits

  other_gone : Sits views' other Gone
  other_gone = set_there (set views id (Mut b)) other (Mut u) Gone (set_else views id other (Mut b) apart ∙ sits')

  still_sits : (j : ℕ) (x : View) → j ≢ id → j ≢ other → Sits views j x → Sits views' j x
  still_sits j x not_id not_other there = set_else (set views id (Mut b)) other j Gone not_other ∙ set_else views id j (Mut b) not_id ∙ there

  whole_seen : (m.journal ≡ v.journal.seen) ⊎ (m.journal ≡ u.journal.seen) → b.journal.seen ≡ m.journal
  whole_seen = longer_whole v.journal.seen u.journal.seen m.journal (h.journal_part.prefixes id (Mut v) sits) (h.journal_part.prefixes other (Mut u) sits')

  -- the longer list has no more of the number's own events than the whole, and no fewer than the shorter
  own_longer : own_entries v.gate.number 0 b.journal.seen ≡ v.journal.entries
  own_longer = own_between v.gate.number v.journal.seen b.journal.seen m.journal v.journal.entries lists.this lists.within
      (h.journal_part.own_seen id v sits) (h.journal_part.own id v sits)

  journal_joined : JournalPart told.terms m.journal (m.board ClockWord) m.split views'
  journal_joined = record {
    legal = h.journal_part.legal;
    prefixes = all_set (λ j x. IsPrefix (seen_by x) m.journal) (set views id (Mut b)) other Gone (prefix_empty m.journal)
        (λ j x not_other there. all_set (λ j x. IsPrefix (seen_by x) m.journal) views id (Mut b) lists.within (λ j x not_id at_j. h.journal_part.prefixes j x at_j) j x there);
    seen_whole = let whole = h.journal_part.seen_whole in dite (ℕ_discrete whole.0 id)
        (λ same. (
          id,
          b,
          both_sit,
          whole_seen (inl (sym whole.3 ∙ ap seen_by (sits_once views id (Mut whole.1) (Mut v) (subst (λ k. Sits views k (Mut whole.1)) same whole.2) sits))),
        ))
        (λ not_id. dite (ℕ_discrete whole.0 other)
        (λ same. (
          id,
          b,
          both_sit,
          whole_seen (inr (sym whole.3 ∙ ap seen_by (sits_once views other (Mut whole.1) (Mut u) (subst (λ k. Sits views k (Mut whole.1)) same whole.2) sits'))),
        ))
        (λ not_other. (whole.0, whole.1, still_sits whole.0 (Mut whole.1) not_id not_other whole.2, whole.3)));
    tickets = h.journal_part.tickets;
    copies_drawn = h.journal_part.copies_drawn;
    own = all_join (λ j x. own_entries x.gate.number 0 m.journal ≡ x.journal.entries) (h.journal_part.own id v sits) (λ j x not_id not_other there. h.journal_part.own j x there);
    own_seen = all_join (λ j x. own_entries x.gate.number 0 x.journal.seen ≡ x.journal.entries) own_longer (λ j x not_id not_other there. h.journal_part.own_seen j x there);
    own_unsplit = h.journal_part.own_unsplit;
    charged = h.journal_part.charged;
    paid = h.journal_part.paid;
  }

  gate_joined : GatePart told.terms.sizes.mutators (λ n. m.board (FlagWord n)) (m.board ClosingWord) m.phase m.seat m.split m.journal views'
  gate_joined = record {
    flags = h.gate_part.flags;
    closer = h.gate_part.closer;
    nobody_closes = h.gate_part.nobody_closes;
    clear = all_join (λ j x. is_closer x.gate.phase ≡ true → (n : ℕ) → is_among x.gate.clear n ≡ true → m.phase n ≢ Inside)
        (h.gate_part.clear id v sits) (λ j x not_id not_other there. h.gate_part.clear j x there);
    alone_saw_all = all_join (λ j x. x.gate.phase ≡ Alone → (n : ℕ) → n ≤ told.terms.sizes.mutators → n ≢ x.gate.number → is_among x.gate.clear n ≡ true)
        (h.gate_part.alone_saw_all id v sits) (λ j x not_id not_other there. h.gate_part.alone_saw_all j x there);
    alone_saw_journal = all_join (λ j x. x.gate.phase ≡ Alone → x.journal.seen ≡ m.journal)
        (λ alone. whole_seen (inl (sym (h.gate_part.alone_saw_journal id v sits alone)))) (λ j x not_id not_other there. h.gate_part.alone_saw_journal j x there);
    one_view_each = all_join (λ j x. m.seat x.gate.number ≡ j) (h.gate_part.one_view_each id v sits) (λ j x not_id not_other there. h.gate_part.one_view_each j x there);
    split_off = all_join (λ j x. x.gate.number < told.terms.sizes.mutators → x.gate.number < m.split)
        (h.gate_part.split_off id v sits) (λ j x not_id not_other there. h.gate_part.split_off j x there);
  }

  -- who was joined before is still gone
  joined_kept : (seen : List Event) (joined : List JoinedView) (more : List Event) → IsPrefix seen more → All (IsJoined m.seat m.split m.journal views seen) joined
      → All (IsJoined m.seat m.split m.journal views' more) joined
  joined_kept seen joined more goes all k d within = let old = all k d within in
      let n : ℕ = m.seat (get_or joined k d).number in
      let not_id : n ≢ id = λ e. gone_is_no_mutator v (sits_once views id Gone (Mut v) (subst (λ i. Sits views i Gone) e old.gone) sits) in
      let not_other : n ≢ other = λ e. gone_is_no_mutator u (sits_once views other Gone (Mut u) (subst (λ i. Sits views i Gone) e old.gone) sits') in
      record {
        goes_on = prefix_trans (get_or joined k d).seen seen more old.goes_on goes;
        below = old.below;
        gone = still_sits n Gone not_id not_other old.gone;
        own = old.own;
      }

  hands_joined : HandPart m.seat m.split m.journal views'
  hands_joined = record {
    joined = all_join (λ j x. All (IsJoined m.seat m.split m.journal views' x.journal.seen) x.hands.joined)
        (all_joined (IsJoined m.seat m.split m.journal views' b.journal.seen) (record { number = u.gate.number; seen = u.journal.seen; entries = u.journal.entries }) v.hands.joined
        (record {
          goes_on = lists.that;
          below = h.gate_part.split_off other u sits' is_mutator;
          gone = subst (λ i. Sits views' i Gone) (sym (h.gate_part.one_view_each other u sits')) other_gone;
          own = h.journal_part.own other u sits';
        })
        (joined_kept v.journal.seen v.hands.joined b.journal.seen lists.this (h.hand_part.joined id v sits)))
        (λ j x not_id not_other there. joined_kept x.journal.seen x.hands.joined x.journal.seen (prefix_self x.journal.seen) (h.hand_part.joined j x there));
  }

  loaded_joined : LoadedPart (plan_of told.terms.sizes) m.board views'
  loaded_joined = record {
    loaded = all_join (λ j x. HasLoaded (plan_of told.terms.sizes) m.board x) (h.loaded_part.loaded id v sits) (λ j x not_id not_other there. h.loaded_part.loaded j x there);
  }

  seating_joined : Seating told.terms m.phase m.grip m.seat m.split views'
  seating_joined = record {
    phases = all_join (λ j x. m.phase x.gate.number ≡ x.gate.phase) (h.seating.phases id v sits) (λ j x not_id not_other there. h.seating.phases j x there);
    grips = all_join (λ j x. m.grip x.gate.number ≡ x.held) (h.seating.grips id v sits) (λ j x not_id not_other there. h.seating.grips j x there);
    numbers = all_join (λ j x. x.gate.number ≤ told.terms.sizes.mutators) (h.seating.numbers id v sits) (λ j x not_id not_other there. h.seating.numbers j x there);
    told = all_join (λ j x. x.terms ≡ told.terms) (h.seating.told id v sits) (λ j x not_id not_other there. h.seating.told j x there);
    counts = all_join (λ j x. x.gate.number ≡ told.terms.sizes.mutators → x.gate.split ≡ m.split) (h.seating.counts id v sits) (λ j x not_id not_other there. h.seating.counts j x there);
    seated = λ n. ⊎_elim (λ out. inl out)
        (λ there. dite (ℕ_discrete (m.seat n) other)
        (λ gone. inl (
        ap m.phase (sym there.2 ∙ ap (λ (x : MutView). x.gate.number) (mut_is there.0 u (sits_once views other (Mut there.0) (Mut u) (subst (λ k. Sits views k (Mut there.0)) gone there.1) sits')))
        ∙ h.seating.phases other u sits' ∙ outside))
        (λ not_other. inr (dite (ℕ_discrete (m.seat n) id)
        (λ same. (
          b,
          subst (λ k. Sits views' k (Mut b)) (sym same) both_sit,
          ap (λ (x : MutView). x.gate.number) (mut_is v there.0 (sits_once views id (Mut v) (Mut there.0) sits (subst (λ k. Sits views k (Mut there.0)) same there.1))) ∙ there.2,
        ))
        (λ not_id. (there.0, still_sits (m.seat n) (Mut there.0) not_id not_other there.1, there.2)))))
        (h.seating.seated n);
  }

  join_keeps_at : HoldsAt told m words views'
  join_keeps_at = record {
    limits = h.limits;
    shape_limits = h.shape_limits;
    displayed = h.displayed;
    journal_part = journal_joined;
    gate_part = gate_joined;
    board_part = h.board_part;
    loaded_part = loaded_joined;
    object_part = h.object_part;
    lane_part = h.lane_part;
    copy_part = h.copy_part;
    kept_part = h.kept_part;
    read_part = record {
      reads = λ j x there. ⊎_elim
          (λ gone. absurd (gone_is_no_lane x gone.1))
          (λ old. lanes_stay views id b (λ j u. IsReading told.terms (world_of told.terms m) (λ l. m.board (LaneWord l)) (λ o l. m.board (ForwardWord o l)) u) h.read_part.reads j x old.1)
          (at_set (set views id (Mut b)) other j Gone (Lane x) there);
    };
    row_part = h.row_part;
    hand_part = hands_joined;
    seating = seating_joined;
  }

-- whatever the table is, the join keeps the rule
pub join_keeps :
    (told : Told) (id : ℕ) (v : MutView) (other : ℕ) (u : MutView)
    → u.gate.phase ≡ Outside
    → u.gate.number < told.terms.sizes.mutators
    → Joins (IsSoundTable told) id (Mut v) other (Mut u) (Mut (joined_with v u)) Gone
join_keeps told id v other u outside is_mutator s sound sits apart sits' =
    (sound.0, join_keeps_at told id v other u sound.0 s.words s.views sound.1 sits apart (sym (set_else s.views id other (Mut (joined_with v u)) apart) ∙ sits') outside is_mutator)

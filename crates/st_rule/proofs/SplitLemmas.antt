-- A split of a mutator's seat keeps the rule.
use Rattle.std.proofs.Common.{◌≡◌, ◌≢◌, ℕ, zero, suc, ◌+◌, ◌<◌, ◌≤◌, ◌⊎◌, true, List, [], ◌∷◌, ◌++◌, Option, Some, None, get_or}
use Rattle.std.proofs.Common.{length, set, sym, refl, ap, subst, ◌∙◌, arith, ⊎_elim, inl, inr, length-set}
use Rattle.std.specs.Prelude.{All}
use mathlib.Core.Logic.{dite}
use mathlib.Core.List.{IsPrefix}
use mathlib.Core.Option.{some, some-injective, some-ne-none}
use native.Mathlib.Decide.{ℕ_discrete}
use lib.ListN.{get_elem?}
use Rattle.atomic_table.specs.Table.{Splits}
use Rattle.atomic_table.proofs.Lists.{set_else, at_longer}
use Rattle.st_layout.specs.Names.{ClosingWord, ClockWord, FlagWord, LaneWord, ForwardWord}
use Rattle.st_events.specs.World.{at, is_among}
use Rattle.st_rule.specs.declared.views.Phase.TheVariants.{Outside, Inside, Alone}
use Rattle.st_rule.specs.declared.views.Terms.{Terms}
use Rattle.st_rule.specs.declared.views.MutView.{MutView}
use Rattle.st_rule.specs.declared.views.View.{View}
use Rattle.st_rule.specs.declared.views.View.TheVariants.{Mut, Lane, Gone}
use Rattle.st_rule.specs.Parts.{Sits, JournalPart, GatePart, LoadedPart, HasLoaded, HandPart, IsJoined, Seating}
use Rattle.st_rule.specs.Rule.{Told, Moment, HoldsAt, IsSoundTable, world_of}
use Rattle.st_rule.specs.Reading.{IsReading}
use Rattle.st_rule.proofs.ReadLemmas.{lanes_stay, mut_is_no_lane}
use Rattle.st_rule.specs.Turns.{split_one, newcomer}
use Rattle.st_rule.specs.Views.{seen_by, is_closer}
use Rattle.st_rule.specs.declared.views.Held.{Held}
use Rattle.st_rule.specs.Board.{plan_of}
use Rattle.st_rule.specs.Entries.{own_entries}
use Rattle.st_events.specs.declared.events.Event.{Event}
use Rattle.st_rule.proofs.EntryLemmas.{own_none}
use Rattle.st_rule.proofs.LoadedLemmas.{nothing_loaded}
use Rattle.st_rule.proofs.ViewLemmas.{set_there, sits_once, mut_is, gone_is_no_mutator, all_set, all_mut_set, at_here, at_else}

-- what stands at the end of a longer list is its last element
at_end : {A : Type 0} → (xs : List A) (a b : A) (j : ℕ) → get_elem? (xs ++ a ∷ []) j ≡ some b → (get_elem? xs j ≡ some b) ⊎ ((j ≡ length xs) × (a ≡ b))
at_end [] a b zero e = inr (refl, some-injective a b e)
at_end [] a b (suc j) e = absurd (some-ne-none b (sym e))
at_end (x ∷ xs) a b zero e = inl e
at_end (x ∷ xs) a b (suc j) e = ⊎_elim (λ t. inl t) (λ t. inr (ap suc t.0, t.1)) (at_end xs a b j e)

module _ (told : Told) (id : ℕ) (v : MutView) (m : Moment) (words : List ℕ) (views : List View) (h : HoldsAt told m words views) (sits : Sits views id (Mut v))
    (is_main : v.gate.number ≡ told.terms.sizes.mutators) (some_left : v.gate.split < told.terms.sizes.mutators) where
  abbrev l : MutView
  l = split_one v

  abbrev r : MutView
  r = newcomer v

  abbrev views' : List View
  views' = set views id (Mut l) ++ Mut r ∷ []

  abbrev seat' : ℕ → ℕ
  seat' = at v.gate.split (length views) m.seat

  split_is : v.gate.split ≡ m.split
  split_is = h.seating.counts id v sits is_main

  -- what holds of both new views and of the others holds of each
  all_split :
      (P : ℕ → MutView → Type 0) → P id l → P (length views) r
      → ((j : ℕ) (u : MutView) → j ≢ id → Sits views j (Mut u) → P j u)
      → (j : ℕ) (u : MutView) → Sits views' j (Mut u) → P j u
  all_split P left right others j u there = ⊎_elim
      (λ old. all_mut_set P views id l left others j u old)
      (λ new. subst (λ (p : ℕ × MutView). P p.0 p.1) (λ k. (sym (new.0 ∙ length-set views id (Mut l)) k, mut_is r u new.1 k)) right)
      (at_end (set views id (Mut l)) (Mut r) (Mut u) j there)

  -- the new number is no other view's
  new_number : (j : ℕ) (u : MutView) → Sits views j (Mut u) → u.gate.number ≢ v.gate.split
  new_number j u there same =
      let below : u.gate.number < m.split = h.gate_part.split_off j u there (subst (λ n. n < told.terms.sizes.mutators) (sym same) some_left) in
      absurd (omega (arith, below, same, split_is))

  -- so it was Outside
  was_outside : m.phase v.gate.split ≡ Outside
  was_outside = ⊎_elim (λ out. out) (λ there. absurd (new_number (m.seat v.gate.split) there.0 there.1 there.2)) (h.seating.seated v.gate.split)

  still_sits : (j : ℕ) (x : View) → j ≢ id → Sits views j x → Sits views' j x
  still_sits j x other there = at_longer (set views id (Mut l)) (Mut r ∷ []) j x (set_else views id j (Mut l) other ∙ there)

  left_sits : Sits views' id (Mut l)
  left_sits = at_longer (set views id (Mut l)) (Mut r ∷ []) id (Mut l) (set_there views id (Mut v) (Mut l) sits)

  -- and has no events
  no_events : own_entries v.gate.split 0 m.journal ≡ []
  no_events = h.journal_part.own_unsplit v.gate.split (omega (arith, split_is)) some_left

  -- and holds nothing
  empty_at : (hand : Option Held) → m.grip v.gate.split ≡ hand → hand ≡ None
  empty_at None is = refl
  empty_at (Some x) is =
      let inside = h.object_part.only_inside v.gate.split x.object (record { held = x; is = is; object_is = refl }) in
      let e : Outside ≡ Inside = sym was_outside ∙ inside in absurd cc

  loaded_split : LoadedPart (plan_of told.terms.sizes) m.board views'
  loaded_split = record {
    loaded = all_split (λ j u. HasLoaded (plan_of told.terms.sizes) m.board u) (h.loaded_part.loaded id v sits)
        (nothing_loaded (plan_of told.terms.sizes) m.board r refl) (λ j u other there. h.loaded_part.loaded j u there);
  }

  -- who was joined is still gone, and still was split off before
  joined_kept : (j : ℕ) (u : MutView) → Sits views j (Mut u) → (seen : List Event) → u.journal.seen ≡ seen → All (IsJoined seat' (m.split + 1) m.journal views' seen) u.hands.joined
  joined_kept j u there seen same k d within = let old = h.hand_part.joined j u there k d within in
      let n : ℕ = (get_or u.hands.joined k d).number in
      let other : n ≢ v.gate.split = λ e. let b : n < m.split = old.below in absurd (omega (arith, e, b, split_is)) in
      let seat_is : seat' n ≡ m.seat n = at_else v.gate.split (length views) m.seat n other in
      let not_id : m.seat n ≢ id = λ e. gone_is_no_mutator v (sits_once views id Gone (Mut v) (subst (λ i. Sits views i Gone) e old.gone) sits) in
      record {
        goes_on = subst (λ es. IsPrefix (get_or u.hands.joined k d).seen es) same old.goes_on;
        below = let b : n < m.split = old.below in omega (arith, b);
        gone = subst (λ i. Sits views' i Gone) (sym seat_is) (still_sits (m.seat n) Gone not_id old.gone);
        own = old.own;
      }

  journal_split : JournalPart told.terms m.journal (m.board ClockWord) (m.split + 1) views'
  journal_split = record {
    legal = h.journal_part.legal;
    prefixes = λ j x there. ⊎_elim
        (λ old. all_set (λ j x. IsPrefix (seen_by x) m.journal) views id (Mut l) (h.journal_part.prefixes id (Mut v) sits) (λ j x other at_j. h.journal_part.prefixes j x at_j) j x old)
        (λ new. subst (λ x. IsPrefix (seen_by x) m.journal) new.1 (h.journal_part.prefixes id (Mut v) sits))
        (at_end (set views id (Mut l)) (Mut r) x j there);
    seen_whole = let whole = h.journal_part.seen_whole in dite (ℕ_discrete whole.0 id)
        (λ same. (id, l, left_sits, ap seen_by (sits_once views id (Mut v) (Mut whole.1) sits (subst (λ k. Sits views k (Mut whole.1)) same whole.2)) ∙ whole.3))
        (λ other. (whole.0, whole.1, still_sits whole.0 (Mut whole.1) other whole.2, whole.3));
    tickets = h.journal_part.tickets;
    copies_drawn = h.journal_part.copies_drawn;
    own = all_split (λ j u. own_entries u.gate.number 0 m.journal ≡ u.journal.entries) (h.journal_part.own id v sits) no_events (λ j u other there. h.journal_part.own j u there);
    own_seen = all_split (λ j u. own_entries u.gate.number 0 u.journal.seen ≡ u.journal.entries) (h.journal_part.own_seen id v sits)
        (own_none v.gate.split v.journal.seen m.journal (h.journal_part.prefixes id (Mut v) sits) no_events)
        (λ j u other there. h.journal_part.own_seen j u there);
    own_unsplit = λ n beyond below. h.journal_part.own_unsplit n (omega (arith, beyond)) below;
    charged = h.journal_part.charged;
    paid = h.journal_part.paid;
  }

  gate_split : GatePart told.terms.sizes.mutators (λ n. m.board (FlagWord n)) (m.board ClosingWord) m.phase seat' (m.split + 1) m.journal views'
  gate_split = record {
    flags = h.gate_part.flags;
    closer = h.gate_part.closer;
    nobody_closes = h.gate_part.nobody_closes;
    clear = all_split (λ j u. is_closer u.gate.phase ≡ true → (n : ℕ) → is_among u.gate.clear n ≡ true → m.phase n ≢ Inside)
        (h.gate_part.clear id v sits) (λ closes. absurd cc) (λ j u other there. h.gate_part.clear j u there);
    alone_saw_all = all_split (λ j u. u.gate.phase ≡ Alone → (n : ℕ) → n ≤ told.terms.sizes.mutators → n ≢ u.gate.number → is_among u.gate.clear n ≡ true)
        (h.gate_part.alone_saw_all id v sits) (λ alone. absurd cc) (λ j u other there. h.gate_part.alone_saw_all j u there);
    alone_saw_journal = all_split (λ j u. u.gate.phase ≡ Alone → u.journal.seen ≡ m.journal)
        (h.gate_part.alone_saw_journal id v sits) (λ alone. absurd cc) (λ j u other there. h.gate_part.alone_saw_journal j u there);
    one_view_each = all_split (λ j u. seat' u.gate.number ≡ j)
        (at_else v.gate.split (length views) m.seat v.gate.number (new_number id v sits) ∙ h.gate_part.one_view_each id v sits)
        (at_here v.gate.split (length views) m.seat)
        (λ j u other there. at_else v.gate.split (length views) m.seat u.gate.number (new_number j u there) ∙ h.gate_part.one_view_each j u there);
    split_off = all_split (λ j u. u.gate.number < told.terms.sizes.mutators → u.gate.number < m.split + 1)
        (λ below. absurd (omega (arith, below, is_main)))
        (λ below. omega (arith, split_is))
        (λ j u other there below. let old : u.gate.number < m.split = h.gate_part.split_off j u there below in omega (arith, old));
  }

  hands_split : HandPart seat' (m.split + 1) m.journal views'
  hands_split = record {
    joined = all_split (λ j u. All (IsJoined seat' (m.split + 1) m.journal views' u.journal.seen) u.hands.joined)
        (joined_kept id v sits v.journal.seen refl) (λ k d within. absurd (omega (arith, within))) (λ j u other there. joined_kept j u there u.journal.seen refl);
  }

  seating_split : Seating told.terms m.phase m.grip seat' (m.split + 1) views'
  seating_split = record {
    phases = all_split (λ j u. m.phase u.gate.number ≡ u.gate.phase) (h.seating.phases id v sits) was_outside (λ j u other there. h.seating.phases j u there);
    grips = all_split (λ j u. m.grip u.gate.number ≡ u.held) (h.seating.grips id v sits) (empty_at (m.grip v.gate.split) refl) (λ j u other there. h.seating.grips j u there);
    numbers = all_split (λ j u. u.gate.number ≤ told.terms.sizes.mutators) (h.seating.numbers id v sits) (omega (arith, some_left)) (λ j u other there. h.seating.numbers j u there);
    told = all_split (λ j u. u.terms ≡ told.terms) (h.seating.told id v sits) (h.seating.told id v sits) (λ j u other there. h.seating.told j u there);
    counts = all_split (λ j u. u.gate.number ≡ told.terms.sizes.mutators → u.gate.split ≡ m.split + 1)
        (λ _. ap (λ n. n + 1) split_is)
        (λ same. absurd (omega (arith, same, some_left)))
        (λ j u other there same. absurd (other (sym (h.gate_part.one_view_each j u there) ∙ ap m.seat (same ∙ sym is_main) ∙ h.gate_part.one_view_each id v sits)));
    seated = λ n. dite (ℕ_discrete n v.gate.split)
        (λ new. inl (ap m.phase new ∙ was_outside))
        (λ old. ⊎_elim (λ out. inl out)
        (λ there. inr (dite (ℕ_discrete (m.seat n) id)
        (λ same. (
          l,
          subst (λ k. Sits views' k (Mut l)) (sym (at_else v.gate.split (length views) m.seat n old ∙ same)) left_sits,
          ap (λ (u : MutView). u.gate.number) (mut_is v there.0 (sits_once views id (Mut v) (Mut there.0) sits (subst (λ k. Sits views k (Mut there.0)) same there.1))) ∙ there.2,
        ))
        (λ other. (
          there.0,
          subst (λ k. Sits views' k (Mut there.0)) (sym (at_else v.gate.split (length views) m.seat n old)) (still_sits (m.seat n) (Mut there.0) other there.1),
          there.2,
        ))))
        (h.seating.seated n));
  }

  split_keeps_at : HoldsAt told (record m { seat = seat'; split = m.split + 1 }) words views'
  split_keeps_at = record {
    limits = h.limits;
    shape_limits = h.shape_limits;
    displayed = h.displayed;
    journal_part = journal_split;
    gate_part = gate_split;
    board_part = h.board_part;
    loaded_part = loaded_split;
    object_part = h.object_part;
    lane_part = h.lane_part;
    copy_part = h.copy_part;
    kept_part = h.kept_part;
    read_part = record {
      reads = λ j u there. ⊎_elim
          (λ old. lanes_stay views id l (λ j u. IsReading told.terms (world_of told.terms m) (λ l. m.board (LaneWord l)) (λ o l. m.board (ForwardWord o l)) u) h.read_part.reads j u old)
          (λ new. absurd (mut_is_no_lane r u new.1))
          (at_end (set views id (Mut l)) (Mut r) (Lane u) j there);
    };
    row_part = h.row_part;
    hand_part = hands_split;
    seating = seating_split;
  }

-- whatever the table is, the split keeps the rule
pub split_keeps :
    (told : Told) (id : ℕ) (v : MutView)
    → v.gate.number ≡ told.terms.sizes.mutators
    → v.gate.split < told.terms.sizes.mutators
    → Splits (IsSoundTable told) id (Mut v) (Mut (split_one v)) (Mut (newcomer v))
split_keeps told id v is_main some_left s sound sits =
    (record (sound.0) { seat = at v.gate.split (length s.views) sound.0.seat; split = sound.0.split + 1 }, split_keeps_at told id v sound.0 s.words s.views sound.1 sits is_main some_left)

-- from what a call asks of the main thread's view, of these terms
pub some_left :
    (v old : MutView) (terms : Terms) (m : ℕ)
    → v ≡ old → old.terms ≡ terms
    → m ≡ old.gate.split
    → m < old.terms.sizes.mutators
    → v.gate.split < terms.sizes.mutators
some_left v old terms m same told next below =
    let split : v.gate.split ≡ m = ap (λ (u : MutView). u.gate.split) same ∙ sym next in
    let bound : old.terms.sizes.mutators ≡ terms.sizes.mutators = ap (λ (t : Terms). t.sizes.mutators) told in
    omega (arith, split, bound, below)

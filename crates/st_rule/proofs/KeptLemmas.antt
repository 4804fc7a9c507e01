-- What a holder's step on its object makes of the part on whose copies are whose.
use Rattle.std.proofs.Common.{◌≡◌, ◌≢◌, ℕ, suc, ◌+◌, ◌<◌, ◌≤◌, ◌⊎◌, true, ◌++◌}
use Rattle.std.proofs.Common.{Option, Some, None, sym, refl, ap, subst, ◌∙◌, arith, ⊎_elim, inl, inr}
use mathlib.Core.Logic.{dite}
use native.Mathlib.Decide.{ℕ_discrete}
use Rattle.st_layout.specs.Packed.{high_half, low_half}
use Rattle.st_events.specs.declared.limits.Sizes.{Sizes}
use Rattle.st_events.specs.World.{World, at, is_among, is_kept, needing_in, row_if_needed, without}
use Rattle.st_events.proofs.AmongLemmas.{among_without, without_is_among}
use Rattle.st_events.proofs.KeptLemmas.{kept_in_either, kept_in_front, kept_by_row}
use Rattle.st_rule.specs.declared.forwards.TheConstants.{LOST}
use Rattle.st_rule.specs.declared.views.Flight.{Flight}
use Rattle.st_rule.specs.Versions.{IsAwaiting, IsNamed, CopyPart, KeptPart, share_row, with_row}
use Rattle.st_rule.proofs.CopyLemmas.{ComesFrom}
use Rattle.st_rule.proofs.HoldLemmas.{at_field, field_here, field_other, field_elsewhere}
use Rattle.st_rule.proofs.LaneLemmas.{each_flight, one_flight, no_flight}
use Rattle.st_rule.proofs.ShareLemmas.{shared_in_either, shared_in_front, shared_in_back, shared_by_row, row_is_shared, shared_is_kept, row_here, row_else}
use Rattle.st_rule.proofs.ViewLemmas.{at_here}

-- what a draw of a change with a copy left makes of the rows: one more, where some check needs the old version; then an index is drawn, and each
-- lane of such a check awaits its forwarding word
pub record AddsRow (sizes : Sizes) (before after : World) (lane : ℕ → ℕ) (available drawn drawn' object : ℕ) (x' : Option Flight) : Type 0 where
  pub rows : after.kept ≡ before.kept ++ row_if_needed object (needing_in before object)
  pub left : drawn < available
  pub taken : (n : ℕ) → is_among (needing_in before object) n ≡ true → drawn' ≡ drawn + 1
  pub awaits : (l : ℕ) → l < sizes.lanes → is_among before.active (lane l) ≡ true → is_among (needing_in before object) (lane l) ≡ true → IsAwaiting x' l

module _ (sizes : Sizes) (world : World) (lane : ℕ → ℕ) (available drawn : ℕ) (flight : ℕ → Option Flight) (forward : ℕ → ℕ → ℕ) (free : ℕ → ℕ)
    (copy_of : ℕ → ℕ → ℕ) (part : KeptPart sizes world lane available drawn flight forward free copy_of) where
  module _ (object : ℕ) (x' : Option Flight) where
    -- unlock, the store of the word of what is in flight, and copy store: who awaits its word still does
    pub kept_reflown :
        ComesFrom (flight object) x' → ((l : ℕ) → IsAwaiting (flight object) l → IsAwaiting x' l)
        → KeptPart sizes world lane available drawn (at object x' flight) forward free copy_of
    kept_reflown comes still = record {
      within = part.within;
      one_copy = part.one_copy;
      rows_apart = part.rows_apart;
      not_free = part.not_free;
      named_kept = part.named_kept;
      kept_named = λ o l within active kept. ⊎_elim
          (λ waits. inl (each_flight (λ o z. IsAwaiting (flight o) l → IsAwaiting z l) object x' flight (still l) (λ o other w. w) o waits))
          (λ named. inr named)
          (part.kept_named o l within active kept);
      drew_copy = λ o l i y. each_flight (λ o z. z ≡ Some y → is_among y.awaiting l ≡ true → y.index ≡ Some i → i < available
          → (is_kept world.kept o (lane l) ≡ true) × (free i ≡ copy_of o (lane l)))
          object x' flight
          (λ is awaits e lt. let old = comes y is in part.drew_copy object l i old.0 old.1 (old.2.awaits l awaits) (sym old.2.index ∙ e) lt)
          (λ o other. part.drew_copy o l i y) o;
    }

  -- forward store: the lane's word is its check's. It names the drawn copy, or the check has no row at the object
  module _ (object : ℕ) (x : Flight) (flies : flight object ≡ Some x) (lane0 word : ℕ) (awaits : is_among x.awaiting lane0 ≡ true)
      (within : lane0 < sizes.lanes) (active : is_among world.active (lane lane0) ≡ true) (epoch : high_half word ≡ lane lane0)
      (names :
      (c : ℕ) → low_half word ≡ suc c → low_half word ≢ LOST
      → (index : ℕ) × (x.index ≡ Some index) × (index < available) × (free index ≡ c))
      (target : ((c : ℕ) × (low_half word ≡ suc c) × (low_half word ≢ LOST)) ⊎ (is_kept world.kept object (lane lane0) ≡ true → ⊥)) where
    abbrev z : Flight
    z = record x { awaiting = without lane0 x.awaiting }

    abbrev forward' : ℕ → ℕ → ℕ
    forward' = at_field object lane0 word forward

    -- the word names the row's copy
    drew : (c : ℕ) → low_half word ≡ suc c → low_half word ≢ LOST → (is_kept world.kept object (lane lane0) ≡ true) × (c ≡ copy_of object (lane lane0))
    drew c low kept =
        let index = names c low kept in
        let row = part.drew_copy object lane0 index.0 x flies awaits index.1 index.2 in (row.0, sym index.3 ∙ row.1)

    -- what each word is afterwards
    here_is : at_field object lane0 word forward object lane0 ≡ word
    here_is = field_here object lane0 word forward

    named_before : (o l c : ℕ) → at_field object lane0 word forward o l ≡ forward o l → IsNamed sizes world lane (at_field object lane0 word forward) o l c → IsNamed sizes world lane forward o l c
    named_before o l c same named = record {
      within = named.within;
      active = named.active;
      epoch = ap high_half (sym same) ∙ named.epoch;
      low = ap low_half (sym same) ∙ named.low;
      kept = λ e. named.kept (ap low_half same ∙ e);
    }

    named_after : (o l c : ℕ) → at_field object lane0 word forward o l ≡ forward o l → IsNamed sizes world lane forward o l c → IsNamed sizes world lane (at_field object lane0 word forward) o l c
    named_after o l c same named = record {
      within = named.within;
      active = named.active;
      epoch = ap high_half same ∙ named.epoch;
      low = ap low_half same ∙ named.low;
      kept = λ e. named.kept (ap low_half (sym same) ∙ e);
    }

    named_here : (c : ℕ) → IsNamed sizes world lane (at_field object lane0 word forward) object lane0 c → (is_kept world.kept object (lane lane0) ≡ true) × (c ≡ copy_of object (lane lane0))
    named_here c named = drew c (ap low_half (sym here_is) ∙ named.low) (λ e. named.kept (ap low_half here_is ∙ e))

    -- the lane's row is named
    kept_here : is_kept world.kept object (lane lane0) ≡ true → IsNamed sizes world lane (at_field object lane0 word forward) object lane0 (copy_of object (lane lane0))
    kept_here kept = ⊎_elim
        (λ one. record {
          within = within;
          active = active;
          epoch = ap high_half here_is ∙ epoch;
          low = ap low_half here_is ∙ one.1 ∙ ap suc (drew one.0 one.1 one.2).1;
          kept = λ e. one.2 (ap low_half (sym here_is) ∙ e);
        })
        (λ none. absurd (none kept))
        target

    -- another lane that awaited its word still does
    still_waits : (l : ℕ) → l ≢ lane0 → IsAwaiting (flight object) l → IsAwaiting (Some (record x { awaiting = without lane0 x.awaiting })) l
    still_waits l other waits =
        let same : x ≡ waits.one = one_flight x waits.one (sym flies ∙ waits.flies) in
        record { one = z; flies = refl; awaits = without_is_among lane0 x.awaiting l (ap (λ (y : Flight). is_among y.awaiting l) same ∙ waits.awaits) other }

    waits_or_named : (o l : ℕ) → (o ≡ object → l ≢ lane0) → IsAwaiting (flight o) l ⊎ IsNamed sizes world lane forward o l (copy_of o (lane l))
        → at_field object lane0 word forward o l ≡ forward o l
        → IsAwaiting (at object (Some (record x { awaiting = without lane0 x.awaiting })) flight o) l
        ⊎ IsNamed sizes world lane (at_field object lane0 word forward) o l (copy_of o (lane l))
    waits_or_named o l other old same = ⊎_elim
        (λ waits. inl (each_flight (λ o y. (o ≡ object → l ≢ lane0) → IsAwaiting (flight o) l → IsAwaiting y l) object (Some (record x { awaiting = without lane0 x.awaiting })) flight
        (λ apart. still_waits l (apart refl)) (λ o apart _ w. w) o other waits))
        (λ named. inr (named_after o l (copy_of o (lane l)) same named))
        old

    pub kept_forwarded : KeptPart sizes world lane available drawn (at object (Some (record x { awaiting = without lane0 x.awaiting })) flight) (at_field object lane0 word forward) free copy_of
    kept_forwarded = record {
      within = part.within;
      one_copy = part.one_copy;
      rows_apart = part.rows_apart;
      not_free = part.not_free;
      named_kept = λ o l c named. dite (ℕ_discrete o object)
          (λ here. dite (ℕ_discrete l lane0)
          (λ same.
          let r = named_here c (subst (λ (p : ℕ × ℕ). IsNamed sizes world lane (at_field object lane0 word forward) p.0 p.1 c) (λ i. (here i, same i)) named) in
          subst (λ (p : ℕ × ℕ). (is_kept world.kept p.0 (lane p.1) ≡ true) × (c ≡ copy_of p.0 (lane p.1))) (λ i. (sym here i, sym same i)) r)
          (λ other. part.named_kept o l c (named_before o l c (field_other object lane0 word forward o l other) named)))
          (λ other. part.named_kept o l c (named_before o l c (field_elsewhere object lane0 word forward o l other) named));
      kept_named = λ o l fits is_active kept. dite (ℕ_discrete o object)
          (λ here. dite (ℕ_discrete l lane0)
          (λ same. inr (
          let r = kept_here (subst (λ (p : ℕ × ℕ). is_kept world.kept p.0 (lane p.1) ≡ true) (λ i. (here i, same i)) kept) in
          subst (λ (p : ℕ × ℕ). IsNamed sizes world lane (at_field object lane0 word forward) p.0 p.1 (copy_of p.0 (lane p.1))) (λ i. (sym here i, sym same i)) r))
          (λ other. waits_or_named o l (λ _. other) (part.kept_named o l fits is_active kept) (field_other object lane0 word forward o l other)))
          (λ other. waits_or_named o l (λ here. absurd (other here)) (part.kept_named o l fits is_active kept) (field_elsewhere object lane0 word forward o l other));
      drew_copy = λ o l i y. each_flight (λ o w. w ≡ Some y → is_among y.awaiting l ≡ true → y.index ≡ Some i → i < available
          → (is_kept world.kept o (lane l) ≡ true) × (free i ≡ copy_of o (lane l)))
          object (Some (record x { awaiting = without lane0 x.awaiting })) flight
          (λ is waits e lt.
          let same = one_flight z y is in
          part.drew_copy object l i x flies (among_without lane0 x.awaiting l (ap (λ (t : Flight). is_among t.awaiting l) same ∙ waits)).0 (ap (λ (t : Flight). t.index) same ∙ e) lt)
          (λ o other. part.drew_copy o l i y) o;
    }

  -- draw: nothing more is kept, or one row, whose copy is the one that the free list names at the drawn index
  module _ (since : ℕ) (copies : CopyPart sizes world lane available drawn since flight forward free) (after : World) (object drawn' : ℕ) (x' : Option Flight)
      (quiet : flight object ≡ None) (active : after.active ≡ world.active) (more : drawn ≤ drawn')
      (unkept : (n : ℕ) → is_among (needing_in world object) n ≡ true → is_kept world.kept object n ≡ true → ⊥)
      (rows : (after.kept ≡ world.kept) ⊎ AddsRow sizes world after lane available drawn drawn' object x')
      (fresh :
      (y : Flight) (l i : ℕ) → x' ≡ Some y → is_among y.awaiting l ≡ true → y.index ≡ Some i → i < available
      → (i ≡ drawn) × (is_among (needing_in world object) (lane l) ≡ true) × (is_kept after.kept object (lane l) ≡ true)) where
    -- a row that is kept afterwards was kept before, or is the new one
    kept_by : (o n : ℕ) → is_kept after.kept o n ≡ true → (is_kept world.kept o n ≡ true) ⊎ ((object ≡ o) × (is_among (needing_in world object) n ≡ true) × (drawn < available) × (drawn' ≡ drawn + 1))
    kept_by o n kept = ⊎_elim
        (λ same. inl (ap (λ rs. is_kept rs o n) (sym same) ∙ kept))
        (λ one. ⊎_elim
        (λ old. inl old)
        (λ new. let r = kept_by_row object (needing_in world object) o n new in inr (r.0, r.1, one.left, one.taken n r.1))
        (kept_in_either world.kept (row_if_needed object (needing_in world object)) o n (ap (λ rs. is_kept rs o n) (sym one.rows) ∙ kept)))
        rows

    still_kept : (o n : ℕ) → is_kept world.kept o n ≡ true → is_kept after.kept o n ≡ true
    still_kept o n kept = ⊎_elim
        (λ same. ap (λ rs. is_kept rs o n) same ∙ kept)
        (λ one. ap (λ rs. is_kept rs o n) one.rows ∙ kept_in_front world.kept (row_if_needed object (needing_in world object)) o n kept)
        rows

    -- so is a row of two checks
    shared_by : (o n k : ℕ) → share_row after.kept o n k ≡ true
        → (share_row world.kept o n k ≡ true) ⊎ ((object ≡ o) × (is_among (needing_in world object) n ≡ true) × (is_among (needing_in world object) k ≡ true))
    shared_by o n k shared = ⊎_elim
        (λ same. inl (ap (λ rs. share_row rs o n k) (sym same) ∙ shared))
        (λ one. ⊎_elim
        (λ old. inl old)
        (λ new. inr (shared_by_row object (needing_in world object) o n k new))
        (shared_in_either world.kept (row_if_needed object (needing_in world object)) o n k (ap (λ rs. share_row rs o n k) (sym one.rows) ∙ shared)))
        rows

    still_shared : (o n k : ℕ) → share_row world.kept o n k ≡ true → share_row after.kept o n k ≡ true
    still_shared o n k shared = ⊎_elim
        (λ same. ap (λ rs. share_row rs o n k) same ∙ shared)
        (λ one. ap (λ rs. share_row rs o n k) one.rows ∙ shared_in_front world.kept (row_if_needed object (needing_in world object)) o n k shared)
        rows

    now_shared : (n k : ℕ) → is_kept after.kept object n ≡ true → is_among (needing_in world object) n ≡ true → is_among (needing_in world object) k ≡ true → share_row after.kept object n k ≡ true
    now_shared n k kept among also = ⊎_elim
        (λ same. absurd (unkept n among (ap (λ rs. is_kept rs object n) (sym same) ∙ kept)))
        (λ one. ap (λ rs. share_row rs object n k) one.rows
        ∙ shared_in_back world.kept (row_if_needed object (needing_in world object)) object n k (row_is_shared object (needing_in world object) n k among also))
        rows

    -- the copies of the rows
    old_copy : (o n : ℕ) → is_kept world.kept o n ≡ true → with_row world object (free drawn) copy_of o n ≡ copy_of o n
    old_copy o n kept = row_else world object (free drawn) copy_of o n (λ here among. unkept n among (subst (λ k. is_kept world.kept k n ≡ true) here kept))

    new_copy : (o n : ℕ) → object ≡ o → is_among (needing_in world object) n ≡ true → with_row world object (free drawn) copy_of o n ≡ free drawn
    new_copy o n here among = ap (λ k. with_row world object (free drawn) copy_of k n) (sym here) ∙ row_here world object (free drawn) copy_of n among

    -- the new one is no other's
    not_taken : (o n : ℕ) → is_kept world.kept o n ≡ true → drawn < available → with_row world object (free drawn) copy_of o n ≢ free drawn
    not_taken o n kept left same = part.not_free o n kept drawn (omega arith) left (sym same ∙ old_copy o n kept)

    apart : (o p n k : ℕ) → is_kept after.kept o n ≡ true → is_kept after.kept p k ≡ true
        → with_row world object (free drawn) copy_of o n ≡ with_row world object (free drawn) copy_of p k → (o ≡ p) × (share_row after.kept o n k ≡ true)
    apart o p n k kept also same = ⊎_elim
        (λ old. ⊎_elim
        (λ old'.
        let r = part.rows_apart o p n k old old' (sym (old_copy o n old) ∙ same ∙ old_copy p k old') in (r.0, still_shared o n k r.1))
        (λ new'. absurd (not_taken o n old new'.2 (same ∙ new_copy p k new'.0 new'.1)))
        (kept_by p k also))
        (λ new. ⊎_elim
        (λ old'. absurd (not_taken p k old' new.2 (sym same ∙ new_copy o n new.0 new.1)))
        (λ new'. (
          sym new.0 ∙ new'.0,
          subst (λ j. share_row after.kept j n k ≡ true) new.0 (now_shared n k (subst (λ j. is_kept after.kept j n ≡ true) (sym new.0) kept) new.1 new'.1),
        ))
        (kept_by p k also))
        (kept_by o n kept)

    free_else : (o n : ℕ) → is_kept after.kept o n ≡ true → (i : ℕ) → drawn' ≤ i → i < available → free i ≢ with_row world object (free drawn) copy_of o n
    free_else o n kept i from lt same = ⊎_elim
        (λ old. part.not_free o n old i (omega (arith, from, more)) lt (same ∙ old_copy o n old))
        (λ new.
        let s : since ≤ drawn = copies.since_then in
        let d : drawn' ≡ drawn + 1 = new.3 in
        let one : i ≡ drawn = copies.once i drawn (omega (arith, s, more, from)) lt s new.2 (same ∙ new_copy o n new.0 new.1) in
        absurd (omega (arith, one, d, from)))
        (kept_by o n kept)

    named_then : (o l c : ℕ) → IsNamed sizes after lane forward o l c → IsNamed sizes world lane forward o l c
    named_then o l c named = record {
      within = named.within;
      active = ap (λ ns. is_among ns (lane l)) (sym active) ∙ named.active;
      epoch = named.epoch;
      low = named.low;
      kept = named.kept;
    }

    named_now : (o l c : ℕ) → IsNamed sizes world lane forward o l c → IsNamed sizes after lane forward o l c
    named_now o l c named = record {
      within = named.within;
      active = ap (λ ns. is_among ns (lane l)) active ∙ named.active;
      epoch = named.epoch;
      low = named.low;
      kept = named.kept;
    }

    still_awaits : (o l : ℕ) → IsAwaiting (flight o) l → IsAwaiting (at object x' flight o) l
    still_awaits o l = each_flight (λ o z. IsAwaiting (flight o) l → IsAwaiting z l) object x' flight
        (λ waits. absurd (no_flight waits.one (sym quiet ∙ waits.flies))) (λ o other w. w) o

    -- a lane of a new row awaits its word
    new_awaits : (o l : ℕ) → l < sizes.lanes → is_among after.active (lane l) ≡ true → is_kept after.kept o (lane l) ≡ true → object ≡ o
        → is_among (needing_in world object) (lane l) ≡ true → IsAwaiting (at object x' flight o) l
    new_awaits o l within is_active kept here among = ⊎_elim
        (λ same. absurd (unkept (lane l) among (subst (λ k. is_kept world.kept k (lane l) ≡ true) (sym here) (ap (λ rs. is_kept rs o (lane l)) (sym same) ∙ kept))))
        (λ one. subst (λ k. IsAwaiting (at object x' flight k) l) here
        (subst (λ z. IsAwaiting z l) (sym (at_here object x' flight)) (one.awaits l within (ap (λ ns. is_among ns (lane l)) (sym active) ∙ is_active) among)))
        rows

    pub kept_drawn : KeptPart sizes after lane available drawn' (at object x' flight) forward free (with_row world object (free drawn) copy_of)
    kept_drawn = record {
      within = λ o n kept. ⊎_elim
          (λ old. subst (λ c. c < sizes.copies) (sym (old_copy o n old)) (part.within o n old))
          (λ new.
          let listed : available ≤ sizes.copies = copies.listed in
          let left : drawn < available = new.2 in
          subst (λ c. c < sizes.copies) (sym (new_copy o n new.0 new.1)) (copies.named drawn (omega (arith, left, listed))))
          (kept_by o n kept);
      one_copy = λ o n k shared. ⊎_elim
          (λ old. let both = shared_is_kept world.kept o n k old in old_copy o n both.0 ∙ part.one_copy o n k old ∙ sym (old_copy o k both.1))
          (λ new. new_copy o n new.0 new.1 ∙ sym (new_copy o k new.0 new.2))
          (shared_by o n k shared);
      rows_apart = apart;
      not_free = free_else;
      named_kept = λ o l c named.
          let old = part.named_kept o l c (named_then o l c named) in
          (still_kept o (lane l) old.0, old.1 ∙ sym (old_copy o (lane l) old.0));
      kept_named = λ o l within is_active kept. ⊎_elim
          (λ old. ⊎_elim
          (λ waits. inl (still_awaits o l waits))
          (λ named. inr (subst (λ c. IsNamed sizes after lane forward o l c) (sym (old_copy o (lane l) old)) (named_now o l (copy_of o (lane l)) named)))
          (part.kept_named o l within (ap (λ ns. is_among ns (lane l)) (sym active) ∙ is_active) old))
          (λ new. inl (new_awaits o l within is_active kept new.0 new.1))
          (kept_by o (lane l) kept);
      drew_copy = λ o l i y. each_flight (λ o z. z ≡ Some y → is_among y.awaiting l ≡ true → y.index ≡ Some i → i < available
          → (is_kept after.kept o (lane l) ≡ true) × (free i ≡ with_row world object (free drawn) copy_of o (lane l)))
          object x' flight
          (λ is waits e lt. let f = fresh y l i is waits e lt in (f.2, ap free f.0 ∙ sym (row_here world object (free drawn) copy_of (lane l) f.1)))
          (λ o other is waits e lt.
          let old = part.drew_copy o l i y is waits e lt in
          (still_kept o (lane l) old.0, old.1 ∙ sym (old_copy o (lane l) old.0))) o;
    }

-- What a holder's step on its object makes of the part on copies.
use Rattle.std.proofs.Common.{◌≡◌, ◌≢◌, ℕ, suc, ◌+◌, ◌<◌, ◌≤◌, ◌⊎◌, true, length}
use Rattle.std.proofs.Common.{Option, Some, None, sym, refl, ap, subst, ◌∙◌, arith, ⊎_elim, inl, inr}
use mathlib.Core.Logic.{dite}
use native.Mathlib.Decide.{ℕ_discrete}
use Rattle.st_layout.specs.declared.limits.TheConstants.{MOST_FIELDS}
use Rattle.st_layout.specs.Packed.{high_half, low_half}
use Rattle.st_events.specs.declared.limits.Sizes.{Sizes}
use Rattle.st_events.specs.World.{World, at, is_among}
use Rattle.st_rule.specs.declared.forwards.TheConstants.{LOST}
use Rattle.st_rule.specs.declared.views.Flight.{Flight}
use Rattle.st_rule.specs.Versions.{IsNamed, CopyPart}
use Rattle.st_rule.proofs.HoldLemmas.{at_field, field_here, field_other, field_elsewhere}
use Rattle.st_rule.proofs.LaneLemmas.{each_flight, one_flight}
use Rattle.st_rule.proofs.ViewLemmas.{at_here, at_else}

-- what was in flight is what is, with the same index; of its copy no less is written, and no more lanes await their words
pub record IsSameFlight (old y : Flight) : Type 0 where
  pub index : y.index ≡ old.index
  pub built : old.built ≤ y.built
  pub awaits : (l : ℕ) → is_among y.awaiting l ≡ true → is_among old.awaiting l ≡ true

-- what is in flight at the object afterwards was before
abbrev pub ComesFrom : Option Flight → Option Flight → Type 0
ComesFrom x x' = (y : Flight) → x' ≡ Some y → (old : Flight) × (x ≡ Some old) × IsSameFlight old y

module _ (sizes : Sizes) (world : World) (lane : ℕ → ℕ) (available drawn since : ℕ) (flight : ℕ → Option Flight) (forward : ℕ → ℕ → ℕ) (free : ℕ → ℕ)
    (part : CopyPart sizes world lane available drawn since flight forward free) where
  pub copies_same : (flight' : ℕ → Option Flight) → ((o : ℕ) → flight' o ≡ flight o) → CopyPart sizes world lane available drawn since flight' forward free
  copies_same flight' same = subst (λ (x : ℕ → Option Flight). CopyPart sizes world lane available drawn since x forward free) (λ i o. sym (same o) i) part

  module _ (object : ℕ) (x' : Option Flight) (comes : ComesFrom (flight object) x') where
    abbrev flight' : ℕ → Option Flight
    flight' = at object x' flight

    -- each flight was one before
    pub came : (o : ℕ) (y : Flight) → at object x' flight o ≡ Some y → (old : Flight) × (flight o ≡ Some old) × IsSameFlight old y
    came o = each_flight (λ o z. (y : Flight) → z ≡ Some y → (old : Flight) × (flight o ≡ Some old) × IsSameFlight old y)
        object x' flight comes (λ o other y is. (y, is, record { index = refl; built = omega arith; awaits = λ l among. among })) o

    -- unlock, the store of the word of what is in flight, and copy store
    pub copies_kept : CopyPart sizes world lane available drawn since (at object x' flight) forward free
    copies_kept = record {
      some_left = part.some_left;
      none_left = part.none_left;
      listed = part.listed;
      since_then = part.since_then;
      named = part.named;
      once = part.once;
      indexes = λ o y i is e. let old = came o y is in part.indexes o old.0 i old.1 (sym old.2.index ∙ e);
      differ = λ o p y z i is_y is_z e d. let a = came o y is_y in let b = came p z is_z in part.differ o p a.0 b.0 i a.1 b.1 (sym a.2.index ∙ e) (sym b.2.index ∙ d);
      spares_free = part.spares_free;
      spares_built = λ o l c named p y i is e below few. let old = came p y is in
          let less : old.0.built ≤ y.built = old.2.built in
          part.spares_built o l c named p old.0 i old.1 (sym old.2.index ∙ e) below (omega (arith, less, few));
    }

    -- forward store: the word of one lane names a copy that is complete, or none
    module _ (lane0 word : ℕ) (x : Flight) (flies : flight object ≡ Some x)
        (names :
        (c : ℕ) → low_half word ≡ suc c → low_half word ≢ LOST
        → (index : ℕ) × (x.index ≡ Some index) × (index < available) × (free index ≡ c) × (MOST_FIELDS < x.built)) where
      abbrev forward' : ℕ → ℕ → ℕ
      forward' = at_field object lane0 word forward

      -- a copy that is named afterwards was named before, or is the complete one
      named_by : (o l c : ℕ) → IsNamed sizes world lane (at_field object lane0 word forward) o l c
          → (IsNamed sizes world lane forward o l c) ⊎ ((index : ℕ) × (x.index ≡ Some index) × (index < available) × (free index ≡ c) × (MOST_FIELDS < x.built))
      named_by o l c named = dite (ℕ_discrete o object)
          (λ here. dite (ℕ_discrete l lane0)
          (λ same.
          let is : forward' o l ≡ word = (λ i. forward' (here i) (same i)) ∙ field_here object lane0 word forward in
          inr (names c (ap low_half (sym is) ∙ named.low) (λ e. named.kept (ap low_half is ∙ e))))
          (λ other. inl (old (field_other object lane0 word forward o l other))))
          (λ other. inl (old (field_elsewhere object lane0 word forward o l other)))
        where
          old : forward' o l ≡ forward o l → IsNamed sizes world lane forward o l c
          old same = record {
            within = named.within;
            active = named.active;
            epoch = ap high_half (sym same) ∙ named.epoch;
            low = ap low_half (sym same) ∙ named.low;
            kept = λ e. named.kept (ap low_half same ∙ e);
          }

      one_index : {a b : ℕ} → Some a ≡ Some b → a ≡ b
      one_index e = cc

      -- another copy than the complete one
      apart : (index c i : ℕ) → x.index ≡ Some index → index < available → free index ≡ c → since ≤ i → i < available → i ≢ index → free i ≢ c
      apart index c i drawn' below is from lt other same =
          other (part.once i index from lt (part.indexes object x index flies drawn').0 below (same ∙ sym is))

      spares : (index c : ℕ) → x.index ≡ Some index → index < available → free index ≡ c → MOST_FIELDS < x.built
          → (p : ℕ) (y : Flight) (i : ℕ) → flight p ≡ Some y → y.index ≡ Some i → i < available → y.built ≤ MOST_FIELDS → free i ≢ c
      spares index c drawn' below is whole p y i flies' e lt few =
          apart index c i drawn' below is (part.indexes p y i flies' e).0 lt
          (λ same.
          let one : p ≡ object = part.differ p object y x index flies' flies (e ∙ ap Some same) drawn' in
          let it : y ≡ x = one_flight y x (sym flies' ∙ ap flight one ∙ flies) in
          let less : x.built ≤ MOST_FIELDS = subst (λ (z : Flight). z.built ≤ MOST_FIELDS) it few in
          absurd (omega (arith, less, whole)))

      pub copies_forwarded : CopyPart sizes world lane available drawn since (at object x' flight) (at_field object lane0 word forward) free
      copies_forwarded = record {
        some_left = part.some_left;
        none_left = part.none_left;
        listed = part.listed;
        since_then = part.since_then;
        named = part.named;
        once = part.once;
        indexes = copies_kept.indexes;
        differ = copies_kept.differ;
        spares_free = λ o l c named i from lt. ⊎_elim
            (λ old. part.spares_free o l c old i from lt)
            (λ new. apart new.0 c i new.1 new.2 new.3 (let s = part.since_then in omega (arith, s, from)) lt
            (λ same. let below = (part.indexes object x new.0 flies new.1).1 in absurd (omega (arith, below, same, from))))
            (named_by o l c named);
        spares_built = λ o l c named p y i is e below few. let from = came p y is in
            let less : from.0.built ≤ y.built = from.2.built in
            let few' : from.0.built ≤ MOST_FIELDS = omega (arith, less, few) in
            ⊎_elim
            (λ old. part.spares_built o l c old p from.0 i from.1 (sym from.2.index ∙ e) below few')
            (λ new. spares new.0 c new.1 new.2 new.3 new.4 p from.0 i from.1 (sym from.2.index ∙ e) below few')
            (named_by o l c named);
      }

  -- draw: the world goes on, and where an index is drawn it is the next one
  module _ (after : World) (object drawn' : ℕ) (x' : Option Flight) (quiet : flight object ≡ None)
      (active : after.active ≡ world.active) (up : (drawn' ≡ drawn) ⊎ (drawn' ≡ drawn + 1))
      (some_left : drawn' ≤ available → length after.kept + available ≡ sizes.copies + drawn')
      (none_left : available ≤ drawn' → length after.kept ≡ sizes.copies)
      (fresh : (y : Flight) (i : ℕ) → x' ≡ Some y → y.index ≡ Some i → (i ≡ drawn) × (drawn' ≡ drawn + 1)) where
    more : drawn ≤ drawn'
    more = ⊎_elim (λ e. omega (arith, e)) (λ e. omega (arith, e)) up

    was_named : (o l c : ℕ) → IsNamed sizes after lane forward o l c → IsNamed sizes world lane forward o l c
    was_named o l c named = record { within = named.within; active = ap (λ ns. is_among ns (lane l)) (sym active) ∙ named.active; epoch = named.epoch; low = named.low; kept = named.kept }

    pub copies_drawn : CopyPart sizes after lane available drawn' since (at object x' flight) forward free
    copies_drawn = record {
      some_left = some_left;
      none_left = none_left;
      listed = part.listed;
      since_then = let s = part.since_then in omega (arith, s, more);
      named = part.named;
      once = part.once;
      indexes = λ o y i. each_flight (λ o z. z ≡ Some y → y.index ≡ Some i → (since ≤ i) × (i < drawn')) object x' flight
          (λ is e. let f = fresh y i is e in let s = part.since_then in let a = f.0 in let b = f.1 in (omega (arith, a, s), omega (arith, a, b)))
          (λ o other is e. let old = part.indexes o y i is e in let lt = old.1 in (old.0, omega (arith, lt, more))) o;
      differ = λ o p y z i is_y is_z e d. dite (ℕ_discrete o object)
          (λ here. dite (ℕ_discrete p object)
          (λ there. here ∙ sym there)
          (λ other.
          let new = (fresh y i (sym (at_here object x' flight) ∙ ap (at object x' flight) (sym here) ∙ is_y) e).0 in
          let old = (part.indexes p z i (sym (at_else object x' flight p other) ∙ is_z) d).1 in
          absurd (omega (arith, new, old))))
          (λ other. dite (ℕ_discrete p object)
          (λ there.
          let new = (fresh z i (sym (at_here object x' flight) ∙ ap (at object x' flight) (sym there) ∙ is_z) d).0 in
          let old = (part.indexes o y i (sym (at_else object x' flight o other) ∙ is_y) e).1 in
          absurd (omega (arith, new, old)))
          (λ apart. part.differ o p y z i (sym (at_else object x' flight o other) ∙ is_y) (sym (at_else object x' flight p apart) ∙ is_z) e d));
      spares_free = λ o l c named i from lt. part.spares_free o l c (was_named o l c named) i (omega (arith, from, more)) lt;
      spares_built = λ o l c named p y i. each_flight (λ p z. z ≡ Some y → y.index ≡ Some i → i < available → y.built ≤ MOST_FIELDS → free i ≢ c) object x' flight
          (λ is e lt few. let f = (fresh y i is e).0 in part.spares_free o l c (was_named o l c named) i (omega (arith, f)) lt)
          (λ p other is e lt few. part.spares_built o l c (was_named o l c named) p y i is e lt few) p;
    }

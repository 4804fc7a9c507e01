-- What a holder's step on its object makes of the part on lanes.
use Rattle.std.proofs.Common.{◌≡◌, ◌≢◌, ℕ, zero, suc, ◌+◌, ◌^◌, ◌<◌, ◌≤◌, ◌⊎◌, true, false, []}
use Rattle.std.proofs.Common.{Option, Some, None, sym, refl, ap, subst, ◌∙◌, arith, ⊎_elim, inl, inr}
use Rattle.std.specs.Prelude.{IsSome}
use mathlib.Core.Logic.{dite}
use native.Mathlib.Decide.{ℕ_discrete}
use Rattle.st_layout.specs.declared.limits.TheConstants.{MOST_FIELDS}
use Rattle.st_layout.specs.Packed.{packed, high_half, low_half}
use Rattle.st_events.specs.declared.limits.Sizes.{Sizes}
use Rattle.st_events.specs.Heap.{Heap}
use Rattle.st_events.specs.World.{World, Launched, at, is_among, is_lost, without}
use Rattle.st_events.proofs.AmongLemmas.{among_without, without_is_among}
use Rattle.st_rule.specs.declared.forwards.TheConstants.{LOST}
use Rattle.st_rule.specs.declared.views.Flight.{Flight}
use Rattle.st_rule.specs.Holding.{word_or_zero}
use Rattle.st_rule.specs.Versions.{IsAwaiting, IsCopyOf, IsForwarded, LaneAt, IsOwed, LanePart, IsNamed, version_word}
use Rattle.st_rule.proofs.HoldLemmas.{at_field, field_here, field_other, field_elsewhere}
use Rattle.st_rule.proofs.ViewLemmas.{at_here, at_else}

-- what holds of the flight at one object, and of each other's, holds of each
pub each_flight :
    (P : ℕ → Option Flight → Type 0) (object : ℕ) (x : Option Flight) (flight : ℕ → Option Flight)
    → P object x → ((o : ℕ) → o ≢ object → P o (flight o)) → (o : ℕ) → P o (at object x flight o)
each_flight P object x flight here others o = dite (ℕ_discrete o object)
    (λ same. subst (λ k. P k (at object x flight k)) (sym same) (subst (P object) (sym (at_here object x flight)) here))
    (λ other. subst (P o) (sym (at_else object x flight o other)) (others o other))

-- what is in flight is one thing
pub one_flight : (x y : Flight) → Some x ≡ Some y → x ≡ y
one_flight x y e = cc

-- where nothing is in flight, nothing is
pub no_flight : (y : Flight) → None ≡ Some y → ⊥
no_flight y e = absurd cc

-- nothing is in the empty list
pub none_among : (l : ℕ) → is_among [] l ≡ true → ⊥
none_among l e = absurd cc

module _ (sizes : Sizes) (world : World) (lane : ℕ → ℕ) (available : ℕ) (flight : ℕ → Option Flight) (field forward copy : ℕ → ℕ → ℕ) (free : ℕ → ℕ)
    (part : LanePart sizes world lane available flight field forward copy free) (object : ℕ) where
  -- a lane at an object, by what is in flight there
  abbrev LanesAtObject : (ℕ → ℕ → ℕ) → (ℕ → ℕ → ℕ) → (ℕ → ℕ → ℕ) → ℕ → Option Flight → Type 0
  LanesAtObject field' forward' copy' o x =
      (l : ℕ) (launch : Launched) → l < sizes.lanes
      → is_among world.active (lane l) ≡ true
      → world.launched (lane l) ≡ Some launch
      → IsSome (launch.past o)
      → LaneAt sizes world x (field' o) (forward' o l) copy' o l (lane l) launch.past

  -- the same flight, written out
  pub lanes_same : (flight' : ℕ → Option Flight) → ((o : ℕ) → flight' o ≡ flight o) → LanePart sizes world lane available flight' field forward copy free
  lanes_same flight' same = subst (λ (x : ℕ → Option Flight). LanePart sizes world lane available x field forward copy free) (λ i o. sym (same o) i) part

  -- unlock, and the store of the word of what is in flight: no lane is owed anything at the object, where each field is as before or each active check
  -- was launched before the change
  module _ (x' : Option Flight) (field' : ℕ → ℕ → ℕ) (fields_else : (o f : ℕ) → o ≢ object → field' o f ≡ field o f)
      (settled : (l : ℕ) → IsAwaiting (flight object) l → ⊥)
      (over : (y : Flight) → x' ≡ Some y → (y.written ≡ true) × (y.awaiting ≡ []))
      (shows : ((f : ℕ) → field' object f ≡ field object f) ⊎ ((n : ℕ) → is_among world.active n ≡ true → n ≤ world.stamp object)) where
    lanes_here : LanesAtObject field' forward copy object x'
    lanes_here l launch within active launched stood = let old = part.lanes l object launch within active launched stood in record {
      live = λ apart f. ⊎_elim
          (λ same. same f ∙ old.live apart f)
          (λ later. absurd (settled l (old.unchanged apart (later (lane l) active))))
          shows;
      unchanged = λ apart later. absurd (settled l (old.unchanged apart later));
      forwarded = old.forwarded;
    }

    lanes_there : (o : ℕ) → o ≢ object → LanesAtObject field' forward copy o (flight o)
    lanes_there o other l launch within active launched stood = let old = part.lanes l o launch within active launched stood in record {
      live = λ apart f. fields_else o f other ∙ old.live apart f;
      unchanged = old.unchanged;
      forwarded = old.forwarded;
    }

    version_else : (o k : ℕ) → o ≢ object → version_word field o k ≡ version_word field' o k
    version_else o zero other = refl
    version_else o (suc f) other = sym (fields_else o f other)

    pub lanes_settled : LanePart sizes world lane available (at object x' flight) field' forward copy free
    lanes_settled = record {
      lanes = λ l o. each_flight (λ o x. (launch : Launched) → l < sizes.lanes → is_among world.active (lane l) ≡ true → world.launched (lane l) ≡ Some launch
          → IsSome (launch.past o) → LaneAt sizes world x (field' o) (forward o l) copy o l (lane l) launch.past)
          object x' flight (lanes_here l) (λ o other. lanes_there o other l) o;
      epochs = part.epochs;
      owed = λ o l. each_flight (λ o x. (y : Flight) → x ≡ Some y → is_among y.awaiting l ≡ true → IsOwed sizes world lane available (forward o l) y o l)
          object x' flight
          (λ y is among. absurd (none_among l (ap (λ ns. is_among ns l) (sym (over y is).1) ∙ among)))
          (λ o other. part.owed o l) o;
      built = each_flight (λ o x. (y : Flight) → x ≡ Some y → y.written ≡ false → (index : ℕ) → y.index ≡ Some index → index < available
          → (k : ℕ) → k < y.built → copy (free index) k ≡ version_word field' o k)
          object x' flight
          (λ y is unwritten index drawn below k few. absurd (let e : true ≡ false = sym (over y is).0 ∙ unwritten in cc e))
          (λ o other y is unwritten index drawn below k few. part.built o y is unwritten index drawn below k few ∙ version_else o k other);
    }

  -- the holder has this in flight
  module _ (x : Flight) (flies : flight object ≡ Some x) where
    is_it : (y : Flight) → flight object ≡ Some y → x ≡ y
    is_it y e = one_flight x y (sym flies ∙ e)

    -- copy store: the next word of a copy that no active check is told of, and that nobody else builds
    module _ (index : ℕ) (drawn : x.index ≡ Some index) (value : ℕ) (is_word : value ≡ version_word field object x.built)
        (unnamed : (o l c : ℕ) → IsNamed sizes world lane forward o l c → free index ≢ c)
        (alone : (o : ℕ) (y : Flight) (j : ℕ) → o ≢ object → flight o ≡ Some y → y.index ≡ Some j → j < available → free j ≢ free index)
        (fits : (c : ℕ) → c < sizes.copies → suc c ≢ LOST) where
      abbrev copy' : ℕ → ℕ → ℕ
      copy' = at_field (free index) x.built value copy

      abbrev x' : Flight
      x' = record x { built = x.built + 1 }

      same_copy : (past : Heap) (o c : ℕ) → free index ≢ c → IsCopyOf (copy c) o past → IsCopyOf (copy' c) o past
      same_copy past o c other old = record {
        number = field_elsewhere (free index) x.built value copy c 0 (λ e. other (sym e)) ∙ old.number;
        fields = λ f few. field_elsewhere (free index) x.built value copy c (suc f) (λ e. other (sym e)) ∙ old.fields f few;
      }

      forwarded_still :
          (o l : ℕ) (past : Heap) → l < sizes.lanes → is_among world.active (lane l) ≡ true → high_half (forward o l) ≡ lane l
          → IsForwarded sizes world (low_half (forward o l)) o (lane l) past copy → IsForwarded sizes world (low_half (forward o l)) o (lane l) past copy'
      forwarded_still o l past within active epoch old = ⊎_elim
          (λ kept. inl (
            kept.0,
            kept.1,
            kept.2,
            same_copy past o kept.0
                (unnamed o l kept.0 (record { within = within; active = active; epoch = epoch; low = kept.1; kept = λ lost. fits kept.0 kept.2 (sym kept.1 ∙ lost) })) kept.3,
          ))
          (λ lost. inr lost)
          old

      lanes_with : (o : ℕ) (z z' : Option Flight) → ((l : ℕ) → IsAwaiting z l → IsAwaiting z' l) → LanesAtObject field forward copy o z → LanesAtObject field forward copy' o z'
      lanes_with o z z' await old l launch within active launched stood = let was = old l launch within active launched stood in record {
        live = was.live;
        unchanged = λ apart later. await l (was.unchanged apart later);
        forwarded = λ epoch. forwarded_still o l launch.past within active epoch (was.forwarded epoch);
      }

      still_awaits : (l : ℕ) → IsAwaiting (flight object) l → IsAwaiting (Some (record x { built = x.built + 1 })) l
      still_awaits l a = record { one = x'; flies = refl; awaits = ap (λ (y : Flight). is_among y.awaiting l) (is_it a.one a.flies) ∙ a.awaits }

      built_here : (k : ℕ) → k < x.built + 1 → (k < x.built → copy (free index) k ≡ version_word field object k) → copy' (free index) k ≡ version_word field object k
      built_here k few old = dite (ℕ_discrete k x.built)
          (λ same. ap (copy' (free index)) same ∙ field_here (free index) x.built value copy ∙ is_word ∙ ap (version_word field object) (sym same))
          (λ other. field_other (free index) x.built value copy (free index) k other ∙ old (below k x.built few other))
        where
          below : (a b : ℕ) → a < b + 1 → a ≢ b → a < b
          below a b lt ne = grind arith

      pub lanes_built : LanePart sizes world lane available (at object (Some (record x { built = x.built + 1 })) flight) field forward (at_field (free index) x.built value copy) free
      lanes_built = record {
        lanes = λ l o. each_flight (λ o z. (launch : Launched) → l < sizes.lanes → is_among world.active (lane l) ≡ true → world.launched (lane l) ≡ Some launch
            → IsSome (launch.past o) → LaneAt sizes world z (field o) (forward o l) copy' o l (lane l) launch.past)
            object (Some x') flight
            (lanes_with object (flight object) (Some x') still_awaits (λ l. part.lanes l object) l)
            (λ o other. lanes_with o (flight o) (flight o) (λ l a. a) (λ l. part.lanes l o) l) o;
        epochs = part.epochs;
        owed = λ o l. each_flight (λ o z. (y : Flight) → z ≡ Some y → is_among y.awaiting l ≡ true → IsOwed sizes world lane available (forward o l) y o l)
            object (Some x') flight
            (λ y is among. let s : x' ≡ y = one_flight x' y is in
            let old = part.owed object l x flies (ap (λ (z : Flight). is_among z.awaiting l) s ∙ among) in
            record {
              within = old.within;
              active = old.active;
              apart = old.apart;
              unwritten = ap (λ (z : Flight). z.written) (sym s) ∙ old.unwritten;
              lost = λ i e full. old.lost i (ap (λ (z : Flight). z.index) s ∙ e) full;
            })
            (λ o other. part.owed o l) o;
        built = each_flight (λ o z. (y : Flight) → z ≡ Some y → y.written ≡ false → (i : ℕ) → y.index ≡ Some i → i < available
            → (k : ℕ) → k < y.built → copy' (free i) k ≡ version_word field o k)
            object (Some x') flight
            (λ y is unwritten i e below k few. let s : x' ≡ y = one_flight x' y is in
            let same : index ≡ i = one_index (sym drawn ∙ ap (λ (z : Flight). z.index) s ∙ e) in
            subst (λ j. copy' (free j) k ≡ version_word field object k) same
            (built_here k (subst (λ (z : Flight). k < z.built) (sym s) few)
            (λ old. part.built object x flies (ap (λ (z : Flight). z.written) s ∙ unwritten) index drawn (subst (λ j. j < available) (sym same) below) k old)))
            (λ o other y is unwritten i e below k few.
            field_elsewhere (free index) x.built value copy (free i) k (alone o y i other is e below) ∙ part.built o y is unwritten i e below k few);
      }
        where
          one_index : {a b : ℕ} → Some a ≡ Some b → a ≡ b
          one_index e = cc

    -- forward store: an owed lane gets the word of its check, which names the complete copy of what the fields still are, or says that the version is lost
    module _ (lane0 : ℕ) (awaits : is_among x.awaiting lane0 ≡ true) (low : ℕ) (small : low < 2 ^ 32)
        (current : (n : ℕ) → is_among world.active n ≡ true → n ≤ world.stamp object)
        (high_is : high_half (packed (lane lane0) low) ≡ lane lane0) (low_is : low_half (packed (lane lane0) low) ≡ low)
        (target :
        ((c : ℕ) × (low ≡ suc c) × (c < sizes.copies) × ((k : ℕ) → k ≤ MOST_FIELDS → copy c k ≡ version_word field object k))
        ⊎ ((low ≡ LOST) × (is_lost world.lost object (lane lane0) ≡ true))) where
      abbrev word : ℕ
      word = packed (lane lane0) low

      abbrev forward' : ℕ → ℕ → ℕ
      forward' = at_field object lane0 word forward

      abbrev y' : Flight
      y' = record x { awaiting = without lane0 x.awaiting }

      owed_now : IsOwed sizes world lane available (forward object lane0) x object lane0
      owed_now = part.owed object lane0 x flies awaits

      word_here : forward' object lane0 ≡ word
      word_here = field_here object lane0 word forward

      copied : (past : Heap) → ((f : ℕ) → field object f ≡ word_or_zero past object f) → IsForwarded sizes world low object (lane lane0) past copy
      copied past fields = ⊎_elim
          (λ kept. inl (kept.0, kept.1, kept.2, record { number = kept.3 0 (omega arith); fields = λ f few. kept.3 (suc f) few ∙ fields f }))
          (λ lost. inr lost)
          target

      lane_here : (launch : Launched) → lane0 < sizes.lanes → is_among world.active (lane lane0) ≡ true → world.launched (lane lane0) ≡ Some launch
          → IsSome (launch.past object) → LaneAt sizes world (Some y') (field object) (forward' object lane0) copy object lane0 (lane lane0) launch.past
      lane_here launch within active launched stood = let old = part.lanes lane0 object launch within active launched stood in
          let high : high_half (forward' object lane0) ≡ lane lane0 = ap high_half word_here ∙ high_is in
          record {
            live = λ apart. absurd (apart high);
            unchanged = λ apart. absurd (apart high);
            forwarded = λ epoch. subst (λ k. IsForwarded sizes world k object (lane lane0) launch.past copy) (sym (ap low_half word_here ∙ low_is)) (copied launch.past (old.live owed_now.apart));
          }

      lanes_other : (l : ℕ) → l ≢ lane0 → (launch : Launched) → l < sizes.lanes → is_among world.active (lane l) ≡ true → world.launched (lane l) ≡ Some launch
          → IsSome (launch.past object) → LaneAt sizes world (Some y') (field object) (forward' object l) copy object l (lane l) launch.past
      lanes_other l other launch within active launched stood = let old = part.lanes l object launch within active launched stood in
          let same = field_other object lane0 word forward object l other in
          subst (λ w. LaneAt sizes world (Some y') (field object) w copy object l (lane l) launch.past) (sym same)
          (record {
            live = old.live;
            unchanged = λ apart later. let a = old.unchanged apart later in record {
              one = y';
              flies = refl;
              awaits = without_is_among lane0 x.awaiting l (ap (λ (z : Flight). is_among z.awaiting l) (is_it a.one a.flies) ∙ a.awaits) other;
            };
            forwarded = old.forwarded;
          })

      lanes_elsewhere : (o : ℕ) → o ≢ object → LanesAtObject field forward' copy o (flight o)
      lanes_elsewhere o other l launch within active launched stood =
          subst (λ w. LaneAt sizes world (flight o) (field o) w copy o l (lane l) launch.past) (sym (field_elsewhere object lane0 word forward o l other))
          (part.lanes l o launch within active launched stood)

      epochs_after : (o l : ℕ) → high_half (forward' o l) ≤ world.stamp o
      epochs_after o l = dite (ℕ_discrete o object)
          (λ here. dite (ℕ_discrete l lane0)
          (λ same. subst (λ (p : ℕ × ℕ). high_half (forward' p.0 p.1) ≤ world.stamp p.0) (λ i. (sym here i, sym same i))
          (subst (λ k. k ≤ world.stamp object) (sym (ap high_half word_here ∙ high_is)) (current (lane lane0) owed_now.active)))
          (λ other. subst (λ k. high_half k ≤ world.stamp o) (sym (field_other object lane0 word forward o l other)) (part.epochs o l)))
          (λ other. subst (λ k. high_half k ≤ world.stamp o) (sym (field_elsewhere object lane0 word forward o l other)) (part.epochs o l))

      pub lanes_forwarded : LanePart sizes world lane available (at object (Some (record x { awaiting = without lane0 x.awaiting })) flight) field
          (at_field object lane0 (packed (lane lane0) low) forward) copy free
      lanes_forwarded = record {
        lanes = λ l o. each_flight (λ o z. (launch : Launched) → l < sizes.lanes → is_among world.active (lane l) ≡ true → world.launched (lane l) ≡ Some launch
            → IsSome (launch.past o) → LaneAt sizes world z (field o) (forward' o l) copy o l (lane l) launch.past)
            object (Some y') flight
            (dite (ℕ_discrete l lane0)
            (λ same. subst (λ k. (launch : Launched) → k < sizes.lanes → is_among world.active (lane k) ≡ true → world.launched (lane k) ≡ Some launch
            → IsSome (launch.past object) → LaneAt sizes world (Some y') (field object) (forward' object k) copy object k (lane k) launch.past) (sym same) lane_here)
            (λ other. lanes_other l other))
            (λ o other. lanes_elsewhere o other l) o;
        epochs = epochs_after;
        owed = λ o l. each_flight (λ o z. (y : Flight) → z ≡ Some y → is_among y.awaiting l ≡ true → IsOwed sizes world lane available (forward' o l) y o l)
            object (Some y') flight
            (λ y is among. let s : y' ≡ y = one_flight y' y is in
            let left = among_without lane0 x.awaiting l (ap (λ (z : Flight). is_among z.awaiting l) s ∙ among) in
            let old = part.owed object l x flies left.0 in
            record {
              within = old.within;
              active = old.active;
              apart = subst (λ w. high_half w ≢ lane l) (sym (field_other object lane0 word forward object l left.1)) old.apart;
              unwritten = ap (λ (z : Flight). z.written) (sym s) ∙ old.unwritten;
              lost = λ i e full. old.lost i (ap (λ (z : Flight). z.index) s ∙ e) full;
            })
            (λ o other y is among. subst (λ w. IsOwed sizes world lane available w y o l) (sym (field_elsewhere object lane0 word forward o l other)) (part.owed o l y is among)) o;
        built = each_flight (λ o z. (y : Flight) → z ≡ Some y → y.written ≡ false → (i : ℕ) → y.index ≡ Some i → i < available
            → (k : ℕ) → k < y.built → copy (free i) k ≡ version_word field o k)
            object (Some y') flight
            (λ y is unwritten i e below k few. let s : y' ≡ y = one_flight y' y is in
            part.built object x flies (ap (λ (z : Flight). z.written) s ∙ unwritten) i (ap (λ (z : Flight). z.index) s ∙ e) below k (subst (λ (z : Flight). k < z.built) (sym s) few))
            (λ o other. part.built o);
      }

-- what an event more makes of the part: the active checks and their launches stay, the stamps rise, what is lost stays lost
pub record GoesOn (before after : World) (object : ℕ) : Type 0 where
  pub active : after.active ≡ before.active
  pub launched : after.launched ≡ before.launched
  pub rises : before.stamp object ≤ after.stamp object
  pub stamp_else : (o : ℕ) → o ≢ object → after.stamp o ≡ before.stamp o
  pub lost : (o n : ℕ) → is_lost before.lost o n ≡ true → is_lost after.lost o n ≡ true

module _ (sizes : Sizes) (before after : World) (lane : ℕ → ℕ) (available : ℕ) (flight : ℕ → Option Flight) (field forward copy : ℕ → ℕ → ℕ) (free : ℕ → ℕ)
    (part : LanePart sizes before lane available flight field forward copy free) (object : ℕ) (goes : GoesOn before after object) (quiet : flight object ≡ None) (x' : Option Flight)
    (awaits :
    (l : ℕ) (launch : Launched) → l < sizes.lanes → is_among before.active (lane l) ≡ true → before.launched (lane l) ≡ Some launch → IsSome (launch.past object)
    → before.stamp object < lane l → lane l ≤ after.stamp object → IsAwaiting x' l)
    (owes : (y : Flight) (l : ℕ) → x' ≡ Some y → is_among y.awaiting l ≡ true → IsOwed sizes after lane available (forward object l) y object l)
    (fresh : (y : Flight) → x' ≡ Some y → y.built ≡ 0) where
  forwarded_on : (low o n : ℕ) (past : Heap) → IsForwarded sizes before low o n past copy → IsForwarded sizes after low o n past copy
  forwarded_on low o n past old = ⊎_elim (λ kept. inl kept) (λ lost. inr (lost.0, goes.lost o n lost.1)) old

  was_active : (n : ℕ) → is_among after.active n ≡ true → is_among before.active n ≡ true
  was_active n active = ap (λ ns. is_among ns n) (sym goes.active) ∙ active

  was_launched : (n : ℕ) (launch : Launched) → after.launched n ≡ Some launch → before.launched n ≡ Some launch
  was_launched n launch launched = ap (λ (f : ℕ → Option Launched). f n) (sym goes.launched) ∙ launched

  nothing : (l : ℕ) → IsAwaiting (flight object) l → ⊥
  nothing l a = no_flight a.one (sym quiet ∙ a.flies)

  drawn_here : (l : ℕ) (launch : Launched) → l < sizes.lanes → is_among after.active (lane l) ≡ true → after.launched (lane l) ≡ Some launch → IsSome (launch.past object)
      → LaneAt sizes after x' (field object) (forward object l) copy object l (lane l) launch.past
  drawn_here l launch within active launched stood =
      let old = part.lanes l object launch within (was_active (lane l) active) (was_launched (lane l) launch launched) stood in
      record {
        live = old.live;
        unchanged = λ apart later. ⊎_elim
            (λ early. absurd (nothing l (old.unchanged apart early)))
            (λ needs. awaits l launch within (was_active (lane l) active) (was_launched (lane l) launch launched) stood needs later)
            (le_or_lt (lane l) (before.stamp object));
        forwarded = λ epoch. forwarded_on (low_half (forward object l)) object (lane l) launch.past (old.forwarded epoch);
      }
    where
      le_or_lt : (a b : ℕ) → (a ≤ b) ⊎ (b < a)
      le_or_lt a b = grind arith

  drawn_there : (o : ℕ) → o ≢ object → (l : ℕ) (launch : Launched) → l < sizes.lanes → is_among after.active (lane l) ≡ true → after.launched (lane l) ≡ Some launch
      → IsSome (launch.past o) → LaneAt sizes after (flight o) (field o) (forward o l) copy o l (lane l) launch.past
  drawn_there o other l launch within active launched stood =
      let old = part.lanes l o launch within (was_active (lane l) active) (was_launched (lane l) launch launched) stood in
      record {
        live = old.live;
        unchanged = λ apart later. old.unchanged apart (subst (λ k. lane l ≤ k) (goes.stamp_else o other) later);
        forwarded = λ epoch. forwarded_on (low_half (forward o l)) o (lane l) launch.past (old.forwarded epoch);
      }

  no_fewer : (a b k : ℕ) → b ≡ 0 → k < b → ⊥
  no_fewer a b k e lt = absurd (omega (arith, e, lt))

  pub lanes_drawn : LanePart sizes after lane available (at object x' flight) field forward copy free
  lanes_drawn = record {
    lanes = λ l o. each_flight (λ o z. (launch : Launched) → l < sizes.lanes → is_among after.active (lane l) ≡ true → after.launched (lane l) ≡ Some launch
        → IsSome (launch.past o) → LaneAt sizes after z (field o) (forward o l) copy o l (lane l) launch.past)
        object x' flight (drawn_here l) (λ o other. drawn_there o other l) o;
    epochs = λ o l. dite (ℕ_discrete o object)
        (λ here. let old = part.epochs o l in
        let up : before.stamp o ≤ after.stamp o = subst (λ k. before.stamp k ≤ after.stamp k) (sym here) goes.rises in omega (arith, old, up))
        (λ other. subst (λ k. high_half (forward o l) ≤ k) (sym (goes.stamp_else o other)) (part.epochs o l));
    owed = λ o l. each_flight (λ o z. (y : Flight) → z ≡ Some y → is_among y.awaiting l ≡ true → IsOwed sizes after lane available (forward o l) y o l)
        object x' flight (λ y is among. owes y l is among)
        (λ o other y is among. let old = part.owed o l y is among in record {
          within = old.within;
          active = ap (λ ns. is_among ns (lane l)) goes.active ∙ old.active;
          apart = old.apart;
          unwritten = old.unwritten;
          lost = λ i e full. goes.lost o (lane l) (old.lost i e full);
        }) o;
    built = each_flight (λ o z. (y : Flight) → z ≡ Some y → y.written ≡ false → (i : ℕ) → y.index ≡ Some i → i < available
        → (k : ℕ) → k < y.built → copy (free i) k ≡ version_word field o k)
        object x' flight
        (λ y is unwritten i e below k few. absurd (no_fewer k y.built k (fresh y is) few))
        (λ o other. part.built o);
  }

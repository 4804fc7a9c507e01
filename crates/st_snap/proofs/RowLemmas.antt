-- The versions in the pool are the copies kept
use Rattle.std.proofs.Common.{◌≡◌, ℕ, zero, suc, ◌+◌, ◌<◌, ◌≤◌, ◌==◌, cond, not, Bool, true, false, List, [], ◌∷◌, ◌++◌, length, map}
use Rattle.std.proofs.Common.{Option, refl, sym, ◌∙◌, ap, arith, filter, nat_lt, append-nil, get_or}
use Rattle.std.specs.List.{list_any, All, Contains}
use Rattle.std.proofs.lemmas.List.Elements.{filter-append, filter_passes, All-head, All-tail, All-push, All-weaker, All-filter, All-contains}
use Rattle.std.proofs.lemmas.List.Kept.{AllPairs-filter}
use Rattle.std.proofs.lemmas.List.Quantifiers.{all_pairs_push}
use Rattle.std.proofs.lemmas.Bool.Decides.{nat_tests}
use Rattle.st_snap.specs.Terms.{Sizes, World, is_among, without, needing_in}
use Rattle.st_events.specs.World.{is_full, released, row_if_needed}
use Rattle.st_events.proofs.AmongLemmas.{among_front, without_is_among}
use Rattle.st_snap.specs.Lanes.{is_launched_within, is_between}
use Rattle.st_snap.specs.Pool.{KeptVersion, is_read}
use Rattle.st_snap.specs.Represents.{row_of, AreNeeded}
use Rattle.st_snap.proofs.AnyLemmas.{same_tests_pass_same, none_passes, needed_row_stands, filters_swap, any_among, among_any}

-- a number that is above is not within
pub above_is_not_within : (after upto n : ℕ) → upto < n → is_launched_within after upto n ≡ false
above_is_not_within after upto n h = grind (arith, nat_tests)

-- a number that is above the first epoch, and not above the second, is within
pub between_is_within : (after upto n : ℕ) → after < n → n ≤ upto → is_launched_within after upto n ≡ true
between_is_within after upto n h k = grind (arith, nat_tests)

-- the test of what needs a copy, where no check is above the epoch
pub needing_is_within : (stamp epoch n : ℕ) → n ≤ epoch → nat_lt stamp n ≡ is_launched_within stamp epoch n
needing_is_within stamp epoch n h = grind (arith, nat_tests)

-- a check that is launched is in no row
launch_keeps_row : (active : List ℕ) (n : ℕ) (kept : KeptVersion) → kept.version.upto < n → row_of (active ++ n ∷ []) kept ≡ row_of active kept
launch_keeps_row active n kept h =
    ap (λ (ns : List ℕ). record { obj = kept.version.obj; checks = ns })
    (filter-append (is_launched_within kept.version.after kept.version.upto) active (n ∷ []) ∙ rw (above_is_not_within kept.version.after kept.version.upto n h, append-nil) refl)

-- so a launch leaves all rows as they are
pub launch_keeps_rows :
    (active : List ℕ) (n : ℕ) (versions : List KeptVersion)
    → All (λ kept. kept.version.upto < n) versions
    → map (row_of (active ++ n ∷ [])) versions ≡ map (row_of active) versions
launch_keeps_rows active n [] h = refl
launch_keeps_rows active n (v ∷ vs) h =
    rw (
      launch_keeps_row active n v (All-head (λ (kept : KeptVersion). kept.version.upto < n) v vs h),
      launch_keeps_rows active n vs (All-tail (λ (kept : KeptVersion). kept.version.upto < n) v vs h),
    ) refl

-- a check leaves the rows
pub retire_leaves_rows :
    (n : ℕ) (active : List ℕ) (lanes : List (Option ℕ))
    → ((a u : ℕ) → list_any (is_between a u) lanes ≡ list_any (is_launched_within a u) (without n active))
    → (versions : List KeptVersion)
    → map (row_of (without n active)) (filter (is_read lanes) versions) ≡ released n (map (row_of active) versions)
retire_leaves_rows n active lanes same [] = refl
retire_leaves_rows n active lanes same (v ∷ vs) = cases (list_any (is_launched_within v.version.after v.version.upto) (without n active)) refl (retire_leaves_rows n active lanes same vs)
  where
    one : without n (filter (is_launched_within v.version.after v.version.upto) active) ≡ filter (is_launched_within v.version.after v.version.upto) (without n active)
    one = filters_swap (λ k. not (k == n)) (is_launched_within v.version.after v.version.upto) active

    cases :
        (b : Bool)
        → list_any (is_launched_within v.version.after v.version.upto) (without n active) ≡ b
        → map (row_of (without n active)) (filter (is_read lanes) vs) ≡ released n (map (row_of active) vs)
        → map (row_of (without n active)) (cond (is_read lanes v) (v ∷ filter (is_read lanes) vs) (filter (is_read lanes) vs))
        ≡ row_if_needed v.version.obj (without n (filter (is_launched_within v.version.after v.version.upto) active)) ++ released n (map (row_of active) vs)
    cases true e r = rw (same v.version.after v.version.upto, e, one, needed_row_stands v.version.obj (is_launched_within v.version.after v.version.upto) (without n active) e, r) refl
    cases false e r = rw (same v.version.after v.version.upto, e, one, none_passes (is_launched_within v.version.after v.version.upto) (without n active) e, r) refl

-- those that need a copy
pub needing_are_within :
    (w : World) (obj : ℕ)
    → ((n : ℕ) → is_among w.active n ≡ true → n ≤ w.epoch)
    → needing_in w obj ≡ filter (is_launched_within (w.stamp obj) w.epoch) w.active
needing_are_within w obj h = same_tests_pass_same (nat_lt (w.stamp obj)) (is_launched_within (w.stamp obj) w.epoch) w.active (λ n a. needing_is_within (w.stamp obj) w.epoch n (h n a))

-- whether the pool is full
pub not_full_where_less_kept : (sizes : Sizes) (w : World) → length w.kept < sizes.copies → is_full sizes w ≡ false
not_full_where_less_kept sizes w h = ap not (order_is_tested (length w.kept) sizes.copies h)
  where
    order_is_tested : (a b : ℕ) → a < b → nat_lt a b ≡ true
    order_is_tested a b h = grind (arith, nat_tests)

-- a pool that keeps as many rows as there are copies is full
pub full_where_all_kept : (sizes : Sizes) (w : World) → sizes.copies ≤ length w.kept → is_full sizes w ≡ true
full_where_all_kept sizes w h = ap not (order_is_tested (length w.kept) sizes.copies h)
  where
    order_is_tested : (a b : ℕ) → b ≤ a → nat_lt a b ≡ false
    order_is_tested a b h = grind (arith, nat_tests)

-- what stays where only some versions stay
pub contained_if_passing : {X : Type 0} (p : X → Bool) (xs : List X) (x : X) → Contains xs x → p x ≡ true → Contains (filter p xs) x
contained_if_passing p [] x c t = absurd (omega (arith, c.1))
contained_if_passing p (y ∷ ys) x c t = cases (p y) refl c.0 c.1 c.2 (λ d. contained_if_passing p ys x d t)
  where
    cases :
        (b : Bool)
        → p y ≡ b
        → (k : ℕ)
        → k < length (y ∷ ys)
        → get_or (y ∷ ys) k x ≡ x
        → (Contains ys x → Contains (filter p ys) x)
        → Contains (cond b (y ∷ filter p ys) (filter p ys)) x
    cases true e zero lt s rest = (0, omega arith, s)
    cases true e (suc k) lt s rest = let r = rest (k, omega arith, s) in (suc r.0, omega (arith, r.1), r.2)
    cases false e zero lt s rest = let f : false ≡ true = sym e ∙ ap p s ∙ t in cc
    cases false e (suc k) lt s rest = rest (k, omega arith, s)

-- ---- versions that active checks need

within_upto : (after upto n : ℕ) → is_launched_within after upto n ≡ true → n ≤ upto
within_upto after upto n h = grind (arith, nat_tests)

-- whether some active check needs the version
abbrev needed_by : List ℕ → KeptVersion → Bool
needed_by active kept = list_any (is_launched_within kept.version.after kept.version.upto) active

-- none is kept
pub needed_none : (epoch : ℕ) (active : List ℕ) → AreNeeded epoch active []
needed_none epoch active = record { upto = λ k d lt. absurd (omega arith); order = λ i j d less lt. absurd (omega arith); some = λ k d lt. absurd (omega arith) }

-- one more is kept
pub needed_push :
    (epoch : ℕ) (active : List ℕ) (versions : List KeptVersion) (new : KeptVersion)
    → AreNeeded epoch active versions
    → new.version.upto ≡ epoch
    → needed_by active new ≡ true
    → AreNeeded epoch active (versions ++ new ∷ [])
needed_push epoch active versions new r now some = record {
  upto = All-push (λ (kept : KeptVersion). kept.version.upto ≤ epoch) versions new r.upto (omega (arith, now));
  order = all_pairs_push (λ (earlier later : KeptVersion). earlier.version.upto ≤ later.version.upto) versions new r.order (λ k d lt. omega (arith, r.upto k d lt, now));
  some = All-push (λ (kept : KeptVersion). needed_by active kept ≡ true) versions new r.some some;
}

-- a check is launched
pub needed_launch :
    (epoch n : ℕ) (active : List ℕ) (versions : List KeptVersion)
    → AreNeeded epoch active versions
    → AreNeeded (epoch + 1) (active ++ n ∷ []) versions
needed_launch epoch n active versions r = record {
  upto = All-weaker (λ (kept : KeptVersion). kept.version.upto ≤ epoch) (λ (kept : KeptVersion). kept.version.upto ≤ epoch + 1) (λ kept h. omega (arith, h)) versions r.upto;
  order = r.order;
  some = All-weaker (λ (kept : KeptVersion). needed_by active kept ≡ true) (λ (kept : KeptVersion). needed_by (active ++ n ∷ []) kept ≡ true) (λ kept h. still kept h) versions r.some;
}
  where
    still : (kept : KeptVersion) → needed_by active kept ≡ true → needed_by (active ++ n ∷ []) kept ≡ true
    still kept h =
        let f = any_among (is_launched_within kept.version.after kept.version.upto) active h in
        among_any (is_launched_within kept.version.after kept.version.upto) (active ++ n ∷ []) f.0 (among_front active (n ∷ []) f.0 f.1) f.2

-- a check is retired, and only the versions that a lane still reads stay
pub needed_retire :
    (epoch n : ℕ) (active : List ℕ) (lanes : List (Option ℕ)) (versions : List KeptVersion)
    → ((a u : ℕ) → list_any (is_between a u) lanes ≡ list_any (is_launched_within a u) (without n active))
    → AreNeeded epoch active versions
    → AreNeeded epoch (without n active) (filter (is_read lanes) versions)
needed_retire epoch n active lanes versions same r = record {
  upto = All-filter (is_read lanes) (λ (kept : KeptVersion). kept.version.upto ≤ epoch) versions r.upto;
  order = AllPairs-filter (λ (earlier later : KeptVersion). earlier.version.upto ≤ later.version.upto) (is_read lanes) versions r.order;
  some = All-weaker (λ (kept : KeptVersion). is_read lanes kept ≡ true) (λ (kept : KeptVersion). needed_by (without n active) kept ≡ true)
      (λ kept h. sym (same kept.version.after kept.version.upto) ∙ h) (filter (is_read lanes) versions) (filter_passes (is_read lanes) versions);
}

-- a version that was kept before the launch of the retired check is read still
pub earlier_is_read :
    (epoch n : ℕ) (active : List ℕ) (lanes : List (Option ℕ)) (versions : List KeptVersion)
    → ((a u : ℕ) → list_any (is_between a u) lanes ≡ list_any (is_launched_within a u) (without n active))
    → AreNeeded epoch active versions
    → (kept : KeptVersion)
    → Contains versions kept
    → kept.version.upto < n
    → is_read lanes kept ≡ true
earlier_is_read epoch n active lanes versions same r kept among old =
    let a = kept.version.after in
    let u = kept.version.upto in
    let f = any_among (is_launched_within a u) active (All-contains (λ (k : KeptVersion). needed_by active k ≡ true) versions kept r.some among) in
    let other = without_is_among n active f.0 f.1 (λ e. omega (arith, e, old, within_upto a u f.0 f.2)) in
    same a u ∙ among_any (is_launched_within a u) (without n active) f.0 other f.2

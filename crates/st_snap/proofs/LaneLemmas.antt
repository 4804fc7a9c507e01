-- The lanes and the active checks
use Rattle.std.proofs.Common.{◌≡◌, ◌≢◌, ℕ, zero, suc, ◌+◌, ◌<◌, ◌≤◌, ◌==◌, cond, Bool, true, false, inl, inr, List, [], ◌∷◌}
use Rattle.std.proofs.Common.{◌++◌, length, slice_get, slice_set, map, Option, Some, None, refl, sym, ◌∙◌, ap, subst, arith, length-append, get_or}
use Rattle.std.specs.Prelude.{position, max, unwrap_or, replicate}
use Rattle.std.specs.List.{list_any, count_by}
use Rattle.std.proofs.lemmas.List.{length-set}
use Rattle.std.proofs.lemmas.List.Sums.{sum_by-set, sum_by-cons}
use Rattle.std.proofs.lemmas.List.Quantifiers.{position-Some}
use Rattle.std.proofs.lemmas.Option.{slice_get-get_or, slice_get_within, get_or_from_slice_get}
use Rattle.std.proofs.lemmas.Bool.{cases_lt}
use Rattle.std.proofs.lemmas.Bool.Decides.{eqb_tells, nat_tests}
use Rattle.std.proofs.lemmas.Iterator.Adapters.{position_from-zero}
use Rattle.std.specs.List.{position_from}
use Rattle.st_snap.specs.Terms.{Sizes, is_among, without}
use Rattle.st_events.specs.Sound.{IsRising}
use Rattle.st_events.proofs.HeapLemmas.{set_then_get}
use Rattle.st_events.proofs.AmongLemmas.{or_first, same_number, among_one_more, among_front, among_back, among_without, without_is_among}
use Rattle.st_snap.specs.Lanes.{is_idle, is_launched_within, is_between, cleared, newest_of}
use Rattle.st_snap.specs.Represents.{AreLanes}
use Rattle.st_snap.proofs.AnyLemmas.{bool_same, any_found, found_any, among_any, any_among, one_left_out_is_one_less}

-- what stands where an element was set, and elsewhere
pub set_here : {X : Type 0} (xs : List X) (i : ℕ) (x : X) → i < length xs → slice_get (slice_set xs i x) i ≡ Some x
set_here xs i x h = set_then_get xs i x i h ∙ elim (eqb_tells i i) [ inl e ↦ rw e.0 refl | inr e ↦ absurd (e.1 refl) ]

-- what stands at the other places is as before
pub set_elsewhere : {X : Type 0} (xs : List X) (i : ℕ) (x : X) (j : ℕ) → i < length xs → j ≢ i → slice_get (slice_set xs i x) j ≡ slice_get xs j
set_elsewhere xs i x j h ne = set_then_get xs i x j h ∙ elim (eqb_tells j i) [ inl e ↦ absurd (ne e.1) | inr e ↦ rw e.0 refl ]

idle_is_none : (lane : Option ℕ) → is_idle lane ≡ true → lane ≡ None
idle_is_none None e = refl
idle_is_none (Some n) e = cc

-- the first idle lane is idle
pub first_idle_is_idle : (lanes : List (Option ℕ)) (i : ℕ) → position is_idle lanes ≡ Some i → slice_get lanes i ≡ Some None
first_idle_is_idle lanes i e = let p = position-Some is_idle lanes i None e in slice_get-get_or lanes i None p.0 ∙ ap Some (idle_is_none (get_or lanes i None) p.1)

no_position_counts_none : {X : Type 0} (p : X → Bool) (i : ℕ) (xs : List X) → position_from p i xs ≡ None → count_by p xs ≡ 0
no_position_counts_none p i [] e = refl
no_position_counts_none p i (x ∷ xs) e = sum_by-cons (λ y. cond (p y) 1 0) x xs ∙ cases (p x) e (no_position_counts_none p (i + 1) xs)
  where
    cases :
        (b : Bool)
        → cond b (Some i) (position_from p (i + 1) xs) ≡ None
        → (position_from p (i + 1) xs ≡ None → count_by p xs ≡ 0)
        → cond b 1 0 + count_by p xs ≡ 0
    cases true f rest = cc
    cases false f rest = rw (rest f) refl

-- where there is no first idle lane, none is idle
pub none_idle_counts_none : (lanes : List (Option ℕ)) → position is_idle lanes ≡ None → count_by is_idle lanes ≡ 0
none_idle_counts_none lanes e = no_position_counts_none is_idle 0 lanes (sym (position_from-zero is_idle lanes) ∙ e)

-- one more check, and one less
idle_where_set :
    (lanes : List (Option ℕ)) (i : ℕ) (before after : Option ℕ)
    → slice_get lanes i ≡ Some before
    → count_by is_idle (slice_set lanes i after) + cond (is_idle before) 1 0 ≡ count_by is_idle lanes + cond (is_idle after) 1 0
idle_where_set lanes i before after e =
    subst (λ (x : Option ℕ). count_by is_idle (slice_set lanes i after) + cond (is_idle x) 1 0 ≡ count_by is_idle lanes + cond (is_idle after) 1 0)
    (get_or_from_slice_get lanes i before None e) (sum_by-set (λ l. cond (is_idle l) 1 0) lanes i after None (slice_get_within lanes i before e))

-- an idle lane leaves at least one
pub some_lane_is_idle : (lanes : List (Option ℕ)) (i : ℕ) → slice_get lanes i ≡ Some None → 1 ≤ count_by is_idle lanes
some_lane_is_idle lanes i e = omega (arith, idle_where_set lanes i None (Some 0) e)

-- a check is launched at an idle lane
pub lanes_at_launch :
    (sizes : Sizes) (active : List ℕ) (lanes : List (Option ℕ)) (i n : ℕ)
    → AreLanes sizes active lanes
    → slice_get lanes i ≡ Some None
    → ((k : ℕ) → is_among active k ≡ true → k ≢ n)
    → AreLanes sizes (active ++ n ∷ []) (slice_set lanes i (Some n))
lanes_at_launch sizes active lanes i n a e new =
    let here = slice_get_within lanes i None e in
    record {
      room = length-set lanes i (Some n) ∙ a.room;
      idle = omega (arith, a.idle, idle_where_set lanes i None (Some n) e, length-append active (n ∷ []));
      are_active = λ lane k f. elim (eqb_tells lane i) [
        | inl s ↦ among_back active (n ∷ []) k
            (or_first (n == k) false
            (subst (λ (j : ℕ). (j == k) ≡ true) (sym (same n k (sym (set_here lanes i (Some n) here) ∙ ap (slice_get (slice_set lanes i (Some n))) (sym s.1) ∙ f))) (same_number k)))
        | inr s ↦ among_front active (n ∷ []) k (a.are_active lane k (sym (set_elsewhere lanes i (Some n) lane here s.1) ∙ f))
      ];
      have_lanes = λ k h. elim (among_one_more active n k h) [
        | inl old ↦ (let l = a.have_lanes k old in
            (l.0, set_elsewhere lanes i (Some n) l.0 here (λ s. let f : slice_get lanes i ≡ Some (Some k) = ap (slice_get lanes) (sym s) ∙ l.1 in cc) ∙ l.1))
        | inr s ↦ (i, set_here lanes i (Some n) here ∙ ap (λ (j : ℕ). Some (Some j)) (sym s))
      ];
      once = λ lane other k f g. elim (eqb_tells lane i) [
        | inl s ↦ elim (eqb_tells other i) [
          | inl o ↦ s.1 ∙ sym o.1
          | inr o ↦ absurd (new k (a.are_active other k (sym (set_elsewhere lanes i (Some n) other here o.1) ∙ g))
              (sym (same n k (sym (set_here lanes i (Some n) here) ∙ ap (slice_get (slice_set lanes i (Some n))) (sym s.1) ∙ f))))
        ]
        | inr s ↦ elim (eqb_tells other i) [
          | inl o ↦ absurd (new k (a.are_active lane k (sym (set_elsewhere lanes i (Some n) lane here s.1) ∙ f))
              (sym (same n k (sym (set_here lanes i (Some n) here) ∙ ap (slice_get (slice_set lanes i (Some n))) (sym o.1) ∙ g))))
          | inr o ↦ a.once lane other k (sym (set_elsewhere lanes i (Some n) lane here s.1) ∙ f) (sym (set_elsewhere lanes i (Some n) other here o.1) ∙ g)
        ]
      ];
    }
  where
    same : (x y : ℕ) → Some (Some x) ≡ Some (Some y) → x ≡ y
    same x y e = cc

-- a check leaves its lane
pub lanes_at_retire :
    (sizes : Sizes) (active : List ℕ) (lanes : List (Option ℕ)) (i n : ℕ)
    → AreLanes sizes active lanes
    → IsRising active
    → slice_get lanes i ≡ Some (Some n)
    → AreLanes sizes (without n active) (slice_set lanes i None)
lanes_at_retire sizes active lanes i n a rising e =
    let here = slice_get_within lanes i (Some n) e in
    record {
      room = length-set lanes i None ∙ a.room;
      idle = omega (arith, a.idle, idle_where_set lanes i (Some n) None e, one_left_out_is_one_less n active rising (a.are_active i n e));
      are_active = λ lane k f. let o = old here lane k f in without_is_among n active k (a.are_active lane k o.1) (λ s. o.0 (a.once lane i n (o.1 ∙ ap (λ (j : ℕ). Some (Some j)) s) e));
      have_lanes = λ k h. let w = among_without n active k h in let l = a.have_lanes k w.0 in
          (l.0, set_elsewhere lanes i None l.0 here (λ s. w.1 (same k n (sym l.1 ∙ ap (slice_get lanes) s ∙ e))) ∙ l.1);
      once = λ lane other k f g. a.once lane other k (old here lane k f).1 (old here other k g).1;
    }
  where
    same : (x y : ℕ) → Some (Some x) ≡ Some (Some y) → x ≡ y
    same x y e = cc

    old :
        i < length lanes
        → (lane k : ℕ)
        → slice_get (slice_set lanes i None) lane ≡ Some (Some k)
        → (lane ≢ i) × (slice_get lanes lane ≡ Some (Some k))
    old here lane k f = elim (eqb_tells lane i) [
      | inl s ↦ (let g : Some None ≡ Some (Some k) = sym (set_here lanes i None here) ∙ ap (slice_get (slice_set lanes i None)) (sym s.1) ∙ f in cc)
      | inr s ↦ (s.1, sym (set_elsewhere lanes i None lane here s.1) ∙ f)
    ]

-- a check that was launched in between is at a lane exactly where it is active
pub between_is_active :
    (sizes : Sizes) (active : List ℕ) (lanes : List (Option ℕ)) (after upto : ℕ)
    → AreLanes sizes active lanes
    → list_any (is_between after upto) lanes ≡ list_any (is_launched_within after upto) active
between_is_active sizes active lanes after upto a = bool_same (list_any (is_between after upto) lanes) (list_any (is_launched_within after upto) active)
    (λ h. let f = any_found (is_between after upto) lanes h in go f.0 f.1 f.2 f.3)
    (λ h. let f = any_among (is_launched_within after upto) active h in let l = a.have_lanes f.0 f.1 in found_any (is_between after upto) lanes l.0 (Some f.0) l.1 f.2)
  where
    go :
        (k : ℕ) (lane : Option ℕ)
        → slice_get lanes k ≡ Some lane
        → is_between after upto lane ≡ true
        → list_any (is_launched_within after upto) active ≡ true
    go k None f t = cc
    go k (Some n) f t = among_any (is_launched_within after upto) active n (a.are_active k n f) t

-- a lane once a check has left
cleared_where_none : (n : ℕ) (lanes : List (Option ℕ)) → ((j : ℕ) → slice_get lanes j ≡ Some (Some n) → ⊥) → map (cleared n) lanes ≡ lanes
cleared_where_none n [] none = refl
cleared_where_none n (None ∷ lanes) none = ap (λ ls. None ∷ ls) (cleared_where_none n lanes (λ j. none (suc j)))
cleared_where_none n (Some k ∷ lanes) none = elim (eqb_tells k n) [
  | inl s ↦ absurd (none 0 (ap (λ (j : ℕ). Some (Some j)) s.1))
  | inr s ↦ rw (s.0, cleared_where_none n lanes (λ j. none (suc j))) refl
]

-- where one lane alone has the check, it leaves that lane and no other
pub cleared_is_set :
    (n : ℕ) (lanes : List (Option ℕ)) (i : ℕ)
    → slice_get lanes i ≡ Some (Some n)
    → ((j : ℕ) → slice_get lanes j ≡ Some (Some n) → j ≡ i)
    → slice_set lanes i None ≡ map (cleared n) lanes
cleared_is_set n [] i e only = cc
cleared_is_set n (lane ∷ lanes) zero e only = rw (same lane e, cleared_where_none n lanes (λ j f. absurd (omega (arith, only (suc j) f)))) (rw (same_number n) refl)
  where
    same : (l : Option ℕ) → Some l ≡ Some (Some n) → l ≡ Some n
    same l f = cc
cleared_is_set n (None ∷ lanes) (suc i) e only = ap (λ ls. None ∷ ls) (cleared_is_set n lanes i e (λ j f. let s = only (suc j) f in omega arith))
cleared_is_set n (Some k ∷ lanes) (suc i) e only = elim (eqb_tells k n) [
  | inl s ↦ absurd (omega (arith, only 0 (ap (λ (j : ℕ). Some (Some j)) s.1)))
  | inr s ↦ rw s.0 (ap (λ ls. Some k ∷ ls) (cleared_is_set n lanes i e (λ j f. let t = only (suc j) f in omega arith)))
]

-- every lane is active exactly where none is idle
pub all_active_where_none_idle :
    (sizes : Sizes) (active : List ℕ) (lanes : List (Option ℕ))
    → AreLanes sizes active lanes
    → position is_idle lanes ≡ None
    → length active ≡ sizes.lanes
all_active_where_none_idle sizes active lanes a e = omega (arith, a.idle, none_idle_counts_none lanes e)

-- where a lane is idle, fewer checks are active than there are lanes
pub idle_lane_leaves_room :
    (sizes : Sizes) (active : List ℕ) (lanes : List (Option ℕ)) (i : ℕ)
    → AreLanes sizes active lanes
    → position is_idle lanes ≡ Some i
    → length active < sizes.lanes
idle_lane_leaves_room sizes active lanes i a e = omega (arith, a.idle, some_lane_is_idle lanes i (first_idle_is_idle lanes i e))

-- ---- the newest check

-- one more lane
pub newest_push : (lanes : List (Option ℕ)) (lane : Option ℕ) → newest_of (lanes ++ lane ∷ []) ≡ max (newest_of lanes) (unwrap_or lane 0)
newest_push [] None = refl
newest_push [] (Some n) = omega arith
newest_push (None ∷ lanes) lane = newest_push lanes lane
newest_push (Some n ∷ lanes) lane = rw (newest_push lanes lane) (omega arith)

-- idle lanes
pub newest_of_idle : (count : ℕ) → newest_of (replicate count None) ≡ 0
newest_of_idle zero = refl
newest_of_idle (suc count) = newest_of_idle count

-- a check that is newer than all others takes a lane
pub newest_set : (lanes : List (Option ℕ)) (i n : ℕ) → i < length lanes → newest_of lanes ≤ n → newest_of (slice_set lanes i (Some n)) ≡ n
newest_set [] i n h le = absurd (omega arith)
newest_set (None ∷ lanes) zero n h le = omega (arith, le)
newest_set (Some k ∷ lanes) zero n h le = omega (arith, le)
newest_set (None ∷ lanes) (suc i) n h le = newest_set lanes i n (omega arith) le
newest_set (Some k ∷ lanes) (suc i) n h le = rw (newest_set lanes i n (omega arith) (omega (arith, le))) (omega (arith, le))

-- where some check is newer than a number, the newest check has a lane
pub newest_found :
    (lanes : List (Option ℕ)) (stamp : ℕ)
    → stamp < newest_of lanes
    → (lane : ℕ) × (slice_get lanes lane ≡ Some (Some (newest_of lanes)))
newest_found [] stamp h = absurd (omega arith)
newest_found (None ∷ lanes) stamp h = let f = newest_found lanes stamp h in (suc f.0, f.1)
newest_found (Some n ∷ lanes) stamp h = elim (cases_lt n (newest_of lanes)) [
  | inl less ↦ let f = newest_found lanes stamp (omega (arith, h, less)) in (suc f.0, f.1 ∙ ap (λ (k : ℕ). Some (Some k)) (omega (arith, less)))
  | inr more ↦ (0, ap (λ (k : ℕ). Some (Some k)) (omega (arith, more)))
]

-- where no check is above a number, the newest is not
pub newest_up_to : (lanes : List (Option ℕ)) (bound : ℕ) → ((lane n : ℕ) → slice_get lanes lane ≡ Some (Some n) → n ≤ bound) → newest_of lanes ≤ bound
newest_up_to [] bound h = omega arith
newest_up_to (None ∷ lanes) bound h = newest_up_to lanes bound (λ lane n e. h (suc lane) n e)
newest_up_to (Some n ∷ lanes) bound h = omega (arith, h 0 n refl, newest_up_to lanes bound (λ lane k e. h (suc lane) k e))

-- where the newest is not above a number, no check is
pub none_between : (lanes : List (Option ℕ)) (after upto : ℕ) → newest_of lanes ≤ after → list_any (is_between after upto) lanes ≡ false
none_between [] after upto h = refl
none_between (None ∷ lanes) after upto h = none_between lanes after upto h
none_between (Some n ∷ lanes) after upto h = rw (not_after n (omega (arith, h)), none_between lanes after upto (omega (arith, h))) refl
  where
    not_after : (k : ℕ) → k ≤ after → is_launched_within after upto k ≡ false
    not_after k le = grind (arith, nat_tests)

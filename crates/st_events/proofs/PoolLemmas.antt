-- With a large pool no version is ever lost
use Rattle.std.proofs.Common.{◌≡◌, ℕ, suc, ◌+◌, ◌*◌, ◌<◌, ◌≤◌, ◌==◌, cond, not, Bool, true, false, inl, inr, List, [], ◌∷◌}
use Rattle.std.proofs.Common.{◌++◌, length, map, filter, Option, Some, None, refl, ap}
use Rattle.std.proofs.Common.{subst, arith, IsSome, is_some}
use Rattle.std.specs.Prelude.{nat_lt}
use Rattle.std.proofs.Math.Nat.{mul-le-mul_right}
use Rattle.std.proofs.lemmas.Bool.{le-leb}
use Rattle.std.proofs.lemmas.Bool.Decides.{eqb_tells}
use Rattle.st_events.specs.declared.heaps.TheConstants.{SHARED_OBJECT}
use Rattle.st_events.specs.Terms.{Event, New, Load, Store, Cas, Launch, Retire, Sizes, ShapeLists, IsWithinLimits, Object, fresh, first_heap, World, next}
use Rattle.st_events.specs.Terms.{world_from, first_world, at, changed, is_among, needing_in, IsLegal, IsLegalFrom, lost_pairs, objects_of}
use Rattle.st_events.specs.World.{is_full, row_if_needed, lost_at_change}
use Rattle.st_events.specs.History.{is_new}
use Rattle.st_events.specs.Sound.{IsSoundWorld}
use Rattle.st_events.proofs.LegalEvents.{legal_store, legal_cas, is_below, cell_has_object}
use Rattle.st_events.proofs.SoundHeap.{object_put_elsewhere, word_set_elsewhere}
use Rattle.st_events.proofs.SoundLemmas.{first_is_sound, next_is_sound}
use Rattle.st_events.proofs.AmongLemmas.{among_passing, or_first, or_second, same_number}
use Rattle.st_events.proofs.RowLemmas.{rows_for, changed_since, HaveChecks, one_if, rows_for_joined, rows_for_a_row, rows_for_released, joined_have_checks, row_has_checks}
use Rattle.st_events.proofs.RowLemmas.{released_have_checks, rows_are_needed, needs_are_few, changed_are_few, changed_since_rises, changed_one_more}

-- the world's objects are among these; each row is needed by some check; and a check needs no more rows than there are
-- objects that changed since its launch
record AreSpread (w : World) (objs : List ℕ) : Type 0 where
  objects : (obj : ℕ) → IsSome (w.heap obj) → is_among objs obj ≡ true
  checks : HaveChecks w.kept
  few : (n : ℕ) → rows_for n w.kept ≤ changed_since n w.stamp objs

-- ---- kept by each event

-- before the first event
first_is_spread : (shape : ShapeLists) → AreSpread (first_world shape) (SHARED_OBJECT ∷ [])
first_is_spread shape = record { objects = λ obj some. shared obj some; checks = tt; few = λ n. omega arith }
  where
    shared : (obj : ℕ) → IsSome (first_heap shape obj) → is_among (SHARED_OBJECT ∷ []) obj ≡ true
    shared obj some = elim (eqb_tells obj SHARED_OBJECT) [
      | inl e ↦ rw e.1 refl
      | inr e ↦ (let f : is_some (cond false (Some (fresh shape 0)) None) ≡ true = subst (λ (b : Bool). IsSome (cond b (Some (fresh shape 0)) None)) e.0 some in cc)
    ]

-- a new object is one more
new_keeps_spread :
    (shape : ShapeLists) (sizes : Sizes) (w : World) (objs : List ℕ) (m obj class : ℕ)
    → IsSoundWorld shape sizes w
    → AreSpread w objs
    → AreSpread (next shape sizes w (New m obj class)) (obj ∷ objs)
new_keeps_spread shape sizes w objs m obj class s a = record {
  objects = λ o some. elim (eqb_tells o obj) [
    | inl e ↦ or_first (obj == o) (is_among objs o) (rw e.1 (same_number obj))
    | inr e ↦ or_second (obj == o) (is_among objs o) (a.objects o (subst (λ (x : Option Object). IsSome x) (object_put_elsewhere w.heap obj (fresh shape class) o e.1) some))
  ];
  checks = a.checks;
  few = λ n. omega (arith, a.few n, changed_since_rises n w.epoch obj w.stamp objs (s.stamps.epoch obj));
}

-- at a change the object's stamp rises to the epoch, and it has at most one row more for each check that needs it
change_keeps_spread :
    (shape : ShapeLists) (sizes : Sizes) (w : World) (objs : List ℕ) (obj field value : ℕ)
    → IsSome (w.heap obj)
    → IsSoundWorld shape sizes w
    → AreSpread w objs
    → AreSpread (changed sizes w obj field value) objs
change_keeps_spread shape sizes w objs obj field value some s a = record {
  objects = λ o there. elim (eqb_tells o obj) [
    | inl e ↦ rw e.1 (a.objects obj some)
    | inr e ↦ a.objects o (subst (λ (x : Option Object). IsSome x) (word_set_elsewhere w.heap obj field value o e.1) there)
  ];
  checks = checks (is_full sizes w);
  few = λ n. few (is_full sizes w) n;
}
  where
    checks : (b : Bool) → HaveChecks (cond b w.kept (w.kept ++ row_if_needed obj (needing_in w obj)))
    checks true = a.checks
    checks false = joined_have_checks w.kept (row_if_needed obj (needing_in w obj)) a.checks (row_has_checks obj (needing_in w obj))

    rises : (n : ℕ) → changed_since n w.stamp objs ≤ changed_since n (at obj w.epoch w.stamp) objs
    rises n = changed_since_rises n w.epoch obj w.stamp objs (s.stamps.epoch obj)

    more :
        (n : ℕ) (t : Bool)
        → is_among (needing_in w obj) n ≡ t
        → changed_since n w.stamp objs + one_if t ≤ changed_since n (at obj w.epoch w.stamp) objs
    more n true h =
        let need = among_passing (λ k. nat_lt (w.stamp obj) k) w.active n h in
        changed_one_more n w.epoch obj w.stamp objs (a.objects obj some) (is_below (w.stamp obj) n need.1) (s.active.launched n need.0).1
    more n false h = omega (arith, rises n)

    few :
        (b : Bool) (n : ℕ)
        → rows_for n (cond b w.kept (w.kept ++ row_if_needed obj (needing_in w obj))) ≤ changed_since n (at obj w.epoch w.stamp) objs
    few true n = omega (arith, a.few n, rises n)
    few false n = omega (
      arith,
      a.few n,
      rows_for_joined n w.kept (row_if_needed obj (needing_in w obj)),
      rows_for_a_row n obj (needing_in w obj),
      more n (is_among (needing_in w obj) n) refl,
    )

-- a Retire only takes rows away
retire_keeps_spread :
    (shape : ShapeLists) (sizes : Sizes) (w : World) (objs : List ℕ) (m number : ℕ)
    → AreSpread w objs
    → AreSpread (next shape sizes w (Retire m number)) objs
retire_keeps_spread shape sizes w objs m number a = record {
  objects = a.objects;
  checks = released_have_checks number w.kept;
  few = λ n. omega (arith, a.few n, rows_for_released n number w.kept);
}

-- ---- the pool

-- no more rows than active checks times objects
rows_are_few :
    (shape : ShapeLists) (sizes : Sizes) (w : World) (objs : List ℕ)
    → IsSoundWorld shape sizes w
    → AreSpread w objs
    → length w.kept ≤ length w.active * length objs
rows_are_few shape sizes w objs s a =
    omega (
      arith,
      rows_are_needed w.active w.kept a.checks s.copies.kept_active,
      needs_are_few w.active w.kept (length objs) (λ n. omega (arith, a.few n, changed_are_few n w.stamp objs)),
    )

-- where some check is active, a pool for more objects than these is not full
has_copy :
    (shape : ShapeLists) (sizes : Sizes) (w : World) (objs : List ℕ)
    → IsSoundWorld shape sizes w
    → AreSpread w objs
    → 1 ≤ length w.active
    → sizes.lanes * (length objs + 1) ≤ sizes.copies
    → is_full sizes w ≡ false
has_copy shape sizes w objs s a some large = ap not (le-leb (suc (length w.kept)) sizes.copies below)
  where
    below : length w.kept < sizes.copies
    below = omega (arith, rows_are_few shape sizes w objs s a, mul-le-mul_right (length objs) s.active.lanes, s.active.lanes, some, large)

-- so a change loses nothing
change_loses_none :
    (shape : ShapeLists) (sizes : Sizes) (w : World) (objs : List ℕ) (obj : ℕ)
    → IsSoundWorld shape sizes w
    → AreSpread w objs
    → sizes.lanes * (length objs + 1) ≤ sizes.copies
    → w.lost ≡ []
    → lost_at_change sizes w obj ≡ []
change_loses_none shape sizes w objs obj s a large none = cases w.active refl
  where
    cases : (ns : List ℕ) → w.active ≡ ns → lost_at_change sizes w obj ≡ []
    cases [] e = nothing (is_full sizes w)
      where
        nothing : (b : Bool) → cond b (w.lost ++ map (λ n. record { obj = obj; check = n }) (needing_in w obj)) w.lost ≡ []
        nothing true = rw (none, e) refl
        nothing false = none
    cases (n ∷ ns) e =
        let some : 1 ≤ length w.active = rw e (omega arith) in
        rw (has_copy shape sizes w objs s a some large) none

-- from a world that lost nothing, with a pool for its objects and those to come
events_lose_none :
    (shape : ShapeLists) (sizes : Sizes) (w : World) (objs : List ℕ) (es : List Event)
    → IsSoundWorld shape sizes w
    → AreSpread w objs
    → IsLegalFrom shape sizes w es
    → sizes.lanes * (length objs + length (filter is_new es) + 1) ≤ sizes.copies
    → w.lost ≡ []
    → (world_from shape sizes w es).lost ≡ []
events_lose_none shape sizes w objs [] s a l large none = none
events_lose_none shape sizes w objs (New m obj class ∷ es) s a l large none =
    events_lose_none shape sizes (next shape sizes w (New m obj class)) (obj ∷ objs) es (next_is_sound shape sizes w (New m obj class) s l.0)
    (new_keeps_spread shape sizes w objs m obj class s a) l.1 (omega (arith, large)) none
events_lose_none shape sizes w objs (Load m obj field value ∷ es) s a l large none = events_lose_none shape sizes w objs es s a l.1 large none
events_lose_none shape sizes w objs (Store m obj field value ∷ es) s a l large none =
    let after = changed sizes w obj field value in
    events_lose_none shape sizes after objs es (next_is_sound shape sizes w (Store m obj field value) s l.0)
    (change_keeps_spread shape sizes w objs obj field value (cell_has_object w.heap obj field (legal_store shape sizes w m obj field value l.0).cell) s a) l.1 large
    (change_loses_none shape sizes w objs obj s a (omega (arith, large)) none)
events_lose_none shape sizes w objs (Cas m obj field expect value true ∷ es) s a l large none =
    let after = changed sizes w obj field value in
    events_lose_none shape sizes after objs es (next_is_sound shape sizes w (Cas m obj field expect value true) s l.0)
    (change_keeps_spread shape sizes w objs obj field value (cell_has_object w.heap obj field (legal_cas shape sizes w m obj field expect value true l.0).cell) s a) l.1 large
    (change_loses_none shape sizes w objs obj s a (omega (arith, large)) none)
events_lose_none shape sizes w objs (Cas m obj field expect value false ∷ es) s a l large none = events_lose_none shape sizes w objs es s a l.1 large none
events_lose_none shape sizes w objs (Launch m site number args ∷ es) s a l large none =
    events_lose_none shape sizes (next shape sizes w (Launch m site number args)) objs es (next_is_sound shape sizes w (Launch m site number args) s l.0)
    (record { objects = a.objects; checks = a.checks; few = a.few }) l.1 large none
events_lose_none shape sizes w objs (Retire m number ∷ es) s a l large none =
    events_lose_none shape sizes (next shape sizes w (Retire m number)) objs es (next_is_sound shape sizes w (Retire m number) s l.0)
    (retire_keeps_spread shape sizes w objs m number a) l.1 large none

-- a pool of at least `lanes * (objects + 1)` copies never loses a version
pub large_pool_loses_nothing :
    (shape : ShapeLists) (sizes : Sizes)
    → IsWithinLimits shape
    → (es : List Event)
    → IsLegal shape sizes es
    → sizes.lanes * (objects_of es + 1) ≤ sizes.copies
    → lost_pairs shape sizes es ≡ []
unfolding IsLegal
large_pool_loses_nothing shape sizes limits es l large =
    events_lose_none shape sizes (first_world shape) (SHARED_OBJECT ∷ []) es (first_is_sound shape sizes limits) (first_is_spread shape) l (omega (arith, large)) refl

-- A cell stays, and so does what a check finds of the heap at its launch
use Rattle.std.proofs.Common.{◌≡◌, ℕ, true, false, inl, inr, [], ◌∷◌, slice_get, slice_set, Option, Some, None, refl, sym, subst, arith, IsSome}
use Rattle.std.specs.Option.{option_map}
use Rattle.std.proofs.lemmas.List.{length-set}
use Rattle.std.proofs.lemmas.Option.{slice_get_within, slice_get-get_or}
use Rattle.std.proofs.lemmas.Bool.Decides.{eqb_tells}
use Rattle.st_snap.specs.Terms.{Event, New, Load, Store, Cas, Launch, Retire, Sizes, ShapeLists, IsWithinLimits}
use Rattle.st_snap.specs.Terms.{Heap, Object, word_of, word_at, with_object, with_word, set_word, fresh, World, Launched, next, IsLegalNext}
use Rattle.st_events.specs.Sound.{IsSoundWorld}
use Rattle.st_events.proofs.WorldLemmas.{world_after_one_more}
use Rattle.st_events.proofs.ExtendsLemmas.{next_keeps_launch}
use Rattle.st_events.proofs.LegalLemmas.{prefix_is_legal, rest_is_legal}
use Rattle.st_events.proofs.LegalEvents.{legal_new}
use Rattle.st_events.proofs.SoundHeap.{object_put_elsewhere, word_set_here, word_set_elsewhere, next_is_absent}
use Rattle.st_events.proofs.SoundLemmas.{legal_is_sound}
use Rattle.st_snap.specs.Snapshots.{Snapshots, world_of, with_event, IsLegalHeap, HasCell, HadCell, word_then}

-- a word that was set still stands
set_keeps_word : (x : Option Object) (field value f : ℕ) → IsSome (word_of x f) → IsSome (word_of (option_map (set_word field value) x) f)
set_keeps_word None field value f some = cc
set_keeps_word (Some x) field value f some = found (slice_get x.words f) refl some
  where
    found : (o : Option ℕ) → slice_get x.words f ≡ o → IsSome o → IsSome (slice_get (slice_set x.words field value) f)
    found None e i = cc
    found (Some word) e i = rw (slice_get-get_or (slice_set x.words field value) f 0 (omega (arith, slice_get_within x.words f word e, length-set x.words field value))) refl

-- a cell stays where a word was set
pub set_keeps_cells : (heap : Heap) (obj field value o f : ℕ) → IsSome (word_at heap o f) → IsSome (word_at (with_word heap obj field value) o f)
set_keeps_cells heap obj field value o f some = elim (eqb_tells o obj) [
  | inl y ↦ subst (λ (i : ℕ). IsSome (word_at (with_word heap obj field value) i f)) (sym y.1)
      (rw (word_set_here heap obj field value) (set_keeps_word (heap obj) field value f (subst (λ (i : ℕ). IsSome (word_at heap i f)) y.1 some)))
  | inr n ↦ rw (word_set_elsewhere heap obj field value o n.1) some
]

new_keeps_cells :
    (heap : Heap) (obj : ℕ) (x : Object) (o f : ℕ)
    → heap obj ≡ None
    → IsSome (word_at heap o f)
    → IsSome (word_at (with_object heap obj x) o f)
new_keeps_cells heap obj x o f none some = elim (eqb_tells o obj) [
  | inl y ↦ (let gone = rw (y.1, none) at some in cc)
  | inr n ↦ rw (object_put_elsewhere heap obj x o n.1) some
]

next_keeps_cells :
    (shape : ShapeLists) (sizes : Sizes) (w : World) (e : Event) (o f : ℕ)
    → IsSoundWorld shape sizes w
    → IsLegalNext shape sizes w e
    → IsSome (word_at w.heap o f)
    → IsSome (word_at (next shape sizes w e).heap o f)
next_keeps_cells shape sizes w (New m obj class) o f s l some =
    new_keeps_cells w.heap obj (fresh shape class) o f (next_is_absent shape sizes w m obj class s.regions (legal_new shape sizes w m obj class l)) some
next_keeps_cells shape sizes w (Load m obj field value) o f s l some = some
next_keeps_cells shape sizes w (Store m obj field value) o f s l some = set_keeps_cells w.heap obj field value o f some
next_keeps_cells shape sizes w (Cas m obj field expect value true) o f s l some = set_keeps_cells w.heap obj field value o f some
next_keeps_cells shape sizes w (Cas m obj field expect value false) o f s l some = some
next_keeps_cells shape sizes w (Launch m site number args) o f s l some = some
next_keeps_cells shape sizes w (Retire m number) o f s l some = some

-- what is known before an event
before :
    (s : Snapshots) (e : Event)
    → IsWithinLimits s.shape
    → IsLegalHeap (with_event s e)
    → IsSoundWorld s.shape s.sizes (world_of s) × IsLegalNext s.shape s.sizes (world_of s) e
before s e fits legal = (legal_is_sound s.shape s.sizes fits s.journal (prefix_is_legal s.shape s.sizes s.journal (e ∷ []) legal), (rest_is_legal s.shape s.sizes s.journal (e ∷ []) legal).0)

-- a cell stays
pub cell_stays :
    (s : Snapshots) (e : Event) (obj field : ℕ)
    → IsWithinLimits s.shape
    → IsLegalHeap (with_event s e)
    → HasCell s obj field
    → HasCell (with_event s e) obj field
cell_stays s e obj field fits legal cell =
    let b = before s e fits legal in
    subst (λ (w : World). IsSome (word_at w.heap obj field)) (sym (world_after_one_more s.shape s.sizes s.journal e)) (next_keeps_cells s.shape s.sizes (world_of s) e obj field b.0 b.1 cell)

-- what stood at a launch is known from then on
pub past_stays :
    (s : Snapshots) (e : Event) (number obj field : ℕ)
    → IsWithinLimits s.shape
    → IsLegalHeap (with_event s e)
    → HadCell s number obj field
    → HadCell (with_event s e) number obj field
past_stays s e number obj field fits legal had = cases ((world_of s).launched number) refl had
  where
    cases : (o : Option Launched) → (world_of s).launched number ≡ o → IsSome (word_then o obj field) → HadCell (with_event s e) number obj field
    cases None h i = cc
    cases (Some k) h i =
        let b = before s e fits legal in
        let same = next_keeps_launch s.shape s.sizes (world_of s) e number k b.0 b.1 h in
        subst (λ (w : World). IsSome (word_then (w.launched number) obj field)) (sym (world_after_one_more s.shape s.sizes s.journal e)) (rw same i)

-- The tests' heaps over one more event
use Rattle.std.proofs.Common.{◌≡◌, ◌≢◌, ℕ, zero, suc, ◌<◌, true, List, [], ◌∷◌, ◌++◌, length, map, replicate, slice_get, Option}
use Rattle.std.proofs.Common.{Some, None, refl, sym, ap, subst, arith, IsSome, take, drop, get_or}
use Rattle.std.specs.List.{All, remove}
use Rattle.std.proofs.lemmas.List.Quantifiers.{all_pairs_push, all_pairs_remove}
use Rattle.std.proofs.lemmas.List.{length-map, length-replicate}
use Rattle.std.proofs.lemmas.List.Elements.{All-weaker, All-push, All-append, All-take, All-drop, All-nil}
use Rattle.std.proofs.lemmas.Option.{slice_get-get_or}
use Rattle.st_events.specs.declared.events.Event.{Event}
use Rattle.st_events.specs.declared.events.Event.TheVariants.{New, Launch}
use Rattle.st_events.specs.declared.events.Args.{Args}
use Rattle.st_events.specs.declared.limits.Sizes.{Sizes}
use Rattle.st_events.specs.declared.shapes.Kind.{Kind}
use Rattle.st_events.specs.declared.shapes.Kind.TheVariants.{Int}
use Rattle.st_events.specs.Shape.{ShapeLists, IsWithinLimits, kinds_of}
use Rattle.st_events.specs.Heap.{Heap, Object, word_of, word_at, fresh}
use Rattle.st_events.specs.World.{World}
use Rattle.st_events.specs.Legal.{fits_cell, kind_of_field, has_kind_if_any, args_fit}
use Rattle.st_events.specs.Sound.{IsTypedHeap}
use Rattle.st_events.proofs.WorldLemmas.{world_after_one_more, at_same}
use Rattle.st_events.proofs.LegalLemmas.{empty_is_legal}
use Rattle.st_events.proofs.SoundHeap.{object_put_here}
use Rattle.st_events.proofs.SoundLemmas.{legal_is_sound}
use Rattle.st_snap.specs.declared.lanes.Lane.{Lane}
use Rattle.st_snap.specs.Snapshots.{Snapshots, world_of, heap_now, new_heap, with_event, IsLegalHeap, IsLaneOf, HasNoLane, HasCell, has_kind_of, are_args_of, word_then}
use Rattle.tests_snap.specs.Drive.{IsDriven, IsDrivenLane, HasCells, HadCells, plain_shape}
use Rattle.tests_snap.proofs.ApartLemmas.{apart_where_none}
use Rattle.st_snap.proofs.ListLemmas.{replicated_is_one}
use Rattle.st_snap.proofs.StayLemmas.{cell_stays, past_stays}

-- every field is a number
kind_is_number : (width class field : ℕ) (kind : Kind) → slice_get (kinds_of (plain_shape width) class) field ≡ Some kind → kind ≡ Int
kind_is_number width zero zero kind e = cc
kind_is_number width zero (suc field) kind e = cc
kind_is_number width (suc zero) field kind e = replicated_is_one width Int field kind e
kind_is_number width (suc (suc class)) field kind e = cc

-- so each word has the kind of a cell that exists
number_fits :
    (width : ℕ) (heap : Heap) (x : Option Object) (field found word : ℕ)
    → has_kind_if_any heap (kind_of_field (plain_shape width) x field) found ≡ true
    → has_kind_if_any heap (kind_of_field (plain_shape width) x field) word ≡ true
number_fits width heap None field found word h = cc
number_fits width heap (Some x) field found word h = cases (slice_get (kinds_of (plain_shape width) x.class) field) refl h
  where
    cases :
        (o : Option Kind)
        → slice_get (kinds_of (plain_shape width) x.class) field ≡ o
        → has_kind_if_any heap o found ≡ true
        → has_kind_if_any heap (slice_get (kinds_of (plain_shape width) x.class) field) word ≡ true
    cases None e i = cc
    cases (Some kind) e i = rw (e, kind_is_number width x.class field kind e) refl

-- each word fits each cell of a driven heap
pub driven_words_fit :
    (s : Snapshots) (sizes : Sizes) (width : ℕ) (known : List (ℕ × ℕ)) (held : List Lane) (obj field word : ℕ)
    → IsDriven s sizes width known held
    → HasCell s obj field
    → has_kind_of s obj field word ≡ true
driven_words_fit s sizes width known held obj field word d cell = cases (word_at (heap_now s) obj field) refl cell
  where
    typed : IsTypedHeap s.shape (heap_now s)
    typed = (legal_is_sound s.shape s.sizes d.fits s.journal d.legal).typed

    cases : (o : Option ℕ) → word_at (heap_now s) obj field ≡ o → IsSome o → fits_cell s.shape (heap_now s) obj field word ≡ true
    cases None e i = cc
    cases (Some found) e i =
        subst (λ (shape : ShapeLists). fits_cell shape (heap_now s) obj field word ≡ true) (sym d.shape)
        (number_fits width (heap_now s) (heap_now s obj) field found word
        (subst (λ (shape : ShapeLists). fits_cell shape (heap_now s) obj field found ≡ true) d.shape (typed.kinds obj field found e)))

-- what is known stays known
driven_lane_stays :
    (s : Snapshots) (e : Event) (known : List (ℕ × ℕ))
    → IsWithinLimits s.shape
    → IsLegalHeap (with_event s e)
    → (lane : Lane)
    → (IsLaneOf s lane → IsLaneOf (with_event s e) lane)
    → IsDrivenLane s known lane
    → IsDrivenLane (with_event s e) known lane
driven_lane_stays s e known fits legal lane stay h = record {
  is = stay h.is;
  had = All-weaker (HadCells s lane.number) (HadCells (with_event s e) lane.number) (λ object had field lt. past_stays s e lane.number object.0 field fits legal (had field lt)) known h.had;
}

-- one more event, where each lane that is held stays one of the heap
pub driven_with_held_lanes :
    (s s' : Snapshots) (e : Event) (sizes : Sizes) (width : ℕ) (known : List (ℕ × ℕ)) (held : List Lane)
    → IsDriven s sizes width known held
    → s' ≡ with_event s e
    → IsLegalHeap s'
    → All (λ lane. IsLaneOf s lane → IsLaneOf s' lane) held
    → IsDriven s' sizes width known held
driven_with_held_lanes s s' e sizes width known held d same legal stay =
    subst (λ (x : Snapshots). IsDriven x sizes width known held) (sym same)
    (go (subst (λ (x : Snapshots). IsLegalHeap x) same legal) (λ k lane lt is. subst (λ (x : Snapshots). IsLaneOf x (get_or held k lane)) same (stay k lane lt is)))
  where
    go :
        IsLegalHeap (with_event s e)
        → All (λ lane. IsLaneOf s lane → IsLaneOf (with_event s e) lane) held
        → IsDriven (with_event s e) sizes width known held
    go legal stay = record {
      sizes = d.sizes;
      shape = d.shape;
      fits = d.fits;
      legal = legal;
      objects = All-weaker (HasCells s) (HasCells (with_event s e)) (λ object has field lt. cell_stays s e object.0 field d.fits legal (has field lt)) known d.objects;
      lanes = λ k lane lt. driven_lane_stays s e known d.fits legal (get_or held k lane) (stay k lane lt) (d.lanes k lane lt);
      apart = d.apart;
    }

-- one more event, where every lane stays one of the heap
pub driven_with_all_lanes :
    (s s' : Snapshots) (e : Event) (sizes : Sizes) (width : ℕ) (known : List (ℕ × ℕ)) (held : List Lane)
    → IsDriven s sizes width known held
    → s' ≡ with_event s e
    → IsLegalHeap s'
    → ((lane : Lane) → IsLaneOf s lane → IsLaneOf s' lane)
    → IsDriven s' sizes width known held
driven_with_all_lanes s s' e sizes width known held d same legal stay = driven_with_held_lanes s s' e sizes width known held d same legal (λ k lane lt is. stay (get_or held k lane) is)

-- a list without a length is empty
pub no_length_is_empty : {X : Type 0} (xs : List X) → length xs ≡ 0 → xs ≡ []
no_length_is_empty [] e = refl
no_length_is_empty (x ∷ xs) e = absurd (omega arith)

-- the start: the shared object has one field
pub driven_at_first :
    (sizes : Sizes) (width : ℕ)
    → IsWithinLimits (plain_shape width)
    → IsDriven (new_heap (plain_shape width) sizes) sizes width ((1, 1) ∷ []) []
driven_at_first sizes width fits = record {
  sizes = refl;
  shape = refl;
  fits = fits;
  legal = empty_is_legal (plain_shape width) sizes;
  objects = All-push (HasCells (new_heap (plain_shape width) sizes)) [] (1, 1) (All-nil (HasCells (new_heap (plain_shape width) sizes))) shared;
  lanes = All-nil (IsDrivenLane (new_heap (plain_shape width) sizes) ((1, 1) ∷ []));
  apart = apart_where_none;
}
  where
    shared : HasCells (new_heap (plain_shape width) sizes) (1, 1)
    shared zero lt = refl
    shared (suc field) lt = absurd (omega arith)

-- the fields of a new object of class 1
new_object_has_cells : (s : Snapshots) (width m obj : ℕ) → s.shape ≡ plain_shape width → HasCells (with_event s (New m obj 1)) (obj, width)
new_object_has_cells s width m obj shape = λ field lt.
    let kinds : kinds_of s.shape 1 ≡ replicate width Int = ap (λ (x : ShapeLists). kinds_of x 1) shape in
    let words : List ℕ = map (λ _. 0) (kinds_of s.shape 1) in
    let many : length words ≡ length (kinds_of s.shape 1) = length-map (kinds_of s.shape 1) (λ _. 0) in
    let long : field < length words = omega (arith, many, ap length kinds, length-replicate width Int) in
    subst (λ (w : World). IsSome (word_at w.heap obj field)) (sym (world_after_one_more s.shape s.sizes s.journal (New m obj 1)))
    (subst (λ (x : Option Object). IsSome (word_of x field)) (sym (object_put_here (world_of s).heap obj (fresh s.shape 1))) (rw (slice_get-get_or words field 0 long) refl))

-- a new object, where no check is active
pub driven_after_new :
    (s s' : Snapshots) (sizes : Sizes) (width m obj : ℕ) (known : List (ℕ × ℕ))
    → IsDriven s' sizes width known []
    → s.shape ≡ plain_shape width
    → s' ≡ with_event s (New m obj 1)
    → IsDriven s' sizes width (known ++ (obj, width) ∷ []) []
driven_after_new s s' sizes width m obj known d shape same = record {
  sizes = d.sizes;
  shape = d.shape;
  fits = d.fits;
  legal = d.legal;
  objects = All-push (HasCells s') known (obj, width) d.objects (subst (λ (x : Snapshots). HasCells x (obj, width)) (sym same) (new_object_has_cells s width m obj shape));
  lanes = All-nil (IsDrivenLane s' (known ++ (obj, width) ∷ []));
  apart = apart_where_none;
}

-- no arguments are right for the check
pub no_arguments_fit :
    (s : Snapshots) (sizes : Sizes) (width : ℕ) (known : List (ℕ × ℕ)) (held : List Lane)
    → IsDriven s sizes width known held
    → (0 < length s.shape.checks) × (are_args_of s 0 (record { count = 0; words = 0 ∷ 0 ∷ 0 ∷ 0 ∷ [] }) ≡ true)
no_arguments_fit s sizes width known held d = (
  subst (λ (x : ShapeLists). 0 < length x.checks) (sym d.shape) (omega arith),
  subst (λ (x : ShapeLists). args_fit (heap_now s) (slice_get x.checks 0) (record { count = 0; words = 0 ∷ 0 ∷ 0 ∷ 0 ∷ [] }) ≡ true) (sym d.shape) refl,
)

-- each known object stood at a launch that is just made
cells_at_launch :
    (s : Snapshots) (m n site : ℕ) (args : Args) (object : ℕ × ℕ)
    → HasCells s object
    → HadCells (with_event s (Launch m site n args)) n object
cells_at_launch s m n site args object has = λ field lt.
    subst (λ (w : World). IsSome (word_then (w.launched n) object.0 field)) (sym (world_after_one_more s.shape s.sizes s.journal (Launch m site n args)))
    (rw (at_same n (Some (record { past = (world_of s).heap; thread = m; site = site; args = args })) (world_of s).launched) (has field lt))

-- a launch
pub driven_after_launch :
    (s s' : Snapshots) (sizes : Sizes) (width m site : ℕ) (args : Args) (lane : Lane) (known : List (ℕ × ℕ)) (held : List Lane)
    → IsDriven s sizes width known held
    → IsDriven s' sizes width known held
    → s' ≡ with_event s (Launch m site lane.number args)
    → IsLaneOf s' lane
    → HasNoLane s lane.number
    → IsDriven s' sizes width known (held ++ lane ∷ [])
driven_after_launch s s' sizes width m site args lane known held before d same is fresh = record {
  sizes = d.sizes;
  shape = d.shape;
  fits = d.fits;
  legal = d.legal;
  objects = d.objects;
  lanes = All-push (IsDrivenLane s' known) held lane d.lanes (record {
    is = is;
    had = All-weaker (HasCells s) (HadCells s' lane.number)
        (λ object has. subst (λ (x : Snapshots). HadCells x lane.number object) (sym same) (cells_at_launch s m lane.number site args object has)) known before.objects;
  });
  apart = all_pairs_push (λ (one : Lane) (later : Lane). one.number ≢ later.number) held lane d.apart (λ k other lt. fresh (get_or held k other) (before.lanes k other lt).is);
}

-- one check fewer is held
pub driven_with_one_less :
    (s : Snapshots) (sizes : Sizes) (width : ℕ) (known : List (ℕ × ℕ)) (held : List Lane) (i : ℕ)
    → i < length held
    → IsDriven s sizes width known held
    → IsDriven s sizes width known (remove held i)
driven_with_one_less s sizes width known held i within d = record {
  sizes = d.sizes;
  shape = d.shape;
  fits = d.fits;
  legal = d.legal;
  objects = d.objects;
  lanes = All-append (IsDrivenLane s known) (take i held) (drop (suc i) held) (All-take (IsDrivenLane s known) i held d.lanes) (All-drop (IsDrivenLane s known) (suc i) held d.lanes);
  apart = all_pairs_remove (λ (one : Lane) (later : Lane). one.number ≢ later.number) held i within d.apart;
}

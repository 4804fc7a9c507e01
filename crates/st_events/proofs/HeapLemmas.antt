-- A heap as a function, and as the list of what stands at each number
use Rattle.std.proofs.Common.{◌≡◌, ℕ, zero, suc, ◌<◌, ◌≤◌, ◌==◌, cond, Bool, true, false, List, [], ◌∷◌, length, map, take}
use Rattle.std.proofs.Common.{replicate, slice_get, Option, Some, None, refl, ◌∙◌, ap}
use Rattle.std.proofs.Common.{subst, inl, inr, arith}
use Rattle.std.proofs.lemmas.Option.{slice_get_within, get_or_from_slice_get}
use Rattle.std.specs.Option.{option_flatten, option_map}
use Rattle.std.specs.Prelude.{unwrap_or, slice_set, IsSome}
use Rattle.std.proofs.lemmas.List.{take-replicate, length-replicate}
use Rattle.std.proofs.lemmas.Bool.Decides.{eqb_tells}
use mathlib.Core.Path.{fun_ext}
use lib.Dec.{eqb-zero-suc, eqb-suc-zero, eqb-suc-suc}
use Rattle.st_events.specs.declared.heaps.TheConstants.{SHARED_OBJECT}
use Rattle.st_events.specs.Terms.{Kind, ShapeLists, IsWithinLimits, kinds_of, Object, Heap, heap_of, with_object, with_word, set_word, fresh, first_heap}
use Rattle.st_events.specs.Terms.{word_at, word_of}
use Rattle.st_events.specs.declared.shapes.TheConstants.{MOST_FIELDS}

-- what stands at each place once one was set
pub set_then_get :
    {X : Type 0} (xs : List X) (i : ℕ) (x : X) (j : ℕ)
    → i < length xs
    → slice_get (slice_set xs i x) j ≡ cond (j == i) (Some x) (slice_get xs j)
set_then_get [] i x j h = absurd (omega arith)
set_then_get (y ∷ ys) zero x zero h = refl
set_then_get (y ∷ ys) zero x (suc j) h = rw eqb-suc-zero refl
set_then_get (y ∷ ys) (suc i) x zero h = rw eqb-zero-suc refl
set_then_get (y ∷ ys) (suc i) x (suc j) h = rw eqb-suc-suc (set_then_get ys i x j (omega arith))

flatten_a_choice :
    {X : Type 0} (b : Bool) (x : Option X) (y : Option (Option X))
    → option_flatten (cond b (Some x) y) ≡ cond b x (option_flatten y)
flatten_a_choice true x y = refl
flatten_a_choice false x y = refl

-- the heap of a list in which one place was set
pub heap_of_one_set :
    (objects : List (Option Object)) (obj : ℕ) (x : Option Object)
    → obj < length objects
    → (o : ℕ)
    → heap_of (slice_set objects obj x) o ≡ cond (o == obj) x (heap_of objects o)
heap_of_one_set objects obj x h o = ap option_flatten (set_then_get objects obj x o h) ∙ flatten_a_choice (o == obj) x (slice_get objects o)

-- an object put at a number
pub heap_of_object_put :
    (objects : List (Option Object)) (obj : ℕ) (x : Object)
    → obj < length objects
    → heap_of (slice_set objects obj (Some x)) ≡ with_object (heap_of objects) obj x
heap_of_object_put objects obj x h = fun_ext (heap_of_one_set objects obj (Some x) h)

choice_at_a_number :
    (f : Option Object → Option Object) (heap : Heap) (o obj : ℕ)
    → cond (o == obj) (f (heap obj)) (heap o) ≡ cond (o == obj) (f (heap o)) (heap o)
choice_at_a_number f heap o obj = elim (eqb_tells o obj) [ inl e ↦ rw e.1 refl | inr e ↦ rw e.0 refl ]

-- a word set in the object at a number
pub heap_of_word_set :
    (objects : List (Option Object)) (obj field value : ℕ)
    → obj < length objects
    → heap_of (slice_set objects obj (option_map (set_word field value) (heap_of objects obj))) ≡ with_word (heap_of objects) obj field value
heap_of_word_set objects obj field value h =
    fun_ext (λ o. heap_of_one_set objects obj (option_map (set_word field value) (heap_of objects obj)) h o
    ∙ choice_at_a_number (option_map (set_word field value)) (heap_of objects) o obj)

-- a place where no object was made
abbrev pub absent : Option Object
absent = None

-- where no object was made, the heap has none
pub heap_of_nothing : (n : ℕ) (o : ℕ) → heap_of (replicate n absent) o ≡ absent
heap_of_nothing zero o = refl
heap_of_nothing (suc n) zero = refl
heap_of_nothing (suc n) (suc o) = heap_of_nothing n o

-- the shared object alone
pub heap_of_first :
    (shape : ShapeLists) (n : ℕ)
    → SHARED_OBJECT < n
    → heap_of (slice_set (replicate n absent) SHARED_OBJECT (Some (fresh shape 0))) ≡ first_heap shape
heap_of_first shape n h =
    fun_ext (λ o. heap_of_one_set (replicate n absent) SHARED_OBJECT (Some (fresh shape 0)) (omega (arith, length-replicate n absent)) o
    ∙ ap (λ (x : Option Object). cond (o == SHARED_OBJECT) (Some (fresh shape 0)) x) (heap_of_nothing n o))

-- every place of such a list
pub map_of_replicate : {A B : Type 0} (f : A → B) (n : ℕ) (x : A) → map f (replicate n x) ≡ replicate n (f x)
map_of_replicate f zero x = refl
map_of_replicate f (suc n) x = ap (λ xs. f x ∷ xs) (map_of_replicate f n x)

-- a class has at most so many fields
pub kinds_are_few : (shape : ShapeLists) → IsWithinLimits shape → (class : ℕ) → length (kinds_of shape class) ≤ MOST_FIELDS
kinds_are_few shape w class = within (slice_get shape.classes class) refl
  where
    within : (o : Option (List Kind)) → slice_get shape.classes class ≡ o → length (unwrap_or o []) ≤ MOST_FIELDS
    within None e = omega arith
    within (Some kinds) e =
        subst (λ (ks : List Kind). length ks ≤ MOST_FIELDS) (get_or_from_slice_get shape.classes class kinds [] e)
        (w.fields class [] (slice_get_within shape.classes class kinds e)).0

-- as many zeros as a class has fields
pub zeros_taken : (kinds : List Kind) (n : ℕ) → length kinds ≤ n → take {A = ℕ} (length kinds) (replicate n 0) ≡ map (λ _. 0) kinds
zeros_taken kinds n h = take-replicate (length kinds) n 0 h ∙ replicate-map kinds
  where
    replicate-map : (ks : List Kind) → replicate {A = ℕ} (length ks) 0 ≡ map (λ _. 0) ks
    replicate-map [] = refl
    replicate-map (k ∷ ks) = ap (λ xs. 0 ∷ xs) (replicate-map ks)

-- the first words, of which one was set
pub set_then_take : {X : Type 0} (n : ℕ) (xs : List X) (i : ℕ) (x : X) → take n (slice_set xs i x) ≡ slice_set (take n xs) i x
set_then_take zero xs i x = refl
set_then_take (suc n) [] i x = refl
set_then_take (suc n) (y ∷ ys) zero x = refl
set_then_take (suc n) (y ∷ ys) (suc i) x = ap (λ zs. y ∷ zs) (set_then_take n ys i x)

-- a cell that is there has a place in the list
pub word_is_within : (objects : List (Option Object)) (obj field : ℕ) → IsSome (word_at (heap_of objects) obj field) → obj < length objects
word_is_within objects obj field h = within (slice_get objects obj) refl h
  where
    within : (o : Option (Option Object)) → slice_get objects obj ≡ o → IsSome (word_of (option_flatten o) field) → obj < length objects
    within None e i = cc
    within (Some x) e i = slice_get_within objects obj x e

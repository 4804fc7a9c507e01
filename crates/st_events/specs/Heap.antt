-- Objects, heaps, and what one step makes of them.
use Rattle.std.specs.Prelude.{ℕ, ◌==◌, if◌then◌else◌, List, map, slice_get, slice_set, Option, Some, None, option_map}
use Rattle.std.specs.Option.{option_flatten}
use Rattle.st_events.specs.declared.heaps.TheConstants.{SHARED_OBJECT}
use Rattle.st_events.specs.Shape.{ShapeLists, kinds_of}

-- an object: the number of its class, and one word for each field of that class
pub record Object : Type 0 where
  pub class : ℕ
  pub words : List ℕ

-- a heap: the object that stands at each number, where one was made. Number 0 is null, and SHARED_OBJECT the shared object's
abbrev pub Heap : Type 0
Heap = ℕ → Option Object

-- the word of a field of what stands there
abbrev pub word_of : Option Object → ℕ → Option ℕ
word_of None field = None
word_of (Some x) field = slice_get x.words field

-- the word of a cell, which is an object and a field
abbrev pub word_at : Heap → ℕ → ℕ → Option ℕ
word_at heap obj field = word_of (heap obj) field

-- the class of an object
abbrev pub class_at : Heap → ℕ → Option ℕ
class_at heap obj = option_map (λ x. x.class) (heap obj)

-- the heap with this object at this number
abbrev pub with_object : Heap → ℕ → Object → Heap
with_object heap obj x = λ o. if o == obj then Some x else heap o

-- the object with one word set
abbrev pub set_word : ℕ → ℕ → Object → Object
set_word field value x = record x { words = slice_set x.words field value }

-- the heap with one word of an object set
abbrev pub with_word : Heap → ℕ → ℕ → ℕ → Heap
with_word heap obj field value = λ o. if o == obj then option_map (set_word field value) (heap o) else heap o

-- a new object of a class: every word is 0
abbrev pub fresh : ShapeLists → ℕ → Object
fresh shape class = record { class = class; words = map (λ _. 0) (kinds_of shape class) }

-- the heap before the first event: the shared object alone, of class 0
abbrev pub first_heap : ShapeLists → Heap
first_heap shape = λ o. if o == SHARED_OBJECT then Some (fresh shape 0) else None

-- the heap of a list that has at each number the object, if one was made; past its end there is none
abbrev pub heap_of : List (Option Object) → Heap
heap_of objects obj = option_flatten (slice_get objects obj)

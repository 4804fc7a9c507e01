-- A deed that is typed on a heap: what it asks for is legal there, and after each reply that fits it is so again, whatever the heap has become.
use Rattle.std.specs.Prelude.{◌≡◌, ℕ, ◌<◌, ◌≤◌, true, length, Some, IsSome, slice_get}
use Rattle.st_events.specs.Heap.{Heap, class_at, word_at}
use Rattle.st_events.specs.Legal.{fits_cell, args_fit}
use Rattle.st_events.specs.Shape.{ShapeLists}
use Rattle.st_events.specs.Sound.{Extends, IsTypedHeap}
use Rattle.st_thread_meaning.specs.Deeds.{Request, make, load, store, cas, launch, Deed, ends, asks}
use Rattle.st_thread_meaning.specs.Threads.{Turn, asks_for, has_ended}

-- the heap later on: each object is there, of its class, and it is typed
pub record GoesOn (shape : ShapeLists) (heap later : Heap) : Type 0 where
  pub extends : Extends heap later
  pub typed : IsTypedHeap shape later

-- the request is legal on a heap, as far as the heap says: a declared class; a cell that exists, with words of its kind; a statement, with arguments
-- that fit it
abbrev pub IsRightRequest : ShapeLists → Heap → Request → Type 0
IsRightRequest shape heap (make class) = (1 ≤ class) × (class < length shape.classes)
IsRightRequest shape heap (load obj field) = IsSome (word_at heap obj field)
IsRightRequest shape heap (store obj field value) = IsSome (word_at heap obj field) × (fits_cell shape heap obj field value ≡ true)
IsRightRequest shape heap (cas obj field expect value) =
    IsSome (word_at heap obj field) × (fits_cell shape heap obj field expect ≡ true) × (fits_cell shape heap obj field value ≡ true)
IsRightRequest shape heap (launch site args) = (site < length shape.checks) × (args_fit heap (slice_get shape.checks site) args ≡ true)

-- the reply fits the request, on the heap at that time: an object of the class, a word of the cell's kind, 0 or 1
abbrev pub IsRightReply : ShapeLists → Heap → Request → ℕ → Type 0
IsRightReply shape heap (make class) reply = class_at heap reply ≡ Some class
IsRightReply shape heap (load obj field) reply = fits_cell shape heap obj field reply ≡ true
IsRightReply shape heap (store obj field value) reply = Unit {0}
IsRightReply shape heap (cas obj field expect value) reply = reply ≤ 1
IsRightReply shape heap (launch site args) reply = Unit {0}

-- a deed is typed on a heap: what it asks for is right there, and after any right reply on any later heap the rest is typed; an end is
abbrev pub IsTyped : ShapeLists → Deed → Heap → Type 0
IsTyped shape (ends end) heap = Unit {0}
IsTyped shape (asks request next) heap =
    IsRightRequest shape heap request
    × ((later : Heap) → GoesOn shape heap later → (reply : ℕ) → IsRightReply shape later request reply → IsTyped shape (next reply) later)

-- what a thread asks for next is legal on the heap, where it asks for something
abbrev pub IsRightTurn : ShapeLists → Heap → Turn → Type 0
IsRightTurn shape heap (asks_for request) = IsRightRequest shape heap request
IsRightTurn shape heap (has_ended end) = Unit {0}

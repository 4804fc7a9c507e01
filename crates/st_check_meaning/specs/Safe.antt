-- A course that is safe on a heap: it reads only cells that exist, meets only words of their kinds, and comes to what it should.
use Rattle.std.specs.Prelude.{◌≡◌, ℕ, true, List, Some}
use Rattle.st_events.specs.declared.shapes.Kind.{Kind}
use Rattle.st_events.specs.Heap.{Heap, word_at}
use Rattle.st_events.specs.Legal.{fits_cell, has_kind, have_kinds}
use Rattle.st_events.specs.Shape.{ShapeLists}
use Rattle.st_check_meaning.specs.Courses.{Course, comes_to, ends_in, reads, uses_unit}

-- the cell exists, and this word stands there, which has the kind of the cell
pub record IsWordAt (shape : ShapeLists) (heap : Heap) (obj field word : ℕ) : Type 0 where
  pub found : word_at heap obj field ≡ Some word
  pub fits : fits_cell shape heap obj field word ≡ true

-- the course, where the heap answers its reads, reads only cells that exist, with words of their kinds, and what it comes to is right
abbrev pub IsSafe : ShapeLists → Heap → {A : Type 0} → (A → Type 0) → Course A → Type 0
IsSafe shape heap right (comes_to x) = right x
IsSafe shape heap right (ends_in plain) = Unit {0}
IsSafe shape heap right (reads obj field next) = (word : ℕ) × IsWordAt shape heap obj field word × IsSafe shape heap right (next word)
IsSafe shape heap right (uses_unit next) = IsSafe shape heap right (next tt)

-- the word has the kind, on the heap
abbrev pub IsOfKind : Heap → Kind → ℕ → Type 0
IsOfKind heap kind word = has_kind heap kind word ≡ true

-- the words begin with one of each kind, on the heap
abbrev pub AreOfKinds : Heap → List Kind → List ℕ → Type 0
AreOfKinds heap kinds words = have_kinds heap kinds words ≡ true

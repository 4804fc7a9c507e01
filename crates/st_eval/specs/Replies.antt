-- Replies where no heap is at hand: a word of a kind, and courses that ask for objects with numbers of 32 bits where each reply has its kind.
use Rattle.std.specs.Prelude.{◌≡◌, ◌≤◌, ◌<◌, ◌^◌, ℕ, List, [], ◌∷◌, Some, slice_get}
use Rattle.st_events.specs.declared.shapes.Kind.{Kind}
use Rattle.st_events.specs.declared.shapes.Kind.TheVariants.{Int, Bool, Ref}
use Rattle.st_events.specs.Shape.{ShapeLists, kinds_of}
use Rattle.st_check_meaning.specs.Courses.{Course, comes_to, ends_in, reads, uses_unit}

-- any word is one of kind Int; 0 and 1 are those of Bool; a word of a class kind is any number of 32 bits
abbrev pub IsWordOf : Kind → ℕ → Type 0
IsWordOf Int word = Unit {0}
IsWordOf Bool word = word ≤ 1
IsWordOf (Ref class) word = word < 2 ^ 32

-- the words begin with one of each kind
abbrev pub AreWordsOf : List Kind → List ℕ → Type 0
AreWordsOf [] words = Unit {0}
AreWordsOf (kind ∷ kinds) [] = ⊥
AreWordsOf (kind ∷ kinds) (word ∷ words) = IsWordOf kind word × AreWordsOf kinds words

-- Each cell that the course asks for is of an object with a number of 32 bits, and of a field of a class; where the reply is a word of that
-- field's kind, this holds of all that follows, and what the course comes to is right.
abbrev pub AsksWell : ShapeLists → {A : Type 0} → (A → Type 0) → Course A → Type 0
AsksWell shape right (comes_to x) = right x
AsksWell shape right (ends_in plain) = Unit {0}
AsksWell shape right (reads obj field next) =
    (class : ℕ) × (kind : Kind) × (slice_get (kinds_of shape class) field ≡ Some kind) × (obj < 2 ^ 32)
    × ((word : ℕ) → IsWordOf kind word → AsksWell shape right (next word))
AsksWell shape right (uses_unit next) = AsksWell shape right (next tt)

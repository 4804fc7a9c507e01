-- A course by turns: it asks for one cell at a time, and is over when it asks for none. So whoever evaluates needs no heap.
use Rattle.std.specs.Prelude.{◌≡◌, ℕ, zero, suc, List, [], ◌∷◌, map, take}
use Rattle.st_events.specs.declared.verdicts.Plain.{Plain}
use Rattle.st_events.specs.declared.verdicts.Plain.TheVariants.{Spent}
use Rattle.st_events.specs.Heap.{Heap}
use Rattle.st_check_meaning.specs.Courses.{Course, comes_to, ends_in, reads, uses_unit}
use Rattle.st_check_meaning.specs.Plain.{Cell, Followed, after_reading, verdict_of, word_found, followed}

-- a turn: it asks for a cell, goes on by its word, and has so many units left; or it is over, with this plain value
pub data Turn : Type 0 where
  asks : ℕ → ℕ → (ℕ → Course ℕ) → ℕ → Turn
  is_over : Plain → Turn

-- the first turn of a course with so many units left
abbrev pub turn_of : Course ℕ → ℕ → Turn
turn_of (comes_to word) units = is_over (verdict_of word)
turn_of (ends_in plain) units = is_over plain
turn_of (reads obj field next) units = asks obj field next units
turn_of (uses_unit next) zero = is_over Spent
turn_of (uses_unit next) (suc units) = turn_of (next tt) units

-- the turn after these replies, in order; what is over stays so
abbrev pub turn_after : List ℕ → Turn → Turn
turn_after [] turn = turn
turn_after (word ∷ words) (asks obj field next units) = turn_after words (turn_of (next word) units)
turn_after (word ∷ words) (is_over plain) = is_over plain

-- following from a turn on
abbrev pub followed_from : Heap → Turn → Followed
followed_from heap (asks obj field next units) = after_reading obj field (followed heap (next (word_found heap obj field)) units)
followed_from heap (is_over plain) = record { cells = []; value = plain }

-- the words of the first so many cells, as the heap has them
abbrev pub words_of_first : Heap → ℕ → List Cell → List ℕ
words_of_first heap k cells = map (λ cell. word_found heap cell.obj cell.field) (take k cells)

-- the turn asks for the first of the cells that are left; or none is left, and it is over with the value
abbrev pub IsTurnFor : List Cell → Plain → Turn → Type 0
IsTurnFor [] value turn = turn ≡ is_over value
IsTurnFor (cell ∷ cells) value turn = (next : ℕ → Course ℕ) × (units : ℕ) × (turn ≡ asks cell.obj cell.field next units)

-- The plain value of a check on a heap, and the cells that it reads: one run of its course gives both.
use Rattle.std.specs.Prelude.{ℕ, zero, suc, if◌then◌else◌, List, [], ◌∷◌, Option, Some, None, unwrap_or, slice_get}
use Rattle.st_events.specs.declared.verdicts.Plain.{Plain}
use Rattle.st_events.specs.declared.verdicts.Plain.TheVariants.{Holds, Fails, Spent}
use Rattle.st_events.specs.Heap.{Heap, word_at}
use Rattle.st_resolved.specs.Terms.{CheckStatement, Program}
use Rattle.st_check_meaning.specs.declared.limits.TheConstants.{MOST_DEPTH}
use Rattle.st_check_meaning.specs.Courses.{Course, comes_to, ends_in, reads, uses_unit}
use Rattle.st_check_meaning.specs.Numbers.{is_true}
use Rattle.st_check_meaning.specs.Meaning.{Calls, course_of, call_within}

-- a cell: an object and a field
pub record Cell : Type 0 where
  pub obj : ℕ
  pub field : ℕ

-- what following a course gives: the cells read, in order, up to the end or the first fault, and the plain value
pub record Followed : Type 0 where
  pub cells : List Cell
  pub value : Plain

-- one more cell was read before
abbrev pub after_reading : ℕ → ℕ → Followed → Followed
after_reading obj field rest = record { cells = record { obj = obj; field = field } ∷ rest.cells; value = rest.value }

-- true is Holds, false is Fails
abbrev pub verdict_of : ℕ → Plain
verdict_of word = if is_true word then Holds else Fails

-- the word of a cell; a cell that does not exist, which no well-formed check reads, counts as 0
abbrev pub word_found : Heap → ℕ → ℕ → ℕ
word_found heap obj field = unwrap_or (word_at heap obj field) 0

-- a course is followed on a heap, with so many units of the budget left
abbrev pub followed : Heap → Course ℕ → ℕ → Followed
followed heap (comes_to word) units = record { cells = []; value = verdict_of word }
followed heap (ends_in plain) units = record { cells = []; value = plain }
followed heap (reads obj field next) units = after_reading obj field (followed heap (next (word_found heap obj field)) units)
followed heap (uses_unit next) zero = record { cells = []; value = Spent }
followed heap (uses_unit next) (suc units) = followed heap (next tt) units

-- the course of a check statement, if there is one, over the words of its arguments; there is one at each launch
abbrev pub statement_course : Calls → Option CheckStatement → List ℕ → Course ℕ
statement_course calls None args = comes_to 0
statement_course calls (Some check) args = course_of calls check.body args

-- the course of the check with this site and these words of its arguments: its own expression stands at depth 0
unfoldable pub check_course : Program → ℕ → List ℕ → Course ℕ
check_course p site args = statement_course (call_within p.preds MOST_DEPTH) (slice_get p.checks site) args

-- The plain value of a check on a heap: Holds, Fails, or how its evaluation ended. `calls` is its budget, the most predicate calls.
unfoldable pub plain_value : Program → Heap → ℕ → List ℕ → ℕ → Plain
plain_value p heap site args calls = (followed heap (check_course p site args) calls).value

-- the cells that this evaluation reads, in order, up to its end or first fault
unfoldable pub cells_read : Program → Heap → ℕ → List ℕ → ℕ → List Cell
cells_read p heap site args calls = (followed heap (check_course p site args) calls).cells

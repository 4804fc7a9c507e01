-- Laws of all checks.
use Rattle.std.specs.Prelude.{drop, ◌≡◌, ℕ, List, All, Some, slice_get}
use Rattle.st_events.specs.declared.shapes.Kind.{Kind}
use Rattle.st_events.specs.declared.shapes.Kind.TheVariants.{Bool as Truth}
use Rattle.st_events.specs.Heap.{Heap, word_at}
use Rattle.st_events.specs.Shape.{ShapeLists}
use Rattle.st_events.specs.Sound.{IsTypedHeap}
use Rattle.st_resolved.specs.Kinds.{HasKind}
use Rattle.st_resolved.specs.Terms.{Term, Program}
use Rattle.st_resolved.specs.WellFormed.{IsWellFormed, plain_setting}
use Rattle.st_check_meaning.specs.Meaning.{Calls, course_of}
use Rattle.st_check_meaning.specs.Courses.{Course}
use Rattle.st_check_meaning.specs.Turns.{turn_of, turn_after, followed_from, words_of_first, IsTurnFor}
use Rattle.st_check_meaning.specs.Plain.{followed, Cell, plain_value, cells_read, check_course}
use Rattle.st_check_meaning.specs.Safe.{IsWordAt, IsSafe, IsOfKind, AreOfKinds}

-- both heaps have the same at the cell: the same word, or no such cell
abbrev pub IsSameAt : Heap → Heap → Cell → Type 0
IsSameAt heap other cell = word_at other cell.obj cell.field ≡ word_at heap cell.obj cell.field

-- a check depends on nothing but the cells that it reads: on a heap with the same words there it reads the same cells, and has the
-- same plain value
abbrev pub DependOnTheirCells : Type 0
DependOnTheirCells =
    (p : Program) (heap other : Heap) (site : ℕ) (args : List ℕ) (calls : ℕ)
    → All (IsSameAt heap other) (cells_read p heap site args calls)
    → (plain_value p other site args calls ≡ plain_value p heap site args calls)
    × (cells_read p other site args calls ≡ cells_read p heap site args calls)

-- the cell exists, and its word has its kind
pub record IsTypedCell (shape : ShapeLists) (heap : Heap) (cell : Cell) : Type 0 where
  pub word : ℕ
  pub holds : IsWordAt shape heap cell.obj cell.field word

-- a check of a well-formed program on a typed heap, with arguments of their kinds, reads only cells that exist, with words of their
-- kinds, whatever its budget
abbrev pub ReadCellsThatExist : Type 0
ReadCellsThatExist =
    (shape : ShapeLists) (p : Program) (heap : Heap) (site : ℕ) (kinds : List Kind) (args : List ℕ) (calls : ℕ)
    → IsWellFormed shape p
    → IsTypedHeap shape heap
    → slice_get shape.checks site ≡ Some kinds
    → AreOfKinds heap kinds args
    → All (IsTypedCell shape heap) (cells_read p heap site args calls)

-- its whole course is safe, and it comes to true or false
abbrev pub MeetTheirKinds : Type 0
MeetTheirKinds =
    (shape : ShapeLists) (p : Program) (heap : Heap) (site : ℕ) (kinds : List Kind) (args : List ℕ)
    → IsWellFormed shape p
    → IsTypedHeap shape heap
    → slice_get shape.checks site ≡ Some kinds
    → AreOfKinds heap kinds args
    → IsSafe shape heap (IsOfKind heap Truth) (check_course p site args)

-- an expression of a thread or procedure is safe where its locals have their kinds, and comes to a word of its kind, whatever a
-- call would do
abbrev pub PlainExpressionsMeetTheirKinds : Type 0
PlainExpressionsMeetTheirKinds =
    (shape : ShapeLists) (heap : Heap) (kinds : List Kind) (t : Term) (kind : Kind) (locals : List ℕ) (calls : Calls)
    → IsTypedHeap shape heap
    → HasKind (plain_setting shape kinds) t kind
    → AreOfKinds heap kinds locals
    → IsSafe shape heap (IsOfKind heap kind) (course_of calls t locals)

-- to follow a course is to take its first turn, and to follow from there
abbrev pub FollowByTurns : Type 0
FollowByTurns = (heap : Heap) (c : Course ℕ) (units : ℕ) → followed heap c units ≡ followed_from heap (turn_of c units)

-- a check that was answered by the words of the first k cells that it reads asks for the cell after these; where there is none, it is
-- over with its plain value
abbrev pub AskInOrder : Type 0
AskInOrder =
    (p : Program) (heap : Heap) (site : ℕ) (args : List ℕ) (calls k : ℕ)
    → IsTurnFor (drop k (cells_read p heap site args calls)) (plain_value p heap site args calls)
    (turn_after (words_of_first heap k (cells_read p heap site args calls)) (turn_of (check_course p site args) calls))

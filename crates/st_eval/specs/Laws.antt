-- Running the code of a term is the course of the term; and the objects that a check asks for are told.
use Rattle.std.specs.Prelude.{◌≡◌, ◌<◌, ◌^◌, ℕ, List, [], ◌∷◌, ◌++◌, slice_get, Some}
use Rattle.st_events.specs.declared.shapes.Kind.{Kind}
use Rattle.st_events.specs.declared.shapes.Kind.TheVariants.{Bool}
use Rattle.st_events.specs.Heap.{Heap, Object}
use Rattle.st_events.specs.Shape.{ShapeLists}
use Rattle.st_events.specs.Sound.{IsTypedHeap}
use Rattle.st_eval.specs.declared.instructions.Instruction.{Instruction}
use Rattle.st_resolved.specs.Terms.{Term, Program}
use Rattle.st_resolved.specs.WellFormed.{IsWellFormed}
use Rattle.st_check_meaning.specs.Courses.{and_then}
use Rattle.st_check_meaning.specs.Meaning.{Calls, course_of}
use Rattle.st_check_meaning.specs.Plain.{Cell, cells_read, check_course}
use Rattle.st_check_meaning.specs.Safe.{AreOfKinds}
use Rattle.st_eval.specs.Replies.{IsWordOf, AreWordsOf, AsksWell}
use Rattle.st_eval.specs.StraightCode.{code_of, code_course}

-- from the empty stack the code of a term comes to what the term comes to, by the same reads and units
abbrev pub CodeIsItsCourse : Type 0
CodeIsItsCourse = (calls : Calls) (locals : List ℕ) (t : Term) → code_course calls locals (code_of t) 0 [] ≡ course_of calls t locals

-- in front of other code, on any stack, it pushes that word, and the other code goes on
abbrev pub CodeGoesOn : Type 0
CodeGoesOn =
    (calls : Calls) (locals : List ℕ) (t : Term) (rest : List Instruction) (stack : List ℕ)
    → code_course calls locals (code_of t ++ rest) 0 stack ≡ and_then (course_of calls t locals) (λ word. code_course calls locals rest 0 (word ∷ stack))

-- each object of the heap has a number of 32 bits
abbrev pub HasSmallNumbers : Heap → Type 0
HasSmallNumbers heap = (obj : ℕ) (x : Object) → heap obj ≡ Some x → obj < 2 ^ 32

-- on such a heap, if it is typed, a check of a well-formed program with arguments of their kinds reads only cells of objects that have
-- numbers of 32 bits: the evaluator tells each object that it asks for
abbrev pub TellEachObject : Type 0
TellEachObject =
    (shape : ShapeLists) (p : Program) (heap : Heap) (site : ℕ) (kinds : List Kind) (args : List ℕ) (calls k : ℕ) (cell : Cell)
    → IsWellFormed shape p
    → IsTypedHeap shape heap
    → HasSmallNumbers heap
    → slice_get shape.checks site ≡ Some kinds
    → AreOfKinds heap kinds args
    → slice_get (cells_read p heap site args calls) k ≡ Some cell
    → cell.obj < 2 ^ 32

-- the same without a heap: a check of a well-formed program, with arguments of their kinds, asks only for objects with numbers of 32 bits,
-- as long as each reply is a word of the kind of the cell asked for
abbrev pub AskWell : Type 0
AskWell =
    (shape : ShapeLists) (p : Program) (site : ℕ) (kinds : List Kind) (args : List ℕ)
    → IsWellFormed shape p
    → slice_get shape.checks site ≡ Some kinds
    → AreWordsOf kinds args
    → AsksWell shape (IsWordOf Bool) (check_course p site args)

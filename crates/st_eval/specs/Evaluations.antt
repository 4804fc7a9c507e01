-- What an evaluator promises: by turns, and on every heap whose words are the replies.
use Rattle.std.specs.Prelude.{◌≡◌, ◌<◌, ◌^◌, ℕ, suc, List, [], take, drop, slice_get, Some}
use Rattle.st_events.specs.declared.events.Args.{Args}
use Rattle.st_events.specs.Heap.{Heap}
use Rattle.st_resolved.specs.Terms.{Program}
use Rattle.st_check_meaning.specs.Courses.{Course}
use Rattle.st_check_meaning.specs.Turns.{Turn, asks, is_over, turn_of, turn_after, words_of_first}
use Rattle.st_check_meaning.specs.Plain.{word_found, check_course, plain_value, cells_read}
use Rattle.st_eval.specs.declared.asks.Ask.{Ask}
use Rattle.st_eval.specs.declared.asks.Ask.TheVariants.{Read, Done}
use Rattle.st_eval.specs.declared.evals.Eval.{Eval}
use Rattle.st_eval.specs.declared.frames.Span.{Span}
use Rattle.st_eval.specs.Activations.{alone}
use Rattle.st_eval.specs.Bodies.{IsCodeOf}
use Rattle.st_eval.specs.Rests.{rest_at}
use Rattle.st_eval.specs.Room.{IsPaused}

-- the values of the arguments
abbrev pub words_of : Args → List ℕ
words_of args = take args.count args.words

-- a body begins alone, with these locals and the whole budget
abbrev pub begun : Span → List ℕ → Eval → Eval
begun span locals e = record e { stack = alone span locals e.stack; units = e.calls }

-- the evaluator was made for this program: it has the program's code, and all memory that a check may need
pub record IsMadeFor (p : Program) (e : Eval) : Type 0 where
  pub code : IsCodeOf p e.code
  pub room : IsPaused e.code.instructions e.code.most_words e.stack

-- its budget: the most predicate calls of one check
unfoldable pub budget : Eval → ℕ
budget e = e.calls

-- the turn that this reply brings
unfoldable pub turn_by : Program → Eval → ℕ → Turn
turn_by p e reply = turn_of (rest_at p.preds e.code.instructions e.stack reply) e.units

-- The turn asks for this field of an object, whose number is told where it has 32 bits, as each word of a class kind has; and by each
-- reply the evaluator goes on as the turn does.
pub record AsksFor (p : Program) (turn : Turn) (obj field : ℕ) (e : Eval) : Type 0 where
  pub object : ℕ
  pub next : ℕ → Course ℕ
  pub units : ℕ
  pub asks_it : turn ≡ asks object field next units
  pub number : object < 2 ^ 32 → obj ≡ object
  pub goes_on : (reply : ℕ) → turn_by p e reply ≡ turn_of (next reply) units

-- the answer is the turn: it asks for the turn's cell, or it is over with the turn's value
unfoldable pub IsTurn : Program → Turn → Ask → Eval → Type 0
IsTurn p turn (Read obj field) e = AsksFor p turn obj field e
IsTurn p turn (Done plain) e = turn ≡ is_over plain

-- By this reply the evaluator has, for the check with this site, arguments and budget, the words of the first k cells that it reads, as
-- the heap has them.
unfoldable pub IsAfterCells : Program → Heap → ℕ → List ℕ → ℕ → ℕ → Eval → ℕ → Type 0
IsAfterCells p heap site args calls k e reply =
    turn_by p e reply ≡ turn_after (words_of_first heap k (cells_read p heap site args calls)) (turn_of (check_course p site args) calls)

-- It asks for the next cell that the check reads, whose object is told where its number has 32 bits, and goes on by the heap's word of it.
pub record AsksNext (p : Program) (heap : Heap) (site : ℕ) (args : List ℕ) (calls k obj field : ℕ) (e : Eval) : Type 0 where
  pub object : ℕ
  pub cell : slice_get (cells_read p heap site args calls) k ≡ Some (record { obj = object; field = field })
  pub number : object < 2 ^ 32 → obj ≡ object
  pub goes_on : IsAfterCells p heap site args calls (suc k) e (word_found heap object field)

-- it asks for the next cell; or no cell is left, and it answers the plain value of the check
unfoldable pub AnswersInOrder : Program → Heap → ℕ → List ℕ → ℕ → ℕ → Ask → Eval → Type 0
AnswersInOrder p heap site args calls k (Read obj field) e = AsksNext p heap site args calls k obj field e
AnswersInOrder p heap site args calls k (Done plain) e =
    (drop k (cells_read p heap site args calls) ≡ []) × (plain ≡ plain_value p heap site args calls)

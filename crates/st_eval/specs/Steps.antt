-- What one step of an evaluation does: an instruction is done, or a body is at its end.
use Rattle.std.specs.Prelude.{ℕ, ◌-◌, ◌==◌, not, if◌then◌else◌, List, length, take, drop, unwrap_or, slice_get, Option, Some, None, neg_ℤ, min, ◌^◌}
use Rattle.st_events.specs.declared.heaps.TheConstants.{SHARED_OBJECT}
use Rattle.st_events.specs.declared.verdicts.Plain.{Plain}
use Rattle.st_events.specs.declared.verdicts.Plain.TheVariants.{Null, Deep, Spent}
use Rattle.st_check_meaning.specs.declared.limits.TheConstants.{MOST_DEPTH}
use Rattle.st_eval.specs.declared.asks.Ask.{Ask}
use Rattle.st_eval.specs.declared.asks.Ask.TheVariants.{Read, Done}
use Rattle.st_eval.specs.declared.frames.Span.{Span}
use Rattle.st_eval.specs.declared.instructions.Instruction.{Instruction}
use Rattle.st_eval.specs.declared.instructions.Instruction.TheVariants.{Push, Local, Shared, Field, Not, Minus, Binary, Both, Either, Test, Skip, Call}
use Rattle.st_check_meaning.specs.Courses.{Course, comes_to, ends_in}
use Rattle.st_check_meaning.specs.Meaning.{operate}
use Rattle.st_check_meaning.specs.Numbers.{number_of, word_of_truth, is_true, number_or_overflow}
use Rattle.st_check_meaning.specs.Plain.{verdict_of}
use Rattle.st_eval.specs.Activations.{Activations, top_word, local_word, pushed, popped, onward, past, entered, resumed}

-- a step goes on, with so many units left; it asks for a cell, whose word is to be pushed; or the check is over, and this is left
pub data Step : Type 0 where
  goes_on : Activations → ℕ → Step
  asks_for : ℕ → ℕ → Activations → ℕ → Step
  ends : Plain → Activations → Step

-- the instructions from a place on, below an end
abbrev pub part : List Instruction → ℕ → ℕ → List Instruction
part code place end = drop place (take end code)

-- the code of a predicate, by its number; a well-formed program calls no other
abbrev pub span_of : List Span → ℕ → Span
span_of preds pred = unwrap_or (slice_get preds pred) (record { start = 0; end = 0 })

-- what an operator gives is pushed, or it is a fault; an operator reads nothing
abbrev pub answered : Course ℕ → Activations → ℕ → Step
answered (comes_to word) s units = goes_on (pushed word s) units
answered (ends_in plain) s units = ends plain s
answered course s units = ends Deep s

-- a call: too deep where MOST_DEPTH bodies wait; else spent without a unit; else it uses one, and the body of the predicate begins
abbrev pub called : List Span → ℕ → ℕ → Activations → ℕ → Step
called preds pred args s units =
    if length s.waiting == MOST_DEPTH then ends Deep s
    else (if units == 0 then ends Spent s else goes_on (entered (span_of preds pred) args s) (units - 1))

-- what an instruction does, after the place went on
abbrev pub acted : List Span → Instruction → Activations → ℕ → Step
acted preds (Push word) s units = goes_on (pushed word s) units
acted preds (Local local) s units = goes_on (pushed (local_word s local) s) units
acted preds (Shared field) s units = asks_for SHARED_OBJECT field s units
acted preds (Field field at) s units = if top_word s == 0 then ends (Null at) (popped s) else asks_for (top_word s) field (popped s) units
acted preds Not s units = goes_on (pushed (word_of_truth (not (is_true (top_word s)))) (popped s)) units
acted preds (Minus at) s units = answered (number_or_overflow (neg_ℤ (number_of (top_word s))) at) (popped s) units
acted preds (Binary operator at) s units = answered (operate operator (top_word (popped s)) (top_word s) at) (popped (popped s)) units
acted preds (Both count) s units = if is_true (top_word s) then goes_on (popped s) units else goes_on (past count (pushed 0 (popped s))) units
acted preds (Either count) s units = if is_true (top_word s) then goes_on (past count (pushed 1 (popped s))) units else goes_on (popped s) units
acted preds (Test count) s units = if is_true (top_word s) then goes_on (popped s) units else goes_on (past count (popped s)) units
acted preds (Skip count) s units = goes_on (past count s) units
acted preds (Call pred args) s units = called preds pred args s units

-- a body is at its end: its top word goes to the last caller; where none waits, it is the check's
abbrev pub returned : Option Activations → Activations → ℕ → Step
returned None s units = ends (verdict_of (top_word s)) (popped s)
returned (Some after) s units = goes_on (pushed (top_word s) after) units

-- the next instruction, if there is one, or the end
abbrev pub stepped : List Span → Option Instruction → Activations → ℕ → Step
stepped preds None s units = returned (resumed s) s units
stepped preds (Some i) s units = acted preds i (onward s) units

-- one step
abbrev pub step : List Instruction → List Span → Activations → ℕ → Step
step code preds s units = stepped preds (slice_get (part code s.running.place s.running.end) 0) s units

-- the step that the code tells by its answer, by where it left the stack, and by the units left
abbrev pub told : Option Ask → Activations → ℕ → Step
told None s units = goes_on s units
told (Some (Read obj field)) s units = asks_for obj field s units
told (Some (Done plain)) s units = ends plain s

-- the number of an object as it is told: a number beyond 32 bits, which no word of a class kind is, counts as the greatest
abbrev pub narrowed : ℕ → ℕ
narrowed obj = min obj (2 ^ 32 - 1)

-- a step as it is told
abbrev pub narrow : Step → Step
narrow (goes_on s units) = goes_on s units
narrow (asks_for obj field s units) = asks_for (narrowed obj) field s units
narrow (ends plain s) = ends plain s

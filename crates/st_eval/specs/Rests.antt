-- What is left of an evaluation: the course of the body that runs, and then, with what it comes to, of those that wait.
use Rattle.std.specs.Prelude.{ℕ, ◌-◌, List, [], ◌∷◌, length}
use Rattle.st_check_meaning.specs.declared.limits.TheConstants.{MOST_DEPTH}
use Rattle.st_resolved.specs.Terms.{Predicate}
use Rattle.st_eval.specs.declared.instructions.Instruction.{Instruction}
use Rattle.st_check_meaning.specs.Courses.{Course, comes_to, and_then}
use Rattle.st_check_meaning.specs.Meaning.{Calls, call_within}
use Rattle.st_check_meaning.specs.Turns.{Turn, asks, is_over, turn_of}
use Rattle.st_eval.specs.StraightCode.{code_course}
use Rattle.st_eval.specs.Activations.{Activation, Activations, pushed}
use Rattle.st_eval.specs.Steps.{Step, goes_on, asks_for, ends, part}

-- what a call does where so many bodies wait
abbrev pub calls_above : List Predicate → ℕ → Calls
calls_above preds waiting = call_within preds (MOST_DEPTH - waiting)

-- a word goes to the last caller, which comes to a word, which goes to its caller, and so on
abbrev pub rest_of : List Predicate → List Instruction → List Activation → ℕ → Course ℕ
rest_of preds code [] word = comes_to word
rest_of preds code (a ∷ waiting) word =
    and_then (code_course (calls_above preds (length waiting)) a.locals (part code a.place a.end) 0 (word ∷ a.words)) (rest_of preds code waiting)

-- the whole rest of an evaluation
abbrev pub course_at : List Predicate → List Instruction → Activations → Course ℕ
course_at preds code s =
    and_then (code_course (calls_above preds (length s.waiting)) s.running.locals (part code s.running.place s.running.end) 0 s.running.words)
    (rest_of preds code s.waiting)

-- the rest of an evaluation that waits for a word, by this word
abbrev pub rest_at : List Predicate → List Instruction → Activations → ℕ → Course ℕ
rest_at preds code s word = course_at preds code (pushed word s)

-- the turn after a step
abbrev pub step_turn : List Predicate → List Instruction → Step → Turn
step_turn preds code (goes_on s units) = turn_of (course_at preds code s) units
step_turn preds code (asks_for obj field s units) = asks obj field (rest_at preds code s) units
step_turn preds code (ends plain s) = is_over plain

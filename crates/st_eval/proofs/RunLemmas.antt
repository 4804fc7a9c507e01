-- Steps one after another: what the loop of the evaluator needs and keeps.
use Rattle.std.proofs.Common.{◌≡◌, ◌<◌, ℕ, List, Option, Some, None, sym, ◌∙◌, ap, subst}
use Rattle.st_resolved.specs.Terms.{Program}
use Rattle.st_check_meaning.specs.Turns.{Turn, asks, is_over, turn_of}
use Rattle.st_eval.specs.declared.asks.Ask.{Ask}
use Rattle.st_eval.specs.declared.asks.Ask.TheVariants.{Read, Done}
use Rattle.st_eval.specs.declared.frames.Span.{Span}
use Rattle.st_eval.specs.declared.instructions.Instruction.{Instruction}
use Rattle.st_eval.specs.declared.program_codes.ProgramCode.{ProgramCode}
use Rattle.st_eval.specs.Activations.{Activations}
use Rattle.st_eval.specs.Bodies.{IsCodeOf, predicate_bodies}
use Rattle.st_eval.specs.Rests.{course_at, rest_at, step_turn}
use Rattle.st_eval.specs.Room.{IsRunning, IsPaused, HasRooms, NeedsStep}
use Rattle.st_eval.specs.Runs.{IsRun, IsLeft}
use Rattle.st_eval.specs.Steps.{Step, goes_on, asks_for, ends, step, narrow, narrowed, told}
use Rattle.st_eval.specs.Weights.{weight}
use Rattle.st_eval.proofs.FallLemmas.{Falls, step_falls}
use Rattle.st_eval.proofs.ReadyLemmas.{IsReady, step_ready, step_needs}
use Rattle.st_eval.proofs.RestLemmas.{step_keeps}

-- what is known where the loop begins a turn: the rest comes first to this turn, and there is room
abbrev pub IsBefore : Program → ProgramCode → Turn → Activations → ℕ → Type 0
IsBefore p code turn s units =
    (turn_of (course_at p.preds code.instructions s) units ≡ turn) × IsRunning code.instructions code.most_words s

-- what the step needs is there
pub run_needs :
    (p : Program) (code : ProgramCode) (turn : Turn) (s : Activations) (units : ℕ) (is : List Instruction)
    → IsBefore p code turn s units
    → is ≡ code.instructions
    → NeedsStep is s
run_needs p code turn s units is before e = subst (λ xs. NeedsStep xs s) (sym e) (step_needs code.instructions code.most_words s before.1)

-- what a step brings
pub record Progress (p : Program) (code : ProgramCode) (turn : Turn) (bound : ℕ) (st : Step) : Type 0 where
  pub turns : turn ≡ step_turn p.preds code.instructions st
  pub ready : IsReady code.instructions code.most_words st
  pub falls : Falls code.instructions bound st

progress :
    (p : Program) (code : ProgramCode) (turn : Turn) (s : Activations) (units : ℕ)
    → IsCodeOf p code
    → IsBefore p code turn s units
    → Progress p code turn (weight code.instructions s units) (step code.instructions code.preds s units)
progress p code turn s units made before =
    record {
      turns = sym before.0 ∙ step_keeps p.preds code.instructions code.most_words code.preds s units made.preds before.1.depth;
      ready = step_ready code.instructions code.most_words code.preds (predicate_bodies p.preds) s units made.preds made.some before.1;
      falls = step_falls code.instructions code.preds s units;
    }

-- what the code tells of the step
abbrev pub Tells : ProgramCode → Activations → ℕ → Option Ask → Activations → ℕ → Type 0
Tells code s units answer after left = narrow (step code.instructions code.preds s units) ≡ told answer after left

-- the same told with the code's own instructions and places, and with the answer by another name
pub tells :
    (code : ProgramCode) (s : Activations) (units : ℕ) (is : List Instruction) (spans : List Span)
    (answer known : Option Ask) (after : Activations) (left : ℕ)
    → is ≡ code.instructions
    → spans ≡ code.preds
    → narrow (step is spans s units) ≡ told answer after left
    → answer ≡ known
    → Tells code s units known after left
tells code s units is spans answer known after left e f stepped was =
    (λ i. narrow (step (sym e i) (sym f i) s units)) ∙ stepped ∙ ap (λ a. told a after left) was

-- without an answer the loop goes on, and less is left
pub record IsOn (p : Program) (code : ProgramCode) (turn : Turn) (bound : ℕ) (after : Activations) (left : ℕ) : Type 0 where
  pub before : IsBefore p code turn after left
  pub less : weight code.instructions after left < bound

on_from :
    (p : Program) (code : ProgramCode) (turn : Turn) (bound : ℕ) (st : Step) (after : Activations) (left : ℕ)
    → Progress p code turn bound st
    → narrow st ≡ told None after left
    → IsOn p code turn bound after left
on_from p code turn bound (goes_on s units) after left h e =
    let f : s ≡ after = cc in
    let g : units ≡ left = cc in
    subst (λ (x : Activations × ℕ). IsOn p code turn bound x.0 x.1) (λ i. (f i, g i)) (record { before = (sym h.turns, h.ready); less = h.falls })
on_from p code turn bound (asks_for obj field s units) after left h e = cc
on_from p code turn bound (ends plain s) after left h e = cc

-- a step that gives no answer leaves what the loop begins its next turn with, and less to do
pub run_on :
    (p : Program) (code : ProgramCode) (turn : Turn) (s : Activations) (units : ℕ) (after : Activations) (left : ℕ)
    → IsCodeOf p code
    → IsBefore p code turn s units
    → Tells code s units None after left
    → IsOn p code turn (weight code.instructions s units) after left
run_on p code turn s units after left made before e =
    on_from p code turn (weight code.instructions s units) (step code.instructions code.preds s units) after left (progress p code turn s units made before) e

-- an answer is the turn, and leaves what it should
pub record IsAnswer (p : Program) (code : ProgramCode) (turn : Turn) (ask : Ask) (after : Activations) (left : ℕ) : Type 0 where
  pub turns : IsRun p code turn ask after left
  pub leaves : IsLeft code ask after

answer_from :
    (p : Program) (code : ProgramCode) (turn : Turn) (bound : ℕ) (st : Step) (ask : Ask) (after : Activations) (left : ℕ)
    → Progress p code turn bound st
    → narrow st ≡ told (Some ask) after left
    → IsAnswer p code turn ask after left
answer_from p code turn bound (goes_on s units) (Read obj field) after left h e = cc
answer_from p code turn bound (goes_on s units) (Done plain) after left h e = cc
answer_from p code turn bound (asks_for object f s units) (Read obj field) after left h e =
    let o : narrowed object ≡ obj = cc in
    let k : f ≡ field = cc in
    let a : s ≡ after = cc in
    let u : units ≡ left = cc in
    record {
      turns = record { object = object; asks_it = h.turns ∙ (λ i. asks object (k i) (rest_at p.preds code.instructions (a i)) (u i)); number = sym o };
      leaves = subst (λ x. IsPaused code.instructions code.most_words x) a h.ready;
    }
answer_from p code turn bound (asks_for object f s units) (Done plain) after left h e = cc
answer_from p code turn bound (ends found s) (Read obj field) after left h e = cc
answer_from p code turn bound (ends found s) (Done plain) after left h e =
    let k : found ≡ plain = cc in
    let a : s ≡ after = cc in
    record { turns = h.turns ∙ ap is_over k; leaves = subst (λ x. HasRooms code.most_words x) a h.ready }

-- a step that gives an answer gives that of the turn, and leaves the room that an answer asks for
pub run_answers :
    (p : Program) (code : ProgramCode) (turn : Turn) (s : Activations) (units : ℕ) (ask : Ask) (after : Activations) (left : ℕ)
    → IsCodeOf p code
    → IsBefore p code turn s units
    → Tells code s units (Some ask) after left
    → IsAnswer p code turn ask after left
run_answers p code turn s units ask after left made before e =
    answer_from p code turn (weight code.instructions s units) (step code.instructions code.preds s units) ask after left (progress p code turn s units made before) e

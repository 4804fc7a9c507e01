-- What steps, one after another, come to.
use Rattle.std.specs.Prelude.{◌≡◌, ℕ}
use Rattle.st_resolved.specs.Terms.{Program}
use Rattle.st_check_meaning.specs.Turns.{Turn, asks, is_over, turn_of}
use Rattle.st_eval.specs.declared.asks.Ask.{Ask}
use Rattle.st_eval.specs.declared.asks.Ask.TheVariants.{Read, Done}
use Rattle.st_eval.specs.declared.program_codes.ProgramCode.{ProgramCode}
use Rattle.st_eval.specs.Activations.{Activations}
use Rattle.st_eval.specs.Steps.{narrowed}
use Rattle.st_eval.specs.Rests.{course_at, rest_at}
use Rattle.st_eval.specs.Room.{IsPaused, HasRooms}

-- the turn that an evaluation comes to from here, with so many units left
abbrev pub turn_at : Program → ProgramCode → Activations → ℕ → Turn
turn_at p code s units = turn_of (course_at p.preds code.instructions s) units

-- the turn asks for a field of an object whose number is told, and goes on from the stack with the units that are left
pub record AsksFrom (p : Program) (code : ProgramCode) (turn : Turn) (obj field : ℕ) (s : Activations) (units : ℕ) : Type 0 where
  pub object : ℕ
  pub asks_it : turn ≡ asks object field (rest_at p.preds code.instructions s) units
  pub number : obj ≡ narrowed object

-- the answer is the turn
abbrev pub IsRun : Program → ProgramCode → Turn → Ask → Activations → ℕ → Type 0
IsRun p code turn (Read obj field) s units = AsksFrom p code turn obj field s units
IsRun p code turn (Done plain) s units = turn ≡ is_over plain

-- what is left of the stack: a body that waits for a word, or nothing but memory
abbrev pub IsLeft : ProgramCode → Ask → Activations → Type 0
IsLeft code (Read obj field) s = IsPaused code.instructions code.most_words s
IsLeft code (Done plain) s = HasRooms code.most_words s

use Rattle.std.proofs.Common.{◌≡◌}
use Rattle.st_resolved.specs.Views.{program_of}
use Rattle.st_eval.specs.Runs.{turn_at}
use Rattle.st_eval.specs.Room.{IsRunning}
use Rattle.st_eval.specs.Weights.{weight}
use Rattle.st_eval.proofs.evals.run.Given as goal

-- the rest comes first to what it came to at the beginning, and there is room for it
abbrev pub invariant-steps : goal.invariant-steps
invariant-steps l =
    (turn_at (program_of l.program) l.code l.stack l.units ≡ turn_at (program_of l.program) l.code l.initial.stack l.initial.units)
    × IsRunning l.code.instructions l.code.most_words l.stack

abbrev pub decreases-steps : goal.decreases-steps
decreases-steps l = weight l.code.instructions l.stack l.units

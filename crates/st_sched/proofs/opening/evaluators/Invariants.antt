use Rattle.std.proofs.Common.{◌-◌, ◌≤◌, vec_len, vec_capacity}
use Rattle.std.specs.List.{All}
use Rattle.st_resolved.specs.Views.{program_of}
use Rattle.st_sched.specs.Standing.{IsIdleEval}
use Rattle.st_sched.proofs.opening.evaluators.Given as goal

-- the evaluators so far were made for the program
abbrev pub invariant-lanes : goal.invariant-lanes
invariant-lanes l = record {
  made : All (IsIdleEval (program_of l.program) l.sizes) l.evals.items;
  few : vec_len l.evals ≤ l.lanes;
  capacity : l.lanes ≤ vec_capacity l.evals;
}

abbrev pub decreases-lanes : goal.decreases-lanes
decreases-lanes l = l.lanes - vec_len l.evals

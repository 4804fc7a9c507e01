use Rattle.st_resolved.specs.Views.{program_of}
use Rattle.st_eval.specs.Evaluations.{IsMadeFor}
use Rattle.tests_checks.proofs.tests.answer.Given as goal

-- the evaluator stays the program's
abbrev pub invariant-loop-cell : goal.invariant-loop-cell
invariant-loop-cell l = IsMadeFor (program_of l.program) l.eval

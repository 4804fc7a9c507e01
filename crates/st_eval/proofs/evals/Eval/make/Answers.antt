use Rattle.std.proofs.Common.{refl}
use Rattle.st_eval.specs.Evaluations.{budget}
use Rattle.st_eval.proofs.evals.Eval.make.Goals as goal

pub returns-clause-budget : goal.returns-clause-budget
unfolding budget
returns-clause-budget c = refl

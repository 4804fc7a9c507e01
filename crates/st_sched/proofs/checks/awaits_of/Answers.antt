use Rattle.std.proofs.Common.{subst}
use Rattle.st_eval.specs.declared.asks.Ask.{Ask}
use Rattle.st_eval.specs.Evaluations.{IsTurn}
use Rattle.st_sched.proofs.checks.awaits_of.Goals as goal

pub returns-in-Read : goal.returns-in-Read
unfolding IsTurn
returns-in-Read c = λ p turn e h. subst (λ (a : Ask). IsTurn p turn a e) c.in-Read.is h

pub returns-in-Done : goal.returns-in-Done
unfolding IsTurn
returns-in-Done c = λ p turn e h. subst (λ (a : Ask). IsTurn p turn a e) c.in-Done.is h

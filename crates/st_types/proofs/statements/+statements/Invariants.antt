use Rattle.std.proofs.Common.{◌≡◌, ◌+◌, ◌*◌, map, drop}
use Rattle.st_resolved.specs.Views.{command_of}
use Rattle.st_types.specs.Stepwise.{step, step_all}
use Rattle.st_types.specs.Tallies.{tally_all}
use Rattle.st_types.specs.Walks.{reached_of, HasRoom}
use Rattle.st_types.proofs.BlockLemmas.{with_commands}
use Rattle.st_types.proofs.WeightLemmas.{weight, weight_all}
use Rattle.st_types.proofs.statements.+statements.Given as goal

abbrev pub decreases-typed_statement : goal.decreases-typed_statement
decreases-typed_statement l = 3 * weight l.statement.now

abbrev pub decreases-statements_in : goal.decreases-statements_in
decreases-statements_in l = 3 * weight_all l.statements.now + 1

abbrev pub decreases-block : goal.decreases-block
decreases-block l = 3 * weight_all l.statements.now + 2

abbrev pub invariant-statements_in-loop-statement : goal.invariant-statements_in-loop-statement
invariant-statements_in-loop-statement l = record {
  walked : with_commands (map command_of l.done.items) (step_all (map (step l.program) (drop l.statement-index l.statements)) (reached_of l.walk))
      ≡ step_all (map (step l.program) l.statements) (reached_of l.fn.walk);
  room : HasRoom l.walk (tally_all (drop l.statement-index l.statements));
}

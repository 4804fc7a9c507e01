use Rattle.std.proofs.Common.{◌≡◌, ◌≤◌, length, drop, map}
use Rattle.st_resolved.specs.Views.{block_of, check_of}
use Rattle.st_mutator.specs.Laying.{lay_block}
use Rattle.st_mutator.proofs.bodies.+statements.Given as goal

-- the statements from here on are laid
abbrev pub invariant-block-loop-left : goal.invariant-block-loop-left
invariant-block-loop-left l = record {
  within : l.left ≤ length l.statements;
  laid : lay_block (map check_of l.checks) (block_of (drop l.left l.statements)) l.fn.next l.fn.nodes ≡ record { nodes = l.nodes; first = l.first };
}

abbrev pub decreases-block-loop-left : goal.decreases-block-loop-left
decreases-block-loop-left l = l.left

use Rattle.std.proofs.Common.{◌≡◌, ◌≤◌, length, drop}
use Rattle.st_resolved.specs.Views.{args_of}
use Rattle.st_mutator.specs.Laying.{lay_dropped}
use Rattle.st_mutator.proofs.laying.+terms.Given as goal

-- the arguments from here on are laid
abbrev pub invariant-dropped-loop-left : goal.invariant-dropped-loop-left
invariant-dropped-loop-left l = record {
  within : l.left ≤ length l.args;
  laid : lay_dropped (args_of (drop l.left l.args)) l.fn.next l.fn.nodes ≡ record { nodes = l.nodes; first = l.first };
}

abbrev pub decreases-dropped-loop-left : goal.decreases-dropped-loop-left
decreases-dropped-loop-left l = l.left

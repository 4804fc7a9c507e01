use Rattle.std.proofs.Common.{◌≡◌, ◌≤◌, length, drop}
use Rattle.st_mutator.specs.Laying.{lay_names}
use Rattle.st_mutator.proofs.bodies.locals.Given as goal

-- the names from here on are laid
abbrev pub invariant-loop-left : goal.invariant-loop-left
invariant-loop-left l = record {
  within : l.left ≤ length l.names;
  laid : lay_names (drop l.left l.names) l.fn.next l.fn.nodes ≡ record { nodes = l.nodes; first = l.first };
}

abbrev pub decreases-loop-left : goal.decreases-loop-left
decreases-loop-left l = l.left

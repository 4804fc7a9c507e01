use Rattle.std.proofs.Common.{◌≡◌, ◌≤◌, length, drop}
use Rattle.st_resolved.specs.Views.{args_of}
use Rattle.st_mutator.specs.Laying.{lay_terms}
use Rattle.st_mutator.proofs.laying.terms.Given as goal

-- the arguments from here on are laid
abbrev pub invariant-loop-left : goal.invariant-loop-left
invariant-loop-left l = record {
  within : l.left ≤ length l.args;
  laid : lay_terms (args_of (drop l.left l.args)) l.fn.next l.fn.nodes ≡ record { nodes = l.nodes; first = l.first };
}

abbrev pub decreases-loop-left : goal.decreases-loop-left
decreases-loop-left l = l.left

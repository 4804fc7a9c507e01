use Rattle.std.proofs.Common.{◌≡◌, ◌++◌, drop, map}
use Rattle.st_resolved.specs.Views.{check_of, routine_of}
use Rattle.st_mutator.specs.Laying.{LaidProcs, lay_procs}
use Rattle.st_mutator.proofs.bodies.procedures.Given as goal

-- with the procedures that are left, it is the whole
abbrev pub invariant-loop-body : goal.invariant-loop-body
invariant-loop-body l =
    let rest = lay_procs (map check_of l.checks) (map routine_of (drop l.body-index l.procs)) l.nodes in
    lay_procs (map check_of l.checks) (map routine_of l.procs) l.fn.nodes ≡ record { nodes = rest.nodes; entries = l.entries ++ rest.entries }

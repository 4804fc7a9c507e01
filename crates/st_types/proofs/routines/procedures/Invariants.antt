use Rattle.std.proofs.Common.{◌≡◌, [], map, take, drop}
use Rattle.st_resolved.specs.Views.{routine_of}
use Rattle.st_types.specs.Limits.{HasRoomFor, proc_tally}
use Rattle.st_types.specs.Routines.{routed_all}
use Rattle.st_types.specs.Rules.{walk_routines, walk_proc}
use Rattle.st_types.specs.Tallies.{all_of}
use Rattle.st_types.specs.Walks.{launched_of}
use Rattle.st_types.proofs.RoutineLemmas.{onto}
use Rattle.st_types.proofs.routines.procedures.Given as goal

abbrev pub invariant-loop-i : goal.invariant-loop-i
invariant-loop-i l = record {
  walked : onto (map routine_of l.done.items) (routed_all (walk_routines (walk_proc l.program) (take l.i l.procs) (map launched_of l.checks.items) (drop l.i l.procs)))
      ≡ routed_all (walk_routines (walk_proc l.program) [] (map launched_of l.fn.checks.items) l.procs);
  room : HasRoomFor l.checks (all_of (map proc_tally (drop l.i l.procs)));
}

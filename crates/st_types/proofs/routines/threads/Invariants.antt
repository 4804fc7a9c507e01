use Rattle.std.proofs.Common.{◌≡◌, [], map, take, drop}
use Rattle.st_resolved.specs.Views.{routine_of}
use Rattle.st_types.specs.Limits.{HasRoomFor, thread_tally}
use Rattle.st_types.specs.Routines.{routed_all}
use Rattle.st_types.specs.Rules.{walk_routines, walk_thread}
use Rattle.st_types.specs.Tallies.{all_of}
use Rattle.st_types.specs.Walks.{launched_of}
use Rattle.st_types.proofs.RoutineLemmas.{onto}
use Rattle.st_types.proofs.routines.threads.Given as goal

abbrev pub invariant-loop-i : goal.invariant-loop-i
invariant-loop-i l = record {
  walked : onto (map routine_of l.done.items) (routed_all (walk_routines (walk_thread l.program) (take l.i l.threads) (map launched_of l.checks.items) (drop l.i l.threads)))
      ≡ routed_all (walk_routines (walk_thread l.program) [] (map launched_of l.fn.checks.items) l.threads);
  room : HasRoomFor l.checks (all_of (map thread_tally (drop l.i l.threads)));
}

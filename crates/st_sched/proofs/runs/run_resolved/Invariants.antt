use Rattle.std.proofs.Common.{◌-◌, length}
use Rattle.st_resolved.specs.Views.{program_of}
use Rattle.st_snap.specs.Snapshots.{event_room}
use Rattle.st_run_meaning.specs.States.{first_state}
use Rattle.st_sched.specs.UnderWay.{IsOnTheWay}
use Rattle.st_sched.proofs.runs.run_resolved.Given as goal

-- the run is on its way from the first state
abbrev pub invariant-turns : goal.invariant-turns
invariant-turns l = record { way : IsOnTheWay l.shape (program_of l.program) l.sizes (first_state l.seed) l.running }

abbrev pub decreases-turns : goal.decreases-turns
decreases-turns l = event_room l.sizes - length l.running.heap.journal

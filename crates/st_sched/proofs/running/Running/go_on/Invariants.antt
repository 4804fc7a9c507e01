use Rattle.std.proofs.Common.{◌≡◌}
use Rattle.st_events.specs.declared.limits.Sizes.{Sizes}
use Rattle.st_events.specs.Terms.{ShapeLists}
use Rattle.st_resolved.specs.Views.{program_of}
use Rattle.st_run_meaning.specs.States.{State}
use Rattle.st_sched.specs.UnderWay.{IsOnTheWay}
use Rattle.st_sched.proofs.GoLemmas.{reads_in_memory}
use Rattle.st_sched.proofs.running.Running.go_on.Given as goal

-- the run is still on its way, and only checks took turns
abbrev pub invariant-turns : goal.invariant-turns
invariant-turns l = record {
  way :
      (shape : ShapeLists) (sizes : Sizes) (start : State)
      → IsOnTheWay shape (program_of l.program) sizes start l.fn.self
      → IsOnTheWay shape (program_of l.program) sizes start l.self;
  heap : l.self.heap ≡ l.fn.self.heap;
}

abbrev pub decreases-turns : goal.decreases-turns
decreases-turns l = reads_in_memory (program_of l.program) l.self.heap l.self.checks.items

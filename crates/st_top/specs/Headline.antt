-- The headline: what a run of an accepted program leaves, where there was neither a fault of a file nor want of memory.
use Rattle.std.specs.Prelude.{ℕ}
use Rattle.st_events.specs.Terms.{RanLists}
use Rattle.st_io.specs.States.{SinkState}
use Rattle.st_report.specs.Status.{run_status}
use Rattle.st_top.specs.Orders.{Order, IsOrderedRun}
use Rattle.st_top.specs.Putting.{IsWritten}

-- What is left is the run that was ordered, which is a right run of the accepted program; and what was asked for of it was written: all of it, with the
-- status of the run, or a front of it, where a write failed.
pub record IsHeadline (order : Order) (status : ℕ) (ran : RanLists) (before now : SinkState) : Type 0 where
  pub run : IsOrderedRun order ran
  pub written : IsWritten (run_status ran) (order.output run.program run.sizes ran) status before now

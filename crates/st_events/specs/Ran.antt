-- What contracts see of what a run leaves.
use Rattle.std.specs.Prelude.{ℕ, List}
use Rattle.st_events.specs.declared.events.Event.{Event}
use Rattle.st_events.specs.declared.verdicts.Verdict.{Verdict}
use Rattle.st_events.specs.declared.verdicts.End.{End}

-- what a run leaves: its events, the verdict of each check, the end of each thread, and the free copies
pub record RanLists : Type 0 where
  pub journal : List Event
  pub verdicts : List Verdict
  pub ends : List End
  pub free : ℕ

-- What contracts see of a journal in memory.
use Rattle.std.specs.Prelude.{ℕ, List}
use Rattle.st_events.specs.declared.events.Event.{Event}

-- the events written so far, and how many more fit without memory
pub record Written : Type 0 where
  pub events : List Event
  pub spare : ℕ

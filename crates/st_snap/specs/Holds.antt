-- The one invariant of a snapshot heap: what its fields have to do with its journal
use Rattle.std.specs.Prelude.{◌≡◌, ◌+◌, ◌≤◌, length}
use Rattle.st_snap.specs.Terms.{Sizes, ShapeLists, IsWithinLimits, AreWithinLimits, world_after, IsLegal}
use Rattle.st_events.specs.Journal.{Written}
use Rattle.st_snap.specs.Lanes.{lanes_after}
use Rattle.st_snap.specs.Snapshots.{event_room}
use Rattle.st_snap.specs.Table.{TableLists}
use Rattle.st_snap.specs.Represents.{Represents}

-- the journal is legal and within its room, and the tables mean the world that it makes
pub record Holds (shape : ShapeLists) (sizes : Sizes) (t : TableLists) (journal : Written) : Type 0 where
  pub shape_fits : IsWithinLimits shape
  pub sizes_fit : AreWithinLimits sizes
  pub legal : IsLegal shape sizes journal.events
  pub within : length journal.events ≤ event_room sizes
  pub reserved : event_room sizes ≤ length journal.events + journal.spare
  pub lanes : t.lanes ≡ lanes_after sizes.lanes journal.events
  pub tables : Represents sizes (world_after shape sizes journal.events) t

-- A snapshot heap as its callers see it: shape, sizes and journal, and what its calls ask and answer in these terms
use Rattle.std.specs.Prelude.{◌≡◌, ◌≢◌, ℕ, ◌*◌, ◌<◌, Bool, List, [], ◌∷◌, ◌++◌, length, slice_get, Option, Some, None, IsSome, IsTrue}
use Rattle.st_snap.specs.Terms.{Event, Sizes, ShapeLists, Heap, word_at, Args}
use Rattle.st_snap.specs.Terms.{World, Launched, Row, world_after, is_among, is_lost, heap_after, active_checks, kept_rows, lost_pairs, launch_of, IsLegal, fits_cell, args_fit}
use Rattle.st_snap.specs.declared.lanes.Lane.{Lane}
use Rattle.st_snap.specs.Lanes.{lanes_after}

-- a snapshot heap: the shape and the sizes that it was made for, and its journal
pub record Snapshots : Type 0 where
  pub shape : ShapeLists
  pub sizes : Sizes
  pub journal : List Event

-- what the journal says
abbrev pub world_of : Snapshots → World
world_of s = world_after s.shape s.sizes s.journal

-- the live heap
abbrev pub heap_now : Snapshots → Heap
heap_now s = heap_after s.shape s.sizes s.journal

-- the active checks
abbrev pub active_now : Snapshots → List ℕ
active_now s = active_checks s.shape s.sizes s.journal

-- the copies kept
abbrev pub rows_now : Snapshots → List Row
rows_now s = kept_rows s.shape s.sizes s.journal

-- the check at each lane
abbrev pub lanes_now : Snapshots → List (Option ℕ)
lanes_now s = lanes_after s.sizes.lanes s.journal

-- a snapshot heap before the first event
abbrev pub new_heap : ShapeLists → Sizes → Snapshots
new_heap shape sizes = record { shape = shape; sizes = sizes; journal = [] }

-- the journal is legal
abbrev pub IsLegalHeap : Snapshots → Type 0
IsLegalHeap s = IsLegal s.shape s.sizes s.journal

-- the snapshot heap once its journal has one more event
abbrev pub with_event : Snapshots → Event → Snapshots
with_event s e = record s { journal = s.journal ++ e ∷ [] }

-- how many events the journal may have
abbrev pub event_room : Sizes → ℕ
event_room sizes = sizes.mutators * sizes.events

-- there is room for one more event
abbrev pub HasSpare : Snapshots → Type 0
HasSpare s = length s.journal < event_room s.sizes

-- the lane is that of an active check of this heap
abbrev pub IsLaneOf : Snapshots → Lane → Type 0
IsLaneOf s lane = slice_get (lanes_now s) lane.index ≡ Some (Some lane.number)

-- the check is active
abbrev pub IsActive : Snapshots → ℕ → Type 0
IsActive s number = IsTrue (is_among (active_now s) number)

-- the check has no lane of this heap
abbrev pub HasNoLane : Snapshots → ℕ → Type 0
HasNoLane s number = (other : Lane) → IsLaneOf s other → other.number ≢ number

-- no lane of this heap at another place has the same check
abbrev pub IsOnlyLane : Snapshots → Lane → Type 0
IsOnlyLane s lane = (other : Lane) → IsLaneOf s other → other.number ≡ lane.number → other.index ≡ lane.index

-- whether a word has the kind of a cell
abbrev pub has_kind_of : Snapshots → ℕ → ℕ → ℕ → Bool
has_kind_of s obj field word = fits_cell s.shape (heap_now s) obj field word

-- whether the arguments are legal for a check statement
abbrev pub are_args_of : Snapshots → ℕ → Args → Bool
are_args_of s site args = args_fit (heap_now s) (slice_get s.shape.checks site) args

-- the word of a cell in the heap at a launch
abbrev pub word_then : Option Launched → ℕ → ℕ → Option ℕ
word_then None obj field = None
word_then (Some launch) obj field = word_at launch.past obj field

-- the word of a cell in the heap as it stood at the launch of a check
abbrev pub word_at_launch : Snapshots → ℕ → ℕ → ℕ → Option ℕ
word_at_launch s number obj field = word_then (launch_of s.shape s.sizes s.journal number) obj field

-- the cell exists
abbrev pub HasCell : Snapshots → ℕ → ℕ → Type 0
HasCell s obj field = IsSome (word_at (heap_now s) obj field)

-- the cell existed at the launch of the check
abbrev pub HadCell : Snapshots → ℕ → ℕ → ℕ → Type 0
HadCell s number obj field = IsSome (word_at_launch s number obj field)

-- whether the version of the object is lost for the check
abbrev pub is_lost_for : Snapshots → ℕ → ℕ → Bool
is_lost_for s obj number = is_lost (lost_pairs s.shape s.sizes s.journal) obj number

-- What a read makes of its lane's seat, and what it tells.
use Rattle.std.specs.Prelude.{◌≡◌, ℕ, ◌+◌, ◌≤◌, true, None, Some, IsSome}
use mathlib.Core.List.{IsPrefix}
use Rattle.st_events.specs.Heap.{word_at}
use Rattle.st_events.specs.Legal.{IsLegal}
use Rattle.st_events.specs.History.{lost_pairs}
use Rattle.st_events.specs.World.{is_lost}
use Rattle.st_rule.specs.declared.views.LaneView.{LaneView}
use Rattle.st_rule.specs.LaneSeats.{LaneValue, IsFairLane, IsSameLane, FindsField, FindsForward}
use Rattle.st_rule.specs.Reading.{past_of, IsFirstHalf}

-- the object and the lane's check are among the lost pairs of the list that the lane has seen
abbrev pub IsLostTo : LaneView → ℕ → Type 0
IsLostTo u obj = is_lost (lost_pairs u.terms.shape u.terms.sizes u.seen) obj u.check ≡ true

-- the same seat, with its lane, its check and its past; it has seen no less, which is legal, and no read is half done
pub record LeavesLane (before after : LaneValue) : Type 0 where
  pub table : after.table ≡ before.table
  pub id : after.id ≡ before.id
  pub terms : after.view.terms ≡ before.view.terms
  pub lane : after.view.lane ≡ before.view.lane
  pub check : after.view.check ≡ before.view.check
  pub past : after.view.past ≡ before.view.past
  pub goes_on : IsPrefix before.view.seen after.view.seen
  pub legal : IsLegal after.view.terms.shape after.view.terms.sizes after.view.seen
  pub fair : IsFairLane after.view
  pub quiet : after.view.read ≡ None

-- at most three atomic steps, as many by the seat's own count as by the other
pub record CountsSteps (before after : LaneView) (counted counted' : ℕ) : Type 0 where
  pub taken : ℕ
  pub few : taken ≤ 3
  pub seat : after.tally.steps ≡ before.tally.steps + taken
  pub count : counted' ≡ counted + taken

-- the object's own word is loaded: the first half of a read of this cell
pub record LoadsLive (obj field value : ℕ) (before after : LaneValue) : Type 0 where
  pub same : IsSameLane before after
  pub finds : FindsField obj field before.view after.view
  pub found : after.view.tally.found ≡ Some value

-- the first half of a read of this cell is done, which stood at the launch of the lane's check
pub record HasLive (obj field : ℕ) (seat : LaneValue) : Type 0 where
  pub half : IsFirstHalf seat.view obj
  pub cell : IsSome (word_at (past_of seat.view) obj field)

-- the lane's forwarding word is loaded: the second half
pub record LoadsForward (word : ℕ) (before after : LaneValue) : Type 0 where
  pub same : IsSameLane before after
  pub fair : IsFairLane after.view
  pub finds : FindsForward before.view after.view
  pub found : after.view.tally.found ≡ Some word

-- both halves, in this order
pub record LoadsBoth (obj field value word : ℕ) (before after : LaneValue) : Type 0 where
  pub between : LaneValue
  pub live : LoadsLive obj field value before between
  pub forward : LoadsForward word between after

-- What contracts see of the seat of an active check, and what its steps tell it.
use Rattle.std.specs.Prelude.{◌≡◌, ℕ, ◌<◌, List, []}
use mathlib.Core.List.{IsPrefix}
use Rattle.atomic_table.specs.Seated.{TableId}
use Rattle.st_events.specs.declared.events.Event.{Event}
use Rattle.st_events.specs.Legal.{IsLegal}
use Rattle.st_events.specs.Shape.{ShapeLists, IsWithinLimits}
use Rattle.st_events.specs.Sizes.{AreWithinLimits}
use Rattle.std.specs.Prelude.{None, Some}
use Rattle.st_rule.specs.declared.tables.Shared.{Shared}
use Rattle.st_rule.specs.declared.views.HalfRead.{HalfRead}
use Rattle.st_rule.specs.declared.views.LaneView.{LaneView}
use Rattle.st_rule.specs.declared.views.View.{View}
use Rattle.st_rule.specs.declared.views.View.TheVariants.{Mut, Lane, Gone}
use Rattle.st_rule.specs.Board.{plan_of}
use Rattle.st_rule.specs.Holding.{word_or_zero}
use Rattle.st_rule.specs.Plays.{Seated}
use Rattle.st_rule.specs.Reading.{past_of, field_read, forward_read, copy_read, TellsOfVersion}
use Rattle.st_rule.specs.Seats.{table_of, terms_of}
use Rattle.st_rule.specs.Turns.{object_of_header, field_of_word}
use Rattle.st_rule.specs.Views.{nobody}

-- the seat of an active check: of which table it is, its place among the table's seats, and what it knows
pub record LaneValue : Type 0 where
  pub table : TableId
  pub id : ℕ
  pub view : LaneView

-- a lane's view that stands for none
abbrev pub no_lane : LaneView
no_lane = record { terms = nobody.terms; tally = nobody.tally; lane = 0; check = 0; past = []; seen = []; read = None }

-- the view of a lane's seat
abbrev pub lane_of : View → LaneView
lane_of (Mut v) = no_lane
lane_of (Lane u) = u
lane_of Gone = no_lane

-- what holds of each view of a lane's seat, whatever the table is: its terms are within the limits, and its past and what it has seen are legal
pub record IsFairLane (u : LaneView) : Type 0 where
  pub within : u.lane < u.terms.sizes.lanes
  pub shape_fits : IsWithinLimits u.terms.shape
  pub sizes_fit : AreWithinLimits u.terms.sizes
  pub legal_past : IsLegal u.terms.shape u.terms.sizes u.past
  pub legal : IsLegal u.terms.shape u.terms.sizes u.seen

-- the seat's token is a lane's, and holds no slot
pub record KeepsLane (me : Seated) : Type 0 where
  pub lane : me ≡ (Lane (lane_of me.0), [])
  pub fair : IsFairLane (lane_of me.0)

-- the seat is of this table, and was told its terms
pub record IsLaneOf {J : Type 0} (meant : J → ShapeLists) (shared : Shared J) (seat : LaneValue) : Type 0 where
  pub table : seat.table ≡ table_of shared
  pub terms : seat.view.terms ≡ terms_of meant shared

-- it is the same seat, of the same table
pub record IsSameLane (before after : LaneValue) : Type 0 where
  pub table : after.table ≡ before.table
  pub id : after.id ≡ before.id

-- the view becomes this function of the word found and of what it was
pub record LaneBecomes (change : ℕ → LaneView → LaneView) (before : Seated) (word : ℕ) (after : Seated) : Type 0 where
  pub view : (u : LaneView) → before.0 ≡ Lane u → after.0 ≡ Lane (change word u)
  pub slots : after.1 ≡ before.1

-- check field load, where the word says which object and field it is
pub record ReadsField (place : ℕ) (before : Seated) (word : ℕ) (after : Seated) : Type 0 where
  pub reads :
      (u : LaneView) → before.0 ≡ Lane u
      → LaneBecomes (field_read (object_of_header (plan_of u.terms.sizes) place)
      (field_of_word (plan_of u.terms.sizes) (object_of_header (plan_of u.terms.sizes) place) place)) before word after

-- check forward load: the lane has then seen a legal list that goes on from what it had seen, and is told of the version
pub record ReadsForward (before : Seated) (word : ℕ) (after : Seated) : Type 0 where
  pub seen : List Event
  pub view : (u : LaneView) → before.0 ≡ Lane u → after.0 ≡ Lane (forward_read word seen u)
  pub goes_on : (u : LaneView) → before.0 ≡ Lane u → IsPrefix u.seen seen
  pub legal : (u : LaneView) → before.0 ≡ Lane u → IsLegal u.terms.shape u.terms.sizes seen
  pub tells : (u : LaneView) (r : HalfRead) → before.0 ≡ Lane u → u.read ≡ Some r → TellsOfVersion u r word seen
  pub slots : after.1 ≡ before.1

-- check copy load: the word is that of the past
pub record ReadsCopy (before : Seated) (word : ℕ) (after : Seated) : Type 0 where
  pub becomes : LaneBecomes copy_read before word after
  pub tells : (u : LaneView) (r : HalfRead) → before.0 ≡ Lane u → u.read ≡ Some r → word ≡ word_or_zero (past_of u) r.object r.field

-- the steps, as contracts see them
pub record FindsField (object field : ℕ) (before after : LaneView) : Type 0 where
  pub word : ℕ
  pub view : after ≡ field_read object field word before

-- check forward load: the lane has then seen a legal list that goes on from before, and is told where its version stands
pub record FindsForward (before after : LaneView) : Type 0 where
  pub word : ℕ
  pub seen : List Event
  pub view : after ≡ forward_read word seen before
  pub goes_on : IsPrefix before.seen seen
  pub legal : IsLegal before.terms.shape before.terms.sizes seen
  pub tells : (r : HalfRead) → before.read ≡ Some r → TellsOfVersion before r word seen

-- check copy load: the word is that of the past
pub record FindsCopy (before after : LaneView) : Type 0 where
  pub word : ℕ
  pub view : after ≡ copy_read word before
  pub tells : (r : HalfRead) → before.read ≡ Some r → word ≡ word_or_zero (past_of before) r.object r.field

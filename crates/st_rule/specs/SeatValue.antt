-- What contracts see of a seat, and what its struct keeps.
use Rattle.std.specs.Prelude.{◌≡◌, ℕ, ◌+◌, ◌<◌, ◌≤◌, List, [], length, Some}
use Rattle.atomic_table.specs.Seated.{TableId}
use Rattle.st_layout.specs.Names.{cells_of}
use Rattle.st_events.specs.Legal.{IsLegal}
use Rattle.st_events.specs.Shape.{IsWithinLimits}
use Rattle.st_events.specs.Sizes.{AreWithinLimits}
use Rattle.st_rule.specs.declared.views.Entry.{Entry}
use Rattle.st_rule.specs.declared.views.Held.{Held}
use Rattle.st_rule.specs.declared.views.MutView.{MutView}
use Rattle.st_rule.specs.declared.views.View.TheVariants.{Mut}
use Rattle.st_rule.specs.Board.{plan_of}
use Rattle.st_rule.specs.Entries.{own_entries, charge_spent, objects_made, whole_charge, whole_region}
use Rattle.st_rule.specs.Plays.{Seated}
use Rattle.st_rule.specs.Views.{mutator_of}

-- a seat: of which table it is, its place among the table's seats, and what it knows
pub record SeatValue : Type 0 where
  pub table : TableId
  pub id : ℕ
  pub view : MutView

-- what holds of each view of a mutator's seat, whatever the table is
pub record IsFairView (v : MutView) : Type 0 where
  pub within : v.gate.number ≤ v.terms.sizes.mutators
  -- the terms are within the limits
  pub shape_fits : IsWithinLimits v.terms.shape
  pub sizes_fit : AreWithinLimits v.terms.sizes
  -- what it has seen of the journal is legal, and its own events there are its entries, in order
  pub legal : IsLegal v.terms.shape v.terms.sizes v.journal.seen
  pub own : own_entries v.gate.number 0 v.journal.seen ≡ v.journal.entries
  -- the object that it holds is one of the table's
  pub held_within : (h : Held) → v.held ≡ Some h → h.object < cells_of (plan_of v.terms.sizes)

-- what the seat's struct keeps beside its view: room for its entries, and what is left of its charge and of its region
pub record KeepsSeat (me : Seated) (number spare room : ℕ) (entries : List Entry) (capacity : ℕ) : Type 0 where
  -- the seat is a mutator's, and holds no slot
  pub mutator : me ≡ (Mut (mutator_of me.0), [])
  pub fair : IsFairView (mutator_of me.0)
  pub number_is : number ≡ (mutator_of me.0).gate.number
  pub entries_are : entries ≡ (mutator_of me.0).journal.entries
  pub reserved : length entries + spare ≤ capacity
  pub spare_is : spare + charge_spent (mutator_of me.0) ≡ whole_charge (mutator_of me.0).terms.sizes (mutator_of me.0).gate.number
  pub room_is : room + objects_made (mutator_of me.0) ≡ whole_region (mutator_of me.0).terms.sizes (mutator_of me.0).gate.number

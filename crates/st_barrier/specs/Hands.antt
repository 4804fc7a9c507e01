-- What stands between the steps of one heap call.
use Rattle.std.specs.Prelude.{◌≡◌, ℕ, true, List, Some, None}
use Rattle.st_layout.specs.Layout.{word_of}
use Rattle.st_layout.specs.Names.{EpochWord}
use Rattle.st_events.specs.declared.events.Event.{Event}
use Rattle.st_events.specs.Heap.{Heap}
use Rattle.st_rule.specs.declared.views.Flight.{Flight}
use Rattle.st_rule.specs.declared.views.LoadedField.{LoadedField}
use Rattle.st_rule.specs.Board.{plan_of}
use Rattle.st_rule.specs.Draws.{HasInHand, left_in_flight}
use Rattle.st_rule.specs.Holding.{word_loaded}
use Rattle.st_rule.specs.SeatValue.{SeatValue}

-- nothing was drawn: the seat has its number, its phase, its list and its entries
pub record StaysAs (before after : SeatValue) : Type 0 where
  pub table : after.table ≡ before.table
  pub id : after.id ≡ before.id
  pub terms : after.view.terms ≡ before.view.terms
  pub gate : after.view.gate ≡ before.view.gate
  pub journal : after.view.journal ≡ before.view.journal
  pub hands : after.view.hands ≡ before.view.hands

-- the seat holds the object with nothing in flight, and these of its fields were loaded
abbrev pub HasLoadedFields : (obj stamp : ℕ) → List LoadedField → SeatValue → Type 0
HasLoadedFields obj stamp loaded seat = seat.view.held ≡ Some (record { object = obj; stamp = stamp; loaded = loaded; flight = None })

-- the same, whatever was loaded
pub record HoldsQuietly (obj stamp : ℕ) (seat : SeatValue) : Type 0 where
  pub loaded : List LoadedField
  pub held : HasLoadedFields obj stamp loaded seat

-- the epoch was loaded since the seat went inside
abbrev pub HasEpoch : ℕ → SeatValue → Type 0
HasEpoch epoch seat = word_loaded seat.view.board.loaded (word_of (plan_of seat.view.terms.sizes) EpochWord) ≡ Some epoch

-- what a seat knows of the epoch it knows still
abbrev pub KeepsEpoch : (before after : SeatValue) → Type 0
KeepsEpoch before after = (epoch : ℕ) → HasEpoch epoch before → HasEpoch epoch after

-- of what the seat has in flight the word is written: only the object is left to give back
pub record OwesHeader (obj : ℕ) (seat : SeatValue) : Type 0 where
  pub has : HasInHand seat.view obj
  pub flight : Flight
  pub flies : has.hand.flight ≡ Some flight
  pub written : flight.written ≡ true

-- the event leaves nothing in flight
abbrev pub IsPlain : Event → Type 0
IsPlain event = (heap : Heap) (lanes : List ℕ) (index : ℕ) → left_in_flight heap lanes index event ≡ None

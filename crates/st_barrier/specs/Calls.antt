-- What a heap call asks of the seat, and what it makes of it: one event, at its ticket.
use Rattle.std.specs.Prelude.{◌≡◌, ℕ, ◌+◌, ◌<◌, ◌≤◌, Bool, true, List, [], ◌∷◌, ◌++◌, length, Some, IsSome}
use mathlib.Core.List.{IsPrefix}
use Rattle.st_events.specs.declared.events.Event.{Event}
use Rattle.st_events.specs.declared.events.Event.TheVariants.{Load, Cas}
use Rattle.st_events.specs.Heap.{Heap, word_at}
use Rattle.st_events.specs.History.{heap_after}
use Rattle.st_events.specs.Legal.{IsLegal, fits_cell, is_word}
use Rattle.st_rule.specs.Draws.{heap_seen}
use Rattle.st_rule.specs.Entries.{charge_spent}
use Rattle.st_rule.specs.SeatValue.{SeatValue}

-- the seat is a mutator's, and one of its charge is left
pub record MayCall (seat : SeatValue) : Type 0 where
  pub mutator : seat.view.gate.number < seat.view.terms.sizes.mutators
  pub spare : charge_spent seat.view + 1 ≤ seat.view.terms.sizes.events

-- in the heap that the seat has seen, the cell exists
abbrev pub HasCell : SeatValue → (obj field : ℕ) → Type 0
HasCell seat obj field = IsSome (word_at (heap_seen seat.view) obj field)

-- and the word has its kind
abbrev pub FitsCell : SeatValue → (obj field word : ℕ) → Type 0
FitsCell seat obj field word = fits_cell seat.view.terms.shape (heap_seen seat.view) obj field word ≡ true

-- the call makes this event. The list `past` goes on from what the seat had seen, and the event's ticket is its length; the seat has then seen this list
-- and the event, which are legal, and the event is one more of its own. Its number, its terms, its phase and the seats that it joined stay
pub record MakesEvent (event : Event) (before after : SeatValue) : Type 0 where
  pub past : List Event
  pub goes_on : IsPrefix before.view.journal.seen past
  pub seen : after.view.journal.seen ≡ past ++ event ∷ []
  pub legal : IsLegal after.view.terms.shape after.view.terms.sizes (past ++ event ∷ [])
  pub entries : after.view.journal.entries ≡ before.view.journal.entries ++ record { ticket = length past; event = event } ∷ []
  pub spare : charge_spent after.view ≡ charge_spent before.view + 1
  pub terms : after.view.terms ≡ before.view.terms
  pub gate : after.view.gate ≡ before.view.gate
  pub hands : after.view.hands ≡ before.view.hands
  pub table : after.table ≡ before.table
  pub id : after.id ≡ before.id

-- the heap just before the event
abbrev pub heap_before : {event : Event} {before after : SeatValue} → MakesEvent event before after → Heap
heap_before {event} {before} {after} made = heap_after after.view.terms.shape after.view.terms.sizes made.past

-- the call is a Load of the cell, and the value is its word just before
pub record Loads (obj field value : ℕ) (before after : SeatValue) : Type 0 where
  pub made : MakesEvent (Load before.view.gate.number obj field value) before after
  pub word : word_at (heap_before made) obj field ≡ Some value

-- the call is a Cas of the cell, done exactly where its word just before was the expected one
pub record Compares (obj field expect value : ℕ) (done : Bool) (before after : SeatValue) : Type 0 where
  pub made : MakesEvent (Cas before.view.gate.number obj field expect value done) before after
  pub answer : done ≡ is_word (word_at (heap_before made) obj field) expect

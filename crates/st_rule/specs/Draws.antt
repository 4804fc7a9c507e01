-- Which events a seat may draw, by its own view, and what a draw makes of the view.
use Rattle.std.specs.Prelude.{◌≡◌, ℕ, ◌+◌, ◌<◌, ◌≤◌, ◌⊎◌, ◌==◌, Bool, true, false, if◌then◌else◌, List, [], ◌∷◌, ◌++◌, length, Option, Some}
use Rattle.std.specs.Prelude.{None, IsSome}
use Rattle.st_layout.specs.Packed.{high_half, low_half}
use Rattle.st_events.specs.declared.events.Event.{Event}
use Rattle.st_events.specs.declared.events.Event.TheVariants.{New, Load, Store, Cas, Launch, Retire}
use Rattle.st_events.specs.Heap.{Heap, word_at}
use Rattle.st_events.specs.History.{heap_after}
use Rattle.st_events.specs.Legal.{fits_cell}
use Rattle.st_rule.specs.declared.views.Flight.{Flight}
use Rattle.st_rule.specs.declared.views.Held.{Held}
use Rattle.st_rule.specs.declared.views.MutView.{MutView}
use Rattle.st_rule.specs.declared.views.Phase.TheVariants.{Inside, Alone}
use Rattle.st_rule.specs.Entries.{charge_of, charge_spent, objects_made, next_of}
use Rattle.st_layout.specs.Layout.{word_of, words_of}
use Rattle.st_layout.specs.Names.{WordName, EpochWord, HasWord}
use Rattle.st_rule.specs.Board.{plan_of, stays_loaded}
use Rattle.st_rule.specs.Holding.{field_loaded, word_loaded, word_or_zero, IsSetting, IsMaking}
use Rattle.st_rule.specs.Needs.{KnowsNeed, needing_lanes, is_change, takes_copy, index_for}
use Rattle.st_rule.specs.Turns.{counted_with}

-- the heap as far as the view has seen it
abbrev pub heap_seen : MutView → Heap
heap_seen v = heap_after v.terms.shape v.terms.sizes v.journal.seen

-- the object is the next one of the seat's region
pub record IsNextOf (v : MutView) (object : ℕ) : Type 0 where
  pub object_is : object ≡ next_of v
  pub room : objects_made v < v.terms.sizes.objects
  pub mutator : v.gate.number < v.terms.sizes.mutators

-- a New of the next object of the seat's region, of a declared class
pub record MayNew (v : MutView) (obj class : ℕ) : Type 0 where
  pub next : IsNextOf v obj
  pub some_class : 1 ≤ class
  pub declared : class < length v.terms.shape.classes

-- a Load of a cell that exists, with the word that was loaded since the object was locked
pub record MayLoad (v : MutView) (h : Held) (field value : ℕ) : Type 0 where
  pub cell : IsSome (word_at (heap_seen v) h.object field)
  pub loaded : field_loaded h.loaded field ≡ Some value

-- a Store to a cell that exists, of a value of its kind
pub record MayStore (v : MutView) (h : Held) (field value : ℕ) : Type 0 where
  pub cell : IsSome (word_at (heap_seen v) h.object field)
  pub kind : fits_cell v.terms.shape (heap_seen v) h.object field value ≡ true

-- a Cas of such a cell, of two such values, done where the word that was loaded is the expected one
pub record MayCas (v : MutView) (h : Held) (field expect value : ℕ) (done : Bool) : Type 0 where
  pub cell : IsSome (word_at (heap_seen v) h.object field)
  pub expected : fits_cell v.terms.shape (heap_seen v) h.object field expect ≡ true
  pub kind : fits_cell v.terms.shape (heap_seen v) h.object field value ≡ true
  pub found : ℕ
  pub loaded : field_loaded h.loaded field ≡ Some found
  pub answer : done ≡ (found == expect)

-- what is asked of each kind of event; a Launch and a Retire are drawn by who is alone
abbrev pub Suits : MutView → Held → Event → Type 0
Suits v h (New m obj class) = (m ≡ v.gate.number) × (obj ≡ h.object) × MayNew v obj class
Suits v h (Load m obj field value) = (m ≡ v.gate.number) × (obj ≡ h.object) × MayLoad v h field value
Suits v h (Store m obj field value) = (m ≡ v.gate.number) × (obj ≡ h.object) × MayStore v h field value
Suits v h (Cas m obj field expect value done) = (m ≡ v.gate.number) × (obj ≡ h.object) × MayCas v h field expect value done
Suits v h (Launch m site number args) = ⊥
Suits v h (Retire m number) = ⊥

-- the object exists, or is the next one of the seat's region
abbrev pub MayLock : MutView → ℕ → Type 0
MayLock v object = IsSome (heap_seen v object) ⊎ IsNextOf v object

-- the seat holds the object
pub record HasInHand (v : MutView) (object : ℕ) : Type 0 where
  pub hand : Held
  pub held : v.held ≡ Some hand
  pub object_is : object ≡ hand.object

-- a holder gives the header the stamp that it found there; or where it drew a change or a New, of which it wrote the word, the epoch that it loaded
pub record MayUnlock (v : MutView) (object stamp : ℕ) : Type 0 where
  pub has : HasInHand v object
  pub found : has.hand.flight ≡ None → stamp ≡ has.hand.stamp
  pub written : (x : Flight) → has.hand.flight ≡ Some x → x.written ≡ true
  pub epoch : (x : Flight) → has.hand.flight ≡ Some x → word_loaded v.board.loaded (word_of (plan_of v.terms.sizes) EpochWord) ≡ Some stamp

-- a holder may write the field that its change in flight sets, once each lane that needs the old version was forwarded
pub record AwaitsField (v : MutView) (object field value : ℕ) : Type 0 where
  pub has : HasInHand v object
  pub flight : Flight
  pub flies : has.hand.flight ≡ Some flight
  pub sets : IsSetting flight.event field value
  pub forwarded : flight.awaiting ≡ []

-- a holder may write the class of the object that its New in flight makes
pub record AwaitsClass (v : MutView) (object class : ℕ) : Type 0 where
  pub has : HasInHand v object
  pub flight : Flight
  pub flies : has.hand.flight ≡ Some flight
  pub making : IsMaking flight.event class
  pub forwarded : flight.awaiting ≡ []

-- a seat that is inside may load the board's words, and one that is alone each word of the table
pub record MayLoadBoard (v : MutView) (word : ℕ) : Type 0 where
  pub within : word < words_of (plan_of v.terms.sizes)
  pub allowed :
      ((v.gate.phase ≡ Inside) × (name : WordName) × HasWord (plan_of v.terms.sizes) name × (stays_loaded Inside name ≡ true) × (word ≡ word_of (plan_of v.terms.sizes) name))
      ⊎ (v.gate.phase ≡ Alone)

-- a mutator that is inside and holds the object, with nothing in flight and enough charge left, may draw the event. With a change it draws a
-- copy's index too, exactly where some lane needs the old version, of which it knows
pub record MayDraw (v : MutView) (event : Event) (copy : Bool) : Type 0 where
  pub inside : v.gate.phase ≡ Inside
  pub mutator : v.gate.number < v.terms.sizes.mutators
  pub charge : charge_spent v + charge_of event ≤ v.terms.sizes.events
  pub hand : Held
  pub held : v.held ≡ Some hand
  pub quiet : hand.flight ≡ None
  pub suits : Suits v hand event
  pub known : is_change event ≡ true → KnowsNeed v hand
  pub copied : copy ≡ takes_copy event (needing_lanes v hand)

-- a change just drawn, which takes the place of this word: these lanes await its old version, and of the copy nothing is written
abbrev pub fresh_change : Event → (old : ℕ) → List ℕ → (index : ℕ) → Flight
fresh_change event old lanes index =
    record { event = event; old = old; written = false; awaiting = lanes; index = index_for lanes index; built = 0 }

-- a New just drawn
abbrev pub fresh_new : Event → Flight
fresh_new event = record { event = event; old = 0; written = false; awaiting = []; index = None; built = 0 }

-- what a draw leaves in flight, where the heap was this one, these lanes need the old version, and this was the copy part of the clock: a change,
-- and the word that it takes the place of, or a New
abbrev pub left_in_flight : Heap → List ℕ → ℕ → Event → Option Flight
left_in_flight heap lanes index (New m obj class) = Some (fresh_new (New m obj class))
left_in_flight heap lanes index (Load m obj field value) = None
left_in_flight heap lanes index (Store m obj field value) = Some (fresh_change (Store m obj field value) (word_or_zero heap obj field) lanes index)
left_in_flight heap lanes index (Cas m obj field expect value done) =
    if done then Some (fresh_change (Cas m obj field expect value done) (word_or_zero heap obj field) lanes index) else None
left_in_flight heap lanes index (Launch m site number args) = None
left_in_flight heap lanes index (Retire m number) = None

-- the hand with what the draw leaves in flight
abbrev pub drawn_hand : MutView → Heap → ℕ → Event → Option Held → Option Held
drawn_hand v heap index event None = None
drawn_hand v heap index event (Some h) = Some (record h { flight = left_in_flight heap (needing_lanes v h) index event })

-- draw: where the clock had this word, and these were the events before, the view has seen them and the new one, which is one more of its own
abbrev pub drew : Event → ℕ → List Event → MutView → MutView
drew event word before v = record v {
  tally = counted_with word v.tally;
  journal = record { seen = before ++ event ∷ []; entries = v.journal.entries ++ record { ticket = high_half word; event = event } ∷ [] };
  held = drawn_hand v (heap_after v.terms.shape v.terms.sizes before) (low_half word) event v.held;
}

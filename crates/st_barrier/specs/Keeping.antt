-- What stands between the steps of a change that may keep an old version.
use Rattle.std.specs.Prelude.{◌≡◌, ◌≢◌, ℕ, zero, suc, ◌+◌, ◌<◌, ◌≤◌, ◌⊎◌, nat_lt, true, false, if◌then◌else◌, List, [], ◌∷◌, Option, Some, None, slice_index}
use Rattle.st_layout.specs.declared.limits.TheConstants.{MOST_FIELDS}
use Rattle.st_layout.specs.Layout.{word_of}
use Rattle.st_layout.specs.Names.{WordName, AvailableWord, LaneWord, FreeWord}
use Rattle.st_events.specs.declared.events.Event.{Event}
use Rattle.st_events.specs.declared.events.Event.TheVariants.{Store, Cas}
use Rattle.st_rule.specs.declared.forwards.TheConstants.{LOST}
use Rattle.st_rule.specs.declared.views.Flight.{Flight}
use Rattle.st_rule.specs.declared.views.Held.{Held}
use Rattle.st_rule.specs.declared.views.LoadedField.{LoadedField}
use Rattle.st_rule.specs.declared.views.Phase.TheVariants.{Inside}
use Rattle.st_rule.specs.Board.{plan_of}
use Rattle.st_rule.specs.Draws.{Suits}
use Rattle.st_rule.specs.Entries.{charge_of, charge_spent}
use Rattle.st_rule.specs.Holding.{IsSetting, field_loaded, word_loaded}
use Rattle.st_rule.specs.Needs.{KnowsNeed, needing_lanes}
use Rattle.st_rule.specs.SeatValue.{SeatValue}
use Rattle.st_barrier.specs.Hands.{StaysAs, HasEpoch}

-- a hand with nothing in flight
abbrev pub quiet_hand : (obj stamp : ℕ) → List LoadedField → Held
quiet_hand obj stamp loaded = record { object = obj; stamp = stamp; loaded = loaded; flight = None }

-- the word was loaded of this field, where one is told
abbrev pub HasFound : List LoadedField → (field : ℕ) → Option ℕ → Type 0
HasFound loaded field found = (word : ℕ) → found ≡ Some word → field_loaded loaded field ≡ Some word

-- the seat holds the object with nothing in flight; what is told of the field was loaded
pub record HoldsFound (obj stamp field : ℕ) (found : Option ℕ) (seat : SeatValue) : Type 0 where
  pub loaded : List LoadedField
  pub held : seat.view.held ≡ Some (quiet_hand obj stamp loaded)
  pub found_is : HasFound loaded field found

-- the event of a change: a Store where no word is told as found, and else the Cas that found it
abbrev pub event_of_change : (m obj field value : ℕ) → (found : Option ℕ) → Event
event_of_change m obj field value None = Store m obj field value
event_of_change m obj field value (Some found) = Cas m obj field found value true

-- the event is a change that the seat may draw once it knows which checks need the old version, whatever other fields it loads meanwhile
pub record MayChange (event : Event) (obj stamp field value : ℕ) (found : Option ℕ) (seat : SeatValue) : Type 0 where
  pub inside : seat.view.gate.phase ≡ Inside
  pub mutator : seat.view.gate.number < seat.view.terms.sizes.mutators
  pub charge : charge_spent seat.view + charge_of event ≤ seat.view.terms.sizes.events
  pub sets : IsSetting event field value
  pub suits : (loaded : List LoadedField) → HasFound loaded field found → Suits seat.view (quiet_hand obj stamp loaded) event

-- what was loaded of a word of the board
abbrev pub HasLoadedWord : WordName → ℕ → SeatValue → Type 0
HasLoadedWord name word seat = word_loaded seat.view.board.loaded (word_of (plan_of seat.view.terms.sizes) name) ≡ Some word

-- one word more of the board was loaded, and nothing else changed
pub record LoadsPlace (place word : ℕ) (before after : SeatValue) : Type 0 where
  pub stays : StaysAs before after
  pub held : after.view.held ≡ before.view.held
  pub board : after.view.board.loaded ≡ record { word = place; value = word } ∷ before.view.board.loaded

-- a word of the board was loaded, and what was loaded of the others is known still
pub record LoadsWord (name : WordName) (word : ℕ) (before after : SeatValue) : Type 0 where
  pub stays : StaysAs before after
  pub held : after.view.held ≡ before.view.held
  pub loaded : HasLoadedWord name word after
  pub others : (place : ℕ) → place ≢ word_of (plan_of before.view.terms.sizes) name
      → word_loaded after.view.board.loaded place ≡ word_loaded before.view.board.loaded place

-- the check of a lane, where it needs a version of this stamp, and else 0
abbrev pub need_of : (stamp check : ℕ) → ℕ
need_of stamp check = if nat_lt stamp check then check else 0

-- a lane was loaded, and this is its need
pub record LoadsNeed (stamp need lane : ℕ) (before after : SeatValue) : Type 0 where
  pub check : ℕ
  pub loads : LoadsWord (LaneWord lane) check before after
  pub need_is : need ≡ need_of stamp check

-- the lanes below the count that need it, by the checks of the lanes, the last lane first
abbrev pub lanes_in : List ℕ → (count : ℕ) → List ℕ
lanes_in checks zero = []
lanes_in checks (suc lane) = if nat_lt 0 (slice_index checks lane) then lane ∷ lanes_in checks lane else lanes_in checks lane

-- the lane was loaded, and this is its need
pub record HasNeed (stamp need lane : ℕ) (seat : SeatValue) : Type 0 where
  pub check : ℕ
  pub loaded : HasLoadedWord (LaneWord lane) check seat
  pub need_is : need ≡ need_of stamp check

-- what a seat knows of the lanes it knows still
abbrev pub KeepsLanes : (before after : SeatValue) → Type 0
KeepsLanes before after =
    (lane word : ℕ) → lane < before.view.terms.sizes.lanes → HasLoadedWord (LaneWord lane) word before → HasLoadedWord (LaneWord lane) word after

-- the seat knows which checks need the version with this stamp
pub record KnowsChecks (stamp : ℕ) (checks : List ℕ) (seat : SeatValue) : Type 0 where
  pub lanes : (h : Held) → h.stamp ≡ stamp → needing_lanes seat.view h ≡ lanes_in checks seat.view.terms.sizes.lanes
  pub known : (h : Held) → h.stamp ≡ stamp → KnowsNeed seat.view h
  pub loaded : (lane : ℕ) → lane < seat.view.terms.sizes.lanes → 0 < slice_index checks lane → HasLoadedWord (LaneWord lane) (slice_index checks lane) seat

-- the seat knows that no check needs the version with this stamp
pub record KnowsNoNeed (stamp : ℕ) (seat : SeatValue) : Type 0 where
  pub none : (h : Held) → h.stamp ≡ stamp → needing_lanes seat.view h ≡ []
  pub known : (h : Held) → h.stamp ≡ stamp → KnowsNeed seat.view h

-- by the epoch that the seat loaded, some check was launched after the stamp
pub record HasLaunchSince (stamp : ℕ) (seat : SeatValue) : Type 0 where
  pub epoch : ℕ
  pub loaded : HasEpoch epoch seat
  pub above : stamp < epoch

-- the fields of the held object, as they were loaded
abbrev pub HasFields : List ℕ → (count : ℕ) → List LoadedField → Type 0
HasFields fields count loaded = (f : ℕ) → f < count → field_loaded loaded f ≡ Some (slice_index fields f)

-- the seat holds the object with nothing in flight, and the first so many of its fields were loaded
pub record HoldsFields (obj stamp field : ℕ) (found : Option ℕ) (fields : List ℕ) (count : ℕ) (seat : SeatValue) : Type 0 where
  pub loaded : List LoadedField
  pub held : seat.view.held ≡ Some (quiet_hand obj stamp loaded)
  pub found_is : HasFound loaded field found
  pub fields_are : HasFields fields count loaded

-- one field more is loaded, and the others are known still
pub record LoadsField (obj stamp field : ℕ) (found : Option ℕ) (place word : ℕ) (loaded : List LoadedField) (after : SeatValue) : Type 0 where
  pub more : List LoadedField
  pub held : after.view.held ≡ Some (quiet_hand obj stamp more)
  pub found_is : HasFound more field found
  pub here : field_loaded more place ≡ Some word
  pub others : (f : ℕ) → f ≢ place → field_loaded more f ≡ field_loaded loaded f

-- the lanes that await the old version
abbrev pub awaiting_in : Option Flight → List ℕ
awaiting_in None = []
awaiting_in (Some x) = x.awaiting

-- the lanes that await the old version of what the hand has in flight
abbrev pub awaiting_of : Option Held → List ℕ
awaiting_of None = []
awaiting_of (Some h) = awaiting_in h.flight

-- a change that is drawn and not written, with this index of the free list; so many words of the copy stand
pub record Flies (obj field value index : ℕ) (fields : List ℕ) (built : ℕ) (seat : SeatValue) : Type 0 where
  pub hand : Held
  pub flight : Flight
  pub held : seat.view.held ≡ Some hand
  pub object_is : obj ≡ hand.object
  pub flies : hand.flight ≡ Some flight
  pub sets : IsSetting flight.event field value
  pub unwritten : flight.written ≡ false
  pub index_is : flight.index ≡ Some index
  pub built_is : flight.built ≡ built
  pub fields_are : HasFields fields MOST_FIELDS hand.loaded

-- what word k of the copy is: the object's number, then its fields
abbrev pub IsWord : (obj : ℕ) → List ℕ → (k value : ℕ) → Type 0
IsWord obj fields zero value = value ≡ obj
IsWord obj fields (suc f) value = value ≡ slice_index fields f

-- the index reached a free copy
pub record NamesCopy (index copy : ℕ) (seat : SeatValue) : Type 0 where
  pub available : ℕ
  pub loaded : HasLoadedWord AvailableWord available seat
  pub below : index < available
  pub named : HasLoadedWord (FreeWord index) copy seat
  pub within : copy < seat.view.terms.sizes.copies

-- it reached none
pub record NamesNone (index : ℕ) (seat : SeatValue) : Type 0 where
  pub available : ℕ
  pub loaded : HasLoadedWord AvailableWord available seat
  pub beyond : available ≤ index

-- what the forwarding words say below the check: the copy, all of whose words stand, or that none was free
abbrev pub IsTargeted : (index target built : ℕ) → SeatValue → Type 0
IsTargeted index target built seat =
    ((copy : ℕ) × NamesCopy index copy seat × (MOST_FIELDS < built) × (target ≡ copy + 1)) ⊎ (NamesNone index seat × (target ≡ LOST))

-- a change that is drawn and not written, whose old version is kept, or lost: the forwarding words are to say this target
pub record IsKept (obj field value target : ℕ) (seat : SeatValue) : Type 0 where
  pub hand : Held
  pub flight : Flight
  pub held : seat.view.held ≡ Some hand
  pub object_is : obj ≡ hand.object
  pub flies : hand.flight ≡ Some flight
  pub sets : IsSetting flight.event field value
  pub index : ℕ
  pub index_is : flight.index ≡ Some index
  pub targeted : IsTargeted index target flight.built seat

-- the checks of the lanes were loaded
abbrev pub AreKnown : List ℕ → SeatValue → Type 0
AreKnown checks seat =
    (lane : ℕ) → lane < seat.view.terms.sizes.lanes → 0 < slice_index checks lane → HasLoadedWord (LaneWord lane) (slice_index checks lane) seat

-- nothing was loaded of the board, and nothing drawn
pub record KeepsBoard (before after : SeatValue) : Type 0 where
  pub stays : StaysAs before after
  pub board : after.view.board ≡ before.view.board

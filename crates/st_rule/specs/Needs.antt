-- Which lanes need the old version of a held object, by what its holder has loaded of the board, and what the holder has in hand of a copy.
use Rattle.std.specs.Prelude.{◌≡◌, ℕ, zero, suc, ◌+◌, ◌<◌, ◌≤◌, ◌⊎◌, Bool, true, false, nat_lt, nat_le, if◌then◌else◌, List, [], ◌∷◌, Option, Some, None}
use Rattle.std.specs.Prelude.{unwrap_or, IsSome}
use Rattle.st_layout.specs.declared.limits.TheConstants.{MOST_FIELDS}
use Rattle.st_layout.specs.declared.plans.Plan.{Plan}
use Rattle.st_layout.specs.Layout.{word_of}
use Rattle.st_layout.specs.Names.{EpochWord, AvailableWord, LaneWord, FreeWord}
use Rattle.st_layout.specs.Packed.{packed}
use Rattle.st_events.specs.declared.events.Event.{Event}
use Rattle.st_events.specs.declared.events.Event.TheVariants.{New, Load, Store, Cas, Launch, Retire}
use Rattle.st_events.specs.World.{is_among}
use Rattle.st_rule.specs.declared.forwards.TheConstants.{LOST}
use Rattle.st_rule.specs.declared.views.Flight.{Flight}
use Rattle.st_rule.specs.declared.views.Held.{Held}
use Rattle.st_rule.specs.declared.views.LoadedWord.{LoadedWord}
use Rattle.st_rule.specs.declared.views.MutView.{MutView}
use Rattle.st_rule.specs.Board.{plan_of}
use Rattle.st_rule.specs.Holding.{word_loaded, field_loaded}

-- the check that has a lane, as it was loaded; 0 where it was not loaded, or no check has the lane
abbrev pub lane_loaded : Plan → List LoadedWord → ℕ → ℕ
lane_loaded plan loaded lane = unwrap_or (word_loaded loaded (word_of plan (LaneWord lane))) 0

-- the lanes below a count whose check was launched after this stamp
abbrev pub lanes_above : Plan → List LoadedWord → (stamp count : ℕ) → List ℕ
lanes_above plan loaded stamp zero = []
lanes_above plan loaded stamp (suc lane) =
    if nat_lt stamp (lane_loaded plan loaded lane) then lane ∷ lanes_above plan loaded stamp lane else lanes_above plan loaded stamp lane

-- whether a word was loaded, and is at most this
abbrev pub is_at_most : Option ℕ → ℕ → Bool
is_at_most None most = false
is_at_most (Some word) most = nat_le word most

-- whether the seat has loaded an epoch that is not above the stamp that it found: then no check was launched since, and none needs the old version
abbrev pub knows_none : MutView → Held → Bool
knows_none v h = is_at_most (word_loaded v.board.loaded (word_of (plan_of v.terms.sizes) EpochWord)) h.stamp

-- the lanes whose checks need the old version of what the hand holds
abbrev pub needing_lanes : MutView → Held → List ℕ
needing_lanes v h = if knows_none v h then [] else lanes_above (plan_of v.terms.sizes) v.board.loaded h.stamp v.terms.sizes.lanes

-- the seat knows which lanes those are: it has loaded every lane word, or such an epoch
abbrev pub KnowsNeed : MutView → Held → Type 0
KnowsNeed v h =
    ((lane : ℕ) → lane < v.terms.sizes.lanes → IsSome (word_loaded v.board.loaded (word_of (plan_of v.terms.sizes) (LaneWord lane))))
    ⊎ (knows_none v h ≡ true)

-- whether an event changes a field
abbrev pub is_change : Event → Bool
is_change (New m obj class) = false
is_change (Load m obj field value) = false
is_change (Store m obj field value) = true
is_change (Cas m obj field expect value done) = done
is_change (Launch m site number args) = false
is_change (Retire m number) = false

-- whether there is any
abbrev pub is_any : List ℕ → Bool
is_any [] = false
is_any (n ∷ ns) = true

-- whether a draw of this event takes a copy's index: it changes a field, and some lane needs the old version
abbrev pub takes_copy : Event → List ℕ → Bool
takes_copy e lanes = if is_change e then is_any lanes else false

-- the copies that a draw takes
abbrev pub copies_of : Bool → ℕ
copies_of copy = if copy then 1 else 0

-- the drawn index, where one is drawn
abbrev pub index_for : List ℕ → ℕ → Option ℕ
index_for [] index = None
index_for (n ∷ ns) index = Some index

-- what the holder has in flight
pub record HasFlight (v : MutView) : Type 0 where
  pub hand : Held
  pub held : v.held ≡ Some hand
  pub flight : Flight
  pub flies : hand.flight ≡ Some flight

-- the drawn index reached a free copy: it is below the loaded length of the free list, and the list names this copy there
pub record HasFreeCopy (v : MutView) (flight : Flight) (copy : ℕ) : Type 0 where
  pub index : ℕ
  pub drawn : flight.index ≡ Some index
  pub available : ℕ
  pub loaded : word_loaded v.board.loaded (word_of (plan_of v.terms.sizes) AvailableWord) ≡ Some available
  pub below : index < available
  pub named : word_loaded v.board.loaded (word_of (plan_of v.terms.sizes) (FreeWord index)) ≡ Some copy

-- the drawn index reached none
pub record HasNoCopy (v : MutView) (flight : Flight) : Type 0 where
  pub index : ℕ
  pub drawn : flight.index ≡ Some index
  pub available : ℕ
  pub loaded : word_loaded v.board.loaded (word_of (plan_of v.terms.sizes) AvailableWord) ≡ Some available
  pub beyond : available ≤ index

-- what word k of the copy of the held object is, as the holder loaded it: the object's number, then its fields
abbrev pub IsVersionWord : Held → (k value : ℕ) → Type 0
IsVersionWord h zero value = value ≡ h.object
IsVersionWord h (suc f) value = field_loaded h.loaded f ≡ Some value

-- a holder may write the next word of the copy that it drew, while the field is not written
pub record AwaitsCopyWord (v : MutView) (copy k value : ℕ) : Type 0 where
  pub has : HasFlight v
  pub free : HasFreeCopy v has.flight copy
  pub unwritten : has.flight.written ≡ false
  pub next : k ≡ has.flight.built
  pub within : k ≤ MOST_FIELDS
  pub copy_within : copy < v.terms.sizes.copies
  pub word : IsVersionWord has.hand k value

-- the copy is complete, and the word names it for this check; or no copy is free, and the word says so
abbrev pub IsTarget : (v : MutView) (flight : Flight) (check word : ℕ) → Type 0
IsTarget v flight check word =
    ((copy : ℕ) × HasFreeCopy v flight copy × (MOST_FIELDS < flight.built) × (word ≡ packed check (copy + 1)))
    ⊎ (HasNoCopy v flight × (word ≡ packed check LOST))

-- a holder may write the forwarding word of a lane that awaits it
pub record AwaitsForward (v : MutView) (object lane word : ℕ) : Type 0 where
  pub has : HasFlight v
  pub object_is : object ≡ has.hand.object
  pub within : lane < v.terms.sizes.lanes
  pub awaits : is_among has.flight.awaiting lane ≡ true
  pub check : ℕ
  pub loaded : word_loaded v.board.loaded (word_of (plan_of v.terms.sizes) (LaneWord lane)) ≡ Some check
  pub target : IsTarget v has.flight check word

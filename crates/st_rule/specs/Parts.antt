-- The parts of the rule that stand so far, each over what it speaks of alone. What the events say, they take as the world after the journal.
use Rattle.std.specs.Prelude.{◌≡◌, ◌≢◌, ℕ, suc, ◌+◌, ◌<◌, ◌≤◌, ◌⊎◌, true, List, [], length, Option, Some, None, IsSome, All}
use mathlib.Core.Logic.{◌↔◌}
use mathlib.Core.List.{IsPrefix}
use mathlib.Core.Option.{some}
use lib.ListN.{get_elem?}
use Rattle.st_layout.specs.declared.plans.Plan.{Plan}
use Rattle.st_layout.specs.Layout.{word_of}
use Rattle.st_layout.specs.Names.{WordName, HasWord}
use Rattle.st_layout.specs.Packed.{packed, high_half, low_half}
use Rattle.st_events.specs.declared.events.Event.{Event}
use Rattle.st_events.specs.declared.limits.Sizes.{Sizes}
use Rattle.st_events.specs.Legal.{IsLegal}
use Rattle.st_events.specs.World.{World, world_after, is_among}
use Rattle.st_rule.specs.declared.views.Flight.{Flight}
use Rattle.st_rule.specs.declared.views.Held.{Held}
use Rattle.st_rule.specs.declared.views.JoinedView.{JoinedView}
use Rattle.st_rule.specs.declared.views.Phase.{Phase}
use Rattle.st_rule.specs.declared.views.Phase.TheVariants.{Outside, Inside, Alone}
use Rattle.st_rule.specs.declared.views.Terms.{Terms}
use Rattle.st_rule.specs.declared.views.MutView.{MutView}
use Rattle.st_rule.specs.declared.views.View.{View}
use Rattle.st_rule.specs.declared.views.View.TheVariants.{Mut, Gone}
use Rattle.st_rule.specs.Board.{Board, stays_loaded}
use Rattle.st_rule.specs.Entries.{own_entries, charge_of_all, charge_below}
use Rattle.st_rule.specs.Holding.{Holds, IsNext, HasLanded, holding, flight_of, shown_stamp, shown_class, shown_field, field_loaded, word_loaded}
use Rattle.st_rule.specs.Holding.{word_or_zero, class_or_zero}
use Rattle.st_rule.specs.Views.{seen_by, flag_of, is_closer}

-- the seat of this number is there, and knows this
abbrev pub Sits : List View → ℕ → View → Type 0
Sits views id view = get_elem? views id ≡ some view

-- the journal part
pub record JournalPart (terms : Terms) (journal : List Event) (clock split : ℕ) (views : List View) : Type 0 where
  -- the journal is legal
  pub legal : IsLegal terms.shape terms.sizes journal
  -- what each view has seen is a prefix of it
  pub prefixes : (id : ℕ) (view : View) → Sits views id view → IsPrefix (seen_by view) journal
  -- some mutator's view has seen it whole, so it is the longest
  pub seen_whole : (id : ℕ) × (v : MutView) × Sits views id (Mut v) × (v.journal.seen ≡ journal)
  -- the clock's ticket part is its length
  pub tickets : high_half clock ≡ length journal
  -- and the copy part is at most that
  pub copies_drawn : low_half clock ≤ length journal
  -- the entries of each mutator are its own events in the journal, with their tickets
  pub own : (id : ℕ) (v : MutView) → Sits views id (Mut v) → own_entries v.gate.number 0 journal ≡ v.journal.entries
  -- and it has seen all of them
  pub own_seen : (id : ℕ) (v : MutView) → Sits views id (Mut v) → own_entries v.gate.number 0 v.journal.seen ≡ v.journal.entries
  -- a mutator whose seat was not split off yet has none
  pub own_unsplit : (n : ℕ) → split ≤ n → n < terms.sizes.mutators → own_entries n 0 journal ≡ []
  -- no mutator's events cost more than its charge
  pub charged : (n : ℕ) → n < terms.sizes.mutators → charge_of_all (own_entries n 0 journal) ≤ terms.sizes.events
  -- and they paid for each event, and for the Retire of each active check
  pub paid : length journal + length (world_after terms.shape terms.sizes journal).active ≤ charge_below terms.sizes.mutators journal

-- the gate part; `phase` is the phase of each number, Outside where it has no view, and `seat` where its view is
pub record GatePart (mutators : ℕ) (flag : ℕ → ℕ) (closing : ℕ) (phase : ℕ → Phase) (seat : ℕ → ℕ) (split : ℕ) (journal : List Event) (views : List View) : Type 0 where
  -- a flag is 1 while its number is Entering or Inside, and 0 otherwise
  pub flags : (n : ℕ) → n ≤ mutators → flag n ≡ flag_of (phase n)
  -- the closing word is n + 1 exactly while number n is Closing or Alone
  pub closer : (n : ℕ) → n ≤ mutators → (is_closer (phase n) ≡ true) ↔ (closing ≡ n + 1)
  -- and else it is 0
  pub nobody_closes : (closing ≡ 0) ⊎ ((n : ℕ) × (n ≤ mutators) × (closing ≡ n + 1))
  -- no number that the closer has seen clear is Inside
  pub clear : (id : ℕ) (v : MutView) → Sits views id (Mut v) → is_closer v.gate.phase ≡ true → (n : ℕ) → is_among v.gate.clear n ≡ true → phase n ≢ Inside
  -- an Alone view has seen every other number clear
  pub alone_saw_all :
      (id : ℕ) (v : MutView) → Sits views id (Mut v)
      → v.gate.phase ≡ Alone
      → (n : ℕ) → n ≤ mutators → n ≢ v.gate.number → is_among v.gate.clear n ≡ true
  -- the list that an Alone view has seen is the journal
  pub alone_saw_journal : (id : ℕ) (v : MutView) → Sits views id (Mut v) → v.gate.phase ≡ Alone → v.journal.seen ≡ journal
  -- no two mutators' views have one number
  pub one_view_each : (id : ℕ) (v : MutView) → Sits views id (Mut v) → seat v.gate.number ≡ id
  -- each number below the main thread's is one that its view has split off
  pub split_off : (id : ℕ) (v : MutView) → Sits views id (Mut v) → v.gate.number < mutators → v.gate.number < split

-- the board part, while nobody alone has a change of the board in flight
pub record BoardPart (sizes : Sizes) (world : World) (epoch : ℕ) (lane : ℕ → ℕ) : Type 0 where
  -- the epoch word counts the launches
  pub epoch_is : epoch ≡ world.epoch
  -- each active check has one lane, whose word is its number
  pub lanes : (n : ℕ) → is_among world.active n ≡ true → (l : ℕ) × (l < sizes.lanes) × (lane l ≡ n) × ((k : ℕ) → k < sizes.lanes → lane k ≡ n → k ≡ l)
  -- the word of each other lane is 0
  pub idle : (l : ℕ) → l < sizes.lanes → (lane l ≡ 0) ⊎ (is_among world.active (lane l) ≡ true)

-- what a view has loaded of such words is what they are
abbrev pub HasLoaded : Plan → Board → MutView → Type 0
HasLoaded plan board v =
    (name : WordName) → HasWord plan name
    → stays_loaded v.gate.phase name ≡ true
    → (word : ℕ) → word_loaded v.board.loaded (word_of plan name) ≡ Some word → board name ≡ word

-- the rest of the board part: what each view has loaded
pub record LoadedPart (plan : Plan) (board : Board) (views : List View) : Type 0 where
  pub loaded : (id : ℕ) (v : MutView) → Sits views id (Mut v) → HasLoaded plan board v

-- a change or a New in flight: it is the last event that changed or made the object, whose stamp is the epoch since
pub record IsFlying (world : World) (h : Held) (x : Flight) : Type 0 where
  pub epoch : world.stamp h.object ≡ world.epoch
  pub landed : HasLanded world.heap h.object x.event

-- the object part; `grip` is what each number holds, and `holder` the low half of each object's header: 0, or one more than who holds it
pub record ObjectPart (sizes : Sizes) (world : World) (phase : ℕ → Phase) (grip : ℕ → Option Held) (holder : ℕ → ℕ)
    (header class : ℕ → ℕ) (field forward : ℕ → ℕ → ℕ) : Type 0 where
  -- only a number that is Inside holds an object
  pub only_inside : (n object : ℕ) → Holds (grip n) object → phase n ≡ Inside
  -- a header names exactly its holder
  pub named : (n object : ℕ) → Holds (grip n) object ↔ (holder object ≡ suc n)
  -- and its stamp is the object's, or while it is held the one that it had at the lock
  pub headers : (object : ℕ) → header object ≡ packed (shown_stamp (holding grip (holder object)) (world.stamp object)) (holder object)
  -- where nothing is in flight that is the same
  pub stamps : (n : ℕ) (h : Held) → grip n ≡ Some h → h.flight ≡ None → h.stamp ≡ world.stamp h.object
  -- class and fields are the heap's, but for what is in flight
  pub classes : (object : ℕ) → class object ≡ shown_class (flight_of (holding grip (holder object))) (class_or_zero world.heap object)
  pub fields :
      (object f : ℕ)
      → field object f ≡ shown_field (flight_of (holding grip (holder object))) f (word_or_zero world.heap object f)
  pub flying : (n : ℕ) (h : Held) (x : Flight) → grip n ≡ Some h → h.flight ≡ Some x → IsFlying world h x
  -- what a holder has loaded is what the fields are
  pub loaded : (n : ℕ) (h : Held) → grip n ≡ Some h → (f word : ℕ) → field_loaded h.loaded f ≡ Some word → field h.object f ≡ word
  -- an object that is held exists, or is the next one of its holder's region
  pub stands : (n object : ℕ) → Holds (grip n) object → IsSome (world.heap object) ⊎ IsNext sizes world n object
  -- objects that were not made have no forwarding words
  pub unmade : (object lane : ℕ) → world.heap object ≡ None → forward object lane ≡ 0

-- what a view keeps of a seat that it joined: the list is a prefix of its own, and the entries are all events of the number, which nobody has any more
pub record IsJoined (seat : ℕ → ℕ) (split : ℕ) (journal : List Event) (views : List View) (seen : List Event) (j : JoinedView) : Type 0 where
  pub goes_on : IsPrefix j.seen seen
  pub below : j.number < split
  pub gone : Sits views (seat j.number) Gone
  pub own : own_entries j.number 0 journal ≡ j.entries

-- the hand part, so far
pub record HandPart (seat : ℕ → ℕ) (split : ℕ) (journal : List Event) (views : List View) : Type 0 where
  pub joined : (id : ℕ) (v : MutView) → Sits views id (Mut v) → All (IsJoined seat split journal views v.journal.seen) v.hands.joined

-- Beside the parts: who sits where. The parts above speak of the phase and the hand of a number, and are kept only together with what a
-- number's phase and hand are and what its view is told once
pub record Seating (terms : Terms) (phase : ℕ → Phase) (grip : ℕ → Option Held) (seat : ℕ → ℕ) (split : ℕ) (views : List View) : Type 0 where
  -- a view's phase and hand are those of its number
  pub phases : (id : ℕ) (v : MutView) → Sits views id (Mut v) → phase v.gate.number ≡ v.gate.phase
  pub grips : (id : ℕ) (v : MutView) → Sits views id (Mut v) → grip v.gate.number ≡ v.held
  -- each view's number is a mutator's or the main thread's
  pub numbers : (id : ℕ) (v : MutView) → Sits views id (Mut v) → v.gate.number ≤ terms.sizes.mutators
  -- each view was told the terms of the table
  pub told : (id : ℕ) (v : MutView) → Sits views id (Mut v) → v.terms ≡ terms
  -- the main thread's view counts the seats that were split off, and those are mutators'
  pub counts : (id : ℕ) (v : MutView) → Sits views id (Mut v) → v.gate.number ≡ terms.sizes.mutators → v.gate.split ≡ split
  -- a number is Outside, or some view has it
  pub seated : (n : ℕ) → (phase n ≡ Outside) ⊎ ((v : MutView) × Sits views (seat n) (Mut v) × (v.gate.number ≡ n))

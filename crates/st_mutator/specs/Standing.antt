-- Where a thread stands: what it does from there on, and what holds of it between two steps.
use Rattle.std.specs.Prelude.{◌≡◌, ℕ, zero, suc, ◌+◌, ◌-◌, ◌*◌, ◌<◌, ◌≤◌, nat_lt, Bool, true, false, List, [], ◌∷◌, ◌++◌, length, take, reverse, replicate, Option, Some, None, slice_get}
use Rattle.st_events.specs.declared.verdicts.End.{End}
use Rattle.st_events.specs.declared.verdicts.End.TheVariants.{Finished}
use Rattle.st_resolved.specs.declared.limits.TheConstants.{MOST_LOCALS}
use Rattle.st_check_meaning.specs.Numbers.{is_true}
use Rattle.st_thread_meaning.specs.declared.limits.TheConstants.{MOST_OPEN_CALLS}
use Rattle.st_thread_meaning.specs.Deeds.{Request, make, load, store, cas, launch, Deed, ends, asks, Means}
use Rattle.st_thread_meaning.specs.Threads.{Turn, asks_for, has_ended}
use Rattle.st_mutator.specs.declared.machines.Machine.{Machine}
use Rattle.st_mutator.specs.declared.nodes.Next.{Next}
use Rattle.st_mutator.specs.declared.nodes.Next.TheVariants.{At, Last}
use Rattle.st_mutator.specs.declared.nodes.Node.{Node}
use Rattle.st_mutator.specs.declared.nodes.Node.TheVariants.{Push, Pop, Local, Field, Not, Minus, Binary, Branch, Set, New, Store, Cas, Launch, While, Call}
use Rattle.st_mutator.specs.declared.nodes.Entry.{Entry}
use Rattle.st_mutator.specs.declared.nodes.Frame.{Frame}
use Rattle.st_mutator.specs.declared.nodes.Frame.TheVariants.{Test, Body, Return}
use Rattle.st_mutator.specs.declared.asking.Asked.{Asked}
use Rattle.st_mutator.specs.declared.asking.Asked.TheVariants as asked
use Rattle.st_mutator.specs.Running.{Rest, Meaning, node_meaning, code_meaning, code_calls}
use Rattle.st_mutator.specs.Stacked.{Stacked, top}

-- what code does from a place on, where the locals of so many callers wait: as many fewer calls may be opened
abbrev pub going_with : List Node → List Entry → List (List ℕ) → Next → Meaning
going_with nodes entries callers = code_meaning (code_calls nodes entries (MOST_OPEN_CALLS - length callers)) nodes

-- what the frames do where code ends, the last frame first; at the end of all the thread is finished
abbrev pub behind : List Node → List Entry → List Frame → List (List ℕ) → Rest
behind nodes entries [] callers ops locals means = ends Finished
behind nodes entries (Test body next again ∷ frames) callers ops locals means =
    elim (is_true (top ops)) [
      | true ↦ going_with nodes entries callers body [] locals means (λ _ changed left. going_with nodes entries callers (At again) [] changed left (behind nodes entries frames callers))
      | false ↦ going_with nodes entries callers next [] locals means (behind nodes entries frames callers)
    ]
behind nodes entries (Body again ∷ frames) callers ops locals means = going_with nodes entries callers (At again) [] locals means (behind nodes entries frames callers)
behind nodes entries (Return next ∷ frames) [] ops locals means = ends Finished
behind nodes entries (Return next ∷ frames) (caller ∷ callers) ops locals means =
    going_with nodes entries callers next [] caller means (behind nodes entries frames callers)

-- the means that are left
abbrev pub means_of : Machine → Means
means_of m = record { charge = m.charge; room = m.room }

-- what comes where the code ends
abbrev pub rest_of : Machine → Rest
rest_of m = behind m.nodes m.entries m.frames.items m.callers.items

-- what code does in a machine, from a place on
abbrev pub going_in : Machine → Next → Meaning
going_in m = going_with m.nodes m.entries m.callers.items

-- what the thread does from here on
abbrev pub deed_of : Machine → Deed
deed_of m = going_in m m.next m.operands.items m.locals (means_of m) (rest_of m)

-- the operands once a reply is told
abbrev pub told_operands : Bool → ℕ → List ℕ → List ℕ
told_operands true reply ops = reply ∷ ops
told_operands false reply ops = ops

-- what the thread does once it has this reply
abbrev pub deed_when_told : Machine → ℕ → Deed
deed_when_told m reply = going_in m m.next (told_operands m.takes_reply reply m.operands.items) m.locals (means_of m) (rest_of m)

-- what is asked for, as the turn of a thread
abbrev pub turn_of_asked : Asked → Turn
turn_of_asked (asked.New class) = asks_for (make class)
turn_of_asked (asked.Load obj field) = asks_for (load obj field)
turn_of_asked (asked.Store obj field value) = asks_for (store obj field value)
turn_of_asked (asked.Cas obj field expect value) = asks_for (cas obj field expect value)
turn_of_asked (asked.Launch site args) = asks_for (launch site args)
turn_of_asked (asked.End end) = has_ended end

-- the deed that takes this turn first, and goes on so
abbrev pub deed_by_turn : Turn → (ℕ → Deed) → Deed
deed_by_turn (asks_for request) next = asks request next
deed_by_turn (has_ended end) next = ends end

-- a step: where it asks for nothing, the deed is that of the machine afterwards; else it is asked for what the deed asks for, and the machine waits
-- for the reply, or the deed ends
abbrev pub Becomes : Option Asked → Machine → Deed → Type 0
Becomes None m deed = deed ≡ deed_of m
Becomes (Some a) m deed = deed ≡ deed_by_turn (turn_of_asked a) (deed_when_told m)

-- where a place stands among the nodes: the end of code first, then each node
abbrev pub rank : Next → ℕ
rank Last = 0
rank (At index) = suc index

-- the places that a node names
abbrev pub places_of : Node → List Next
places_of (Push word next) = next ∷ []
places_of (Pop next) = next ∷ []
places_of (Local local next) = next ∷ []
places_of (Field field at next) = next ∷ []
places_of (Not next) = next ∷ []
places_of (Minus at next) = next ∷ []
places_of (Binary operator at next) = next ∷ []
places_of (Branch when_true when_false) = when_true ∷ when_false ∷ []
places_of (Set local next) = next ∷ []
places_of (New class at next) = next ∷ []
places_of (Store field at next) = next ∷ []
places_of (Cas field at next) = next ∷ []
places_of (Launch site count next) = next ∷ []
places_of (While test body next) = test ∷ body ∷ next ∷ []
places_of (Call procedure count at next) = next ∷ []

-- each place is before this one
abbrev pub AreBelow : ℕ → List Next → Type 0
AreBelow bound [] = Unit {0}
AreBelow bound (next ∷ more) = (rank next < bound) × AreBelow bound more

-- each node names earlier ones alone
abbrev pub AreOrdered : List Node → Type 0
AreOrdered nodes = (index : ℕ) (node : Node) → slice_get nodes index ≡ Some node → AreBelow (suc index) (places_of node)

-- the places that a frame names
abbrev pub frame_places : Frame → List Next
frame_places (Test body next again) = body ∷ next ∷ At again ∷ []
frame_places (Body again) = At again ∷ []
frame_places (Return next) = next ∷ []

-- they are places of the code
abbrev pub AreFrames : ℕ → List Frame → Type 0
AreFrames bound [] = Unit {0}
AreFrames bound (frame ∷ frames) = AreBelow bound (frame_places frame) × AreFrames bound frames

-- the code: each node names earlier ones, and each procedure begins at a node, with no more locals than there may be
pub record IsCode (nodes : List Node) (entries : List Entry) : Type 0 where
  pub ordered : AreOrdered nodes
  pub entries_within : (index : ℕ) (entry : Entry) → slice_get entries index ≡ Some entry → rank entry.first ≤ length nodes
  pub few_locals : (index : ℕ) (entry : Entry) → slice_get entries index ≡ Some entry → entry.locals ≤ MOST_LOCALS

-- What holds between two steps. There is room for each operand that the nodes from here on may push, a frame for each unit of charge, and
-- the locals of each caller.
pub record IsStanding (m : Machine) : Type 0 where
  pub code : IsCode m.nodes m.entries
  pub operands : length m.operands.items + rank m.next ≤ length m.nodes
  pub operands_room : length m.nodes ≤ m.operands.room
  pub frames : AreFrames (suc (length m.nodes)) m.frames.items
  pub frames_room : length m.frames.items + m.charge ≤ m.frames.room
  pub callers : length m.callers.items ≤ MOST_OPEN_CALLS
  pub callers_room : MOST_OPEN_CALLS ≤ m.callers.room

-- one more operand where a reply is awaited as one
abbrev pub awaited : Bool → ℕ
awaited true = 1
awaited false = 0

-- there is room for the reply too
abbrev pub IsWaiting : Machine → Type 0
IsWaiting m = length m.operands.items + awaited m.takes_reply + rank m.next ≤ length m.nodes

-- where something is asked for, the machine waits for the reply
abbrev pub WaitsFor : Option Asked → Machine → Type 0
WaitsFor None m = Unit {0}
WaitsFor (Some (asked.End end)) m = Unit {0}
WaitsFor (Some a) m = IsWaiting m

-- how much is left to do of frames: a condition counts twice, since a body may come behind it
abbrev pub weight_of : List Frame → ℕ
weight_of [] = 0
weight_of (Test body next again ∷ frames) = 2 + weight_of frames
weight_of (Body again ∷ frames) = 1 + weight_of frames
weight_of (Return next ∷ frames) = 1 + weight_of frames

-- how much is left to do: it falls with each step
abbrev pub work_of : Machine → ℕ
work_of m = (m.charge * 3 + weight_of m.frames.items) * suc (length m.nodes) + rank m.next

-- One step, from a deed on, in this code and with so much left to do: what is asked for is what the deed asks for, the machine stands in the
-- same code, and where nothing is asked for less is left to do.
pub record IsStep (a : Option Asked) (new : Machine) (nodes : List Node) (entries : List Entry) (work : ℕ) (deed : Deed) : Type 0 where
  pub becomes : Becomes a new deed
  pub standing : IsStanding new
  pub waits : WaitsFor a new
  pub nodes_same : new.nodes ≡ nodes
  pub entries_same : new.entries ≡ entries
  pub smaller : a ≡ None → work_of new < work

-- what a node does in a machine
abbrev pub node_deed : Machine → Node → Deed
node_deed m node =
    node_meaning (code_calls m.nodes m.entries (MOST_OPEN_CALLS - length m.callers.items)) (going_in m) node m.operands.items m.locals (means_of m) (rest_of m)

-- the charge was enough and is paid, or it was not, and nothing changed
abbrev pub IsPaid : Bool → Machine → Machine → ℕ → Type 0
IsPaid true new old cost = (nat_lt old.charge cost ≡ false) × (new ≡ record old { charge = old.charge - cost })
IsPaid false new old cost = (nat_lt old.charge cost ≡ true) × (new ≡ old)

-- the machine with other operands
abbrev pub with_operands : List ℕ → Machine → Machine
with_operands ops m = record m { operands = record { items = ops; room = m.operands.room } }

-- the machine at another place, without operands
abbrev pub fresh_at : Next → Machine → Machine
fresh_at next m = record (with_operands [] m) { next = next }

-- the body of a procedure has begun, with the last operands as arguments, and its caller waits
abbrev pub entered_in : Entry → ℕ → Next → Machine → Machine
entered_in entry count next m =
    record (fresh_at entry.first m) {
      locals = take entry.locals (reverse (take count m.operands.items) ++ replicate entry.locals 0);
      callers = record { items = m.locals ∷ m.callers.items; room = m.callers.room };
      frames = record { items = Return next ∷ m.frames.items; room = m.frames.room };
    }

-- what is asked for is what the deed asks for, and the machine stands and waits for the reply; or the deed ends so
pub record IsAnswer (a : Asked) (m : Machine) (deed : Deed) : Type 0 where
  pub asks : deed ≡ deed_by_turn (turn_of_asked a) (deed_when_told m)
  pub standing : IsStanding m
  pub waits : WaitsFor (Some a) m

-- the end, where a thread has ended
abbrev pub end_of_asked : Asked → Option End
end_of_asked (asked.End end) = Some end
end_of_asked a = None

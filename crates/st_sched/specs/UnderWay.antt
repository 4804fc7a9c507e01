-- A run in memory stands for a state of the model.
use Rattle.std.specs.Prelude.{◌≡◌, ℕ, ◌+◌, ◌*◌, ◌<◌, ◌≤◌, List, [], ◌∷◌, ◌++◌, length, slice_get, Some, None, vec_capacity}
use Rattle.std.specs.List.{All}
use Rattle.st_events.specs.declared.events.Event.{Event}
use Rattle.st_events.specs.declared.events.Event.TheVariants.{Launch}
use Rattle.st_events.specs.declared.events.Args.{Args}
use Rattle.st_events.specs.declared.limits.Sizes.{Sizes}
use Rattle.st_events.specs.Sizes.{AreWithinLimits}
use Rattle.st_events.specs.Terms.{ShapeLists, IsLegal, active_checks, epoch_of, own_events}
use Rattle.st_resolved.specs.Terms.{Program}
use Rattle.st_resolved.specs.WellFormed.{IsWellFormed}
use Rattle.st_thread_meaning.specs.Laws.{replies_of}
use Rattle.st_mutator.specs.declared.wants.Want.{Want}
use Rattle.st_snap.specs.Snapshots.{event_room}
use Rattle.st_run_meaning.specs.States.{State, has_read}
use Rattle.st_run_meaning.specs.Agents.{Agent, next_agent}
use Rattle.st_run_meaning.specs.Runs.{ComesTo}
use Rattle.st_run_meaning.specs.SoundStates.{IsSoundState}
use Rattle.st_run_meaning.specs.Steps.{retires}
use Rattle.st_sched.specs.declared.running.Running.{Running}
use Rattle.st_sched.specs.declared.seats.Seat.{Seat}
use Rattle.st_sched.specs.Seats.{HasReplies}
use Rattle.st_sched.specs.Standing.{AreChecks, AreVerdicts, IsIdleEval, heap_of_journal, finished_in}

-- each thread has had the replies of its own events
pub record AreSeats (p : Program) (sizes : Sizes) (journal : List Event) (seats : List Seat) : Type 0 where
  pub count : length seats ≡ sizes.mutators
  pub each : (m : ℕ) (seat : Seat) → slice_get seats m ≡ Some seat → HasReplies p sizes m (replies_of (own_events m journal)) seat

-- the memory that was taken at the opening
pub record HasRoom (sizes : Sizes) (r : Running) : Type 0 where
  pub lanes : length r.idle.items + length r.checks.items ≡ sizes.lanes
  pub checks : sizes.lanes ≤ vec_capacity r.checks
  pub idle : sizes.lanes ≤ vec_capacity r.idle
  pub verdicts : event_room sizes ≤ 2 * vec_capacity r.verdicts + 1
  pub ready : sizes.mutators + sizes.lanes ≤ vec_capacity r.ready
  pub ends : sizes.mutators ≤ vec_capacity r.ends
  pub no_ends : r.ends.items ≡ []

-- the journal is legal, and has room for a Retire of each active check
pub record IsHistory (shape : ShapeLists) (sizes : Sizes) (journal : List Event) : Type 0 where
  pub legal : IsLegal shape sizes journal
  pub paid : length journal + length (active_checks shape sizes journal) ≤ event_room sizes

-- but for the threads, the run in memory stands for the state
pub record Stands (shape : ShapeLists) (p : Program) (sizes : Sizes) (s : State) (r : Running) : Type 0 where
  pub heap : r.heap ≡ heap_of_journal shape sizes s.journal
  pub checks : AreChecks shape p sizes s r.checks.items
  pub idle : All (IsIdleEval p sizes) r.idle.items
  pub verdicts : AreVerdicts shape p sizes s r.verdicts.items
  pub room : HasRoom sizes r

-- this thread has retired these checks
abbrev pub with_retires : ℕ → List ℕ → State → State
with_retires m ns s = record s { journal = s.journal ++ retires m ns }

-- what a function that takes part of a turn relies on: the run in memory stands for a state of a well-formed program, whose journal is a history
pub record IsUnderWay (p : Program) (r : Running) : Type 0 where
  pub shape : ShapeLists
  pub sizes : Sizes
  pub state : State
  pub formed : IsWellFormed shape p
  pub limits : AreWithinLimits sizes
  pub stands : Stands shape p sizes state r
  pub history : IsHistory shape sizes state.journal

-- threads and number are as before
pub record KeepsTheRest (before after : Running) : Type 0 where
  pub seats : after.seats.items ≡ before.seats.items
  pub x : after.x ≡ before.x

-- the check of this site is launched
abbrev pub with_launch : ShapeLists → Sizes → ℕ → ℕ → Args → State → State
with_launch shape sizes m site args s = record s { journal = s.journal ++ Launch m site (epoch_of shape sizes s.journal + 1) args ∷ [] }

-- a launch that can be done: afterwards the journal is a history, and there is a place for the verdict
pub record CanLaunch (p : Program) (m site : ℕ) (args : Args) (r : Running) : Type 0 where
  pub run : IsUnderWay p r
  pub after : IsHistory run.shape run.sizes (with_launch run.shape run.sizes m site args run.state).journal
  pub few : 2 * (epoch_of run.shape run.sizes run.state.journal + 1) ≤ event_room run.sizes

-- the next check has no progress yet
abbrev pub IsFresh : {p : Program} {r : Running} → IsUnderWay p r → Type 0
IsFresh t = t.state.progress (epoch_of t.shape t.sizes t.state.journal + 1) ≡ has_read 0

-- the same once each check that has finished is retired
pub record CanLaunchAfter (p : Program) (m site : ℕ) (args : Args) (r : Running) : Type 0 where
  pub run : IsUnderWay p r
  pub thread : m < run.sizes.mutators
  pub after : IsHistory run.shape run.sizes (with_launch run.shape run.sizes m site args (with_retires m (finished_in r.checks.items) run.state)).journal
  pub few : 2 * (epoch_of run.shape run.sizes run.state.journal + 1) ≤ event_room run.sizes

-- a turn of the agent that is chosen
pub record IsTurnOf (p : Program) (a : Agent) (r : Running) : Type 0 where
  pub run : IsUnderWay p r
  pub sound : IsSoundState run.shape p run.sizes run.state
  pub seats : AreSeats p run.sizes run.state.journal r.seats.items
  pub next : next_agent run.shape p run.sizes run.state ≡ Some a

-- a run that began at a state has come to this one, between two turns
pub record IsOnTheWay (shape : ShapeLists) (p : Program) (sizes : Sizes) (start : State) (r : Running) : Type 0 where
  pub state : State
  pub formed : IsWellFormed shape p
  pub limits : AreWithinLimits sizes
  pub x : r.x ≡ state.x
  pub stands : Stands shape p sizes state r
  pub seats : AreSeats p sizes state.journal r.seats.items
  pub sound : IsSoundState shape p sizes state
  pub onward : (end : State) → ComesTo shape p sizes state end → ComesTo shape p sizes start end

-- and there no agent is left
pub record HasEnded (shape : ShapeLists) (p : Program) (sizes : Sizes) (start : State) (r : Running) : Type 0 where
  pub way : IsOnTheWay shape p sizes start r
  pub over : next_agent shape p sizes way.state ≡ None

-- a thread's seat, which asks for this
abbrev pub HasSeat : List Seat → ℕ → Want → Type 0
HasSeat seats m want = (seat : Seat) × (slice_get seats m ≡ Some seat) × (seat.want ≡ want)

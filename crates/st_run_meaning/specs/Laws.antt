-- Laws of scheduled runs.
use Rattle.std.specs.Prelude.{◌≡◌, ℕ, ◌+◌, ◌*◌, ◌<◌, ◌≤◌, length, Some}
use Rattle.st_events.specs.declared.limits.Sizes.{Sizes}
use Rattle.st_events.specs.Sizes.{AreWithinLimits}
use Rattle.st_events.specs.Terms.{ShapeLists, active_checks, epoch_of}
use Rattle.st_resolved.specs.Terms.{Program}
use Rattle.st_resolved.specs.WellFormed.{IsWellFormed}
use Rattle.st_thread_meaning.specs.Right.{IsRightRun}
use Rattle.st_run_meaning.specs.States.{State, first_state}
use Rattle.st_run_meaning.specs.Agents.{Agent, mutator, check, next_agent}
use Rattle.st_run_meaning.specs.Steps.{turn_of}
use Rattle.st_run_meaning.specs.Runs.{ComesTo, ran_of, all_reads_left, all_events_left, scheduled_run}
use Rattle.st_run_meaning.specs.SoundStates.{IsSoundState}

-- what the scheduled run of a well-formed program leaves is right, for every seed and all sizes within the limits whose mutators are its threads
abbrev pub LeaveRightRuns : Type 0
LeaveRightRuns =
    (shape : ShapeLists) (p : Program) (sizes : Sizes) (seed : ℕ)
    → IsWellFormed shape p
    → AreWithinLimits sizes
    → sizes.mutators ≡ length p.threads
    → IsRightRun shape p sizes (scheduled_run shape p sizes seed)

-- the run of every program comes to an end, and to one alone; the scheduled run is what is left there
pub record ComeToOneEnd : Type 0 where
  pub some :
      (shape : ShapeLists) (p : Program) (sizes : Sizes) (seed : ℕ)
      → (end : State) × ComesTo shape p sizes (first_state seed) end
  pub one :
      (shape : ShapeLists) (p : Program) (sizes : Sizes) (s end other : State)
      → ComesTo shape p sizes s end
      → ComesTo shape p sizes s other
      → end ≡ other
  pub run :
      (shape : ShapeLists) (p : Program) (sizes : Sizes) (seed : ℕ) (end : State)
      → ComesTo shape p sizes (first_state seed) end
      → scheduled_run shape p sizes seed ≡ ran_of shape p sizes end

-- each state that the run of a well-formed program comes to is sound
pub record StaySound : Type 0 where
  pub first : (shape : ShapeLists) (p : Program) (sizes : Sizes) (seed : ℕ) → IsWellFormed shape p → IsSoundState shape p sizes (first_state seed)
  pub turn :
      (shape : ShapeLists) (p : Program) (sizes : Sizes) (s : State) (a : Agent)
      → IsWellFormed shape p
      → IsSoundState shape p sizes s
      → next_agent shape p sizes s ≡ Some a
      → IsSoundState shape p sizes (turn_of shape p sizes s a)

-- each turn of a mutator lowers the events that can still be made; each turn of a check keeps these and lowers the reads that are left
pub record LowerWhatIsLeft : Type 0 where
  pub events :
      (shape : ShapeLists) (p : Program) (sizes : Sizes) (s : State) (m : ℕ)
      → IsSoundState shape p sizes s
      → next_agent shape p sizes s ≡ Some (mutator m)
      → all_events_left sizes (turn_of shape p sizes s (mutator m)) < all_events_left sizes s
  pub no_event :
      (shape : ShapeLists) (p : Program) (sizes : Sizes) (s : State) (n : ℕ)
      → all_events_left sizes (turn_of shape p sizes s (check n)) ≡ all_events_left sizes s
  pub reads :
      (shape : ShapeLists) (p : Program) (sizes : Sizes) (s : State) (n : ℕ)
      → next_agent shape p sizes s ≡ Some (check n)
      → all_reads_left shape p sizes (turn_of shape p sizes s (check n)) < all_reads_left shape p sizes s

-- no sound state has more events, with one more for the Retire of each active check, than `events` for each mutator; and no more checks than
-- half of these
pub record TakeNoMoreRoom : Type 0 where
  pub events :
      (shape : ShapeLists) (p : Program) (sizes : Sizes) (s : State)
      → IsSoundState shape p sizes s
      → length s.journal + length (active_checks shape sizes s.journal) ≤ sizes.mutators * sizes.events
  pub checks :
      (shape : ShapeLists) (p : Program) (sizes : Sizes) (s : State)
      → IsSoundState shape p sizes s
      → 2 * epoch_of shape sizes s.journal ≤ sizes.mutators * sizes.events

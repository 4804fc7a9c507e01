-- Active checks and verdicts in memory stand for a state of the model.
use Rattle.std.specs.Prelude.{◌≡◌, ℕ, ◌-◌, ◌≤◌, false, List, get_or, length, filter, drop, slice_get, Some, None}
use Rattle.std.specs.List.{All}
use Rattle.st_events.specs.declared.events.Event.{Event}
use Rattle.st_events.specs.declared.limits.Sizes.{Sizes}
use Rattle.st_events.specs.declared.verdicts.Verdict.{Verdict}
use Rattle.st_events.specs.Terms.{ShapeLists, Heap, Launched, launch_of, active_checks, epoch_of, is_among}
use Rattle.st_resolved.specs.Terms.{Program}
use Rattle.st_check_meaning.specs.Plain.{Followed, after_reading, word_found}
use Rattle.st_check_meaning.specs.Turns.{followed_from}
use Rattle.st_eval.specs.declared.evals.Eval.{Eval}
use Rattle.st_eval.specs.Evaluations.{IsMadeFor, budget, turn_by}
use Rattle.st_snap.specs.Snapshots.{Snapshots, IsLaneOf}
use Rattle.st_run_meaning.specs.States.{Progress, has_read, abandoned_at, State}
use Rattle.st_run_meaning.specs.Agents.{cells_of, cell_after}
use Rattle.st_run_meaning.specs.Runs.{value_of, verdict_of}
use Rattle.st_sched.specs.declared.checks.ActiveCheck.{ActiveCheck}
use Rattle.st_sched.specs.declared.checks.Awaits.{Awaits}
use Rattle.st_sched.specs.declared.checks.Awaits.TheVariants.{Cell, Retire}
use Rattle.st_sched.specs.Checks.{is_over}
use Rattle.st_sched.specs.Choosing.{numbers}

-- ---- an active check

-- what a check does from here on, on its past, where it waits for this cell: it reads the cell, and goes on by the word found there
abbrev pub left_of : Program → Heap → ℕ → ℕ → Eval → Followed
left_of p past obj field e = after_reading obj field (followed_from past (turn_by p e (word_found past obj field)))

-- what a check does in all, on its past
abbrev pub whole_of : Program → Sizes → Launched → Followed
whole_of p sizes launch = record { cells = cells_of p sizes (Some launch); value = value_of p sizes (Some launch) }

-- the same without the first k reads
abbrev pub without_first : ℕ → Followed → Followed
without_first k f = record { cells = drop k f.cells; value = f.value }

-- what it does next is what comes after its progress: the next read, and the others after it; or it asks for no cell, and has its verdict
abbrev pub HasCome : Program → Sizes → Launched → Eval → Awaits → Progress → Type 0
HasCome p sizes launch e (Cell obj field) (has_read k) = left_of p launch.past obj field e ≡ without_first k (whole_of p sizes launch)
HasCome p sizes launch e (Cell obj field) (abandoned_at lost) = ⊥
HasCome p sizes launch e (Retire verdict) progress =
    (cell_after progress (cells_of p sizes (Some launch)) ≡ None) × (verdict ≡ verdict_of p sizes (Some launch) progress)

-- a snapshot heap with this journal
abbrev pub heap_of_journal : ShapeLists → Sizes → List Event → Snapshots
heap_of_journal shape sizes journal = record { shape = shape; sizes = sizes; journal = journal }

-- an active check is in memory: it has its lane and an evaluator, was launched, and has come as far as the state says
pub record IsInMemory (shape : ShapeLists) (p : Program) (sizes : Sizes) (s : State) (c : ActiveCheck) : Type 0 where
  pub lane : IsLaneOf (heap_of_journal shape sizes s.journal) c.lane
  pub made : IsMadeFor p c.eval
  pub budget_is : budget c.eval ≡ sizes.calls
  pub launch : Launched
  pub launched : launch_of shape sizes s.journal c.lane.number ≡ Some launch
  pub come : HasCome p sizes launch c.eval c.awaits (s.progress c.lane.number)

-- all of them, in order of number
pub record AreChecks (shape : ShapeLists) (p : Program) (sizes : Sizes) (s : State) (checks : List ActiveCheck) : Type 0 where
  pub each : All (IsInMemory shape p sizes s) checks
  pub in_order : numbers checks ≡ active_checks shape sizes s.journal

-- an evaluator of an idle lane
pub record IsIdleEval (p : Program) (sizes : Sizes) (e : Eval) : Type 0 where
  pub made : IsMadeFor p e
  pub budget_is : budget e ≡ sizes.calls

-- ---- verdicts

-- a check was launched, and its verdict stands at its number
pub record HasVerdict (shape : ShapeLists) (p : Program) (sizes : Sizes) (s : State) (verdicts : List Verdict) (n : ℕ) : Type 0 where
  pub launch : Launched
  pub launched : launch_of shape sizes s.journal n ≡ Some launch
  pub stands : slice_get verdicts (n - 1) ≡ Some (verdict_of p sizes (Some launch) (s.progress n))

-- there is a place for the verdict of each launched check; that of each retired one is right
pub record AreVerdicts (shape : ShapeLists) (p : Program) (sizes : Sizes) (s : State) (verdicts : List Verdict) : Type 0 where
  pub count : length verdicts ≡ epoch_of shape sizes s.journal
  pub retired :
      (n : ℕ)
      → 1 ≤ n
      → n ≤ epoch_of shape sizes s.journal
      → is_among (active_checks shape sizes s.journal) n ≡ false
      → HasVerdict shape p sizes s verdicts n

-- ---- places

-- the check at this place has this verdict
abbrev pub HasVerdictAt : List ActiveCheck → ℕ → Verdict → Type 0
HasVerdictAt checks index verdict = (c : ActiveCheck) × (slice_get checks index ≡ Some c) × (c.awaits ≡ Retire verdict)

-- the numbers of the checks that have finished
abbrev pub finished_in : List ActiveCheck → List ℕ
finished_in checks = numbers (filter (λ c. is_over c.awaits) checks)

-- the number of the check at this place
abbrev pub number_at : List ActiveCheck → ℕ → ℕ
number_at checks index = get_or (numbers checks) index 0

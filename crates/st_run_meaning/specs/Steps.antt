-- What a turn makes of a state.
use Rattle.std.specs.Prelude.{ℕ, ◌+◌, Bool, true, false, List, [], ◌∷◌, ◌++◌, map, Option, Some, None}
use Rattle.st_events.specs.declared.events.Event.{Event}
use Rattle.st_events.specs.declared.events.Event.TheVariants.{New, Load, Store, Cas, Launch, Retire}
use Rattle.st_events.specs.declared.limits.Sizes.{Sizes}
use Rattle.st_events.specs.Terms.{ShapeLists, World, at, is_lost, word_at, next_object, world_after, lost_pairs}
use Rattle.st_events.specs.Legal.{is_word}
use Rattle.st_resolved.specs.Terms.{Program}
use Rattle.st_check_meaning.specs.Plain.{Cell, word_found}
use Rattle.st_thread_meaning.specs.Deeds.{Request, make, load, store, cas, launch}
use Rattle.st_thread_meaning.specs.Threads.{Turn, asks_for, has_ended}
use Rattle.st_run_meaning.specs.States.{Progress, has_read, abandoned_at, State}
use Rattle.st_run_meaning.specs.Agents.{request_of, finished_checks, cell_asked, Agent, mutator, check, number_after}

-- the event by which the heap answers a request of a mutator
abbrev pub event_of : Sizes → World → ℕ → Request → Event
event_of sizes w m (make class) = New m (next_object sizes w m) class
event_of sizes w m (load obj field) = Load m obj field (word_found w.heap obj field)
event_of sizes w m (store obj field value) = Store m obj field value
event_of sizes w m (cas obj field expect value) = Cas m obj field expect value (is_word (word_at w.heap obj field) expect)
event_of sizes w m (launch site args) = Launch m site (w.epoch + 1) args

-- the checks are retired by this thread, one after another
abbrev pub retires : ℕ → List ℕ → List Event
retires m checks = map (λ n. Retire m n) checks

-- a launch first retires every finished check
abbrev pub retired_for : Request → List ℕ → List ℕ
retired_for (launch site args) finished = finished
retired_for request finished = []

-- the events of a mutator's turn
abbrev pub turn_events : ShapeLists → Program → Sizes → State → ℕ → Turn → List Event
turn_events shape p sizes s m (has_ended end) = []
turn_events shape p sizes s m (asks_for request) =
    retires m (retired_for request (finished_checks shape p sizes s)) ++ event_of sizes (world_after shape sizes s.journal) m request ∷ []

-- one more read is done
abbrev pub one_more : Progress → Progress
one_more (has_read k) = has_read (k + 1)
one_more (abandoned_at obj) = abandoned_at obj

-- what a check's read makes of its progress, where it asks for a cell, and the version of this object is lost for it or not
abbrev pub progress_after : Progress → Option Cell → (ℕ → Bool) → Progress
progress_after progress None lost = progress
progress_after progress (Some cell) lost = elim (lost cell.obj) [ true ↦ abandoned_at cell.obj | false ↦ one_more progress ]

-- the state after a turn of the agent. A mutator's request is performed; a check reads one cell
abbrev pub turn_of : ShapeLists → Program → Sizes → State → Agent → State
turn_of shape p sizes s (mutator m) =
    record s { x = number_after s.x; journal = s.journal ++ turn_events shape p sizes s m (request_of p sizes s m) }
turn_of shape p sizes s (check n) =
    record s {
      x = number_after s.x;
      progress = at n (progress_after (s.progress n) (cell_asked shape p sizes s n) (λ obj. is_lost (lost_pairs shape sizes s.journal) obj n)) s.progress;
    }

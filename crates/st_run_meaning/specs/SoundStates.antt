-- What holds of each state that the run of a well-formed program comes to.
use Rattle.std.specs.Prelude.{◌≡◌, ℕ, ◌≤◌, Bool, true, List, length, map}
use Rattle.st_events.specs.declared.limits.Sizes.{Sizes}
use Rattle.st_events.specs.Terms.{ShapeLists, heap_after, launch_of, lost_pairs, is_lost, own_events}
use Rattle.st_events.specs.Legal.{IsLegal}
use Rattle.st_resolved.specs.Terms.{Program}
use Rattle.st_check_meaning.specs.Plain.{Cell}
use Rattle.st_thread_meaning.specs.Deeds.{Deed}
use Rattle.st_thread_meaning.specs.Right.{has_cell_of}
use Rattle.st_thread_meaning.specs.Threads.{reply_of, deed_after, thread_deed, LeadTo}
use Rattle.st_thread_meaning.specs.Typed.{IsTyped}
use Rattle.st_run_meaning.specs.States.{Progress, has_read, abandoned_at, State}
use Rattle.st_run_meaning.specs.Agents.{request_of, cells_of}

-- what is left of a thread's code, after the replies of its own events
abbrev pub deed_of : Program → Sizes → State → ℕ → Deed
deed_of p sizes s thread = deed_after (map reply_of (own_events thread s.journal)) (thread_deed p sizes.objects sizes.events thread)

-- how far a check has come is so: it has read no more cells than it reads in all; or it reads a cell of the object, whose version is lost for it
abbrev pub IsSoundProgress : List Cell → (ℕ → Bool) → Progress → Type 0
IsSoundProgress cells lost (has_read k) = k ≤ length cells
IsSoundProgress cells lost (abandoned_at obj) = (lost obj ≡ true) × (has_cell_of obj cells ≡ true)

-- the journal is legal; the own events of each thread follow its code to what it asks for next; what is left of its code is typed on the heap; and
-- each check has come as far as is said
pub record IsSoundState (shape : ShapeLists) (p : Program) (sizes : Sizes) (s : State) : Type 0 where
  pub legal : IsLegal shape sizes s.journal
  pub led : (thread : ℕ) → LeadTo p sizes thread (own_events thread s.journal) (request_of p sizes s thread)
  pub typed : (thread : ℕ) → IsTyped shape (deed_of p sizes s thread) (heap_after shape sizes s.journal)
  pub progress :
      (n : ℕ)
      → IsSoundProgress (cells_of p sizes (launch_of shape sizes s.journal n)) (λ obj. is_lost (lost_pairs shape sizes s.journal) obj n) (s.progress n)

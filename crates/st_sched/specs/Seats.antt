-- A thread in memory: it has had these replies, and what it asks for is what its code asks for after them.
use Rattle.std.specs.Prelude.{◌≡◌, ℕ, List, ◌∷◌}
use Rattle.st_events.specs.declared.limits.Sizes.{Sizes}
use Rattle.st_resolved.specs.Terms.{Program}
use Rattle.st_thread_meaning.specs.Threads.{next_request}
use Rattle.st_mutator.specs.Mutators.{HasHad, narrowed, turn_of_want}
use Rattle.st_sched.specs.declared.seats.Seat.{Seat}

-- the machine had the replies, after a first word that answers nothing; an object is asked for by its number of 32 bits
pub record HasReplies (p : Program) (sizes : Sizes) (m : ℕ) (replies : List ℕ) (seat : Seat) : Type 0 where
  pub had : HasHad p sizes m seat.thread (0 ∷ replies)
  pub wants : turn_of_want seat.want ≡ narrowed (next_request p sizes m replies)

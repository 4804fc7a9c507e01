-- Where a scheduled run stands.
use Rattle.std.specs.Prelude.{ℕ, List, []}
use Rattle.st_events.specs.declared.events.Event.{Event}

-- how far a check has come: so many of its reads are done, or it is abandoned, since the version of this object is lost for it
pub data Progress : Type 0 where
  has_read : ℕ → Progress
  abandoned_at : ℕ → Progress

-- the number by which the last turn was chosen, the events so far, and how far each check has come
pub record State : Type 0 where
  pub x : ℕ
  pub journal : List Event
  pub progress : ℕ → Progress

-- before the first turn: the number is the seed, nothing happened, and no check has read anything
abbrev pub first_state : ℕ → State
first_state seed = record { x = seed; journal = []; progress = λ _. has_read 0 }

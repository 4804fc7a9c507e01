-- What a thread does: it asks the heap for one thing after another and goes on by each reply, until it ends.
use Rattle.std.specs.Prelude.{ℕ, ◌-◌, nat_lt, true, false}
use Rattle.st_events.specs.declared.events.Args.{Args}
use Rattle.st_events.specs.declared.verdicts.End.{End}
use Rattle.st_events.specs.declared.verdicts.End.TheVariants.{EventsSpent}
use Rattle.st_events.specs.declared.limits.TheConstants.{EVENT_COST, LAUNCH_COST}

-- What a thread asks of the heap: a new object of a class; the word of a cell, which is an object and a field; to store a word in a cell;
-- to put the second word in the place of the first in a cell, where the first stands there; to launch the check of a site.
pub data Request : Type 0 where
  make : ℕ → Request
  load : ℕ → ℕ → Request
  store : ℕ → ℕ → ℕ → Request
  cas : ℕ → ℕ → ℕ → ℕ → Request
  launch : ℕ → Args → Request

-- What a thread does from some point on: it ends, or it asks for something and goes on by the reply. A deed knows no heap: whoever
-- follows it replies.
pub data Deed : Type 0 where
  ends : End → Deed
  asks : Request → (ℕ → Deed) → Deed

-- what a thread may still use: its charge, and how many objects of its region it has not made
pub record Means : Type 0 where
  pub charge : ℕ
  pub room : ℕ

-- the charge pays for a step; where less is left than its cost, the thread ends before the step
abbrev pub paying : ℕ → Means → (Means → Deed) → Deed
paying cost means rest = elim (nat_lt means.charge cost) [ true ↦ ends EventsSpent | false ↦ rest (record means { charge = means.charge - cost }) ]

-- what the event that answers a request costs: as the journal charges it
abbrev pub cost_of : Request → ℕ
cost_of (make class) = EVENT_COST
cost_of (load obj field) = EVENT_COST
cost_of (store obj field value) = EVENT_COST
cost_of (cas obj field expect value) = EVENT_COST
cost_of (launch site args) = LAUNCH_COST

-- an event: it is paid for, then asked for
abbrev pub asking : Request → Means → (ℕ → Means → Deed) → Deed
asking request means rest = paying (cost_of request) means (λ left. asks request (λ reply. rest reply left))

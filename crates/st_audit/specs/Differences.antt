-- Where a thread's own events differ from what its code does.
use Rattle.std.specs.Prelude.{◌≡◌, ℕ, ◌+◌, ◌-◌, ◌<◌, ◌^◌, Bool, true, false, List, [], ◌∷◌, ◌++◌, length, Option, Some, None}
use Rattle.st_events.specs.declared.events.Event.{Event}
use Rattle.st_events.specs.declared.limits.Sizes.{Sizes}
use Rattle.st_events.specs.declared.verdicts.End.{End}
use Rattle.st_events.specs.declared.events.Event.TheVariants.{New, Load, Store, Cas, Launch, Retire}
use Rattle.st_events.specs.Terms.{own_events}
use Rattle.st_mutator.specs.declared.wants.Want.{Want}
use Rattle.st_mutator.specs.declared.wants.Want.TheVariants as want
use Rattle.st_resolved.specs.Terms.{Program}
use Rattle.st_thread_meaning.specs.Threads.{Turn, asks_for, has_ended, IsAnswerTo, LeadTo, Follows}

-- what comes next is not what the thread does next: another event, or one after its end, or none where it asks for something
abbrev pub Differs : Turn → List Event → Type 0
Differs turn (e ∷ es) = ¬ IsAnswerTo e turn
Differs (asks_for request) [] = Unit {0}
Differs (has_ended end) [] = ⊥

-- the own event with this number, from 1, is the first that differs: the events before it lead to a turn, and what comes next differs from it
pub record IsFirstDifference (p : Program) (sizes : Sizes) (thread : ℕ) (own : List Event) (number : ℕ) : Type 0 where
  pub before : List Event
  pub rest : List Event
  pub split : own ≡ before ++ rest
  pub number_is : number ≡ length before + 1
  pub turn : Turn
  pub leads : LeadTo p sizes thread before turn
  pub differs : Differs turn rest

-- the thread's own events follow its code to some end
abbrev pub IsTrace : Program → Sizes → List Event → ℕ → Type 0
IsTrace p sizes es thread = (end : End) × Follows p sizes thread (own_events thread es) end

-- what is found of a thread: that its events follow its code, or the first that differs
abbrev pub IsCompared : Program → Sizes → ℕ → List Event → Option ℕ → Type 0
IsCompared p sizes thread es None = IsTrace p sizes es thread
IsCompared p sizes thread es (Some number) = IsFirstDifference p sizes thread (own_events thread es) number

-- the object that is named, if one is, has a number below the greatest of 32 bits, as each object of a heap has
abbrev pub NamesSmall : Event → Type 0
NamesSmall (New m obj class) = Unit {0}
NamesSmall (Load m obj field value) = obj < 2 ^ 32 - 1
NamesSmall (Store m obj field value) = obj < 2 ^ 32 - 1
NamesSmall (Cas m obj field expect value done) = obj < 2 ^ 32 - 1
NamesSmall (Launch m site number args) = Unit {0}
NamesSmall (Retire m number) = Unit {0}

-- what an event answers, if it answers anything
abbrev pub asked_by : Event → Option Want
asked_by (New m obj class) = Some (want.New class)
asked_by (Load m obj field value) = Some (want.Load obj field)
asked_by (Store m obj field value) = Some (want.Store obj field value)
asked_by (Cas m obj field expect value done) = Some (want.Cas obj field expect value)
asked_by (Launch m site number args) = Some (want.Launch site args)
asked_by (Retire m number) = None

-- whether the thread has ended
abbrev pub is_end : Turn → Bool
is_end (asks_for request) = false
is_end (has_ended end) = true

-- What a thread asks for is done: the event, and the reply.
use Rattle.std.specs.Prelude.{ℕ}
use Rattle.st_events.specs.declared.events.Event.{Event}
use Rattle.st_events.specs.declared.events.Event.TheVariants.{Retire}
use Rattle.st_events.specs.Legal.{IsLegalNext}
use Rattle.st_thread_meaning.specs.Deeds.{make, load, store, cas, launch}
use Rattle.st_thread_meaning.specs.Threads.{reply_of}
use Rattle.st_run_meaning.specs.Steps.{event_of}
use Rattle.st_mutator.specs.declared.wants.Want.{Want}
use Rattle.st_mutator.specs.declared.wants.Want.TheVariants as want
use Rattle.st_snap.specs.Snapshots.{Snapshots, world_of}

-- it asks for something of the heap, and for no launch
abbrev pub IsPlainWant : Want → Type 0
IsPlainWant (want.New class) = Unit {0}
IsPlainWant (want.Load obj field) = Unit {0}
IsPlainWant (want.Store obj field value) = Unit {0}
IsPlainWant (want.Cas obj field expect value) = Unit {0}
IsPlainWant (want.Launch site args) = ⊥
IsPlainWant (want.End end) = ⊥

-- the event that answers thread m; who has ended asks for nothing
abbrev pub event_of_want : Snapshots → ℕ → Want → Event
event_of_want s m (want.New class) = event_of s.sizes (world_of s) m (make class)
event_of_want s m (want.Load obj field) = event_of s.sizes (world_of s) m (load obj field)
event_of_want s m (want.Store obj field value) = event_of s.sizes (world_of s) m (store obj field value)
event_of_want s m (want.Cas obj field expect value) = event_of s.sizes (world_of s) m (cas obj field expect value)
event_of_want s m (want.Launch site args) = event_of s.sizes (world_of s) m (launch site args)
event_of_want s m (want.End end) = Retire m 0

-- the reply
abbrev pub reply_to : Snapshots → ℕ → Want → ℕ
reply_to s m want = reply_of (event_of_want s m want)

-- the event is legal
abbrev pub CanAnswer : Snapshots → ℕ → Want → Type 0
CanAnswer s m want = IsLegalNext s.shape s.sizes (world_of s) (event_of_want s m want)

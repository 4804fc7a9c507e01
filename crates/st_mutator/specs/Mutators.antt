-- A mutator as contracts see it: what it does with the next reply, and that this is what the thread's code does.
use Rattle.std.specs.Prelude.{◌≡◌, ℕ, ◌-◌, ◌<◌, ◌≤◌, ◌^◌, min, List, [], ◌∷◌, ◌++◌, length, take, replicate, Option, Some, None, false}
use Rattle.st_events.specs.declared.limits.Sizes.{Sizes}
use Rattle.st_events.specs.declared.verdicts.End.{End}
use Rattle.st_resolved.specs.declared.limits.TheConstants.{MOST_LOCALS}
use Rattle.st_resolved.specs.Terms.{Routine, Program}
use Rattle.st_thread_meaning.specs.declared.limits.TheConstants.{MOST_OPEN_CALLS}
use Rattle.st_thread_meaning.specs.Deeds.{Request, make, load, store, cas, launch, Deed, ends}
use Rattle.st_thread_meaning.specs.Threads.{Turn, asks_for, has_ended, deed_after, thread_deed}
use Rattle.st_mutator.specs.declared.machines.Machine.{Machine}
use Rattle.st_mutator.specs.declared.wants.Want.{Want}
use Rattle.st_mutator.specs.declared.wants.Want.TheVariants as want
use Rattle.st_mutator.specs.Laying.{LaidProgram}
use Rattle.st_mutator.specs.Standing.{deed_when_told, IsStanding, IsWaiting}

-- the machine of a thread, and how it ended, once it has
pub record Mutating : Type 0 where
  pub machine : Machine
  pub ended : Option End

-- what the thread does once it has a reply; who has ended does nothing more
abbrev pub deed_of_ended : Option End → Deed → Deed
deed_of_ended None deed = deed
deed_of_ended (Some end) deed = ends end

-- what a mutator does once it is handed this word: an ended one tells its end and does no more
abbrev pub deed_with : Mutating → ℕ → Deed
deed_with m reply = deed_of_ended m.ended (deed_when_told m.machine reply)

-- the replies among the words that were handed in: the first word answers nothing
abbrev pub replies_in : List ℕ → List ℕ
replies_in [] = []
replies_in (first ∷ replies) = replies

-- With these words handed in so far, whatever the next one is, the mutator does what the thread's code does after the replies among them.
pub record HasHad (p : Program) (sizes : Sizes) (thread : ℕ) (m : Mutating) (words : List ℕ) : Type 0 where
  pub does : (reply : ℕ) → deed_with m reply ≡ deed_after (replies_in (words ++ reply ∷ [])) (thread_deed p sizes.objects sizes.events thread)

-- what a mutator answers, as the turn of a thread
abbrev pub turn_of_want : Want → Turn
turn_of_want (want.New class) = asks_for (make class)
turn_of_want (want.Load obj field) = asks_for (load obj field)
turn_of_want (want.Store obj field value) = asks_for (store obj field value)
turn_of_want (want.Cas obj field expect value) = asks_for (cas obj field expect value)
turn_of_want (want.Launch site args) = asks_for (launch site args)
turn_of_want (want.End end) = has_ended end

-- the object that is asked for, if one is, has a number of 32 bits, as each object of a heap has
abbrev pub NamesObject : Turn → Type 0
NamesObject (asks_for (load obj field)) = obj < 2 ^ 32
NamesObject (asks_for (store obj field value)) = obj < 2 ^ 32
NamesObject (asks_for (cas obj field expect value)) = obj < 2 ^ 32
NamesObject turn = Unit {0}

-- a number of 32 bits for a word that names an object; a word that has none, which is no object of a heap, is told as the greatest of them
abbrev pub narrow : ℕ → ℕ
narrow obj = min obj (2 ^ 32 - 1)

-- a turn as it is told: the object's number has 32 bits, and nothing else is changed
abbrev pub narrowed : Turn → Turn
narrowed (asks_for (load obj field)) = asks_for (load (narrow obj) field)
narrowed (asks_for (store obj field value)) = asks_for (store (narrow obj) field value)
narrowed (asks_for (cas obj field expect value)) = asks_for (cas (narrow obj) field expect value)
narrowed turn = turn

-- no body has more locals than there may be; in a well-formed program none has
abbrev pub HaveFewLocals : List Routine → Type 0
HaveFewLocals [] = Unit {0}
HaveFewLocals (r ∷ rs) = (length r.locals ≤ MOST_LOCALS) × HaveFewLocals rs

-- a program whose bodies' locals a machine has room for
pub record HasFewLocals (p : Program) : Type 0 where
  pub procs : HaveFewLocals p.procs
  pub threads : HaveFewLocals p.threads

-- between two calls the machine stands, and waits for a reply unless the thread has ended
pub record IsBetweenCalls (m : Mutating) : Type 0 where
  pub standing : IsStanding m.machine
  pub waiting : m.ended ≡ None → IsWaiting m.machine

-- the machine of a thread that begins, in this code
abbrev pub begun : LaidProgram → ℕ → ℕ → Machine
begun laid objects events = record {
  nodes = laid.nodes;
  entries = laid.entries;
  next = laid.entry.first;
  takes_reply = false;
  operands = record { items = []; room = length laid.nodes };
  locals = take laid.entry.locals (replicate laid.entry.locals 0);
  callers = record { items = []; room = MOST_OPEN_CALLS };
  frames = record { items = []; room = events };
  charge = events;
  room = objects;
}

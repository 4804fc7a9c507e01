-- What a thread's code does, after the replies that it has had so far, and which events follow it.
use Rattle.std.specs.Prelude.{◌≡◌, ℕ, zero, suc, ◌-◌, if◌then◌else◌, List, [], ◌∷◌, ◌++◌, length, replicate, take, Option, Some, None, slice_get}
use Rattle.st_events.specs.declared.events.Event.{Event}
use Rattle.st_events.specs.declared.events.Event.TheVariants.{New, Load, Store, Cas, Launch, Retire}
use Rattle.st_events.specs.declared.limits.Sizes.{Sizes}
use Rattle.st_events.specs.declared.verdicts.End.{End}
use Rattle.st_events.specs.declared.verdicts.End.TheVariants.{Finished, ProcDeep}
use Rattle.st_resolved.specs.Terms.{Routine, Program}
use Rattle.st_thread_meaning.specs.declared.limits.TheConstants.{CALL_COST, MOST_OPEN_CALLS}
use Rattle.st_thread_meaning.specs.Deeds.{Request, make, store, load, cas, launch, Deed, ends, asks, Means, paying}
use Rattle.st_thread_meaning.specs.Statements.{ProcCalls, block_deed}

-- the locals of a body at its beginning: the words of its arguments, and 0 for each other local
abbrev pub first_locals : Routine → List ℕ → List ℕ
first_locals r words = take (length r.locals) (words ++ replicate (length r.locals) 0)

-- the body of a procedure or a thread, if there is one; a well-formed program has each that it names
abbrev pub body_deed : Program → ProcCalls → Option Routine → List ℕ → Means → (Means → Deed) → Deed
body_deed p calls None words means rest = rest means
body_deed p calls (Some r) words means rest = block_deed p calls r.block (first_locals r words) means (λ _ left. rest left)

-- A call where so many more may be open: too deep where none may; else it is paid for, and the body is done.
unfoldable pub call_within : Program → ℕ → ProcCalls
call_within p zero called words at means rest = ends (ProcDeep at)
call_within p (suc depth) called words at means rest =
    paying CALL_COST means (λ left. body_deed p (call_within p depth) (slice_get p.procs called) words left rest)

-- What a thread does, with room for so many objects and so much charge. At the end of its block it is finished.
unfoldable pub thread_deed : Program → ℕ → ℕ → ℕ → Deed
thread_deed p objects events thread =
    body_deed p (call_within p MOST_OPEN_CALLS) (slice_get p.threads thread) [] (record { charge = events; room = objects }) (λ _. ends Finished)

-- what a thread does next: it asks for something, or it has ended
pub data Turn : Type 0 where
  asks_for : Request → Turn
  has_ended : End → Turn

-- the first that a deed does
abbrev pub turn_of : Deed → Turn
turn_of (ends end) = has_ended end
turn_of (asks request next) = asks_for request

-- what is left to do after these replies, in order; who has ended does nothing more
abbrev pub deed_after : List ℕ → Deed → Deed
deed_after [] deed = deed
deed_after (reply ∷ replies) (ends end) = ends end
deed_after (reply ∷ replies) (asks request next) = deed_after replies (next reply)

-- A thread's code: what it does next, after these replies.
unfoldable pub next_request : Program → Sizes → ℕ → List ℕ → Turn
next_request p sizes thread replies = turn_of (deed_after replies (thread_deed p sizes.objects sizes.events thread))

-- the reply that a thread has from its event
abbrev pub reply_of : Event → ℕ
reply_of (New m obj class) = obj
reply_of (Load m obj field value) = value
reply_of (Store m obj field value) = 0
reply_of (Cas m obj field expect value done) = if done then 1 else 0
reply_of (Launch m site number args) = 0
reply_of (Retire m number) = 0

-- the event answers what the thread does next
abbrev pub IsAnswerTo : Event → Turn → Type 0
IsAnswerTo (New m obj class) turn = turn ≡ asks_for (make class)
IsAnswerTo (Load m obj field value) turn = turn ≡ asks_for (load obj field)
IsAnswerTo (Store m obj field value) turn = turn ≡ asks_for (store obj field value)
IsAnswerTo (Cas m obj field expect value done) turn = turn ≡ asks_for (cas obj field expect value)
IsAnswerTo (Launch m site number args) turn = turn ≡ asks_for (launch site args)
IsAnswerTo (Retire m number) turn = ⊥

-- after these replies, each event answers what the code asks for next, and after the last one the code does this
abbrev pub LeadsAfter : Program → Sizes → ℕ → List ℕ → List Event → Turn → Type 0
LeadsAfter p sizes thread replies [] turn = next_request p sizes thread replies ≡ turn
LeadsAfter p sizes thread replies (e ∷ es) turn =
    IsAnswerTo e (next_request p sizes thread replies) × LeadsAfter p sizes thread (replies ++ reply_of e ∷ []) es turn

-- the events follow the thread's code from its beginning, each the answer to its request, and it does this next
unfoldable pub LeadTo : Program → Sizes → ℕ → List Event → Turn → Type 0
LeadTo p sizes thread es turn = LeadsAfter p sizes thread [] es turn

-- the events follow the thread's code from its beginning to this end
unfoldable pub Follows : Program → Sizes → ℕ → List Event → End → Type 0
Follows p sizes thread es end = LeadTo p sizes thread es (has_ended end)

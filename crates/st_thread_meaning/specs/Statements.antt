-- What statements do, one case a statement. What comes behind a statement is given to it, as `rest`: what the thread does then, from the
-- locals and the means that are left.
use Rattle.std.specs.Prelude.{ℕ, zero, suc, ◌-◌, ◌==◌, true, false, List, [], ◌++◌, length, map, replicate, take, Option, Some, None, unwrap_or, slice_get, slice_set}
use Rattle.st_events.specs.declared.events.Args.{Args}
use Rattle.st_events.specs.declared.events.Site.{Site}
use Rattle.st_events.specs.declared.heaps.TheConstants.{SHARED_OBJECT}
use Rattle.st_events.specs.declared.shapes.TheConstants.{MOST_ARGS}
use Rattle.st_events.specs.declared.verdicts.End.{End}
use Rattle.st_events.specs.declared.verdicts.End.TheVariants.{Finished, Null, Divide, Overflow, HeapFull, EventsSpent}
use Rattle.st_events.specs.declared.verdicts.Plain.{Plain}
use Rattle.st_events.specs.declared.verdicts.Plain.TheVariants as plain
use Rattle.st_resolved.specs.Terms.{Term, Target, to_shared, to_field, Source, from_term, from_new, from_cas}
use Rattle.st_resolved.specs.Terms.{Command, a_set, a_put, an_if, a_while, a_proc_call, a_launch, Block, no_commands, command_then, CheckStatement, Program}
use Rattle.st_check_meaning.specs.Courses.{Course, comes_to, ends_in, reads, uses_unit}
use Rattle.st_check_meaning.specs.Numbers.{is_true}
use Rattle.st_check_meaning.specs.Meaning.{Calls, course_of, courses_of}
use Rattle.st_thread_meaning.specs.declared.limits.TheConstants.{TURN_COST}
use Rattle.st_thread_meaning.specs.Deeds.{Request, make, store, load, cas, launch, Deed, ends, Means, paying, asking}

-- a fault of an evaluation as the end of a thread; an expression of a thread calls nothing, so it comes to no other end
abbrev pub end_of : Plain → End
end_of (plain.Null at) = Null at
end_of (plain.Divide at) = Divide at
end_of (plain.Overflow at) = Overflow at
end_of other = Finished

-- the reads of an evaluation are events of the thread, and its fault is the thread's end
abbrev pub evaluating : {A : Type 0} → Course A → Means → (A → Means → Deed) → Deed
evaluating (comes_to x) means rest = rest x means
evaluating (ends_in fault) means rest = ends (end_of fault)
evaluating (reads obj field next) means rest = asking (load obj field) means (λ word left. evaluating (next word) left rest)
evaluating (uses_unit next) means rest = evaluating (next tt) means rest

-- an expression of a thread calls nothing
abbrev pub no_calls : Calls
no_calls pred words = comes_to 0

-- an expression over the locals
abbrev pub term_deed : Term → List ℕ → Means → (ℕ → Means → Deed) → Deed
term_deed t locals means rest = evaluating (course_of no_calls t locals) means rest

-- the object of a target
abbrev pub object_deed : Target → List ℕ → Means → (ℕ → Means → Deed) → Deed
object_deed (to_shared field) locals means rest = rest SHARED_OBJECT means
object_deed (to_field object field at) locals means rest = term_deed object locals means rest

-- an event at the field of a target, once its object is known; of null it is a fault at the `.`, before the event is paid for
abbrev pub target_deed : Target → ℕ → (ℕ → ℕ → Request) → Means → (ℕ → Means → Deed) → Deed
target_deed (to_shared field) obj request means rest = asking (request obj field) means rest
target_deed (to_field object field at) obj request means rest =
    elim (obj == 0) [ true ↦ ends (Null at) | false ↦ asking (request obj field) means rest ]

-- a new object: the heap is full where the thread has made all of its region, before the event is paid for
abbrev pub new_deed : ℕ → Site → Means → (ℕ → Means → Deed) → Deed
new_deed class at means rest =
    elim (means.room == 0) [ true ↦ ends (HeapFull at) | false ↦ asking (make class) means (λ obj left. rest obj (record left { room = left.room - 1 })) ]

-- what stands to the right of `=`. Of a `cas` the object, the expected word and the new one come before the test for null; its reply
-- says whether the word was replaced
abbrev pub source_deed : Source → List ℕ → Means → (ℕ → Means → Deed) → Deed
source_deed (from_term t) locals means rest = term_deed t locals means rest
source_deed (from_new class at) locals means rest = new_deed class at means rest
source_deed (from_cas target expect value) locals means rest =
    object_deed target locals means (λ obj left.
    term_deed expect locals left (λ expected left.
    term_deed value locals left (λ word left.
    target_deed target obj (λ o field. cas o field expected word) left rest)))

-- the words of the locals with these numbers
abbrev pub values_of : List ℕ → List ℕ → List ℕ
values_of locals names = map (λ name. unwrap_or (slice_get locals name) 0) names

-- words as the arguments of a check; unused words are 0
abbrev pub args_of : List ℕ → Args
args_of words = record { count = length words; words = take MOST_ARGS (words ++ replicate MOST_ARGS 0) }

-- the locals that a check statement takes, if there is one, and no more than there may be; a well-formed program launches no other
abbrev pub names_of : Option CheckStatement → List ℕ
names_of None = []
names_of (Some check) = take MOST_ARGS check.args

-- from some locals and means on, what a statement does, and then what comes behind it
abbrev pub Steps : Type 0
Steps = List ℕ → Means → (List ℕ → Means → Deed) → Deed

-- one turn of a loop: it is paid for, then its condition is evaluated; where that is true the body is done and what comes again, else
-- what comes behind the loop
abbrev pub one_turn : (List ℕ → Means → (ℕ → Means → Deed) → Deed) → Steps → (List ℕ → Means → Deed) → Steps
one_turn test body again locals means rest =
    paying TURN_COST means (λ paid.
    test locals paid (λ word left.
    elim (is_true word) [ true ↦ body locals left again | false ↦ rest locals left ]))

-- A loop, with at most so many turns. Each is paid for, so there are never more than the charge pays for.
abbrev pub turns : ℕ → (List ℕ → Means → (ℕ → Means → Deed) → Deed) → Steps → Steps
turns zero test body locals means rest = ends EventsSpent
turns (suc more) test body locals means rest = one_turn test body (λ changed behind. turns more test body changed behind rest) locals means rest

-- What a call of a procedure does, by its number, with the words of its arguments, at the place of its name; the caller goes on with the
-- means that are left.
abbrev pub ProcCalls : Type 0
ProcCalls = ℕ → List ℕ → Site → Means → (Means → Deed) → Deed

-- A statement. What a call does is given.
abbrev mutual
  pub command_deed : Program → ProcCalls → Command → Steps
  command_deed p calls (a_set local source) locals means rest = source_deed source locals means (λ word left. rest (slice_set locals local word) left)
  command_deed p calls (a_put target source) locals means rest =
      object_deed target locals means (λ obj left.
      source_deed source locals left (λ word left.
      target_deed target obj (λ o field. store o field word) left (λ _ left. rest locals left)))
  command_deed p calls (an_if test first other) locals means rest =
      term_deed test locals means (λ word left. elim (is_true word) [ true ↦ block_deed p calls first locals left rest | false ↦ block_deed p calls other locals left rest ])
  command_deed p calls (a_while test body) locals means rest = turns means.charge (term_deed test) (block_deed p calls body) locals means rest
  command_deed p calls (a_proc_call called args at) locals means rest =
      evaluating (courses_of no_calls args locals) means (λ words left. calls called words at left (λ behind. rest locals behind))
  command_deed p calls (a_launch site) locals means rest =
      asking (launch site (args_of (values_of locals (names_of (slice_get p.checks site))))) means (λ _ left. rest locals left)

  -- statements, one after another
  pub block_deed : Program → ProcCalls → Block → Steps
  block_deed p calls no_commands locals means rest = rest locals means
  block_deed p calls (command_then c cs) locals means rest = command_deed p calls c locals means (λ changed left. block_deed p calls cs changed left rest)

-- A mutator does what the thread's code does, from its beginning on and after each reply
use Rattle.std.proofs.Common.{◌≡◌, ℕ, zero, suc, ◌+◌, ◌-◌, ◌≤◌, List, [], ◌∷◌, ◌++◌, length, refl, sym, ◌∙◌, ap, subst, arith, Option, Some, None}
use Rattle.std.specs.Prelude.{slice_get}
use Rattle.st_events.specs.declared.limits.Sizes.{Sizes}
use Rattle.st_events.specs.declared.verdicts.End.{End}
use Rattle.st_resolved.specs.declared.limits.TheConstants.{MOST_LOCALS}
use Rattle.st_resolved.specs.Terms.{Routine, Program}
use Rattle.st_thread_meaning.specs.Deeds.{make, load, store, cas, launch, Deed, ends, asks}
use Rattle.st_thread_meaning.specs.Threads.{Turn, asks_for, has_ended, turn_of, deed_after, thread_deed, next_request}
use Rattle.st_thread_meaning.proofs.FollowLemmas.{after_both}
use Rattle.st_mutator.specs.declared.asking.Asked.{Asked}
use Rattle.st_mutator.specs.declared.asking.Asked.TheVariants as asked
use Rattle.st_mutator.specs.declared.machines.Machine.{Machine}
use Rattle.st_mutator.specs.declared.nodes.Entry.{Entry}
use Rattle.st_mutator.specs.Running.{code_meaning}
use Rattle.st_mutator.specs.Laying.{lay_procs, lay_thread, lay_program}
use Rattle.st_mutator.specs.Mutators.{Mutating, deed_of_ended, deed_with, replies_in, HasHad, HaveFewLocals, HasFewLocals, NamesObject, narrow, narrowed, IsBetweenCalls, begun}
use Rattle.st_mutator.specs.Standing.{Becomes, deed_when_told, deed_by_turn, turn_of_asked, end_of_asked, IsStanding, IsWaiting, WaitsFor, IsAnswer, IsCode}
use Rattle.st_mutator.proofs.ProgramLemmas.{IsProgramCode, program_is_laid, AreEntriesOf, entry_within}

-- ---- replies

turn_of_deed : (turn : Turn) (next : ℕ → Deed) → turn_of (deed_by_turn turn next) ≡ turn
turn_of_deed (asks_for request) next = refl
turn_of_deed (has_ended end) next = refl

replies_more : (words : List ℕ) (reply more : ℕ) → replies_in ((words ++ reply ∷ []) ++ more ∷ []) ≡ replies_in (words ++ reply ∷ []) ++ more ∷ []
replies_more [] reply more = refl
replies_more (word ∷ words) reply more = refl

-- what is done after one reply more
one_reply_more :
    (words : List ℕ) (reply more : ℕ) (deed : Deed)
    → deed_after (replies_in ((words ++ reply ∷ []) ++ more ∷ [])) deed ≡ deed_after (more ∷ []) (deed_after (replies_in (words ++ reply ∷ [])) deed)
one_reply_more words reply more deed =
    ap (λ (rs : List ℕ). deed_after rs deed) (replies_more words reply more) ∙ after_both (replies_in (words ++ reply ∷ [])) (more ∷ []) deed

-- a machine that runs, seen whole
abbrev pub running : Machine → Mutating
running m = record { machine = m; ended = None }

-- what was asked for is what the mutator did with the reply
pub answered_turn :
    (m new : Machine) (s : Mutating) (reply : ℕ) (a : Asked)
    → running m ≡ s
    → IsAnswer a new (deed_when_told m reply)
    → turn_of (deed_with s reply) ≡ turn_of_asked a
answered_turn m new s reply a seen h =
    ap (λ (x : Mutating). turn_of (deed_with x reply)) (sym seen) ∙ ap turn_of h.asks ∙ turn_of_deed (turn_of_asked a) (deed_when_told new)

-- an object of 32 bits is told as it is
told_as_it_is : (turn : Turn) → NamesObject turn → narrowed turn ≡ turn
told_as_it_is (asks_for (make class)) h = refl
told_as_it_is (asks_for (load obj field)) h = ap (λ (o : ℕ). asks_for (load o field)) (omega (arith, h))
told_as_it_is (asks_for (store obj field value)) h = ap (λ (o : ℕ). asks_for (store o field value)) (omega (arith, h))
told_as_it_is (asks_for (cas obj field expect value)) h = ap (λ (o : ℕ). asks_for (cas o field expect value)) (omega (arith, h))
told_as_it_is (asks_for (launch site args)) h = refl
told_as_it_is (has_ended end) h = refl

-- after a run of the machine the turn that is told is, but for the size of an object's number, what the code asks for next after the replies so far
pub answered_request :
    (m new : Machine) (s : Mutating) (reply : ℕ) (a : Asked) (turn : Turn)
    → running m ≡ s
    → IsAnswer a new (deed_when_told m reply)
    → turn ≡ narrowed (turn_of_asked a)
    → (p : Program) (sizes : Sizes) (thread : ℕ) (words : List ℕ)
    → HasHad p sizes thread s words
    → turn ≡ narrowed (next_request p sizes thread (replies_in (words ++ reply ∷ [])))
unfolding next_request
answered_request m new s reply a turn seen h is p sizes thread words had =
    is ∙ ap narrowed (sym (answered_turn m new s reply a seen h) ∙ ap turn_of (had.does reply))

-- and where the object that the code asks for has a number of 32 bits, the turn that is told is exactly that
pub answered_exactly :
    (m new : Machine) (s : Mutating) (reply : ℕ) (a : Asked) (turn : Turn)
    → running m ≡ s
    → IsAnswer a new (deed_when_told m reply)
    → turn ≡ narrowed (turn_of_asked a)
    → (p : Program) (sizes : Sizes) (thread : ℕ) (words : List ℕ)
    → HasHad p sizes thread s words
    → NamesObject (next_request p sizes thread (replies_in (words ++ reply ∷ [])))
    → turn ≡ next_request p sizes thread (replies_in (words ++ reply ∷ []))
answered_exactly m new s reply a turn seen h is p sizes thread words had small =
    answered_request m new s reply a turn seen h is p sizes thread words had ∙ told_as_it_is (next_request p sizes thread (replies_in (words ++ reply ∷ []))) small

-- what is done with the next reply, by what was asked for
next_deed :
    (a : Asked) (new : Machine) (more : ℕ)
    → deed_with (record { machine = new; ended = end_of_asked a }) more ≡ deed_after (more ∷ []) (deed_by_turn (turn_of_asked a) (deed_when_told new))
next_deed (asked.New class) new more = refl
next_deed (asked.Load obj field) new more = refl
next_deed (asked.Store obj field value) new more = refl
next_deed (asked.Cas obj field expect value) new more = refl
next_deed (asked.Launch site args) new more = refl
next_deed (asked.End end) new more = refl

-- after a run of the machine the mutator has had one word more: whatever comes next, it does what the code does after these replies
pub goes_on :
    (m new : Machine) (s : Mutating) (reply : ℕ) (a : Asked) (ended : Option End)
    → running m ≡ s
    → IsAnswer a new (deed_when_told m reply)
    → ended ≡ end_of_asked a
    → (p : Program) (sizes : Sizes) (thread : ℕ) (words : List ℕ)
    → HasHad p sizes thread s words
    → HasHad p sizes thread (record { machine = new; ended = ended }) (words ++ reply ∷ [])
goes_on m new s reply a ended seen h is p sizes thread words had = record {
  does = λ more.
      ap (λ (o : Option End). deed_with (record { machine = new; ended = o }) more) is
      ∙ next_deed a new more
      ∙ ap (deed_after (more ∷ [])) (sym h.asks ∙ ap (λ (x : Mutating). deed_with x reply) seen ∙ had.does reply)
      ∙ sym (one_reply_more words reply more (thread_deed p sizes.objects sizes.events thread));
}

-- who has ended stays so
pub ended_request :
    (m : Machine) (s : Mutating) (reply : ℕ) (end : End)
    → record { machine = m; ended = Some end } ≡ s
    → (p : Program) (sizes : Sizes) (thread : ℕ) (words : List ℕ)
    → HasHad p sizes thread s words
    → has_ended end ≡ next_request p sizes thread (replies_in (words ++ reply ∷ []))
unfolding next_request
ended_request m s reply end seen p sizes thread words had = ap (λ (x : Mutating). turn_of (deed_with x reply)) seen ∙ ap turn_of (had.does reply)

-- who has ended tells its end, and this is what the code comes to; an end names no object, so nothing of it is told otherwise
pub ended_narrowed :
    (m : Machine) (s : Mutating) (reply : ℕ) (end : End)
    → record { machine = m; ended = Some end } ≡ s
    → (p : Program) (sizes : Sizes) (thread : ℕ) (words : List ℕ)
    → HasHad p sizes thread s words
    → has_ended end ≡ narrowed (next_request p sizes thread (replies_in (words ++ reply ∷ [])))
ended_narrowed m s reply end seen p sizes thread words had = ap narrowed (ended_request m s reply end seen p sizes thread words had)

-- who has ended has had each further word too, and does nothing with it
pub ended_goes_on :
    (m : Machine) (s : Mutating) (reply : ℕ) (end : End)
    → record { machine = m; ended = Some end } ≡ s
    → (p : Program) (sizes : Sizes) (thread : ℕ) (words : List ℕ)
    → HasHad p sizes thread s words
    → HasHad p sizes thread s (words ++ reply ∷ [])
ended_goes_on m s reply end seen p sizes thread words had = record {
  does = λ more.
      sym (ap (λ (x : Mutating). deed_with x more) seen)
      ∙ ap (deed_after (more ∷ [])) (ap (λ (x : Mutating). deed_with x reply) seen ∙ had.does reply)
      ∙ sym (one_reply_more words reply more (thread_deed p sizes.objects sizes.events thread));
}

waits_unless_ended : (a : Asked) (new : Machine) → WaitsFor (Some a) new → end_of_asked a ≡ None → IsWaiting new
waits_unless_ended (asked.New class) new h e = h
waits_unless_ended (asked.Load obj field) new h e = h
waits_unless_ended (asked.Store obj field value) new h e = h
waits_unless_ended (asked.Cas obj field expect value) new h e = h
waits_unless_ended (asked.Launch site args) new h e = h
waits_unless_ended (asked.End end) new h e = absurd (cc)

-- the machine stands after an answer
pub stands_after : (a : Asked) (new : Machine) (deed : Deed) → IsAnswer a new deed → IsBetweenCalls (record { machine = new; ended = end_of_asked a })
stands_after a new deed h = record { standing = h.standing; waiting = waits_unless_ended a new h.waits }

-- ---- the beginning

few_at : (rs : List Routine) (index : ℕ) (r : Routine) → HaveFewLocals rs → slice_get rs index ≡ Some r → length r.locals ≤ MOST_LOCALS
few_at [] index r h e = absurd (cc)
few_at (x ∷ rs) zero r h e = let same : x ≡ r = cc in subst (λ (y : Routine). length y.locals ≤ MOST_LOCALS) same h.0
few_at (x ∷ rs) (suc index) r h e = few_at rs index r h.1 e

-- the laid code is code as a machine needs it: each node names earlier ones, and each procedure begins within it with few locals
pub code_is_sound :
    (p : Program) (thread : ℕ)
    → HasFewLocals p
    → IsCode (lay_program p thread).nodes (lay_program p thread).entries
code_is_sound p thread few =
    let laid = program_is_laid p thread in
    record {
      ordered = laid.ordered;
      entries_within = λ index entry e. (entry_within p (lay_program p thread).nodes p.procs (lay_program p thread).entries index entry laid.entries e).3;
      few_locals = λ index entry e.
          let found = entry_within p (lay_program p thread).nodes p.procs (lay_program p thread).entries index entry laid.entries e in
          omega (arith, found.2, few_at p.procs index found.0 few.procs found.1);
    }

-- a machine that begins stands, and waits for a first word
pub begun_stands : (p : Program) (thread objects events : ℕ) → HasFewLocals p → IsBetweenCalls (running (begun (lay_program p thread) objects events))
begun_stands p thread objects events few =
    let laid = program_is_laid p thread in
    record {
      standing = record {
        code = code_is_sound p thread few;
        operands = omega (arith, laid.within);
        operands_room = omega arith;
        frames = tt;
        frames_room = omega arith;
        callers = omega arith;
        callers_room = omega arith;
      };
      waiting = λ _. omega (arith, laid.within);
    }

-- and does what the thread does
pub begun_does :
    (p : Program) (sizes : Sizes) (thread objects events : ℕ)
    → sizes.objects ≡ objects
    → sizes.events ≡ events
    → HasHad p sizes thread (running (begun (lay_program p thread) objects events)) []
begun_does p sizes thread objects events o e = record {
  does = λ reply.
      (program_is_laid p thread).does objects events
      ∙ ap (λ (n : ℕ). thread_deed p n events thread) (sym o)
      ∙ ap (λ (n : ℕ). thread_deed p sizes.objects n thread) (sym e);
}

-- the thread's own locals are few too
pub few_at_first : (p : Program) (thread : ℕ) → HasFewLocals p → (lay_program p thread).entry.locals ≤ MOST_LOCALS
few_at_first p thread few = by (slice_get p.threads thread) refl
  where
    by : (o : Option Routine) → slice_get p.threads thread ≡ o → (lay_thread p.checks o (lay_procs p.checks p.procs []).nodes).entry.locals ≤ MOST_LOCALS
    by None e = omega arith
    by (Some r) e = few_at p.threads thread r few.threads e

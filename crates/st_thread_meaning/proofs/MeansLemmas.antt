-- A thread asks for no more than its means pay for
use Rattle.std.proofs.Common.{◌≡◌, ℕ, zero, suc, ◌+◌, ◌-◌, ◌≤◌, ◌==◌, nat_lt, Bool, true, false, List, [], ◌∷◌, length, filter, refl, subst, arith}
use Rattle.std.proofs.lemmas.Bool.{ltb-false}
use Rattle.std.proofs.lemmas.List.Sums.{sum_by-cons}
use Rattle.std.specs.Prelude.{Option, Some, None, slice_get, slice_set}
use Rattle.st_events.specs.declared.events.Event.{Event}
use Rattle.st_events.specs.declared.events.Event.TheVariants.{New, Load, Store, Cas, Launch, Retire}
use Rattle.st_events.specs.declared.events.Site.{Site}
use Rattle.st_events.specs.declared.heaps.TheConstants.{SHARED_OBJECT}
use Rattle.st_events.specs.declared.limits.Sizes.{Sizes}
use Rattle.st_events.specs.declared.verdicts.End.{End}
use Rattle.st_events.specs.declared.verdicts.End.TheVariants.{Finished, Null, HeapFull, EventsSpent}
use Rattle.st_events.specs.History.{charge_of, charge_of_all, is_launch, is_new}
use Rattle.st_resolved.specs.Terms.{Term, Target, to_shared, to_field, Source, from_term, from_new, from_cas}
use Rattle.st_resolved.specs.Terms.{Command, a_set, a_put, an_if, a_while, a_proc_call, a_launch, Block, no_commands, command_then, Routine, Program}
use Rattle.st_check_meaning.specs.Courses.{Course, comes_to, ends_in, reads, uses_unit}
use Rattle.st_check_meaning.specs.Meaning.{course_of, courses_of}
use Rattle.st_check_meaning.specs.Numbers.{is_true}
use Rattle.st_thread_meaning.specs.declared.limits.TheConstants.{TURN_COST, CALL_COST, MOST_OPEN_CALLS}
use Rattle.st_thread_meaning.specs.Deeds.{Request, make, store, load, cas, launch, Deed, ends, asks, Means, paying, cost_of, asking}
use Rattle.st_thread_meaning.specs.Statements.{evaluating, no_calls, term_deed, object_deed, target_deed, new_deed, source_deed, names_of, values_of, args_of, Steps, turns, ProcCalls}
use Rattle.st_thread_meaning.specs.Statements.{command_deed, block_deed}
use Rattle.st_thread_meaning.specs.Threads.{first_locals, body_deed, call_within, thread_deed, Turn, asks_for, has_ended, reply_of, IsAnswerTo, LeadTo}
use Rattle.st_thread_meaning.specs.Laws.{KeepWithinMeans}
use Rattle.st_thread_meaning.proofs.LoopLemmas.{paid}
use Rattle.st_thread_meaning.proofs.FollowLemmas.{LeadsFrom, leads_from}

-- how many objects a request makes
abbrev objects_of : Request → ℕ
objects_of (make class) = 1
objects_of (load obj field) = 0
objects_of (store obj field value) = 0
objects_of (cas obj field expect value) = 0
objects_of (launch site args) = 0

-- what is left of the means after a request
abbrev left_after : Request → Means → Means
left_after request means = record { charge = means.charge - cost_of request; room = means.room - objects_of request }

-- the deed asks for no more than the means pay for
abbrev IsWithin : Deed → Means → Type 0
IsWithin (ends end) means = Unit {0}
IsWithin (asks request next) means =
    (cost_of request ≤ means.charge) × (objects_of request ≤ means.room) × ((reply : ℕ) → IsWithin (next reply) (left_after request means))

-- with more means it does so too
more_means : (deed : Deed) (means more : Means) → means.charge ≤ more.charge → means.room ≤ more.room → IsWithin deed means → IsWithin deed more
more_means (ends end) means more hc hr h = tt
more_means (asks request next) means more hc hr h = (
  omega (arith, h.0, hc),
  omega (arith, h.1, hr),
  λ reply. more_means (next reply) (left_after request means) (left_after request more) (omega (arith, hc)) (omega (arith, hr)) (h.2 reply),
)

-- whatever it goes on with, it asks for no more than the means that are left pay for
abbrev AreWithin : {A : Type 0} → (A → Means → Deed) → Type 0
AreWithin {A} rest = (x : A) (means : Means) → IsWithin (rest x means) means

abbrev KeepsWithin : {A : Type 0} → (List ℕ → Means → (A → Means → Deed) → Deed) → Type 0
KeepsWithin {A} step = (locals : List ℕ) (means : Means) (rest : A → Means → Deed) → AreWithin rest → IsWithin (step locals means rest) means

branches_within : (t : Bool) (a b : Deed) (means : Means) → IsWithin a means → IsWithin b means → IsWithin (elim t [ true ↦ a | false ↦ b ]) means
branches_within true a b means h k = h
branches_within false a b means h k = k

paying_within : (cost : ℕ) (means : Means) (rest : Means → Deed) → (cost ≤ means.charge → IsWithin (rest (paid cost means)) means) → IsWithin (paying cost means rest) means
paying_within cost means rest h = by (nat_lt means.charge cost) refl
  where
    by : (t : Bool) → nat_lt means.charge cost ≡ t → IsWithin (elim t [ true ↦ ends EventsSpent | false ↦ rest (paid cost means) ]) means
    by true e = tt
    by false e = h (ltb-false means.charge cost e)

asking_within :
    (request : Request) (means : Means) (rest : ℕ → Means → Deed)
    → objects_of request ≤ means.room
    → ((reply : ℕ) → IsWithin (rest reply (paid (cost_of request) means)) (left_after request means))
    → IsWithin (asking request means rest) means
asking_within request means rest room h =
    paying_within (cost_of request) means (λ left. asks request (λ reply. rest reply left)) (λ enough. (enough, room, h))

-- a request that makes no object
plain_within : (request : Request) (means : Means) (rest : ℕ → Means → Deed) → objects_of request ≡ 0 → AreWithin rest → IsWithin (asking request means rest) means
plain_within request means rest none h =
    asking_within request means rest (omega (arith, none)) (λ reply.
    more_means (rest reply (paid (cost_of request) means)) (paid (cost_of request) means) (left_after request means) (omega arith) (omega (arith, none)) (h reply (paid (cost_of request) means)))

evaluating_within : {A : Type 0} (c : Course A) (means : Means) (rest : A → Means → Deed) → AreWithin rest → IsWithin (evaluating c means rest) means
evaluating_within (comes_to x) means rest h = h x means
evaluating_within (ends_in fault) means rest h = tt
evaluating_within (reads obj field next) means rest h =
    plain_within (load obj field) means (λ word left. evaluating (next word) left rest) refl (λ word left. evaluating_within (next word) left rest h)
evaluating_within (uses_unit next) means rest h = evaluating_within (next tt) means rest h

term_within : (t : Term) → KeepsWithin (term_deed t)
term_within t locals means rest h = evaluating_within (course_of no_calls t locals) means rest h

object_within : (target : Target) → KeepsWithin (object_deed target)
object_within (to_shared field) locals means rest h = h SHARED_OBJECT means
object_within (to_field object field at) locals means rest h = term_within object locals means rest h

target_within :
    (target : Target) (obj : ℕ) (request : ℕ → ℕ → Request) (means : Means) (rest : ℕ → Means → Deed)
    → ((o field : ℕ) → objects_of (request o field) ≡ 0)
    → AreWithin rest
    → IsWithin (target_deed target obj request means rest) means
target_within (to_shared field) obj request means rest none h = plain_within (request obj field) means rest (none obj field) h
target_within (to_field object field at) obj request means rest none h =
    branches_within (obj == 0) (ends (Null at)) (asking (request obj field) means rest) means tt (plain_within (request obj field) means rest (none obj field) h)

new_within : (class : ℕ) (at : Site) (means : Means) (rest : ℕ → Means → Deed) → AreWithin rest → IsWithin (new_deed class at means rest) means
new_within class at means rest h = by (means.room == 0) refl
  where
    made : ℕ → Means → Deed
    made obj left = rest obj (record left { room = left.room - 1 })

    some : (n : ℕ) → (n == 0) ≡ false → 1 ≤ n
    some zero e = absurd (cc)
    some (suc n) e = omega arith

    by : (t : Bool) → (means.room == 0) ≡ t
        → IsWithin (elim t [ true ↦ ends (HeapFull at) | false ↦ asking (make class) means (λ obj left. rest obj (record left { room = left.room - 1 })) ]) means
    by true e = tt
    by false e =
        asking_within (make class) means (λ obj left. rest obj (record left { room = left.room - 1 })) (some means.room e)
        (λ reply. h reply (left_after (make class) means))

source_within : (source : Source) → KeepsWithin (source_deed source)
source_within (from_term t) locals means rest h = term_within t locals means rest h
source_within (from_new class at) locals means rest h = new_within class at means rest h
source_within (from_cas target expect value) locals means rest h =
    object_within target locals means _ (λ obj m1.
    term_within expect locals m1 _ (λ expected m2.
    term_within value locals m2 _ (λ word m3.
    target_within target obj (λ o field. cas o field expected word) m3 rest (λ o field. refl) h)))

turns_within :
    (test : List ℕ → Means → (ℕ → Means → Deed) → Deed) (body : Steps)
    → KeepsWithin test
    → KeepsWithin body
    → (n : ℕ)
    → KeepsWithin (turns n test body)
turns_within test body ht hb zero locals means rest h = tt
turns_within test body ht hb (suc n) locals means rest h =
    paying_within TURN_COST means (λ spent. test locals spent chosen) (λ enough.
    more_means (test locals (paid TURN_COST means) chosen) (paid TURN_COST means) means (omega arith) (omega arith)
    (ht locals (paid TURN_COST means) chosen (λ word left.
    branches_within (is_true word) (body locals left again) (rest locals left) left
    (hb locals left again (λ changed behind. turns_within test body ht hb n changed behind rest h)) (h locals left))))
  where
    again : List ℕ → Means → Deed
    again changed behind = turns n test body changed behind rest

    chosen : ℕ → Means → Deed
    chosen word left = elim (is_true word) [ true ↦ body locals left again | false ↦ rest locals left ]

abbrev CallsKeepWithin : ProcCalls → Type 0
CallsKeepWithin calls =
    (called : ℕ) (words : List ℕ) (at : Site) (means : Means) (rest : Means → Deed)
    → ((left : Means) → IsWithin (rest left) left)
    → IsWithin (calls called words at means rest) means

mutual
  command_within : (p : Program) (calls : ProcCalls) → CallsKeepWithin calls → (c : Command) → KeepsWithin (command_deed p calls c)
  command_within p calls hc (a_set local source) locals means rest h = source_within source locals means _ (λ word left. h (slice_set locals local word) left)
  command_within p calls hc (a_put target source) locals means rest h =
      object_within target locals means _ (λ obj m1.
      source_within source locals m1 _ (λ word m2.
      target_within target obj (λ o field. store o field word) m2 _ (λ o field. refl) (λ x m. h locals m)))
  command_within p calls hc (an_if test first second) locals means rest h =
      term_within test locals means _ (λ word left.
      branches_within (is_true word) (block_deed p calls first locals left rest) (block_deed p calls second locals left rest) left
      (block_within p calls hc first locals left rest h) (block_within p calls hc second locals left rest h))
  command_within p calls hc (a_while test body) locals means rest h =
      turns_within (term_deed test) (block_deed p calls body) (term_within test) (block_within p calls hc body) means.charge locals means rest h
  command_within p calls hc (a_proc_call called args at) locals means rest h =
      evaluating_within (courses_of no_calls args locals) means _ (λ words left. hc called words at left (λ behind. rest locals behind) (λ behind. h locals behind))
  command_within p calls hc (a_launch site) locals means rest h =
      plain_within (launch site (args_of (values_of locals (names_of (slice_get p.checks site))))) means (λ _ left. rest locals left) refl (λ _ left. h locals left)

  block_within : (p : Program) (calls : ProcCalls) → CallsKeepWithin calls → (b : Block) → KeepsWithin (block_deed p calls b)
  block_within p calls hc no_commands locals means rest h = h locals means
  block_within p calls hc (command_then c cs) locals means rest h =
      command_within p calls hc c locals means _ (λ changed left. block_within p calls hc cs changed left rest h)

body_within :
    (p : Program) (calls : ProcCalls) → CallsKeepWithin calls
    → (o : Option Routine) (words : List ℕ) (means : Means) (rest : Means → Deed)
    → ((left : Means) → IsWithin (rest left) left)
    → IsWithin (body_deed p calls o words means rest) means
body_within p calls hc None words means rest h = h means
body_within p calls hc (Some r) words means rest h = block_within p calls hc r.block (first_locals r words) means (λ _ left. rest left) (λ _ left. h left)

calls_within : (p : Program) (depth : ℕ) → CallsKeepWithin (call_within p depth)
unfolding call_within
calls_within p zero called words at means rest h = tt
calls_within p (suc depth) called words at means rest h =
    paying_within CALL_COST means (λ left. body_deed p (call_within p depth) (slice_get p.procs called) words left rest) (λ enough.
    more_means (body_deed p (call_within p depth) (slice_get p.procs called) words (paid CALL_COST means) rest) (paid CALL_COST means) means (omega arith) (omega arith)
    (body_within p (call_within p depth) (calls_within p depth) (slice_get p.procs called) words (paid CALL_COST means) rest h))

-- a thread asks for no more than it begins with
thread_within : (p : Program) (objects events thread : ℕ) → IsWithin (thread_deed p objects events thread) (record { charge = events; room = objects })
unfolding thread_deed
thread_within p objects events thread =
    body_within p (call_within p MOST_OPEN_CALLS) (calls_within p MOST_OPEN_CALLS) (slice_get p.threads thread) [] (record { charge = events; room = objects })
    (λ _. ends Finished) (λ left. tt)

-- an event takes what the request that it answers costs
cost_is_charge : (e : Event) (request : Request) → IsAnswerTo e (asks_for request) → charge_of e ≡ cost_of request
cost_is_charge (New m obj class) request h = let same : make class ≡ request = cc in subst (λ (r : Request). charge_of (New m obj class) ≡ cost_of r) same refl
cost_is_charge (Load m obj field value) request h =
    let same : load obj field ≡ request = cc in subst (λ (r : Request). charge_of (Load m obj field value) ≡ cost_of r) same refl
cost_is_charge (Store m obj field value) request h =
    let same : store obj field value ≡ request = cc in subst (λ (r : Request). charge_of (Store m obj field value) ≡ cost_of r) same refl
cost_is_charge (Cas m obj field expect value done) request h =
    let same : cas obj field expect value ≡ request = cc in subst (λ (r : Request). charge_of (Cas m obj field expect value done) ≡ cost_of r) same refl
cost_is_charge (Launch m site number args) request h =
    let same : launch site args ≡ request = cc in subst (λ (r : Request). charge_of (Launch m site number args) ≡ cost_of r) same refl
cost_is_charge (Retire m number) request h = absurd h

-- how many events these are, each launch counted twice
abbrev charge_used : List Event → ℕ
charge_used es = length es + length (filter is_launch es)

-- how many objects they make
abbrev room_used : List Event → ℕ
room_used es = length (filter is_new es)

-- the event costs and makes what the request does
abbrev IsCounted : Event → List Event → Request → Type 0
IsCounted e es request = (charge_used (e ∷ es) ≡ cost_of request + charge_used es) × (room_used (e ∷ es) ≡ objects_of request + room_used es)

-- an event that answers a request costs and makes what the request does
counted : (e : Event) (es : List Event) (request : Request) → IsAnswerTo e (asks_for request) → IsCounted e es request
counted (New m obj class) es request h =
    let same : make class ≡ request = cc in subst (IsCounted (New m obj class) es) same (omega arith, omega arith)
counted (Load m obj field value) es request h =
    let same : load obj field ≡ request = cc in subst (IsCounted (Load m obj field value) es) same (omega arith, omega arith)
counted (Store m obj field value) es request h =
    let same : store obj field value ≡ request = cc in subst (IsCounted (Store m obj field value) es) same (omega arith, omega arith)
counted (Cas m obj field expect value done) es request h =
    let same : cas obj field expect value ≡ request = cc in subst (IsCounted (Cas m obj field expect value done) es) same (omega arith, omega arith)
counted (Launch m site number args) es request h =
    let same : launch site args ≡ request = cc in subst (IsCounted (Launch m site number args) es) same (omega arith, omega arith)
counted (Retire m number) es request h = absurd h

-- no event answers who has ended
no_answer_to_an_end : (e : Event) (end : End) → IsAnswerTo e (has_ended end) → ⊥
no_answer_to_an_end (New m obj class) end h = cc
no_answer_to_an_end (Load m obj field value) end h = cc
no_answer_to_an_end (Store m obj field value) end h = cc
no_answer_to_an_end (Cas m obj field expect value done) end h = cc
no_answer_to_an_end (Launch m site number args) end h = cc
no_answer_to_an_end (Retire m number) end h = h

-- events that follow a deed are within its means
used :
    (es : List Event) (deed : Deed) (turn : Turn) (means : Means)
    → LeadsFrom es deed turn
    → IsWithin deed means
    → (charge_used es ≤ means.charge) × (room_used es ≤ means.room)
used [] deed turn means h within = (omega arith, omega arith)
used (e ∷ es) (ends end) turn means h within = absurd (no_answer_to_an_end e end h.0)
used (e ∷ es) (asks request next) turn means h within =
    let rest = used es (next (reply_of e)) turn (left_after request means) h.1 (within.2 (reply_of e)) in
    let count = counted e es request h.0 in
    (omega (arith, rest.0, count.0, within.0), omega (arith, rest.1, count.1, within.1))

-- what answers requests is charged as it is counted
counted_is_charged : (es : List Event) (deed : Deed) (turn : Turn) → LeadsFrom es deed turn → charge_of_all es ≡ charge_used es
counted_is_charged [] deed turn h = refl
counted_is_charged (e ∷ es) (ends end) turn h = absurd (no_answer_to_an_end e end h.0)
counted_is_charged (e ∷ es) (asks request next) turn h =
    let rest = counted_is_charged es (next (reply_of e)) turn h.1 in
    let count = counted e es request h.0 in
    omega (arith, sum_by-cons charge_of e es, cost_is_charge e request h.0, rest, count.0)

-- a thread's events, each launch counted twice, are no more than its charge
pub events_are_within_charge :
    (p : Program) (sizes : Sizes) (thread : ℕ) (es : List Event) (turn : Turn)
    → LeadTo p sizes thread es turn
    → length es + length (filter is_launch es) ≤ sizes.events
unfolding LeadTo
events_are_within_charge p sizes thread es turn h =
    (used es (thread_deed p sizes.objects sizes.events thread) turn (record { charge = sizes.events; room = sizes.objects }) (leads_from p sizes thread [] es turn h)
    (thread_within p sizes.objects sizes.events thread)).0

-- each event is paid for before it is asked for, and each new object takes one of the region's places
pub threads_keep_within_means : KeepWithinMeans
unfolding LeadTo
threads_keep_within_means = record {
  cost = cost_is_charge;
  charge = λ p sizes thread es turn h.
      let same = counted_is_charged es (thread_deed p sizes.objects sizes.events thread) turn (leads_from p sizes thread [] es turn h) in
      omega (arith, same, events_are_within_charge p sizes thread es turn h);
  room = λ p sizes thread es turn h.
      (used es (thread_deed p sizes.objects sizes.events thread) turn (record { charge = sizes.events; room = sizes.objects }) (leads_from p sizes thread [] es turn h)
      (thread_within p sizes.objects sizes.events thread)).1;
}

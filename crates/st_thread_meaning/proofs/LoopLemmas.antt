-- What comes behind a step is looked at with no more charge than the step had; so a loop with enough turns is as one with more
use Rattle.std.proofs.Common.{◌≡◌, ℕ, zero, suc, ◌-◌, ◌<◌, ◌≤◌, ◌==◌, nat_lt, Bool, true, false, List, refl, sym, ◌∙◌, ap, arith}
use Rattle.std.proofs.lemmas.Bool.{lt-ltb}
use Rattle.std.specs.Prelude.{Option, Some, None, slice_get, slice_set}
use mathlib.Core.Path.{fun_ext}
use Rattle.st_events.specs.declared.events.Site.{Site}
use Rattle.st_events.specs.declared.heaps.TheConstants.{SHARED_OBJECT}
use Rattle.st_events.specs.declared.verdicts.End.TheVariants.{Null, HeapFull, EventsSpent}
use Rattle.st_resolved.specs.Terms.{Term, Target, to_shared, to_field, Source, from_term, from_new, from_cas}
use Rattle.st_resolved.specs.Terms.{Command, a_set, a_put, an_if, a_while, a_proc_call, a_launch, Block, no_commands, command_then, Routine, Program}
use Rattle.st_check_meaning.specs.Courses.{Course, comes_to, ends_in, reads, uses_unit}
use Rattle.st_check_meaning.specs.Meaning.{course_of, courses_of}
use Rattle.st_check_meaning.specs.Numbers.{is_true}
use Rattle.st_thread_meaning.specs.declared.limits.TheConstants.{TURN_COST, CALL_COST}
use Rattle.st_thread_meaning.specs.Deeds.{Request, make, store, load, cas, launch, Deed, ends, asks, Means, paying, cost_of, asking}
use Rattle.st_thread_meaning.specs.Statements.{evaluating, no_calls, term_deed, object_deed, target_deed, new_deed, source_deed, names_of, values_of, args_of, Steps, one_turn, turns, ProcCalls}
use Rattle.st_thread_meaning.specs.Statements.{command_deed, block_deed}
use Rattle.st_thread_meaning.specs.Threads.{first_locals, body_deed, call_within}
use Rattle.st_thread_meaning.specs.Laws.{LoopByTurns}

-- a choice between deeds does the same where both sides do
pub branches_same : (t : Bool) (a b c d : Deed) → a ≡ b → c ≡ d → ◌≡◌ {A = Deed} (elim t [ true ↦ a | false ↦ c ]) (elim t [ true ↦ b | false ↦ d ])
branches_same true a b c d h k = h
branches_same false a b c d h k = k

-- both do the same with no more charge than this
abbrev pub SameBelow : {A : Type 0} → ℕ → (A → Means → Deed) → (A → Means → Deed) → Type 0
SameBelow {A} charge rest other = (x : A) (means : Means) → means.charge ≤ charge → rest x means ≡ other x means

-- what comes behind is looked at with no more charge than there is before
abbrev pub LooksBelow : {A : Type 0} → (List ℕ → Means → (A → Means → Deed) → Deed) → Type 0
LooksBelow {A} step =
    (locals : List ℕ) (means : Means) (rest other : A → Means → Deed)
    → SameBelow means.charge rest other
    → step locals means rest ≡ step locals means other

-- what is left of the means once so much is paid
abbrev pub paid : ℕ → Means → Means
paid cost means = record means { charge = means.charge - cost }

-- what is paid for is the same where the rest does the same with the charge that is left
pub paying_same :
    (cost : ℕ) (means : Means) (rest other : Means → Deed)
    → rest (paid cost means) ≡ other (paid cost means)
    → paying cost means rest ≡ paying cost means other
paying_same cost means rest other h =
    branches_same (nat_lt means.charge cost) (ends EventsSpent) (ends EventsSpent) (rest (paid cost means)) (other (paid cost means)) refl h

-- where the charge is too little, the thread ends
pub paying_spent : (cost : ℕ) (means : Means) (rest : Means → Deed) → means.charge < cost → paying cost means rest ≡ ends EventsSpent
paying_spent cost means rest h = spent (nat_lt means.charge cost) (lt-ltb means.charge cost h)
  where
    spent : (t : Bool) → t ≡ true → ◌≡◌ {A = Deed} (elim t [ true ↦ ends EventsSpent | false ↦ rest (paid cost means) ]) (ends EventsSpent)
    spent true e = refl
    spent false e = absurd (cc)

-- a turn that cannot be paid for ends the thread
pub one_turn_spent :
    (test : List ℕ → Means → (ℕ → Means → Deed) → Deed) (body : Steps) (again : List ℕ → Means → Deed) (locals : List ℕ) (means : Means) (rest : List ℕ → Means → Deed)
    → means.charge ≤ 0
    → one_turn test body again locals means rest ≡ ends EventsSpent
one_turn_spent test body again locals means rest h =
    paying_spent TURN_COST means (λ spent. test locals spent (λ word left. elim (is_true word) [ true ↦ body locals left again | false ↦ rest locals left ])) (omega (arith, h))

-- asking is the same where the rests are, with no more charge
pub asking_same :
    (request : Request) (means : Means) (rest other : ℕ → Means → Deed)
    → SameBelow means.charge rest other
    → asking request means rest ≡ asking request means other
asking_same request means rest other h =
    paying_same (cost_of request) means (λ left. asks request (λ reply. rest reply left)) (λ left. asks request (λ reply. other reply left))
    (ap (asks request) (fun_ext (λ reply. h reply (paid (cost_of request) means) (omega arith))))

-- so is a course, done read by read
pub evaluating_same :
    {A : Type 0} (c : Course A) (means : Means) (rest other : A → Means → Deed)
    → SameBelow means.charge rest other
    → evaluating c means rest ≡ evaluating c means other
evaluating_same (comes_to x) means rest other h = h x means (omega arith)
evaluating_same (ends_in fault) means rest other h = refl
evaluating_same (reads obj field next) means rest other h =
    asking_same (load obj field) means (λ word left. evaluating (next word) left rest) (λ word left. evaluating (next word) left other)
    (λ word left le. evaluating_same (next word) left rest other (λ x m le'. h x m (omega (arith, le, le'))))
evaluating_same (uses_unit next) means rest other h = evaluating_same (next tt) means rest other h

-- an expression looks at what comes behind with no more charge
pub term_same : (t : Term) → LooksBelow (term_deed t)
term_same t locals means rest other h = evaluating_same (course_of no_calls t locals) means rest other h

-- so does the object of a target
pub object_same : (target : Target) → LooksBelow (object_deed target)
object_same (to_shared field) locals means rest other h = h SHARED_OBJECT means (omega arith)
object_same (to_field object field at) locals means rest other h = term_same object locals means rest other h

-- the event on a target is the same where the rests are, with no more charge
pub target_same :
    (target : Target) (obj : ℕ) (request : ℕ → ℕ → Request) (means : Means) (rest other : ℕ → Means → Deed)
    → SameBelow means.charge rest other
    → target_deed target obj request means rest ≡ target_deed target obj request means other
target_same (to_shared field) obj request means rest other h = asking_same (request obj field) means rest other h
target_same (to_field object field at) obj request means rest other h =
    branches_same (obj == 0) (ends (Null at)) (ends (Null at)) (asking (request obj field) means rest) (asking (request obj field) means other) refl
    (asking_same (request obj field) means rest other h)

-- so is a `new`
pub new_same :
    (class : ℕ) (at : Site) (means : Means) (rest other : ℕ → Means → Deed)
    → SameBelow means.charge rest other
    → new_deed class at means rest ≡ new_deed class at means other
new_same class at means rest other h =
    branches_same (means.room == 0) (ends (HeapFull at)) (ends (HeapFull at)) (asking (make class) means (made rest)) (asking (make class) means (made other)) refl
    (asking_same (make class) means (made rest) (made other) (λ obj left le. h obj (record left { room = left.room - 1 }) le))
  where
    made : (ℕ → Means → Deed) → ℕ → Means → Deed
    made r obj left = r obj (record left { room = left.room - 1 })

-- what a statement stores looks at what comes behind with no more charge
pub source_same : (source : Source) → LooksBelow (source_deed source)
source_same (from_term t) locals means rest other h = term_same t locals means rest other h
source_same (from_new class at) locals means rest other h = new_same class at means rest other h
source_same (from_cas target expect value) locals means rest other h =
    object_same target locals means _ _ (λ obj m1 le1.
    term_same expect locals m1 _ _ (λ expected m2 le2.
    term_same value locals m2 _ _ (λ word m3 le3.
    target_same target obj (λ o field. cas o field expected word) m3 rest other (λ x m le. h x m (omega (arith, le1, le2, le3, le))))))

-- one turn looks at what comes again with less charge, and at what comes behind with no more
pub one_turn_same :
    (test : List ℕ → Means → (ℕ → Means → Deed) → Deed) (body : Steps)
    → LooksBelow test
    → LooksBelow body
    → (again another : List ℕ → Means → Deed) (locals : List ℕ) (means : Means) (rest other : List ℕ → Means → Deed)
    → SameBelow (means.charge - TURN_COST) again another
    → SameBelow means.charge rest other
    → one_turn test body again locals means rest ≡ one_turn test body another locals means other
one_turn_same test body ht hb again another locals means rest other ha h =
    paying_same TURN_COST means (λ spent. test locals spent (chosen again rest)) (λ spent. test locals spent (chosen another other))
    (ht locals (paid TURN_COST means) (chosen again rest) (chosen another other) (λ word left le.
    branches_same (is_true word) (body locals left again) (body locals left another) (rest locals left) (other locals left)
    (hb locals left again another (λ x m le'. ha x m (omega (arith, le, le'))))
    (h locals left (omega (arith, le)))))
  where
    chosen : (List ℕ → Means → Deed) → (List ℕ → Means → Deed) → ℕ → Means → Deed
    chosen a r word left = elim (is_true word) [ true ↦ body locals left a | false ↦ r locals left ]

-- a loop looks at what comes behind with no more charge
pub turns_same :
    (test : List ℕ → Means → (ℕ → Means → Deed) → Deed) (body : Steps)
    → LooksBelow test
    → LooksBelow body
    → (n : ℕ)
    → LooksBelow (turns n test body)
turns_same test body ht hb zero locals means rest other h = refl
turns_same test body ht hb (suc n) locals means rest other h =
    one_turn_same test body ht hb (λ changed behind. turns n test body changed behind rest) (λ changed behind. turns n test body changed behind other) locals means rest other
    (λ changed behind le. turns_same test body ht hb n changed behind rest other (λ x m le'. h x m (omega (arith, le, le')))) h

-- as many turns as there is charge are as good as any more
pub turns_enough :
    (test : List ℕ → Means → (ℕ → Means → Deed) → Deed) (body : Steps)
    → LooksBelow test
    → LooksBelow body
    → (n k : ℕ) (locals : List ℕ) (means : Means) (rest : List ℕ → Means → Deed)
    → means.charge ≤ n
    → means.charge ≤ k
    → turns n test body locals means rest ≡ turns k test body locals means rest
turns_enough test body ht hb zero zero locals means rest le1 le2 = refl
turns_enough test body ht hb zero (suc k) locals means rest le1 le2 =
    sym (one_turn_spent test body (λ changed behind. turns k test body changed behind rest) locals means rest le1)
turns_enough test body ht hb (suc n) zero locals means rest le1 le2 =
    one_turn_spent test body (λ changed behind. turns n test body changed behind rest) locals means rest le2
turns_enough test body ht hb (suc n) (suc k) locals means rest le1 le2 =
    one_turn_same test body ht hb (λ changed behind. turns n test body changed behind rest) (λ changed behind. turns k test body changed behind rest) locals means rest rest
    (λ changed behind le. turns_enough test body ht hb n k changed behind rest (omega (arith, le, le1)) (omega (arith, le, le2))) (λ x m le. refl)

-- a loop with as many turns as charge is a turn, and the loop again
pub turns_unroll :
    (test : List ℕ → Means → (ℕ → Means → Deed) → Deed) (body : Steps)
    → LooksBelow test
    → LooksBelow body
    → (locals : List ℕ) (means : Means) (rest : List ℕ → Means → Deed)
    → turns means.charge test body locals means rest
    ≡ one_turn test body (λ changed behind. turns behind.charge test body changed behind rest) locals means rest
turns_unroll test body ht hb locals means rest =
    turns_enough test body ht hb means.charge (suc means.charge) locals means rest (omega arith) (omega arith)
    ∙ one_turn_same test body ht hb (λ changed behind. turns means.charge test body changed behind rest)
    (λ changed behind. turns behind.charge test body changed behind rest) locals means rest rest
    (λ changed behind le. turns_enough test body ht hb means.charge behind.charge changed behind rest (omega (arith, le)) (omega arith)) (λ x m le. refl)

-- the caller goes on with no more charge than it had
abbrev pub CallsLookBelow : ProcCalls → Type 0
CallsLookBelow calls =
    (called : ℕ) (words : List ℕ) (at : Site) (means : Means) (rest other : Means → Deed)
    → ((left : Means) → left.charge ≤ means.charge → rest left ≡ other left)
    → calls called words at means rest ≡ calls called words at means other

mutual
  pub command_same : (p : Program) (calls : ProcCalls) → CallsLookBelow calls → (c : Command) → LooksBelow (command_deed p calls c)
  command_same p calls hc (a_set local source) locals means rest other h =
      source_same source locals means _ _ (λ word left le. h (slice_set locals local word) left le)
  command_same p calls hc (a_put target source) locals means rest other h =
      object_same target locals means _ _ (λ obj m1 le1.
      source_same source locals m1 _ _ (λ word m2 le2.
      target_same target obj (λ o field. store o field word) m2 _ _ (λ x m le. h locals m (omega (arith, le1, le2, le)))))
  command_same p calls hc (an_if test first second) locals means rest other h =
      term_same test locals means _ _ (λ word left le.
      branches_same (is_true word) (block_deed p calls first locals left rest) (block_deed p calls first locals left other)
      (block_deed p calls second locals left rest) (block_deed p calls second locals left other)
      (block_same p calls hc first locals left rest other (λ x m le'. h x m (omega (arith, le, le'))))
      (block_same p calls hc second locals left rest other (λ x m le'. h x m (omega (arith, le, le')))))
  command_same p calls hc (a_while test body) locals means rest other h =
      turns_same (term_deed test) (block_deed p calls body) (term_same test) (block_same p calls hc body) means.charge locals means rest other h
  command_same p calls hc (a_proc_call called args at) locals means rest other h =
      evaluating_same (courses_of no_calls args locals) means _ _ (λ words left le.
      hc called words at left (λ behind. rest locals behind) (λ behind. other locals behind) (λ behind le'. h locals behind (omega (arith, le, le'))))
  command_same p calls hc (a_launch site) locals means rest other h =
      asking_same (launch site (args_of (values_of locals (names_of (slice_get p.checks site))))) means (λ _ left. rest locals left) (λ _ left. other locals left) (λ _ left le. h locals left le)

  pub block_same : (p : Program) (calls : ProcCalls) → CallsLookBelow calls → (b : Block) → LooksBelow (block_deed p calls b)
  block_same p calls hc no_commands locals means rest other h = h locals means (omega arith)
  block_same p calls hc (command_then c cs) locals means rest other h =
      command_same p calls hc c locals means _ _ (λ changed left le.
      block_same p calls hc cs changed left rest other (λ x m le'. h x m (omega (arith, le, le'))))

-- so it is of the body of a procedure
body_same :
    (p : Program) (calls : ProcCalls) → CallsLookBelow calls
    → (o : Option Routine) (words : List ℕ) (means : Means) (rest other : Means → Deed)
    → ((left : Means) → left.charge ≤ means.charge → rest left ≡ other left)
    → body_deed p calls o words means rest ≡ body_deed p calls o words means other
body_same p calls hc None words means rest other h = h means (omega arith)
body_same p calls hc (Some r) words means rest other h =
    block_same p calls hc r.block (first_locals r words) means (λ _ left. rest left) (λ _ left. other left) (λ _ left le. h left le)

-- and of calls, however many may be open
pub calls_same : (p : Program) (depth : ℕ) → CallsLookBelow (call_within p depth)
unfolding call_within
calls_same p zero called words at means rest other h = refl
calls_same p (suc depth) called words at means rest other h =
    paying_same CALL_COST means (λ left. body_deed p (call_within p depth) (slice_get p.procs called) words left rest)
    (λ left. body_deed p (call_within p depth) (slice_get p.procs called) words left other)
    (body_same p (call_within p depth) (calls_same p depth) (slice_get p.procs called) words (paid CALL_COST means) rest other (λ left le. h left (omega (arith, le))))

-- a loop by turns
pub loop_by_turns : LoopByTurns
loop_by_turns p depth test body locals means rest =
    turns_unroll (term_deed test) (block_deed p (call_within p depth) body) (term_same test) (block_same p (call_within p depth) (calls_same p depth) body) locals means rest

-- Turns of loops and calls of procedures, as steps of a machine
use Rattle.std.proofs.Common.{◌≡◌, ℕ, zero, suc, ◌+◌, ◌-◌, ◌*◌, ◌<◌, ◌≤◌, nat_lt, Bool, true, false, List, [], ◌∷◌, ◌++◌, length, take, reverse, refl, sym, ◌∙◌, ap, subst, arith}
use Rattle.std.proofs.Common.{Option, Some, None}
use Rattle.std.specs.Prelude.{slice_get, replicate}
use Rattle.std.proofs.Math.Nat.{mul_comm}
use Rattle.std.proofs.lemmas.Bool.{ltb-false}
use Rattle.std.proofs.lemmas.Nat.{mul-add-lt}
use Rattle.std.proofs.lemmas.Option.{slice_get_within}
use Rattle.st_events.specs.declared.events.Site.{Site}
use Rattle.st_events.specs.declared.verdicts.End.TheVariants.{EventsSpent, ProcDeep}
use Rattle.st_thread_meaning.specs.declared.limits.TheConstants.{TURN_COST, CALL_COST, MOST_OPEN_CALLS}
use Rattle.st_thread_meaning.specs.Deeds.{Deed, ends, Means, paying}
use Rattle.st_thread_meaning.proofs.LoopLemmas.{paid}
use Rattle.st_mutator.specs.declared.asking.Asked.{Asked}
use Rattle.st_mutator.specs.declared.asking.Asked.TheVariants as asked
use Rattle.st_mutator.specs.declared.machines.Machine.{Machine}
use Rattle.st_mutator.specs.declared.nodes.Next.{Next}
use Rattle.st_mutator.specs.declared.nodes.Next.TheVariants.{At, Last}
use Rattle.st_mutator.specs.declared.nodes.Node.{Node}
use Rattle.st_mutator.specs.declared.nodes.Node.TheVariants.{While, Call}
use Rattle.st_mutator.specs.declared.nodes.Entry.{Entry}
use Rattle.st_mutator.specs.declared.nodes.Frame.{Frame}
use Rattle.st_mutator.specs.declared.nodes.Frame.TheVariants.{Test, Body, Return}
use Rattle.st_mutator.specs.Running.{Meaning, node_meaning, code_meaning, code_turns, code_calls, entered}
use Rattle.st_mutator.specs.Standing.{IsStanding, IsStep, means_of, rest_of, going_in, deed_of, node_deed, rank, AreBelow, places_of, work_of, weight_of, fresh_at, entered_in}
use Rattle.st_mutator.proofs.CodeLemmas.{code_at, code_looks, code_calls_look, code_turns_unroll, turn_after}
use Rattle.st_mutator.proofs.StepLemmas.{paying_enough, paying_short}

-- less of charge and frames is less work, wherever the code goes on
pub less_work : (few many width here there : ℕ) → few < many → here < width → few * width + here < many * width + there
less_work few many width here there h k = omega (arith, mul-add-lt few width here many h k, mul_comm width many)

-- the machine when a turn of a loop has begun
abbrev pub turned : ℕ → Next → Next → Next → Machine → Machine
turned index test body next m =
    record m {
      charge = m.charge - TURN_COST;
      operands = record { items = []; room = m.operands.room };
      frames = record { items = Test body next index ∷ m.frames.items; room = m.frames.room };
      next = test;
    }

-- the loop at its place is the loop again
loop_at :
    (m : Machine) (index : ℕ) (test body next : Next)
    → IsStanding m
    → slice_get m.nodes index ≡ Some (While test body next)
    → ◌≡◌ {A = List ℕ → Means → Deed} (λ c b. going_in m (At index) [] c b (rest_of m))
    (λ c b. code_turns b.charge (going_in m test) (going_in m body) c b (λ changed left. going_in m next [] changed left (rest_of m)))
loop_at m index test body next h here =
    ap {B = List ℕ → Means → Deed} (λ (k : Meaning) c b. k [] c b (rest_of m))
    (code_at (code_calls m.nodes m.entries (MOST_OPEN_CALLS - length m.callers.items)) m.nodes index (While test body next) here (h.code.ordered index (While test body next) here))

-- a turn that can be paid for is a step: its charge is gone, a frame for the condition waits, and the code goes on at the condition
pub turn_step :
    (m : Machine) (index : ℕ) (test body next : Next)
    → IsStanding m
    → m.next ≡ At index
    → slice_get m.nodes index ≡ Some (While test body next)
    → nat_lt m.charge TURN_COST ≡ false
    → IsStep None (turned index test body next m) m.nodes m.entries (work_of m) (node_deed m (While test body next))
turn_step m index test body next h at here enough =
    let calls = code_calls m.nodes m.entries (MOST_OPEN_CALLS - length m.callers.items) in
    let looks = code_looks calls (code_calls_look m.nodes m.entries (MOST_OPEN_CALLS - length m.callers.items)) m.nodes in
    let behind_loop : List ℕ → Means → Deed = λ changed left. going_in m next [] changed left (rest_of m) in
    let again : List ℕ → Means → Deed = λ c b. code_turns b.charge (going_in m test) (going_in m body) c b behind_loop in
    let places = h.code.ordered index (While test body next) here in
    let within : index < length m.nodes = slice_get_within m.nodes index (While test body next) here in
    let some : TURN_COST ≤ m.charge = ltb-false m.charge TURN_COST enough in
    record {
      becomes =
          code_turns_unroll (going_in m test) (going_in m body) (looks test) (looks body) m.locals (means_of m) behind_loop
          ∙ paying_enough TURN_COST (means_of m) (λ spent. going_in m test [] m.locals spent (turn_after (going_in m body) again behind_loop)) enough
          ∙ ap (λ (k : List ℕ → Means → Deed). going_in m test [] m.locals (paid TURN_COST (means_of m)) (turn_after (going_in m body) k behind_loop))
          (sym (loop_at m index test body next h here));
      standing = record {
        code = h.code;
        operands = omega (arith, places.0, within);
        operands_room = h.operands_room;
        frames = ((omega (arith, places.1.0, within), (omega (arith, places.1.1.0, within), (omega (arith, within), tt))), h.frames);
        frames_room = omega (arith, h.frames_room, some);
        callers = h.callers;
        callers_room = h.callers_room;
      };
      waits = tt;
      nodes_same = refl;
      entries_same = refl;
      smaller = λ _.
          less_work ((m.charge - TURN_COST) * 3 + (2 + weight_of m.frames.items)) (m.charge * 3 + weight_of m.frames.items) (suc (length m.nodes)) (rank test) (rank m.next)
          (omega (arith, some)) (omega (arith, places.0, within));
    }

-- a turn that cannot be paid for ends the thread for want of charge, and the machine stays as it was
pub turn_spent :
    (m : Machine) (test body next : Next)
    → IsStanding m
    → nat_lt m.charge TURN_COST ≡ true
    → IsStep (Some (asked.End EventsSpent)) m m.nodes m.entries (work_of m) (node_deed m (While test body next))
turn_spent m test body next h short =
    let calls = code_calls m.nodes m.entries (MOST_OPEN_CALLS - length m.callers.items) in
    let looks = code_looks calls (code_calls_look m.nodes m.entries (MOST_OPEN_CALLS - length m.callers.items)) m.nodes in
    let behind_loop : List ℕ → Means → Deed = λ changed left. going_in m next [] changed left (rest_of m) in
    let again : List ℕ → Means → Deed = λ c b. code_turns b.charge (going_in m test) (going_in m body) c b behind_loop in
    record {
      becomes =
          code_turns_unroll (going_in m test) (going_in m body) (looks test) (looks body) m.locals (means_of m) behind_loop
          ∙ paying_short TURN_COST (means_of m) (λ spent. going_in m test [] m.locals spent (turn_after (going_in m body) again behind_loop)) short;
      standing = h;
      waits = tt;
      nodes_same = refl;
      entries_same = refl;
      smaller = λ n. absurd (cc);
    }

-- ---- calls

-- as many calls are open as may be
pub deep_step :
    (m : Machine) (procedure count : ℕ) (at : Site) (next : Next)
    → IsStanding m
    → MOST_OPEN_CALLS ≤ length m.callers.items
    → IsStep (Some (asked.End (ProcDeep at))) m m.nodes m.entries (work_of m) (node_deed m (Call procedure count at next))
unfolding code_calls
deep_step m procedure count at next h deep =
    let none : MOST_OPEN_CALLS - length m.callers.items ≡ 0 = omega (arith, deep) in
    record {
      becomes = ap (λ (d : ℕ). code_calls m.nodes m.entries d procedure (reverse (take count m.operands.items)) at (means_of m)
          (λ left. going_in m next [] m.locals left (rest_of m))) none;
      standing = h;
      waits = tt;
      nodes_same = refl;
      entries_same = refl;
      smaller = λ n. absurd (cc);
    }

-- a call where one more may be open: it is paid for, and the body is entered
call_deed :
    (m : Machine) (procedure count : ℕ) (at : Site) (next : Next)
    → length m.callers.items < MOST_OPEN_CALLS
    → node_deed m (Call procedure count at next)
    ≡ paying CALL_COST (means_of m) (λ left.
    entered (code_meaning (code_calls m.nodes m.entries (MOST_OPEN_CALLS - length (m.locals ∷ m.callers.items))) m.nodes) (slice_get m.entries procedure)
    (reverse (take count m.operands.items)) left (λ behind. going_in m next [] m.locals behind (rest_of m)))
unfolding code_calls
call_deed m procedure count at next few =
    let one_more : MOST_OPEN_CALLS - length m.callers.items ≡ suc (MOST_OPEN_CALLS - length (m.locals ∷ m.callers.items)) = omega (arith, few) in
    ap (λ (d : ℕ). code_calls m.nodes m.entries d procedure (reverse (take count m.operands.items)) at (means_of m)
    (λ left. going_in m next [] m.locals left (rest_of m))) one_more

-- a call that cannot be paid for ends the thread for want of charge, and the machine stays as it was
pub call_spent :
    (m : Machine) (procedure count : ℕ) (at : Site) (next : Next)
    → IsStanding m
    → length m.callers.items < MOST_OPEN_CALLS
    → nat_lt m.charge CALL_COST ≡ true
    → IsStep (Some (asked.End EventsSpent)) m m.nodes m.entries (work_of m) (node_deed m (Call procedure count at next))
call_spent m procedure count at next h few short = record {
  becomes =
      call_deed m procedure count at next few
      ∙ paying_short CALL_COST (means_of m) (λ left.
      entered (code_meaning (code_calls m.nodes m.entries (MOST_OPEN_CALLS - length (m.locals ∷ m.callers.items))) m.nodes) (slice_get m.entries procedure)
      (reverse (take count m.operands.items)) left (λ behind. going_in m next [] m.locals behind (rest_of m))) short;
  standing = h;
  waits = tt;
  nodes_same = refl;
  entries_same = refl;
  smaller = λ n. absurd (cc);
}

-- the machine when a call is paid for
abbrev pub charged : Machine → Machine
charged m = record m { charge = m.charge - CALL_COST }

call_paid :
    (m : Machine) (procedure count : ℕ) (at : Site) (next : Next) (o : Option Entry)
    → length m.callers.items < MOST_OPEN_CALLS
    → nat_lt m.charge CALL_COST ≡ false
    → slice_get m.entries procedure ≡ o
    → node_deed m (Call procedure count at next)
    ≡ entered (code_meaning (code_calls m.nodes m.entries (MOST_OPEN_CALLS - length (m.locals ∷ m.callers.items))) m.nodes) o
    (reverse (take count m.operands.items)) (paid CALL_COST (means_of m)) (λ behind. going_in m next [] m.locals behind (rest_of m))
call_paid m procedure count at next o few enough e =
    call_deed m procedure count at next few
    ∙ paying_enough CALL_COST (means_of m) (λ left.
    entered (code_meaning (code_calls m.nodes m.entries (MOST_OPEN_CALLS - length (m.locals ∷ m.callers.items))) m.nodes) (slice_get m.entries procedure)
    (reverse (take count m.operands.items)) left (λ behind. going_in m next [] m.locals behind (rest_of m))) enough
    ∙ ap (λ (x : Option Entry).
    entered (code_meaning (code_calls m.nodes m.entries (MOST_OPEN_CALLS - length (m.locals ∷ m.callers.items))) m.nodes) x
    (reverse (take count m.operands.items)) (paid CALL_COST (means_of m)) (λ behind. going_in m next [] m.locals behind (rest_of m))) e

-- no such procedure: the caller goes on
pub no_body_step :
    (m : Machine) (procedure count : ℕ) (at : Site) (next : Next)
    → IsStanding m
    → rank next < rank m.next
    → length m.callers.items < MOST_OPEN_CALLS
    → nat_lt m.charge CALL_COST ≡ false
    → slice_get m.entries procedure ≡ None
    → IsStep None (fresh_at next (charged m)) m.nodes m.entries (work_of m) (node_deed m (Call procedure count at next))
no_body_step m procedure count at next h earlier few enough e =
    let some : CALL_COST ≤ m.charge = ltb-false m.charge CALL_COST enough in
    record {
      becomes = call_paid m procedure count at next None few enough e;
      standing = record {
        code = h.code;
        operands = omega (arith, h.operands, earlier);
        operands_room = h.operands_room;
        frames = h.frames;
        frames_room = omega (arith, h.frames_room);
        callers = h.callers;
        callers_room = h.callers_room;
      };
      waits = tt;
      nodes_same = refl;
      entries_same = refl;
      smaller = λ _.
          less_work ((m.charge - CALL_COST) * 3 + weight_of m.frames.items) (m.charge * 3 + weight_of m.frames.items) (suc (length m.nodes)) (rank next) (rank m.next)
          (omega (arith, some)) (omega (arith, h.operands, earlier));
    }

-- the body of a procedure begins
pub enter_step :
    (m : Machine) (procedure count : ℕ) (at : Site) (next : Next) (entry : Entry)
    → IsStanding m
    → rank next < rank m.next
    → length m.callers.items < MOST_OPEN_CALLS
    → nat_lt m.charge CALL_COST ≡ false
    → slice_get m.entries procedure ≡ Some entry
    → IsStep None (entered_in entry count next (charged m)) m.nodes m.entries (work_of m) (node_deed m (Call procedure count at next))
enter_step m procedure count at next entry h earlier few enough e =
    let some : CALL_COST ≤ m.charge = ltb-false m.charge CALL_COST enough in
    let begins : rank entry.first ≤ length m.nodes = h.code.entries_within procedure entry e in
    record {
      becomes = call_paid m procedure count at next (Some entry) few enough e;
      standing = record {
        code = h.code;
        operands = omega (arith, begins);
        operands_room = h.operands_room;
        frames = ((omega (arith, h.operands, earlier), tt), h.frames);
        frames_room = omega (arith, h.frames_room, some);
        callers = omega (arith, few);
        callers_room = h.callers_room;
      };
      waits = tt;
      nodes_same = refl;
      entries_same = refl;
      smaller = λ _.
          less_work ((m.charge - CALL_COST) * 3 + (1 + weight_of m.frames.items)) (m.charge * 3 + weight_of m.frames.items) (suc (length m.nodes)) (rank entry.first) (rank m.next)
          (omega (arith, some)) (omega (arith, begins));
    }

-- what the machine does at a node
pub deed_at :
    (m : Machine) (index : ℕ) (node : Node)
    → IsStanding m
    → m.next ≡ At index
    → slice_get m.nodes index ≡ Some node
    → node_deed m node ≡ deed_of m
deed_at m index node h at here =
    ap (λ (k : Meaning). k m.operands.items m.locals (means_of m) (rest_of m))
    (sym (code_at (code_calls m.nodes m.entries (MOST_OPEN_CALLS - length m.callers.items)) m.nodes index node here (h.code.ordered index node here)))
    ∙ ap (λ (next : Next). going_in m next m.operands.items m.locals (means_of m) (rest_of m)) (sym at)

-- at each index below the number of nodes there is one
pub node_is_there : (nodes : List Node) (index : ℕ) → index < length nodes → slice_get nodes index ≡ None → ⊥
node_is_there [] index h e = omega (arith, h)
node_is_there (node ∷ nodes) zero h e = cc
node_is_there (node ∷ nodes) (suc index) h e = node_is_there nodes index (omega (arith, h)) e

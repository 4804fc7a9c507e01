-- What threads do, computed by the prover: what they ask for, in which order, what it costs, and how they end
use Rattle.std.proofs.Common.{◌≡◌, ℕ, true, List, [], ◌∷◌, pos, negsuc, refl}
use Rattle.st_events.specs.declared.events.Site.{Site}
use Rattle.st_events.specs.declared.shapes.Kind.TheVariants.{Int, Ref}
use Rattle.st_events.specs.declared.verdicts.End.TheVariants.{Finished, Null, Divide, Overflow, HeapFull, EventsSpent, ProcDeep}
use Rattle.st_resolved.specs.declared.expressions.Operator.TheVariants.{Add, Sub, Div, Less, Equal}
use Rattle.st_resolved.specs.Terms.{Term, a_number, a_truth, a_null, a_local, a_shared, a_field, a_binary, no_terms, term_then}
use Rattle.st_resolved.specs.Terms.{to_shared, to_field, Source, from_term, from_new, from_cas}
use Rattle.st_resolved.specs.Terms.{Command, a_set, a_put, an_if, a_while, a_proc_call, a_launch, Block, no_commands, command_then, Routine, Program}
use Rattle.st_thread_meaning.specs.Deeds.{make, load, store, cas, launch}
use Rattle.st_thread_meaning.specs.Threads.{Turn, asks_for, has_ended, turn_of, deed_after, call_within, thread_deed}

-- a place on a line, by its column
abbrev column : ℕ → Site
column n = record { line = 1; column = n }

abbrev place : ℕ → ℕ → Site
place line n = record { line = line; column = n }

-- statements in order
abbrev block_of : List Command → Block
block_of [] = no_commands
block_of (c ∷ cs) = command_then c (block_of cs)

-- a thread without parameters, of two numbers and two references
abbrev body : List Command → Routine
body cs = record { params = 0; locals = Int ∷ Int ∷ Ref 1 ∷ Ref 1 ∷ []; block = block_of cs }

-- a program of one thread and no procedure; its check statement takes local 2
abbrev program : List Routine → List Command → Program
program procs cs = record {
  preds = [];
  procs = procs;
  threads = body cs ∷ [];
  checks = record { args = 2 ∷ []; body = a_binary Equal (a_field (a_local 0) 0 (column 90)) (a_number (pos 0)) (column 91); at = column 92 } ∷ [];
}

-- what the thread does next, with so many objects and so much charge, after these replies
abbrev does : Program → ℕ → ℕ → List ℕ → Turn
unfolding thread_deed call_within
does p objects events replies = turn_of (deed_after replies (thread_deed p objects events 0))

-- ---- the thread of `two`: a new object, a check of it, a store

abbrev two : Program
two = program [] (a_set 2 (from_new 1 (place 3 17)) ∷ a_launch 0 ∷ a_put (to_field (a_local 2) 0 (place 5 4)) (from_term (a_number (pos 1))) ∷ [])

two_begins : does two 4096 65536 [] ≡ asks_for (make 1)
unfolding does
two_begins = refl

two_launches : does two 4096 65536 (2 ∷ []) ≡ asks_for (launch 0 (record { count = 1; words = 2 ∷ 0 ∷ 0 ∷ 0 ∷ [] }))
unfolding does
two_launches = refl

two_stores : does two 4096 65536 (2 ∷ 0 ∷ []) ≡ asks_for (store 2 0 1)
unfolding does
two_stores = refl

two_is_finished : does two 4096 65536 (2 ∷ 0 ∷ 0 ∷ []) ≡ has_ended Finished
unfolding does
two_is_finished = refl

-- ---- a full heap

abbrev three_new : Program
three_new = program [] (a_set 2 (from_new 1 (place 3 16)) ∷ a_set 2 (from_new 1 (place 4 16)) ∷ a_set 2 (from_new 1 (place 5 16)) ∷ [])

first_new : does three_new 2 10 [] ≡ asks_for (make 1)
unfolding does
first_new = refl

second_new : does three_new 2 10 (2 ∷ []) ≡ asks_for (make 1)
unfolding does
second_new = refl

heap_is_full : does three_new 2 10 (2 ∷ 3 ∷ []) ≡ has_ended (HeapFull (place 5 16))
unfolding does
heap_is_full = refl

-- it comes before the charge
heap_is_full_before_spent : does three_new 2 2 (2 ∷ 3 ∷ []) ≡ has_ended (HeapFull (place 5 16))
unfolding does
heap_is_full_before_spent = refl

third_new_is_spent : does three_new 3 2 (2 ∷ 3 ∷ []) ≡ has_ended EventsSpent
unfolding does
third_new_is_spent = refl

-- ---- loops

abbrev for_ever : Program
for_ever = program [] (a_while (a_truth true) no_commands ∷ [])

loop_spends_all : does for_ever 1 5 [] ≡ has_ended EventsSpent
unfolding does
loop_spends_all = refl

-- `while (i < 4) { i = i + 1; }` evaluates its condition five times
abbrev four_turns : Program
four_turns = program [] (a_while (a_binary Less (a_local 0) (a_number (pos 4)) (column 5))
    (command_then (a_set 0 (from_term (a_binary Add (a_local 0) (a_number (pos 1)) (column 6)))) no_commands) ∷ [])

loop_of_exactly_its_charge : does four_turns 1 5 [] ≡ has_ended Finished
unfolding does
loop_of_exactly_its_charge = refl

loop_of_less_charge : does four_turns 1 4 [] ≡ has_ended EventsSpent
unfolding does
loop_of_less_charge = refl

-- its turns are paid for alone: nothing else is evaluated
loop_of_much_charge : does four_turns 1 65536 [] ≡ has_ended Finished
unfolding does
loop_of_much_charge = refl

-- a turn is paid for before its condition: with no charge left it has no load
abbrev loop_on_a_load : Program
loop_on_a_load = program [] (a_while (a_binary Less (a_shared 3) (a_number (pos 1)) (column 5)) no_commands ∷ [])

turn_before_load : does loop_on_a_load 1 0 [] ≡ has_ended EventsSpent
unfolding does
turn_before_load = refl

-- with charge for the turn alone, the load is what is not paid for
load_is_spent : does loop_on_a_load 1 1 [] ≡ has_ended EventsSpent
unfolding does
load_is_spent = refl

load_of_a_paid_turn : does loop_on_a_load 1 2 [] ≡ asks_for (load 1 3)
unfolding does
load_of_a_paid_turn = refl

-- and no fault: `while (1 / 0 == 0)`
abbrev loop_on_a_fault : Program
loop_on_a_fault = program []
    (a_while (a_binary Equal (a_binary Div (a_number (pos 1)) (a_number (pos 0)) (column 5)) (a_number (pos 0)) (column 6)) no_commands ∷ [])

turn_before_fault : does loop_on_a_fault 1 0 [] ≡ has_ended EventsSpent
unfolding does
turn_before_fault = refl

fault_of_a_paid_turn : does loop_on_a_fault 1 1 [] ≡ has_ended (Divide (column 5))
unfolding does
fault_of_a_paid_turn = refl

-- ---- calls

-- `proc p() { p(); }` and `thread t { p(); }`
abbrev deeper : Program
deeper = program (record { params = 0; locals = []; block = command_then (a_proc_call 0 no_terms (column 12)) no_commands } ∷ [])
    (a_proc_call 0 no_terms (place 2 12) ∷ [])

too_deep : does deeper 1 65536 [] ≡ has_ended (ProcDeep (column 12))
unfolding does
too_deep = refl

-- the test of the depth comes before the charge
too_deep_before_spent : does deeper 1 256 [] ≡ has_ended (ProcDeep (column 12))
unfolding does
too_deep_before_spent = refl

spent_before_too_deep : does deeper 1 255 [] ≡ has_ended EventsSpent
unfolding does
spent_before_too_deep = refl

-- `proc down(k: int) { if (1 < k) { down(k - 1); } }` and `thread t { down(N); }` open N calls
abbrev down : ℕ → Program
down n = program
    (record {
      params = 1;
      locals = Int ∷ [];
      block = command_then (an_if (a_binary Less (a_number (pos 1)) (a_local 0) (column 5))
          (command_then (a_proc_call 0 (term_then (a_binary Sub (a_local 0) (a_number (pos 1)) (column 6)) no_terms) (column 7)) no_commands) no_commands) no_commands;
    } ∷ [])
    (a_proc_call 0 (term_then (a_number (pos n)) no_terms) (place 2 12) ∷ [])

depth_of_256 : does (down 256) 1 65536 [] ≡ has_ended Finished
unfolding does
depth_of_256 = refl

depth_of_257 : does (down 257) 1 65536 [] ≡ has_ended (ProcDeep (column 7))
unfolding does
depth_of_257 = refl

-- arguments come before the test of the depth
abbrev faulty_argument : Program
faulty_argument = program
    (record { params = 1; locals = Int ∷ []; block = command_then (a_proc_call 0 (term_then (a_binary Div (a_local 0) (a_local 0) (column 6)) no_terms) (column 7)) no_commands } ∷ [])
    (a_proc_call 0 (term_then (a_number (pos 0)) no_terms) (place 2 12) ∷ [])

argument_before_depth : does faulty_argument 1 1 [] ≡ has_ended (Divide (column 6))
unfolding does
argument_before_depth = refl

-- `proc put(n: Node, v: int) { n.val = v; v = 7; n = null; }`: arguments are bound in order and by value
abbrev by_value : Program
by_value = program
    (record {
      params = 2;
      locals = Ref 1 ∷ Int ∷ [];
      block = block_of (a_put (to_field (a_local 0) 0 (column 5)) (from_term (a_local 1)) ∷ a_set 1 (from_term (a_number (pos 7))) ∷ a_set 0 (from_term a_null) ∷ []);
    } ∷ [])
    (a_set 2 (from_new 1 (column 3)) ∷ a_set 0 (from_term (a_number (pos 3)))
    ∷ a_proc_call 0 (term_then (a_local 2) (term_then (a_local 0) no_terms)) (column 20)
    ∷ a_put (to_field (a_local 2) 0 (column 21)) (from_term (a_local 0)) ∷ [])

arguments_are_bound : does by_value 1 4 (2 ∷ []) ≡ asks_for (store 2 0 3)
unfolding does
arguments_are_bound = refl

arguments_are_values : does by_value 1 4 (2 ∷ 0 ∷ []) ≡ asks_for (store 2 0 3)
unfolding does
arguments_are_values = refl

a_call_costs_one : does by_value 1 3 (2 ∷ 0 ∷ []) ≡ has_ended EventsSpent
unfolding does
a_call_costs_one = refl

-- `proc count() { var i: int = 0; i = i + 1; shared.n = i; }`, called twice
abbrev twice : Program
twice = program
    (record {
      params = 0;
      locals = Int ∷ [];
      block = block_of (a_set 0 (from_term (a_binary Add (a_local 0) (a_number (pos 1)) (column 5))) ∷ a_put (to_shared 3) (from_term (a_local 0)) ∷ []);
    } ∷ [])
    (a_proc_call 0 no_terms (column 20) ∷ a_proc_call 0 no_terms (column 21) ∷ [])

locals_begin_anew : does twice 1 10 (0 ∷ []) ≡ asks_for (store 1 3 1)
unfolding does
locals_begin_anew = refl

-- a procedure that calls another one with a reference
abbrev hands_on : Program
hands_on = program
    (record { params = 1; locals = Ref 1 ∷ []; block = block_of (a_proc_call 1 (term_then (a_number (pos 5)) (term_then (a_local 0) no_terms)) (column 5) ∷ []) }
    ∷ record { params = 2; locals = Int ∷ Ref 1 ∷ []; block = block_of (a_put (to_field (a_local 1) 0 (column 6)) (from_term (a_local 0)) ∷ []) } ∷ [])
    (a_set 2 (from_new 1 (column 3)) ∷ a_proc_call 0 (term_then (a_local 2) no_terms) (column 20) ∷ [])

reference_is_handed_on : does hands_on 1 10 (2 ∷ []) ≡ asks_for (store 2 0 5)
unfolding does
reference_is_handed_on = refl

-- ---- the order of a store: the object of the target, the value, the test for null, the charge

-- `n.next.val = 1 / 0;` where n is null: the object's fault comes first
abbrev stores : Term → Source → Program
stores object source = program [] (a_put (to_field object 0 (column 9)) source ∷ [])

fault_of_the_object : does (stores (a_field (a_local 2) 1 (column 5)) (from_term (a_binary Div (a_local 0) (a_local 0) (column 7)))) 1 9 [] ≡ has_ended (Null (column 5))
unfolding does
fault_of_the_object = refl

-- the object is loaded, then the value's fault comes
object_before_value : does (stores (a_field (a_shared 4) 1 (column 5)) (from_term (a_binary Div (a_local 0) (a_local 0) (column 7)))) 1 9 [] ≡ asks_for (load 1 4)
unfolding does
object_before_value = refl

object_is_loaded : does (stores (a_field (a_shared 4) 1 (column 5)) (from_term (a_binary Div (a_local 0) (a_local 0) (column 7)))) 1 9 (6 ∷ []) ≡ asks_for (load 6 1)
unfolding does
object_is_loaded = refl

value_after_object : does (stores (a_field (a_shared 4) 1 (column 5)) (from_term (a_binary Div (a_local 0) (a_local 0) (column 7)))) 1 9 (6 ∷ 0 ∷ []) ≡ has_ended (Divide (column 7))
unfolding does
value_after_object = refl

-- the value comes before the test for null, which comes before the charge
value_before_null : does (stores a_null (from_term (a_binary Div (a_local 0) (a_local 0) (column 7)))) 1 9 [] ≡ has_ended (Divide (column 7))
unfolding does
value_before_null = refl

new_before_null : does (stores a_null (from_new 1 (column 7))) 1 9 [] ≡ asks_for (make 1)
unfolding does
new_before_null = refl

null_after_new : does (stores a_null (from_new 1 (column 7))) 1 1 (2 ∷ []) ≡ has_ended (Null (column 9))
unfolding does
null_after_new = refl

null_before_charge : does (stores a_null (from_term (a_local 0))) 1 0 [] ≡ has_ended (Null (column 9))
unfolding does
null_before_charge = refl

null_of_a_load_before_charge : does (program [] (a_set 0 (from_term (a_field (a_local 2) 0 (column 4))) ∷ [])) 1 0 [] ≡ has_ended (Null (column 4))
unfolding does
null_of_a_load_before_charge = refl

overflow_ends : does (program [] (a_set 0 (from_term (a_binary Sub (a_number (negsuc 9223372036854775807)) (a_number (pos 1)) (column 4))) ∷ [])) 1 0 [] ≡ has_ended (Overflow (column 4))
unfolding does
overflow_ends = refl

-- ---- `cas`: the object, the expected word, the new one, the test for null, the charge

-- `i = cas(n.next.val, shared.x, shared.y) ? ..`: a loop goes on until the word is replaced, so its reply is what the local gets
abbrev swaps : Program
swaps = program []
    (a_set 2 (from_new 1 (column 3))
    ∷ a_set 0 (from_cas (to_field (a_field (a_local 2) 1 (column 5)) 0 (column 6)) (a_shared 3) (a_shared 4))
    ∷ an_if (a_local 0) (command_then (a_launch 0) no_commands) no_commands ∷ [])

cas_asks_for_its_object : does swaps 1 9 (2 ∷ []) ≡ asks_for (load 2 1)
unfolding does
cas_asks_for_its_object = refl

cas_asks_for_the_expected : does swaps 1 9 (2 ∷ 8 ∷ []) ≡ asks_for (load 1 3)
unfolding does
cas_asks_for_the_expected = refl

cas_asks_for_the_new : does swaps 1 9 (2 ∷ 8 ∷ 5 ∷ []) ≡ asks_for (load 1 4)
unfolding does
cas_asks_for_the_new = refl

cas_is_asked : does swaps 1 9 (2 ∷ 8 ∷ 5 ∷ 6 ∷ []) ≡ asks_for (cas 8 0 5 6)
unfolding does
cas_is_asked = refl

cas_of_null_after_its_words : does swaps 1 4 (2 ∷ 0 ∷ 5 ∷ 6 ∷ []) ≡ has_ended (Null (column 6))
unfolding does
cas_of_null_after_its_words = refl

cas_is_paid : does swaps 1 4 (2 ∷ 8 ∷ 5 ∷ 6 ∷ []) ≡ has_ended EventsSpent
unfolding does
cas_is_paid = refl

replaced : does swaps 1 9 (2 ∷ 8 ∷ 5 ∷ 6 ∷ 1 ∷ []) ≡ asks_for (launch 0 (record { count = 1; words = 2 ∷ 0 ∷ 0 ∷ 0 ∷ [] }))
unfolding does
replaced = refl

not_replaced : does swaps 1 9 (2 ∷ 8 ∷ 5 ∷ 6 ∷ 0 ∷ []) ≡ has_ended Finished
unfolding does
not_replaced = refl

-- a launch costs 2
launch_of_its_charge : does swaps 1 7 (2 ∷ 8 ∷ 5 ∷ 6 ∷ 1 ∷ []) ≡ asks_for (launch 0 (record { count = 1; words = 2 ∷ 0 ∷ 0 ∷ 0 ∷ [] }))
unfolding does
launch_of_its_charge = refl

launch_of_less_charge : does swaps 1 6 (2 ∷ 8 ∷ 5 ∷ 6 ∷ 1 ∷ []) ≡ has_ended EventsSpent
unfolding does
launch_of_less_charge = refl

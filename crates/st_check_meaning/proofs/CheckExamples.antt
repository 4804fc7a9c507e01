-- Checks on small heaps, computed by the prover: their plain values, the cells that they read, their budgets and depths
use Rattle.std.proofs.Common.{◌≡◌, ℕ, [], ◌∷◌, Option, Some, None, ℤ, pos, refl}
use Rattle.st_events.specs.declared.events.Site.{Site}
use Rattle.st_events.specs.declared.shapes.Kind.TheVariants.{Int, Bool as Truth, Ref}
use Rattle.st_events.specs.declared.verdicts.Plain.TheVariants.{Holds, Fails, Null, Divide, Spent, Deep}
use Rattle.st_events.specs.Heap.{Heap, Object, heap_of}
use Rattle.st_resolved.specs.declared.expressions.Operator.TheVariants.{Sub, Div, LessEq, Equal}
use Rattle.st_resolved.specs.Terms.{Term, a_number, a_null, a_local, a_field, a_binary, a_both, an_either, a_call}
use Rattle.st_resolved.specs.Terms.{no_terms, term_then, Predicate, CheckStatement, Program}
use Rattle.st_check_meaning.specs.Meaning.{call_within}
use Rattle.st_check_meaning.specs.Plain.{Cell, check_course, plain_value, cells_read}

-- a place
abbrev at_place : ℕ → ℕ → Site
at_place line column = record { line = line; column = column }

-- the object of class 1 with a number and a reference to the next
abbrev node : ℕ → ℕ → Option Object
node value next = Some (record { class = 1; words = value ∷ next ∷ [] })

-- a cell
abbrev cell : ℕ → ℕ → Cell
cell obj field = record { obj = obj; field = field }

-- fields of a local
abbrev val : Term
val = a_field (a_local 0) 0 (at_place 3 1)

abbrev next : Term
next = a_field (a_local 0) 1 (at_place 3 2)

-- `pred sorted(n: Node): bool = n == null || n.next == null || n.val <= n.next.val && sorted(n.next);`
abbrev sorted : Predicate
sorted = record {
  params = Ref 1 ∷ [];
  result = Truth;
  body = an_either
      (an_either (a_binary Equal (a_local 0) a_null (at_place 3 3)) (a_binary Equal next a_null (at_place 3 4)))
      (a_both (a_binary LessEq val (a_field next 0 (at_place 3 5)) (at_place 3 6)) (a_call 0 (term_then next no_terms)));
}

-- `check sorted(a);`, and `check n.val == 0;`
abbrev statement : Term → CheckStatement
statement body = record { args = 0 ∷ []; body = body; at = at_place 13 3 }

abbrev lists : Program
lists = record {
  preds = sorted ∷ [];
  procs = [];
  threads = [];
  checks = statement (a_call 0 (term_then (a_local 0) no_terms)) ∷ statement (a_binary Equal val (a_number (pos 0)) (at_place 4 3)) ∷ [];
}

-- the list 1, 2, 3: objects 4, 3 and 2; and the same with 9 in the place of 1
abbrev shared_object : Option Object
shared_object = Some (record { class = 0; words = [] })

abbrev in_order : Heap
in_order = heap_of (None ∷ shared_object ∷ node 3 0 ∷ node 2 2 ∷ node 1 3 ∷ [])

abbrev out_of_order : Heap
out_of_order = heap_of (None ∷ shared_object ∷ node 3 0 ∷ node 2 2 ∷ node 9 3 ∷ [])

-- three calls are enough
sorted_holds : plain_value lists in_order 0 (4 ∷ []) 3 ≡ Holds
unfolding plain_value check_course call_within
sorted_holds = refl

-- the cells, in order
cells_of_sorted : cells_read lists in_order 0 (4 ∷ []) 3
    ≡ cell 4 1 ∷ cell 4 0 ∷ cell 4 1 ∷ cell 3 0 ∷ cell 4 1 ∷ cell 3 1 ∷ cell 3 0 ∷ cell 3 1 ∷ cell 2 0 ∷ cell 3 1 ∷ cell 2 1 ∷ []
unfolding cells_read check_course call_within
cells_of_sorted = refl

-- two are not: the third call is not made, and its body reads nothing
sorted_is_spent : plain_value lists in_order 0 (4 ∷ []) 2 ≡ Spent
unfolding plain_value check_course call_within
sorted_is_spent = refl

cells_before_spent : cells_read lists in_order 0 (4 ∷ []) 2
    ≡ cell 4 1 ∷ cell 4 0 ∷ cell 4 1 ∷ cell 3 0 ∷ cell 4 1 ∷ cell 3 1 ∷ cell 3 0 ∷ cell 3 1 ∷ cell 2 0 ∷ cell 3 1 ∷ []
unfolding cells_read check_course call_within
cells_before_spent = refl

-- out of order: it fails at the first pair, with one call
sorted_fails : plain_value lists out_of_order 0 (4 ∷ []) 1 ≡ Fails
unfolding plain_value check_course call_within
sorted_fails = refl

-- a check without calls needs no budget
first_is_not_zero : plain_value lists in_order 1 (4 ∷ []) 0 ≡ Fails
unfolding plain_value check_course
first_is_not_zero = refl

null_has_no_field : plain_value lists in_order 1 (0 ∷ []) 0 ≡ Null (at_place 3 1)
unfolding plain_value check_course
null_has_no_field = refl

nothing_is_read_of_null : cells_read lists in_order 1 (0 ∷ []) 0 ≡ []
unfolding cells_read check_course
nothing_is_read_of_null = refl

-- `pred down(k: int): bool = k <= 1 || down(k - 1);`
abbrev down : Predicate
down = record {
  params = Int ∷ [];
  result = Truth;
  body = an_either
      (a_binary LessEq (a_local 0) (a_number (pos 1)) (at_place 1 3))
      (a_call 0 (term_then (a_binary Sub (a_local 0) (a_number (pos 1)) (at_place 1 5)) no_terms));
}

-- `check down(k);` for a number
abbrev check_of_down : ℤ → Program
check_of_down k = record { preds = down ∷ []; procs = []; threads = []; checks = statement (a_call 0 (term_then (a_number k) no_terms)) ∷ [] }

-- so many calls may be open, and one more may not
deepest : plain_value (check_of_down (pos 4096)) in_order 0 [] 100000 ≡ Holds
unfolding plain_value check_course call_within
deepest = refl

too_deep : plain_value (check_of_down (pos 4097)) in_order 0 [] 100000 ≡ Deep
unfolding plain_value check_course call_within
too_deep = refl

-- where both would come, too deep is told before spent
deep_before_spent : plain_value (check_of_down (pos 4097)) in_order 0 [] 4096 ≡ Deep
unfolding plain_value check_course call_within
deep_before_spent = refl

spent_at_the_last : plain_value (check_of_down (pos 4097)) in_order 0 [] 4095 ≡ Spent
unfolding plain_value check_course call_within
spent_at_the_last = refl

-- `pred edge(k: int): bool = edge(k - (k - 1) / (k - 1));`: its argument is one less, and for 1 it faults
abbrev one_below : Term
one_below = a_binary Sub (a_local 0) (a_number (pos 1)) (at_place 1 6)

abbrev edge : Predicate
edge = record {
  params = Int ∷ [];
  result = Truth;
  body = a_call 0 (term_then (a_binary Sub (a_local 0) (a_binary Div one_below one_below (at_place 1 7)) (at_place 1 5)) no_terms);
}

-- `check edge(k);` for a number
abbrev check_of_edge : ℤ → Program
check_of_edge k = record { preds = edge ∷ []; procs = []; threads = []; checks = statement (a_call 0 (term_then (a_number k) no_terms)) ∷ [] }

-- an argument that faults where no more calls may be open is told as its fault, and so it is where no unit is left
argument_before_deep : plain_value (check_of_edge (pos 4096)) in_order 0 [] 4096 ≡ Divide (at_place 1 7)
unfolding plain_value check_course call_within
argument_before_deep = refl

deep_after_an_argument : plain_value (check_of_edge (pos 4097)) in_order 0 [] 4096 ≡ Deep
unfolding plain_value check_course call_within
deep_after_an_argument = refl

argument_before_spent : plain_value (check_of_edge (pos 1)) in_order 0 [] 1 ≡ Divide (at_place 1 7)
unfolding plain_value check_course call_within
argument_before_spent = refl

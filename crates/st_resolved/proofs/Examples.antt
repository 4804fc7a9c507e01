-- The definitions at a small program: one thread makes an object with a number and a reference, launches a check of the number, and stores 1.
use Rattle.std.specs.Prelude.{◌≡◌, ℕ, [], ◌∷◌, All, pos, Some, refl}
use Rattle.std.proofs.Common.{lit≤, lit<}
use Rattle.std.proofs.lemmas.List.Elements.{All-from_recursion}
use Rattle.st_events.specs.declared.events.Site.{Site}
use Rattle.st_events.specs.declared.shapes.Kind.TheVariants.{Int, Bool, Ref}
use Rattle.st_events.specs.declared.shapes.TheConstants.{MOST_FIELDS, MOST_ARGS}
use Rattle.st_events.specs.Kind.{IsDeclaredKind, AreKindsWithin}
use Rattle.st_events.specs.Shape.{ShapeLists}
use Rattle.st_resolved.specs.declared.expressions.Operator.TheVariants.{Add, Equal}
use Rattle.st_resolved.specs.Terms.{a_number, a_null, a_local, a_field, a_binary, to_field, from_term, from_new, a_set, a_put, a_launch, no_commands, command_then, Routine, CheckStatement, Program}
use Rattle.st_resolved.specs.Kinds.{Setting, HasKind}
use Rattle.st_resolved.specs.WellFormed.{IsWellFormed, IsRightPredicate, IsRightRoutine}

abbrev at_line : ℕ → Site
at_line line = record { line = line; column = 1 }

abbrev a_shape : ShapeLists
a_shape = record { classes = [] ∷ (Int ∷ Ref 1 ∷ []) ∷ []; checks = (Ref 1 ∷ []) ∷ [] }

abbrev a_thread : Routine
a_thread = record {
  params = 0;
  locals = Ref 1 ∷ [];
  block = command_then (a_set 0 (from_new 1 (at_line 3))) (command_then (a_launch 0) (command_then (a_put (to_field (a_local 0) 0 (at_line 5)) (from_term (a_number (pos 1)))) no_commands));
}

abbrev a_check : CheckStatement
a_check = record { args = 0 ∷ []; body = a_binary Equal (a_field (a_local 0) 0 (at_line 4)) (a_number (pos 0)) (at_line 4); at = at_line 4 }

abbrev a_program : Program
a_program = record { preds = []; procs = []; threads = a_thread ∷ []; checks = a_check ∷ [] }

abbrev a_setting : Setting
a_setting = record { shape = a_shape; preds = []; locals = Ref 1 ∷ [] }

-- the program is well formed
pub a_program_is_well_formed : IsWellFormed a_shape a_program
a_program_is_well_formed = record {
  shape_fits = record {
    some_class = lit≤ tt;
    classes = lit≤ tt;
    checks = lit≤ tt;
    fields = All-from_recursion (AreKindsWithin MOST_FIELDS 2) a_shape.classes ((lit≤ tt, none), ((lit≤ tt, two), tt));
    arguments = All-from_recursion (AreKindsWithin MOST_ARGS 2) a_shape.checks ((lit≤ tt, one), tt);
  };
  few_preds = lit≤ tt;
  few_procs = lit≤ tt;
  few_threads = lit≤ tt;
  preds = All-from_recursion (IsRightPredicate a_shape a_program) [] tt;
  procs = All-from_recursion (IsRightRoutine a_shape a_program) [] tt;
  threads = All-from_recursion (IsRightRoutine a_shape a_program) a_program.threads (
    record {
      few_params = lit≤ tt;
      params = lit≤ tt;
      few_locals = lit≤ tt;
      kinds = one;
      block = ((Ref 1, refl, (lit≤ tt, lit< tt, refl)), ((a_check, Ref 1 ∷ [], refl, refl, (refl, tt)), ((Int, (1, refl, refl), refl), tt)));
    },
    tt,
  );
  no_params = All-from_recursion (λ (r : Routine). r.params ≡ 0) a_program.threads (refl, tt);
  checks = ((Int, tt, (1, refl, refl), refl, refl), tt);
}
  where
    none : All (IsDeclaredKind 2) []
    none = All-from_recursion (IsDeclaredKind 2) [] tt

    two : All (IsDeclaredKind 2) (Int ∷ Ref 1 ∷ [])
    two = All-from_recursion (IsDeclaredKind 2) (Int ∷ Ref 1 ∷ []) (tt, ((lit≤ tt, lit< tt), tt))

    one : All (IsDeclaredKind 2) (Ref 1 ∷ [])
    one = All-from_recursion (IsDeclaredKind 2) (Ref 1 ∷ []) ((lit≤ tt, lit< tt), tt)

-- `null` and an object go together, a number and an object do not
pub null_is_compared : HasKind a_setting (a_binary Equal (a_local 0) a_null (at_line 4)) Bool
null_is_compared = (Ref 1, tt, refl, tt, refl)

-- no kind fits both sides where an object is compared with a number
pub number_is_not_compared : HasKind a_setting (a_binary Equal (a_local 0) (a_number (pos 0)) (at_line 4)) Bool → ⊥
number_is_not_compared h = let here : Some (Ref 1) ≡ Some h.0 = h.2 in let there : h.0 ≡ Int = h.3 in cc

-- an object is no operand of `+`
pub objects_are_not_added : HasKind a_setting (a_binary Add (a_local 0) (a_local 0) (at_line 4)) Int → ⊥
objects_are_not_added h = let here : Some (Ref 1) ≡ Some h.0 = h.2 in let there : h.0 ≡ Int = h.1 in cc

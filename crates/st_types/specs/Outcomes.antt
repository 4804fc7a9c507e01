-- What a whole tree comes to: its first fault, or itself with numbers and its shape.
use Rattle.std.specs.Prelude.{◌≡◌, List, ◌∷◌, ◌++◌, map}
use Rattle.st_events.specs.Shape.{ShapeLists}
use Rattle.st_ast.specs.declared.declarations.Program as trees
use Rattle.st_resolved.specs.Terms.{Routine, Program}
use Rattle.st_resolved.specs.Views.{predicate_of, routine_of, program_of}
use Rattle.st_resolved.specs.declared.programs.Pred.{Pred}
use Rattle.st_types.specs.declared.checking.Bodies.{Bodies}
use Rattle.st_types.specs.declared.checking.Numbered.{Numbered}
use Rattle.st_types.specs.declared.errors.TypeError.{TypeError}
use Rattle.st_types.specs.declared.errors.TypeError.TheVariants.{Memory}
use Rattle.st_types.specs.Checked.{Checked, verdict}
use Rattle.st_types.specs.Rules.{class_kinds, resolution, shape_of, walked_procs, walked_threads}
use Rattle.st_types.specs.Statements.{Launched}
use Rattle.st_types.specs.Walks.{launched_of}

-- the error is the first of the faults; want of memory says nothing of them
abbrev pub IsFirstFault : TypeError → List TypeError → Type 0
IsFirstFault Memory faults = Unit {0}
IsFirstFault fault faults = (later : List TypeError) × (faults ≡ fault ∷ later)

-- the procedures and threads of a program, with numbers, and all check statements
pub record Parts : Type 0 where
  pub procs : List Routine
  pub threads : List Routine
  pub checks : List Launched

-- the same as the code keeps them
abbrev pub bodies_of : Bodies → Parts
bodies_of b = record { procs = map routine_of b.procs; threads = map routine_of b.threads; checks = map launched_of b.checks.items }

-- they are walked one after another
abbrev pub walked_bodies : trees.Program → Checked Parts
walked_bodies p = verdict ((walked_procs p).faults ++ (walked_threads p).faults)
    (record { procs = (walked_procs p).routines; threads = (walked_threads p).routines; checks = (walked_threads p).checks })

-- a program with numbers, and its shape
pub record Whole : Type 0 where
  pub program : Program
  pub shape : ShapeLists

-- what a tree that keeps the rules comes to
abbrev pub resolved_of : trees.Program → Whole
resolved_of p = record { program = resolution p; shape = shape_of p }

-- what the code gives, as such a whole
abbrev pub resolved_at : Numbered → Whole
resolved_at n = record { program = program_of n.resolved; shape = n.shape }

-- of its parts
abbrev pub joined_parts : trees.Program → List Pred → Bodies → Whole
joined_parts p preds b = record {
  program = record {
    preds = map predicate_of preds;
    procs = (bodies_of b).procs;
    threads = (bodies_of b).threads;
    checks = map (λ l. l.check) (bodies_of b).checks;
  };
  shape = record { classes = class_kinds p; checks = map (λ l. l.kinds) (bodies_of b).checks };
}

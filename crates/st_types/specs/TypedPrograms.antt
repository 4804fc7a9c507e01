-- A typed program: a tree that keeps the rules, the same with numbers in the place of names, and its shape.
use Rattle.std.specs.Prelude.{◌≡◌, ◌≤◌, [], length}
use Rattle.st_events.specs.declared.shapes.TheConstants.{MOST_CHECKS}
use Rattle.st_events.specs.Shape.{ShapeLists}
use Rattle.st_events.specs.Shape as shapes
use Rattle.st_ast.specs.declared.declarations.Program.{Program}
use Rattle.st_resolved.specs.Views.{program_of}
use Rattle.st_resolved.specs.declared.programs.Resolved.{Resolved}
use Rattle.st_types.specs.Limits.{IsWithinLimits}
use Rattle.st_types.specs.Rules.{faults_of, resolution, shape_of}

-- what contracts see of a typed program
pub record TypedView : Type 0 where
  pub program : Program
  pub resolved : Resolved
  pub shape : ShapeLists

-- the tree is within the limits and keeps every rule, and the others are its resolution and its shape
pub record IsTyped (t : TypedView) : Type 0 where
  pub limits : IsWithinLimits t.program
  pub rules : faults_of t.program ≡ []
  pub resolves : program_of t.resolved ≡ resolution t.program
  pub shaped : t.shape ≡ shape_of t.program
  pub few_checks : length t.resolved.checks ≤ MOST_CHECKS
  pub fits : shapes.IsWithinLimits t.shape

-- What contracts see of a shape, and the limits of one.
use Rattle.std.specs.Prelude.{ℕ, ◌≤◌, List, [], length, All, map, Vec, slice_get, unwrap_or}
use Rattle.std.specs.declared.alloc.Global.{Global}
use Rattle.st_events.specs.declared.shapes.Kind.{Kind}
use Rattle.st_events.specs.declared.shapes.TheConstants.{MOST_CLASSES, MOST_FIELDS, MOST_CHECKS, MOST_ARGS}
use Rattle.st_events.specs.Kind.{AreKindsWithin}

-- the kinds of the fields of each class, from class 0 on, and of the arguments of each check statement
pub record ShapeLists : Type 0 where
  pub classes : List (List Kind)
  pub checks : List (List Kind)

-- the shape that these vectors hold
abbrev pub lists_of : List (Vec Kind Global) → List (Vec Kind Global) → ShapeLists
lists_of classes checks = record { classes = map (λ v. v.items) classes; checks = map (λ v. v.items) checks }

-- the kinds of the fields of a class; none where the class is not declared
abbrev pub kinds_of : ShapeLists → ℕ → List Kind
kinds_of shape class = unwrap_or (slice_get shape.classes class) []

-- the shape is within the limits, and each class that a kind names is declared
pub record IsWithinLimits (shape : ShapeLists) : Type 0 where
  pub some_class : 1 ≤ length shape.classes
  pub classes : length shape.classes ≤ MOST_CLASSES
  pub checks : length shape.checks ≤ MOST_CHECKS
  pub fields : All (AreKindsWithin MOST_FIELDS (length shape.classes)) shape.classes
  pub arguments : All (AreKindsWithin MOST_ARGS (length shape.classes)) shape.checks

-- Kinds that name declared classes.
use Rattle.std.specs.Prelude.{ℕ, ◌<◌, ◌≤◌, List, length, All}
use Rattle.st_events.specs.declared.shapes.Kind.{Kind}
use Rattle.st_events.specs.declared.shapes.Kind.TheVariants.{Int, Bool, Ref}

-- the class that the kind names, if it names one, is declared, from 1 on
abbrev pub IsDeclaredKind : ℕ → Kind → Type 0
IsDeclaredKind classes Int = Unit {0}
IsDeclaredKind classes Bool = Unit {0}
IsDeclaredKind classes (Ref class) = (1 ≤ class) × (class < classes)

-- there are at most so many kinds, and each class that they name is declared
abbrev pub AreKindsWithin : ℕ → ℕ → List Kind → Type 0
AreKindsWithin most classes kinds = (length kinds ≤ most) × All (IsDeclaredKind classes) kinds

-- The limits of a shape, by its vectors
use Rattle.std.proofs.Common.{◌≡◌, ℕ, ◌≤◌, List, length, map, All, subst, sym, Vec, Global, arith}
use Rattle.std.proofs.lemmas.List.{length-map}
use Rattle.st_events.specs.Terms.{Kind, IsWithinLimits}
use Rattle.st_events.specs.declared.shapes.TheConstants.{MOST_CLASSES, MOST_FIELDS, MOST_CHECKS, MOST_ARGS}
use Rattle.st_events.specs.Kind.{AreKindsWithin}
use Rattle.st_events.specs.Shape.{lists_of}

abbrev AreWithin : ℕ → ℕ → List (Vec Kind Global) → Type 0
AreWithin most n vs = All (AreKindsWithin most n) (map (λ v. v.items) vs)

-- vectors of kinds that pass the tests are within the limits
pub within_limits :
    (classes checks : List (Vec Kind Global))
    → (1 ≤ length classes) × (length classes ≤ MOST_CLASSES) × (length checks ≤ MOST_CHECKS)
    → AreWithin MOST_FIELDS (length classes) classes
    → AreWithin MOST_ARGS (length classes) checks
    → IsWithinLimits (lists_of classes checks)
within_limits classes checks n fields arguments =
    let same : length (map (λ (v : Vec Kind Global). v.items) classes) ≡ length classes = length-map classes (λ v. v.items) in
    record {
      some_class = omega (arith, n.0, same);
      classes = omega (arith, n.1, same);
      checks = omega (arith, n.2, length-map checks (λ (v : Vec Kind Global). v.items));
      fields = subst (λ (k : ℕ). AreWithin MOST_FIELDS k classes) (sym same) fields;
      arguments = subst (λ (k : ℕ). AreWithin MOST_ARGS k checks) (sym same) arguments;
    }

-- the arguments of a shape within the limits are
pub arguments_within :
    (classes checks : List (Vec Kind Global))
    → IsWithinLimits (lists_of classes checks)
    → AreWithin MOST_ARGS (length classes) checks
arguments_within classes checks w = subst (λ (k : ℕ). AreWithin MOST_ARGS k checks) (length-map classes (λ (v : Vec Kind Global). v.items)) w.arguments

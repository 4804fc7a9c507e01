-- A well-formed program has few locals
use Rattle.std.proofs.Common.{List, [], ◌∷◌, All}
use Rattle.std.proofs.lemmas.List.Elements.{All-head, All-tail}
use Rattle.st_events.specs.Shape.{ShapeLists}
use Rattle.st_resolved.specs.Terms.{Routine, Program}
use Rattle.st_resolved.specs.WellFormed.{IsRightRoutine, IsWellFormed}
use Rattle.st_mutator.specs.Mutators.{HaveFewLocals, HasFewLocals}

few_in_each : (shape : ShapeLists) (p : Program) (rs : List Routine) → All (IsRightRoutine shape p) rs → HaveFewLocals rs
few_in_each shape p [] h = tt
few_in_each shape p (r ∷ rs) h =
    ((All-head (IsRightRoutine shape p) r rs h).few_locals, few_in_each shape p rs (All-tail (IsRightRoutine shape p) r rs h))

-- in a well-formed program no procedure and no thread has more locals than a machine has room for
pub well_formed_has_few_locals : (shape : ShapeLists) (p : Program) → IsWellFormed shape p → HasFewLocals p
well_formed_has_few_locals shape p h = record { procs = few_in_each shape p p.procs h.procs; threads = few_in_each shape p p.threads h.threads }

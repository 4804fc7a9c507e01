use Rattle.std.proofs.Common.{◌≡◌, ◌++◌, ◌∷◌, [], map, take}
use Rattle.st_types.specs.Rules.{field_kinds}
use Rattle.st_types.proofs.checking.class_kinds.Given as goal

abbrev pub invariant-loop-class : goal.invariant-loop-class
invariant-loop-class l =
    map (λ kinds. kinds.items) l.classes.items
    ≡ (field_kinds l.program l.program.shared ∷ []) ++ map (λ class. field_kinds l.program class.fields) (take l.class-index l.declared)

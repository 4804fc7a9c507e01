use Rattle.std.proofs.Common.{◌≡◌, ◌++◌, take}
use Rattle.std.specs.List.{flat_map}
use Rattle.st_grammar.specs.Counts as spec
use Rattle.st_grammar.proofs.items.add_classes.Given as goal

abbrev pub invariant-loop-class : goal.invariant-loop-class
invariant-loop-class l = l.items.items ≡ l.initial.items.items ++ flat_map spec.class_items (take l.class-index l.classes)

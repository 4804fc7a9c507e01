use Rattle.std.proofs.Common.{◌≡◌, ◌++◌, take}
use Rattle.std.specs.List.{flat_map}
use Rattle.st_ast.specs.Lines as spec
use Rattle.st_ast.specs.Lines.{lines_text}
use Rattle.st_ast.proofs.printing.add_classes.Given as goal

abbrev pub invariant-loop-class : goal.invariant-loop-class
invariant-loop-class l = l.text.items ≡ l.initial.text.items ++ lines_text (flat_map spec.class_lines (take l.class-index l.classes))

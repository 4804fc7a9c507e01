use Rattle.std.proofs.Common.{◌≡◌, ◌++◌, take}
use Rattle.st_ast.specs.Lines as spec
use Rattle.st_ast.specs.Lines.{lines_text}
use Rattle.st_ast.proofs.printing.add_each_field.Given as goal

abbrev pub invariant-loop-field : goal.invariant-loop-field
invariant-loop-field l = l.text.items ≡ l.initial.text.items ++ lines_text (spec.each_field (take l.field-index l.fields))

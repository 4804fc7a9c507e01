use Rattle.std.proofs.Common.{◌≡◌, ◌++◌, take}
use Rattle.st_ast.specs.Lines as spec
use Rattle.st_ast.specs.Lines.{lines_text}
use Rattle.st_ast.proofs.lines.+stmts.Given as goal

abbrev pub invariant-add_stmts-loop-stmt : goal.invariant-add_stmts-loop-stmt
invariant-add_stmts-loop-stmt l = l.text.items ≡ l.initial.text.items ++ lines_text (spec.stmts_lines (take l.stmt-index l.stmts) l.depth)

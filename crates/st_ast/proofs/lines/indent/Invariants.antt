use Rattle.std.proofs.Common.{◌≡◌, ◌++◌, ◌*◌}
use Rattle.std.specs.Prelude.{replicate}
use Rattle.st_ast.proofs.lines.indent.Given as goal

abbrev pub invariant-loop-brace : goal.invariant-loop-brace
invariant-loop-brace l = l.text.items ≡ l.initial.text.items ++ replicate (2 * l._brace) 32

use Rattle.std.proofs.Common.{◌≡◌, ◌++◌, map, take}
use Rattle.st_ast.specs.Spaced.{spaced}
use Rattle.st_ast.specs.Words as spec
use Rattle.st_ast.proofs.words.+expr.Given as goal

abbrev pub invariant-add_args-loop-arg : goal.invariant-add_args-loop-arg
invariant-add_args-loop-arg l = l.text.items ≡ l.initial.text.items ++ spaced (spec.after_commas (map spec.expr_words (take l.arg-index l.more)))

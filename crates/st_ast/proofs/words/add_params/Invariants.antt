use Rattle.std.proofs.Common.{◌≡◌, ◌++◌, map, take}
use Rattle.st_ast.specs.Spaced.{spaced}
use Rattle.st_ast.specs.Words as spec
use Rattle.st_ast.proofs.words.add_params.Given as goal

abbrev pub invariant-loop-param : goal.invariant-loop-param
invariant-loop-param l = l.text.items ≡ l.initial.text.items ++ spaced (spec.after_commas (map spec.param_words (take l.param-index l.more)))

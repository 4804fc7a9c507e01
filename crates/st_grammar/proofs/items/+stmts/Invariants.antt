use Rattle.std.proofs.Common.{◌≡◌, ◌++◌, take}
use Rattle.std.specs.List.{flat_map}
use Rattle.st_grammar.specs.Counts as spec
use Rattle.st_grammar.proofs.items.+stmts.Given as goal

abbrev pub invariant-add_stmts-loop-stmt : goal.invariant-add_stmts-loop-stmt
invariant-add_stmts-loop-stmt l = l.items.items ≡ l.initial.items.items ++ flat_map spec.stmt_items (take l.stmt-index l.stmts)

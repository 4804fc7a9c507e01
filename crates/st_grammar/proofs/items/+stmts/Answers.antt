use Rattle.std.proofs.Common.{rules, arith, append_assoc, append-nil}
use Rattle.std.proofs.lemmas.List.Folds.{flat_map-map}
use Rattle.st_ast.specs.declared.statements.Stmt.{the_lemmas}
use Rattle.st_grammar.specs.Counts.{stmt_items}
use Rattle.st_grammar.proofs.items.+stmts.Goals as goal

pub add_stmt-returns-in-Some : goal.add_stmt-returns-in-Some
unfolding stmt_items
add_stmt-returns-in-Some t c = search (rules, the_lemmas, append_assoc, flat_map-map)

pub add_stmt-returns-in-None : goal.add_stmt-returns-in-None
unfolding stmt_items
add_stmt-returns-in-None t c = search (rules, the_lemmas, append-nil, append_assoc, flat_map-map)

pub add_stmt-returns-in-While : goal.add_stmt-returns-in-While
unfolding stmt_items
add_stmt-returns-in-While t c = search (rules, the_lemmas, flat_map-map)

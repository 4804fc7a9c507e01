use Rattle.std.proofs.Common.{rules, append_assoc, append-nil}
use Rattle.std.proofs.lemmas.List.Folds.{flat_map-map}
use Rattle.st_ast.specs.declared.statements.Stmt.{the_lemmas}
use Rattle.st_ast.specs.Lines.{stmt_lines}
use Rattle.st_ast.proofs.WrittenLemmas.{lines_join, lines_none, lines_step}
use Rattle.st_ast.proofs.IfLemmas.{if_alone}
use Rattle.st_ast.proofs.lines.+stmts.Goals as goal

pub add_stmts-loop-stmt-init : goal.add_stmts-loop-stmt-init
add_stmts-loop-stmt-init t c = search (rules, append-nil, lines_none)

pub add_stmts-loop-stmt-preserved : goal.add_stmts-loop-stmt-preserved
add_stmts-loop-stmt-preserved t c =
    lines_step (λ s. stmt_lines s c.args.depth) c.args.stmts.now c.loop-stmt.stmt-index c.stmt-item.result c.args.text.now.items
    c.loop-stmt.text.items c.add_stmt.new.text.items c.loop-stmt-test.true c.stmt-item.is c.loop-stmt.invariant c.in_ok-add_stmt.ensures

pub add_block-returns : goal.add_block-returns
add_block-returns t c = search (rules, append_assoc, append-nil, lines_join)

pub add_stmt-returns-in_ok-add_line-in-Some : goal.add_stmt-returns-in_ok-add_line-in-Some
unfolding stmt_lines
add_stmt-returns-in_ok-add_line-in-Some t c = search (rules, the_lemmas, append_assoc, append-nil, flat_map-map, lines_join)

pub add_stmt-returns-in-While : goal.add_stmt-returns-in-While
unfolding stmt_lines
add_stmt-returns-in-While t c = search (rules, the_lemmas, append_assoc, append-nil, flat_map-map, lines_join)

pub add_stmt-returns-in-None : goal.add_stmt-returns-in-None
add_stmt-returns-in-None t c =
    if_alone c.args.stmt.now c.in-If.cond c.in-If.then c.as_slice.result.now c.in-If.other c.in-If.site c.args.depth c.args.text.now.items
    c.add_first_line.new.text.items c.add_block.new.text.items c.in-If.is c.in-None.is c.as_slice.ensures c.in_ok-add_first_line.ensures
    c.in_ok-add_block-in-If.ensures

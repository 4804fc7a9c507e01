use Rattle.st_ast.proofs.WrittenLemmas.{line_in_parts, last_as}
use Rattle.st_ast.specs.Lines.{front_words, last_word}
use Rattle.st_ast.specs.declared.statements.Stmt.{out-Stmt}
use Rattle.st_ast.proofs.lines.add_first_line.Goals as goal

pub returns : goal.returns
returns c =
    let front = front_words (out-Stmt c.args.stmt.now) in
    last_as c.end_line.result front c.args.depth c.last_word.result.now (last_word (out-Stmt c.args.stmt.now)) c.args.text.now.items
    c.end_line.new.text.items c.last_word.ensures
    (line_in_parts c.end_line.result c.args.depth front c.last_word.result.now c.args.text.now.items c.indent.new.text.items
    c.add_front.new.text.items c.end_line.new.text.items c.in_ok-indent.ensures c.in_ok-add_front.ensures c.end_line.ensures)

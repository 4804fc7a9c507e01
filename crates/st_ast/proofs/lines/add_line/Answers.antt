use Rattle.std.proofs.Common.{map}
use Rattle.st_ast.proofs.WrittenLemmas.{line_in_parts}
use Rattle.st_ast.proofs.lines.add_line.Goals as goal

pub returns : goal.returns
returns c =
    line_in_parts c.end_line.result c.args.depth (map (λ word. word.now) c.args.front.now) c.args.last.now c.args.text.now.items
    c.indent.new.text.items c.add_words.new.text.items c.end_line.new.text.items c.in_ok-indent.ensures c.in_ok-add_words.ensures
    c.end_line.ensures

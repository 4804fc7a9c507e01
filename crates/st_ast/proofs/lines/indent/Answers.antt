use Rattle.std.proofs.Common.{rules, append_assoc}
use Rattle.st_ast.proofs.WrittenLemmas.{indent_more}
use Rattle.st_ast.proofs.lines.indent.Goals as goal

pub loop-brace-preserved : goal.loop-brace-preserved
loop-brace-preserved c = search (rules, append_assoc, indent_more)

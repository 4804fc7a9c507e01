use Rattle.std.proofs.Common.{rules, append_assoc, append-nil}
use Rattle.st_ast.specs.Lines.{canonical_text, lines_of}
use Rattle.st_ast.proofs.WrittenLemmas.{lines_join}
use Rattle.st_ast.proofs.printing.print.Goals as goal

pub returns : goal.returns
unfolding canonical_text lines_of
returns c = search (rules, append_assoc, append-nil, lines_join)

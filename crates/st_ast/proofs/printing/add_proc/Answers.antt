use Rattle.std.proofs.Common.{rules, append_assoc, append-nil}
use Rattle.st_ast.proofs.WrittenLemmas.{lines_join}
use Rattle.st_ast.proofs.printing.add_proc.Goals as goal

pub returns : goal.returns
returns c = search (rules, append_assoc, append-nil, lines_join)

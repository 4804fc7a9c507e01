use Rattle.std.proofs.Common.{rules, append_assoc, append-nil}
use Rattle.st_ast.proofs.WrittenLemmas.{lines_join, lines_none, shared_none, shared_some}
use Rattle.st_ast.proofs.printing.add_shared.Goals as goal

pub returns-then-is_empty : goal.returns-then-is_empty
returns-then-is_empty c = search (rules, append-nil, lines_none, shared_none)

pub returns : goal.returns
returns c = search (rules, append_assoc, lines_join, shared_some)

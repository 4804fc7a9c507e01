use Rattle.std.proofs.Common.{rules, append_assoc}
use Rattle.st_ast.proofs.WrittenLemmas.{spaced_join}
use Rattle.st_ast.proofs.words.add_param.Goals as goal

pub returns : goal.returns
returns c = search (rules, append_assoc, spaced_join)

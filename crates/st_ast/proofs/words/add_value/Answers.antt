use Rattle.std.proofs.Common.{rules, append_assoc}
use Rattle.st_ast.proofs.WrittenLemmas.{spaced_join}
use Rattle.st_ast.proofs.words.add_value.Goals as goal

pub returns-in_ok-add_word-in-New : goal.returns-in_ok-add_word-in-New
returns-in_ok-add_word-in-New c = search (rules, append_assoc, spaced_join)

pub returns-in_ok-add_expr-in-Cas-3 : goal.returns-in_ok-add_expr-in-Cas-3
returns-in_ok-add_expr-in-Cas-3 c = search (rules, append_assoc, spaced_join)

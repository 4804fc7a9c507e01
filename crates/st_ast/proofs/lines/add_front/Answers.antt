use Rattle.std.proofs.Common.{rules, append_assoc}
use Rattle.st_ast.specs.declared.statements.Stmt.{the_lemmas}
use Rattle.st_ast.proofs.WrittenLemmas.{spaced_join}
use Rattle.st_ast.proofs.lines.add_front.Goals as goal

pub returns-in_ok-add_words-in-Var : goal.returns-in_ok-add_words-in-Var
returns-in_ok-add_words-in-Var c = search (rules, the_lemmas, append_assoc, spaced_join)

pub returns-in_ok-add_words-in-Assign : goal.returns-in_ok-add_words-in-Assign
returns-in_ok-add_words-in-Assign c = search (rules, the_lemmas, append_assoc, spaced_join)

pub returns-in_ok-add_word-in-Put : goal.returns-in_ok-add_word-in-Put
returns-in_ok-add_word-in-Put c = search (rules, the_lemmas, append_assoc, spaced_join)

pub returns-in_ok-add_word-in-If : goal.returns-in_ok-add_word-in-If
returns-in_ok-add_word-in-If c = search (rules, the_lemmas, append_assoc, spaced_join)

pub returns-in_ok-add_word-in-While : goal.returns-in_ok-add_word-in-While
returns-in_ok-add_word-in-While c = search (rules, the_lemmas, append_assoc, spaced_join)

pub returns-in_ok-add_word-in-Check : goal.returns-in_ok-add_word-in-Check
returns-in_ok-add_word-in-Check c = search (rules, the_lemmas, append_assoc, spaced_join)

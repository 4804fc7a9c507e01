use Rattle.std.proofs.Common.{rules, arith, append_assoc}
use Rattle.std.proofs.lemmas.Grind.{common_steps}
use Rattle.std.proofs.lemmas.List.Folds.{flat_map-map}
use Rattle.st_ast.specs.declared.expressions.Expr.{the_lemmas}
use Rattle.st_grammar.specs.Counts.{mentions}
use Rattle.st_grammar.proofs.ItemLemmas.{ok_as, added_twice}
use Rattle.st_grammar.proofs.mentions.+mentions.Goals as goal

pub add_mentions-returns-in-Call : goal.add_mentions-returns-in-Call
unfolding mentions
add_mentions-returns-in-Call t c = search (rules, the_lemmas, flat_map-map)

pub add_mentions-returns-in_ok-add_mentions-in-Binary : goal.add_mentions-returns-in_ok-add_mentions-in-Binary
unfolding mentions
add_mentions-returns-in_ok-add_mentions-in-Binary t c = search (rules, the_lemmas, append_assoc)

pub add_mentions-returns-in_ok-add_mentions-in-Cond-2 : goal.add_mentions-returns-in_ok-add_mentions-in-Cond-2
unfolding mentions
add_mentions-returns-in_ok-add_mentions-in-Cond-2 t c = search (rules, the_lemmas, append_assoc)

use Rattle.std.proofs.Common.{rules, append_assoc, append-nil}
use Rattle.st_ast.specs.declared.expressions.Expr.{the_lemmas}
use Rattle.st_ast.specs.Words.{expr_words}
use Rattle.st_ast.proofs.WrittenLemmas.{spaced_join, spaced_none, commas_step, listed_none, listed_some}
use Rattle.st_ast.proofs.words.+expr.Goals as goal

pub add_expr-returns-in-Call : goal.add_expr-returns-in-Call
unfolding expr_words
add_expr-returns-in-Call t c = search (rules, the_lemmas)

pub add_call-returns : goal.add_call-returns
add_call-returns t c = search (rules, append_assoc, spaced_join)

pub add_expr-returns-in_ok-add_word-in-Shared-2 : goal.add_expr-returns-in_ok-add_word-in-Shared-2
unfolding expr_words
add_expr-returns-in_ok-add_word-in-Shared-2 t c = search (rules, the_lemmas, append_assoc, spaced_join)

pub add_expr-returns-in_ok-add_word-in-Field : goal.add_expr-returns-in_ok-add_word-in-Field
unfolding expr_words
add_expr-returns-in_ok-add_word-in-Field t c = search (rules, the_lemmas, append_assoc, spaced_join)

pub add_expr-returns-in_ok-add_word-in-Not : goal.add_expr-returns-in_ok-add_word-in-Not
unfolding expr_words
add_expr-returns-in_ok-add_word-in-Not t c = search (rules, the_lemmas, append_assoc, spaced_join)

pub add_expr-returns-in_ok-add_word-in-Minus : goal.add_expr-returns-in_ok-add_word-in-Minus
unfolding expr_words
add_expr-returns-in_ok-add_word-in-Minus t c = search (rules, the_lemmas, append_assoc, spaced_join)

pub add_expr-returns-in_ok-add_word-in-Binary : goal.add_expr-returns-in_ok-add_word-in-Binary
unfolding expr_words
add_expr-returns-in_ok-add_word-in-Binary t c = search (rules, the_lemmas, append_assoc, spaced_join)

pub add_in_parens-returns : goal.add_in_parens-returns
add_in_parens-returns t c = search (rules, append_assoc, spaced_join)

pub add_expr-returns-in_ok-add_word-in-Cond-2 : goal.add_expr-returns-in_ok-add_word-in-Cond-2
unfolding expr_words
add_expr-returns-in_ok-add_word-in-Cond-2 t c = search (rules, the_lemmas, append_assoc, spaced_join)

pub add_args-loop-arg-init : goal.add_args-loop-arg-init
add_args-loop-arg-init t c = search (rules, append_assoc, append-nil, spaced_join, spaced_none)

pub add_args-loop-arg-preserved : goal.add_args-loop-arg-preserved
add_args-loop-arg-preserved t c =
    commas_step expr_words c.in-Some.more.now c.loop-arg.arg-index c.arg-item.result c.add_expr.new.text.items c.loop-arg.text.items
    c.add_word.new.text.items c.add_expr-in-loop-arg.new.text.items c.loop-arg-test.true c.arg-item.is c.loop-arg.invariant
    c.in_ok-add_word-in-Some.ensures c.in_ok-add_expr-in-Some-2.ensures

pub add_args-returns-in-None : goal.add_args-returns-in-None
add_args-returns-in-None t c = listed_none expr_words c.args.args.now c.args.text.now.items c.in-None.ensures.cases

pub add_args-returns-after-loop-arg : goal.add_args-returns-after-loop-arg
add_args-returns-after-loop-arg t c =
    listed_some expr_words c.args.args.now c.in-Some.more.now c.in-Some.first.now c.loop-arg.arg-index c.args.text.now.items
    c.add_expr.new.text.items c.loop-arg.text.items c.in-Some.ensures.cases.0 c.loop-arg-test.false c.in_ok-add_expr-in-Some.ensures c.loop-arg.invariant

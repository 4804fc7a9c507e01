use Rattle.std.proofs.Common.{rules, append-nil}
use Rattle.st_ast.specs.Words.{param_words}
use Rattle.st_ast.proofs.WrittenLemmas.{spaced_none, commas_step, listed_none, listed_some}
use Rattle.st_ast.proofs.words.add_params.Goals as goal

pub loop-param-preserved : goal.loop-param-preserved
loop-param-preserved c =
    commas_step param_words c.in-Some.more.now c.loop-param.param-index c.param-item.result c.add_param.new.text.items c.loop-param.text.items
    c.add_word.new.text.items c.add_param-in-loop-param.new.text.items c.loop-param-test.true c.param-item.is c.loop-param.invariant
    c.in_ok-add_word-in-Some.ensures c.in_ok-add_param-in-Some-2.ensures

pub returns-in-None : goal.returns-in-None
returns-in-None c = listed_none param_words c.args.params.now c.args.text.now.items c.in-None.ensures.cases

pub loop-param-init : goal.loop-param-init
loop-param-init c = search (rules, append-nil, spaced_none)

pub returns-after-loop-param : goal.returns-after-loop-param
returns-after-loop-param c =
    listed_some param_words c.args.params.now c.in-Some.more.now c.in-Some.first.now c.loop-param.param-index c.args.text.now.items
    c.add_param.new.text.items c.loop-param.text.items c.in-Some.ensures.cases.0 c.loop-param-test.false c.in_ok-add_param-in-Some.ensures
    c.loop-param.invariant

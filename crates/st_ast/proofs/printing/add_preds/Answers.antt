use Rattle.std.proofs.Common.{rules, append-nil}
use Rattle.st_ast.specs.Lines.{pred_lines}
use Rattle.st_ast.proofs.WrittenLemmas.{lines_none, lines_step}
use Rattle.st_ast.proofs.printing.add_preds.Goals as goal

pub loop-pred-init : goal.loop-pred-init
loop-pred-init c = search (rules, append-nil, lines_none)

pub loop-pred-preserved : goal.loop-pred-preserved
loop-pred-preserved c =
    lines_step pred_lines c.args.preds.now c.loop-pred.pred-index c.pred-item.result c.args.text.now.items c.loop-pred.text.items c.add_pred.new.text.items
    c.loop-pred-test.true c.pred-item.is c.loop-pred.invariant c.in_ok-add_pred.ensures

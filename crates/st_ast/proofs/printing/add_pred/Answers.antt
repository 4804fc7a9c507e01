use Rattle.std.specs.Prelude.{codes}
use Rattle.st_ast.specs.Lines.{pred_words}
use Rattle.st_ast.proofs.WrittenLemmas.{head_in_parts}
use Rattle.st_ast.proofs.printing.add_pred.Goals as goal

pub returns : goal.returns
returns c =
    head_in_parts c.end_line.result (pred_words c.args.pred.now) (codes ";") c.args.text.now.items c.add_pred_words.new.text.items
    c.end_line.new.text.items c.in_ok-add_pred_words.ensures c.end_line.ensures

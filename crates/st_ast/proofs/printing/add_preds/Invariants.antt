use Rattle.std.proofs.Common.{◌≡◌, ◌++◌, take}
use Rattle.std.specs.List.{flat_map}
use Rattle.st_ast.specs.Lines as spec
use Rattle.st_ast.specs.Lines.{lines_text}
use Rattle.st_ast.proofs.printing.add_preds.Given as goal

abbrev pub invariant-loop-pred : goal.invariant-loop-pred
invariant-loop-pred l = l.text.items ≡ l.initial.text.items ++ lines_text (flat_map spec.pred_lines (take l.pred-index l.preds))

use Rattle.st_types.specs.Outcomes.{resolved_at}
use Rattle.st_types.proofs.CheckedLemmas.{gives_fault, fails_so}
use Rattle.st_types.proofs.OutcomeLemmas.{bodies_fail, cells_fail, preds_fail, resolved_is}
use Rattle.st_types.proofs.checking.resolved.Goals as goal

pub returns-in_err-ask_cells : goal.returns-in_err-ask_cells
returns-in_err-ask_cells c =
    gives_fault resolved_at c.from_residual.result _ c.in_err-ask_cells.field-0.0 c.from_residual.ensures.1
    (fails_so c.in_err-ask_cells.field-0.0 _ (cells_fail c.args.program.now c.in_err-ask_cells.field-0.0 c.in_err-ask_cells.ensures))

pub returns-in_err-preds : goal.returns-in_err-preds
returns-in_err-preds c =
    gives_fault resolved_at c.from_residual-in_err-preds.result _ c.in_err-preds.field-0.0 c.from_residual-in_err-preds.ensures.1
    (preds_fail c.args.program.now c.in_err-preds.field-0.0 c.in_ok-ask_cells.ensures c.in_err-preds.ensures)

pub returns-in_err-bodies : goal.returns-in_err-bodies
returns-in_err-bodies c =
    gives_fault resolved_at c.from_residual-in_err-bodies.result _ c.in_err-bodies.field-0.0 c.from_residual-in_err-bodies.ensures.1
    (bodies_fail c.args.program.now c.in_ok-preds.preds c.in_err-bodies.field-0.0 c.in_ok-ask_cells.ensures c.in_ok-preds.ensures c.in_err-bodies.ensures)

pub returns : goal.returns
returns c =
    resolved_is c.args.program.now c.in_ok-preds.preds c.in_ok-bodies.bodies c.in_ok-assembled.field-0 c.in_ok-ask_cells.ensures c.in_ok-preds.ensures c.in_ok-bodies.ensures
    c.in_ok-assembled.ensures

use Rattle.st_types.proofs.CallLemmas.{proc_outcome}
use Rattle.st_types.proofs.assignments.proc_statement.Goals as goal

pub returns : goal.returns
returns c =
    proc_outcome c.args.program.now c.args.name.now c.args.args.items c.deref.result.now c.args.site c.called_number-procedure.result c.in_ok-args.args _
    c.deref.ensures.value c.in_ok-args.ensures c.called_number-procedure.ensures c.in_ok-ask_proc.ensures c.in_ok-new.ensures

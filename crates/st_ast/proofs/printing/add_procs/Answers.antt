use Rattle.std.proofs.Common.{rules, append-nil}
use Rattle.st_ast.specs.Lines.{proc_lines}
use Rattle.st_ast.proofs.WrittenLemmas.{lines_none, lines_step}
use Rattle.st_ast.proofs.printing.add_procs.Goals as goal

pub loop-proc-init : goal.loop-proc-init
loop-proc-init c = search (rules, append-nil, lines_none)

pub loop-proc-preserved : goal.loop-proc-preserved
loop-proc-preserved c =
    lines_step proc_lines c.args.procs.now c.loop-proc.proc-index c.proc-item.result c.args.text.now.items c.loop-proc.text.items c.add_proc.new.text.items
    c.loop-proc-test.true c.proc-item.is c.loop-proc.invariant c.in_ok-add_proc.ensures

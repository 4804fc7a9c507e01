use Rattle.std.proofs.Common.{rules, append-nil}
use Rattle.st_ast.specs.Lines.{thread_lines}
use Rattle.st_ast.proofs.WrittenLemmas.{lines_none, lines_step}
use Rattle.st_ast.proofs.printing.add_threads.Goals as goal

pub loop-thread-init : goal.loop-thread-init
loop-thread-init c = search (rules, append-nil, lines_none)

pub loop-thread-preserved : goal.loop-thread-preserved
loop-thread-preserved c =
    lines_step thread_lines c.args.threads.now c.loop-thread.thread-index c.thread-item.result c.args.text.now.items c.loop-thread.text.items c.add_thread.new.text.items
    c.loop-thread-test.true c.thread-item.is c.loop-thread.invariant c.in_ok-add_thread.ensures

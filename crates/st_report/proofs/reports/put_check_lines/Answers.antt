use Rattle.st_report.specs.Report.{check_line}
use Rattle.st_report.proofs.PieceLemmas.{next_piece}
use Rattle.st_report.proofs.reports.put_check_lines.Goals as goal

pub loop-check-preserved : goal.loop-check-preserved
loop-check-preserved c =
    next_piece (check_line c.args.thread.now) c.args.checks.now c.loop-check.check-index _ c.args.out.now.items c.loop-check.out.items c.put_check_line.new.out.items
    c.loop-check-test.true c.loop-check.invariant c.in_ok-put_check_line.ensures

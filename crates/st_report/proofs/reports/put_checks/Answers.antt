use Rattle.std.proofs.Common.{◌∙◌}
use Rattle.st_report.proofs.PieceLemmas.{next_thread}
use Rattle.st_report.proofs.reports.put_checks.Goals as goal

pub loop-number-preserved : goal.loop-number-preserved
loop-number-preserved c =
    next_thread c.args.places.now c.args.verdicts.now c.args.journal.now c.args.threads.now c.loop-number.number _ c.deref.result.now c.args.out.now.items
    c.loop-number.out.items c.put_check_lines.new.out.items c.loop-number-test.true c.loop-number.invariant (c.deref.ensures.value ∙ c.in_ok-checks.ensures)
    c.in_ok-put_check_lines.ensures

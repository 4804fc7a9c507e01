use Rattle.std.proofs.Common.{◌∙◌}
use Rattle.st_report.proofs.JsonLemmas.{next_checks}
use Rattle.st_report.proofs.as_json.put_checks.Goals as goal

pub loop-number-preserved : goal.loop-number-preserved
loop-number-preserved c =
    next_checks c.args.places.now c.args.verdicts.now c.args.journal.now c.args.threads.now c.loop-number.number _ c.deref.result.now c.args.list.now.items
    c.loop-number.list.items c.put_checks_of.new.list.items c.loop-number-test.true c.loop-number.invariant (c.deref.ensures.value ∙ c.in_ok-checks.ensures)
    c.in_ok-put_checks_of.ensures

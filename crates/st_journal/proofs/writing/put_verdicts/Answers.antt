use Rattle.st_journal.proofs.WriteLemmas.{one_verdict_more}
use Rattle.st_journal.proofs.writing.put_verdicts.Goals as goal

pub loop-before-preserved : goal.loop-before-preserved
loop-before-preserved c =
    one_verdict_more c.args.verdicts.now c.loop-before.before _ c.args.out.now.items c.loop-before.out.items c.put_verdict.new.out.items
    c.loop-before-test.true c.loop-before.invariant c.in_ok-put_verdict.ensures

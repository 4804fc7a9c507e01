use Rattle.st_snap.proofs.PoolLemmas.{all_before_are_earlier}
use Rattle.st_snap.proofs.pools.count_earlier.Goals as goal

pub returns-else-kept-count-clause-earlier : goal.returns-else-kept-count-clause-earlier
returns-else-kept-count-clause-earlier c =
    all_before_are_earlier c.args.since c.args.kept.now c.loop-count.count _ c.requires c.loop-count-test.true c.loop-count.invariant c.if-kept-count.false

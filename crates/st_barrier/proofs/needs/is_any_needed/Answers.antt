use Rattle.std.proofs.Common.{◌+◌, arith, sym}
use Rattle.st_barrier.proofs.NeedLemmas.{any_here, any_more}
use Rattle.st_barrier.proofs.needs.is_any_needed.Goals as goal

pub returns-then-checks-lane-gt0 : goal.returns-then-checks-lane-gt0
returns-then-checks-lane-gt0 c =
    let lane = c.loop-lane.lane in
    let checks = c.args.checks.now in
    sym (any_more checks (lane + 1) c.args.lanes (omega (arith, c.loop-lane-test.true, c.loop-lane.auto.lane-end)) (any_here checks lane c.if-checks-lane-gt0.true))

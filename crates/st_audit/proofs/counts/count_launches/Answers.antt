use Rattle.std.proofs.Common.{take, arith, length-take}
use Rattle.st_events.specs.History.{is_launch}
use Rattle.st_audit.proofs.ListLemmas.{filtered_are_few}
use Rattle.st_audit.proofs.counts.count_launches.Goals as goal

pub overflow_add-count : goal.overflow_add-count
overflow_add-count c =
    let few = filtered_are_few is_launch (take c.loop-event.event-index c.args.events.now) in
    omega (arith, few, length-take c.loop-event.event-index c.args.events.now, c.loop-event.invariant, c.one_if-count.ensures.few, c.loop-event-test.true, c.requires)

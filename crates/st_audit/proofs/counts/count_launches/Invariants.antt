use Rattle.std.proofs.Common.{◌≡◌, length, filter, take}
use Rattle.st_events.specs.History.{is_launch}
use Rattle.st_audit.proofs.counts.count_launches.Given as goal

abbrev pub invariant-loop-event : goal.invariant-loop-event
invariant-loop-event l = l.count ≡ length (filter is_launch (take l.event-index l.events))

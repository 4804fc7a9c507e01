use Rattle.std.proofs.Common.{◌+◌, ◌-◌, ◌<◌, ◌≤◌, length}
use Rattle.st_snap.specs.Snapshots.{event_room}
use Rattle.tests_snap.specs.Drive.{IsDriven}
use Rattle.tests_snap.proofs.driver.Driven.load_each.Given as goal

abbrev pub invariant-loop-index : goal.invariant-loop-index
invariant-loop-index l = record {
  driven : IsDriven l.self-inside.heap l.self-inside.sizes l.self-inside.width l.self-inside.objects.items l.self-inside.checks.items;
  thread : l.m < l.self-inside.heap.sizes.mutators;
  spare : l.index-end ≤ event_room l.self-inside.heap.sizes - length l.self-inside.heap.journal + l.index;
}

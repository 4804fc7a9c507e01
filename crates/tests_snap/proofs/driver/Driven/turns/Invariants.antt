use Rattle.std.proofs.Common.{◌+◌, ◌-◌, ◌*◌, ◌<◌, ◌≤◌, length}
use Rattle.st_snap.specs.Snapshots.{event_room}
use Rattle.tests_snap.specs.Drive.{IsDriven}
use Rattle.tests_snap.proofs.driver.Driven.turns.Given as goal

abbrev pub invariant-loop : goal.invariant-loop
invariant-loop l = record {
  driven : IsDriven l.self-inside.heap l.self-inside.sizes l.self-inside.width l.self-inside.objects.items l.self-inside.checks.items;
  thread : l.m < l.self-inside.heap.sizes.mutators;
  spare : 2 * l.count ≤ event_room l.self-inside.heap.sizes - length l.self-inside.heap.journal + 2 * l.counter;
}

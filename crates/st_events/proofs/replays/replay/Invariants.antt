use Rattle.std.proofs.Common.{◌≡◌, ◌≤◌}
use Rattle.st_events.specs.Seen.{seen, HasRoom}
use Rattle.st_events.proofs.AlikeLemmas.{IsReplayed}
use Rattle.st_events.proofs.replays.replay.Given as goal

-- the events before this one were replayed
abbrev pub invariant-loop-event : goal.invariant-loop-event
invariant-loop-event l = record {
  replayed : IsReplayed l.shape l.sizes l.events l.event-index (seen l.replay);
  room : HasRoom l.replay;
  shape : l.replay.shape.now ≡ l.shape;
  sizes : l.replay.sizes.now ≡ l.sizes;
  place : l.place ≡ l.event-index;
  launches : l.replay.launches ≤ l.event-index;
}

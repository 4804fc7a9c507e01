use Rattle.std.proofs.Common.{◌≤◌, length, take}
use Rattle.st_events.specs.Terms.{world_after, lost_pairs}
use Rattle.st_audit.specs.Balance.{IsLedgerOf}
use Rattle.st_audit.specs.Marks.{AreMarks}
use Rattle.st_audit.proofs.RoomLemmas.{room}
use Rattle.st_audit.proofs.losses.marks_of.Given as goal

-- the events before this one were noted
abbrev pub invariant-loop-event : goal.invariant-loop-event
invariant-loop-event l = record {
  ledger : IsLedgerOf l.sizes l.ledger (world_after l.shape l.sizes (take l.event-index l.events)) (room l.sizes);
  marks : AreMarks l.verdicts (lost_pairs l.shape l.sizes (take l.event-index l.events)) l.marks.items;
  epoch : l.ledger.epoch ≤ l.event-index;
  rows : length l.ledger.rows ≤ l.event-index;
}

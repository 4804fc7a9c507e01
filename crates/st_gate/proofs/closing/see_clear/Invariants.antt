use Rattle.std.proofs.Common.{◌≡◌}
use Rattle.st_rule.specs.Seats.{IsSeatOf}
use Rattle.st_gate.specs.Later.{IsLater}
use Rattle.st_gate.proofs.closing.see_clear.Given as goal

-- between two tries the seat has seen the flags that it had seen
abbrev pub invariant-loop : goal.invariant-loop
invariant-loop g l = record {
  table : IsSeatOf g.J.Judge.meant l.shared l.seat;
  gate : l.seat.view.gate ≡ l.fn.seat.view.gate;
  later : IsLater l.fn.seat l.seat;
}

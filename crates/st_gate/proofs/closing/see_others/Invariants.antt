use Rattle.st_rule.specs.Seats.{IsSeatOf, IsFair}
use Rattle.st_gate.specs.Later.{IsLater}
use Rattle.st_gate.specs.Others.{HasSeen, others_below}
use Rattle.st_gate.proofs.closing.see_others.Given as goal

-- the numbers so far were seen
abbrev pub invariant-loop-k : goal.invariant-loop-k
invariant-loop-k g l = record {
  table : IsSeatOf g.J.Judge.meant l.shared l.seat;
  seen : HasSeen l.seat (others_below l.k l.seat.view.gate.number);
  later : IsLater l.fn.seat l.seat;
  legal : IsFair l.seat;
}

use Rattle.st_rule.specs.Seats.{IsSeatOf}
use Rattle.st_gate.specs.Later.{IsLater}
use Rattle.st_gate.specs.Phases.{IsOutside}
use Rattle.tests_table.proofs.tests.gates.visit_alone.Given as goal

-- between two visits the seat is outside
abbrev pub invariant-loop : goal.invariant-loop
invariant-loop g l = record {
  table : IsSeatOf g.J.Judge.meant l.shared l.seat;
  outside : IsOutside l.seat;
  later : IsLater l.fn.seat l.seat;
}

use Rattle.std.proofs.Common.{◌≡◌}
use Rattle.std.specs.Prelude.{IsSome}
use Rattle.st_rule.specs.declared.views.Phase.TheVariants.{Inside}
use Rattle.st_rule.specs.Draws.{heap_seen}
use Rattle.st_rule.specs.Seats.{IsSeatOf, HoldsNothing}
use Rattle.st_barrier.specs.Hands.{StaysAs}
use Rattle.st_barrier.proofs.locking.lock.Given as goal

-- between two tries the seat holds nothing, and nothing was drawn
abbrev pub invariant-loop : goal.invariant-loop
invariant-loop g l = record {
  table : IsSeatOf g.J.Judge.meant l.shared l.seat;
  phase : l.seat.view.gate.phase ≡ Inside;
  hand : HoldsNothing l.seat;
  object : IsSome (heap_seen l.seat.view l.obj);
  stays : StaysAs l.fn.seat l.seat;
}

use Rattle.std.proofs.Common.{◌≡◌, ◌≤◌}
use Rattle.st_rule.specs.Seats.{IsSeatOf, IsFair}
use Rattle.st_barrier.specs.Keeping.{KeepsBoard, IsKept, AreKnown, awaiting_of, lanes_in}
use Rattle.st_barrier.proofs.versions.forward.Given as goal

-- the lanes from here on are forwarded
abbrev pub invariant-loop-left : goal.invariant-loop-left
invariant-loop-left g l = record {
  table : IsSeatOf g.J.Judge.meant l.shared l.seat;
  fair : IsFair l.seat;
  board : KeepsBoard l.fn.seat l.seat;
  kept : IsKept l.change.obj l.change.field l.change.value l.target l.seat;
  known : AreKnown l.checks l.seat;
  within : l.left ≤ l.seat.view.terms.sizes.lanes;
  awaiting : awaiting_of l.seat.view.held ≡ lanes_in l.checks l.left;
}

abbrev pub decreases-loop-left : goal.decreases-loop-left
decreases-loop-left g l = l.left

use Rattle.std.proofs.Common.{◌≡◌, ◌+◌}
use Rattle.st_rule.specs.Seats.{IsSeatOf, IsFair}
use Rattle.st_barrier.specs.Keeping.{KeepsBoard, Flies, NamesCopy, awaiting_of}
use Rattle.st_barrier.proofs.versions.build.Given as goal

-- the words so far stand
abbrev pub invariant-loop-field : goal.invariant-loop-field
invariant-loop-field g l = record {
  table : IsSeatOf g.J.Judge.meant l.shared l.seat;
  fair : IsFair l.seat;
  board : KeepsBoard l.fn.seat l.seat;
  awaiting : awaiting_of l.seat.view.held ≡ awaiting_of l.fn.seat.view.held;
  flight : Flies l.change.obj l.change.field l.change.value l.index l.fields (l.field + 1) l.seat;
  copy : NamesCopy l.index l.copy l.seat;
}

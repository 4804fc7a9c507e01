use Rattle.std.proofs.Common.{◌≡◌}
use Rattle.std.specs.Prelude.{length}
use Rattle.st_layout.specs.declared.limits.TheConstants.{MOST_FIELDS}
use Rattle.st_rule.specs.Seats.{IsSeatOf, IsFair}
use Rattle.st_barrier.specs.Keeping.{KeepsBoard, HoldsFields}
use Rattle.st_barrier.proofs.versions.load_fields.Given as goal

-- the fields so far were loaded
abbrev pub invariant-loop-place : goal.invariant-loop-place
invariant-loop-place g l = record {
  table : IsSeatOf g.J.Judge.meant l.shared l.seat;
  fair : IsFair l.seat;
  board : KeepsBoard l.fn.seat l.seat;
  room : length l.fields ≡ MOST_FIELDS;
  hand : HoldsFields l.change.obj l.change.stamp l.change.field l.found l.fields l.place l.seat;
}

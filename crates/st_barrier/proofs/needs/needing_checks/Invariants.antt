use Rattle.std.proofs.Common.{◌≡◌, ◌<◌, ℕ}
use Rattle.std.specs.Prelude.{length, slice_index}
use Rattle.st_layout.specs.declared.limits.TheConstants.{MOST_LANES}
use Rattle.st_rule.specs.declared.views.Phase.TheVariants.{Inside}
use Rattle.st_rule.specs.Seats.{IsSeatOf, IsFair}
use Rattle.st_barrier.specs.Hands.{StaysAs, KeepsEpoch}
use Rattle.st_barrier.specs.Keeping.{HasNeed}
use Rattle.st_barrier.proofs.needs.needing_checks.Given as goal

-- the lanes so far were loaded
abbrev pub invariant-loop-lane : goal.invariant-loop-lane
invariant-loop-lane g l = record {
  table : IsSeatOf g.J.Judge.meant l.shared l.seat;
  fair : IsFair l.seat;
  phase : l.seat.view.gate.phase ≡ Inside;
  stays : StaysAs l.fn.seat l.seat;
  hand : l.seat.view.held ≡ l.fn.seat.view.held;
  epoch : KeepsEpoch l.fn.seat l.seat;
  room : length l.checks ≡ MOST_LANES;
  checks : (lane : ℕ) → lane < l.lane → HasNeed l.stamp (slice_index l.checks lane) lane l.seat;
}

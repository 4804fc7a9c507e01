use Rattle.std.proofs.Common.{ap, subst}
use Rattle.st_rule.specs.LaneSeats.{IsFairLane}
use Rattle.st_rule.proofs.lane_seats.LaneSeat.is_fair.Goals as goal

pub returns : goal.returns
returns g c = subst IsFairLane (ap (λ s. s.view) c.self.view_is) c.self.invariant.0.fair

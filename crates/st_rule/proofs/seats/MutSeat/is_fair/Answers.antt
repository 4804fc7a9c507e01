use Rattle.std.proofs.Common.{ap, subst}
use Rattle.st_rule.specs.SeatValue.{IsFairView}
use Rattle.st_rule.proofs.seats.MutSeat.is_fair.Goals as goal

pub returns : goal.returns
returns g c = subst IsFairView (ap (λ s. s.view) c.self.view_is) c.self.invariant.fair

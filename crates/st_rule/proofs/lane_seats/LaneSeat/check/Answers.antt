use Rattle.std.proofs.Common.{ap, ◌∙◌}
use Rattle.st_rule.proofs.lane_seats.LaneSeat.check.Goals as goal

pub returns : goal.returns
returns g c = c.self.invariant.2 ∙ ap (λ s. s.view.check) c.self.view_is

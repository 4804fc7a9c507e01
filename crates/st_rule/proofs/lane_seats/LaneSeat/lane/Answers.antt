use Rattle.std.proofs.Common.{ap, subst, ◌∙◌, ◌<◌, ℕ, sym}
use Rattle.st_rule.specs.declared.views.LaneView.{LaneView}
use Rattle.st_rule.proofs.lane_seats.LaneSeat.lane.Goals as goal

pub returns-clause-lane : goal.returns-clause-lane
returns-clause-lane g c = c.self.invariant.1 ∙ ap (λ s. s.view.lane) c.self.view_is

pub returns-clause-within : goal.returns-clause-within
returns-clause-within g c =
    subst (λ (t : ℕ × LaneView). t.0 < t.1.terms.sizes.lanes) (λ i. (sym c.self.invariant.1 i, (c.self.view_is i).view)) c.self.invariant.0.fair.within

use Rattle.std.proofs.Common.{ℕ, List, slice_get, Option, ap, ◌∙◌}
use Rattle.tests_snap.proofs.DriveLemmas.{driven_with_all_lanes}
use Rattle.tests_snap.proofs.driver.Driven.store.Goals as goal

pub invariant_of-self : goal.invariant_of-self
invariant_of-self c =
    let f = c.self.inside in
    driven_with_all_lanes f.heap c.store.new.self _ f.sizes f.width f.objects.items f.checks.items c.self.invariant
    c.store.ensures.event c.store.ensures.legal (λ lane is. ap (λ (ls : List (Option ℕ)). slice_get ls lane.index) c.store.ensures.lanes ∙ is)

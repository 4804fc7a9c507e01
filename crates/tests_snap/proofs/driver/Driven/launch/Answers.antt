use Rattle.std.proofs.Common.{◌≡◌, List, [], ◌∷◌, ◌++◌, ap, sym, subst, ◌∙◌}
use Rattle.st_events.specs.declared.events.Event.TheVariants.{Launch}
use Rattle.st_snap.specs.declared.lanes.Lane.{Lane}
use Rattle.tests_snap.specs.Drive.{IsDriven}
use Rattle.tests_snap.proofs.DriveLemmas.{driven_with_all_lanes, driven_after_launch}
use Rattle.tests_snap.proofs.driver.Driven.launch.Goals as goal

pub invariant_of-self-2 : goal.invariant_of-self-2
invariant_of-self-2 c =
    let f = c.self.inside in
    let lane = c.in-Ok.lane in
    let event = Launch c.args.m 0 lane.number (record { count = 0; words = 0 ∷ 0 ∷ 0 ∷ 0 ∷ [] }) in
    let d = driven_with_all_lanes f.heap c.launch.new.self event f.sizes f.width f.objects.items f.checks.items c.self.invariant c.in-Ok.ensures.event
    c.in-Ok.ensures.legal c.in-Ok.ensures.others in
    let more : c.push_reserved.new.self.items ≡ f.checks.items ++ lane ∷ [] =
    c.push_reserved.ensures.items ∙ ap (λ (held : List Lane). held ++ lane ∷ []) c.reserve.ensures.items in
    subst (λ (held : List Lane). IsDriven c.launch.new.self f.sizes f.width f.objects.items held) (sym more)
    (driven_after_launch f.heap c.launch.new.self f.sizes f.width c.args.m 0
    (record { count = 0; words = 0 ∷ 0 ∷ 0 ∷ 0 ∷ [] }) lane f.objects.items f.checks.items c.self.invariant d c.in-Ok.ensures.event c.in-Ok.ensures.lane c.in-Ok.ensures.fresh)

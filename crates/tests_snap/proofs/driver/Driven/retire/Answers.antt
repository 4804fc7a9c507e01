use Rattle.std.proofs.Common.{◌≡◌, ◌≢◌, ◌<◌, length, List, slice_get, Some, ap, sym, subst, ◌∙◌, get_or, arith}
use Rattle.std.specs.List.{All}
use Rattle.std.proofs.lemmas.Option.{slice_get-get_or}
use Rattle.st_events.specs.declared.events.Event.TheVariants.{Retire}
use Rattle.st_snap.specs.declared.lanes.Lane.{Lane}
use Rattle.tests_snap.specs.Drive.{IsDriven}
use Rattle.tests_snap.proofs.ApartLemmas.{removed_is_apart}
use Rattle.tests_snap.proofs.DriveLemmas.{driven_with_held_lanes, driven_with_one_less}
use Rattle.tests_snap.proofs.driver.Driven.retire.Goals as goal

pub invariant_of-self : goal.invariant_of-self
invariant_of-self c =
    let f = c.self.inside in
    let held = f.checks.items in
    let rest = c.take_check-lane.new.checks.items in
    let lane = c.take_check-lane.result in
    let within : c.args.check < length held = omega (arith, f.checks.ok.0) in
    let found : slice_get held c.args.check ≡ Some lane = slice_get-get_or held c.args.check (record { number = 0; index = 0 }) within ∙ ap Some (sym c.take_check-lane.ensures.lane) in
    let others : All (λ (other : Lane). other.number ≢ lane.number) rest =
    subst (λ (xs : List Lane). All (λ (other : Lane). other.number ≢ lane.number) xs) (sym c.take_check-lane.ensures.others)
    (removed_is_apart held c.args.check lane found c.self.invariant.apart) in
    let d : IsDriven f.heap f.sizes f.width f.objects.items rest =
    subst (λ (xs : List Lane). IsDriven f.heap f.sizes f.width f.objects.items xs) (sym c.take_check-lane.ensures.others)
    (driven_with_one_less f.heap f.sizes f.width f.objects.items held c.args.check within c.self.invariant) in
    driven_with_held_lanes f.heap c.retire.new.self (Retire c.args.m lane.number) f.sizes f.width f.objects.items rest d c.retire.ensures.event c.retire.ensures.legal
    (λ k x lt is. c.retire.ensures.others (get_or rest k x) (others k x lt) is)

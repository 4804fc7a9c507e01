use Rattle.std.proofs.Common.{◌≡◌, [], ◌∷◌, length, get_or, ap, ◌∙◌, refl, arith, length-append}
use Rattle.st_events.specs.declared.events.Event.TheVariants.{Launch, Retire}
use Rattle.st_snap.specs.Snapshots.{Snapshots, event_room}
use Rattle.tests_snap.proofs.DriveLemmas.{driven_with_held_lanes, driven_with_all_lanes}
use Rattle.tests_snap.proofs.driver.Driven.turns.Goals as goal

pub loop-preserved : goal.loop-preserved
loop-preserved c =
    let f = c.loop.self-inside in
    let i = c.loop.invariant in
    let lane = c.in-Ok.lane in
    let n = lane.number in
    let e = Launch c.args.m 0 n (record { count = 0; words = 0 ∷ 0 ∷ 0 ∷ 0 ∷ [] }) in
    let d = driven_with_all_lanes f.heap c.launch.new.self e f.sizes f.width f.objects.items f.checks.items i.driven c.in-Ok.ensures.event c.in-Ok.ensures.legal c.in-Ok.ensures.others in
    let r = Retire c.args.m n in
    let longer = ap (λ (s : Snapshots). length s.journal) c.in-Ok.ensures.event ∙ length-append f.heap.journal (e ∷ []) in
    let two = ap (λ (s : Snapshots). length s.journal) c.retire.ensures.event ∙ length-append c.launch.new.self.journal (r ∷ []) in
    let room : event_room c.retire.new.self.sizes ≡ event_room f.heap.sizes = rw (c.retire.ensures.event, c.in-Ok.ensures.event) refl in
    record {
      driven = driven_with_held_lanes c.launch.new.self c.retire.new.self r f.sizes f.width f.objects.items f.checks.items d c.retire.ensures.event
          c.retire.ensures.legal (λ k x lt is. c.retire.ensures.others (get_or f.checks.items k x) (c.in-Ok.ensures.fresh (get_or f.checks.items k x) (i.driven.lanes k x lt).is) is);
      thread = rw (c.retire.ensures.event, c.in-Ok.ensures.event) i.thread;
      spare = omega (arith, i.spare, c.loop-test.true, room, longer, two);
    }

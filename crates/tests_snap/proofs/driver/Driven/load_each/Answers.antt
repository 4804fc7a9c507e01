use Rattle.std.proofs.Common.{ℕ, List, [], ◌∷◌, slice_get, Option, ap, ◌∙◌, arith, length-append}
use Rattle.st_events.specs.declared.events.Event.TheVariants.{Load}
use Rattle.tests_snap.proofs.DriveLemmas.{driven_with_all_lanes}
use Rattle.tests_snap.proofs.driver.Driven.load_each.Goals as goal

pub loop-index-preserved : goal.loop-index-preserved
loop-index-preserved c =
    let f = c.loop-index.self-inside in
    let i = c.loop-index.invariant in
    let e = Load c.args.m c.index.result.now.0 0 c.load-sum.result in
    record {
      driven = driven_with_all_lanes f.heap c.load-sum.new.self e f.sizes f.width f.objects.items f.checks.items i.driven c.load-sum.ensures.event
          c.load-sum.ensures.legal (λ lane is. ap (λ (ls : List (Option ℕ)). slice_get ls lane.index) c.load-sum.ensures.lanes ∙ is);
      thread = rw c.load-sum.ensures.event i.thread;
      spare = rw c.load-sum.ensures.event (omega (arith, i.spare, c.loop-index-test.true, length-append f.heap.journal (e ∷ [])));
    }

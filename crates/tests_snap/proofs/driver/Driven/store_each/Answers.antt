use Rattle.std.proofs.Common.{rules, ℕ, List, [], ◌∷◌, slice_get, Option, ap, ◌∙◌, arith, length-append}
use Rattle.st_events.specs.declared.events.Event.TheVariants.{Store}
use Rattle.tests_snap.proofs.DriveLemmas.{driven_words_fit, driven_with_all_lanes}
use Rattle.tests_snap.proofs.driver.Driven.store_each.Goals as goal

pub store-requires-clause-kind : goal.store-requires-clause-kind
store-requires-clause-kind c =
    let f = c.loop-index.self-inside in
    driven_words_fit f.heap f.sizes f.width f.objects.items f.checks.items c.index.result.now.0 0 c.args.value c.loop-index.invariant.driven (search rules)

pub loop-index-preserved : goal.loop-index-preserved
loop-index-preserved c =
    let f = c.loop-index.self-inside in
    let i = c.loop-index.invariant in
    let e = Store c.args.m c.index.result.now.0 0 c.args.value in
    record {
      driven = driven_with_all_lanes f.heap c.store.new.self e f.sizes f.width f.objects.items f.checks.items i.driven c.store.ensures.event
          c.store.ensures.legal (λ lane is. ap (λ (ls : List (Option ℕ)). slice_get ls lane.index) c.store.ensures.lanes ∙ is);
      thread = rw c.store.ensures.event i.thread;
      spare = rw c.store.ensures.event (omega (arith, i.spare, c.loop-index-test.true, length-append f.heap.journal (e ∷ [])));
    }

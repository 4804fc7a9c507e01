use Rattle.std.proofs.Common.{◌≡◌, ◌<◌, ◌∙◌, ap, arith}
use Rattle.std.proofs.lemmas.List.{length-set}
use Rattle.std.specs.Prelude.{length}
use Rattle.st_rule.specs.Seats.{sizes_of}
use Rattle.st_barrier.proofs.HandLemmas.{stays_then}
use Rattle.st_barrier.proofs.KeepLemmas.{epoch_then}
use Rattle.st_barrier.proofs.NeedLemmas.{lane_keeps_epoch, need_more, all_known, launch_stays}
use Rattle.st_barrier.proofs.needs.needing_checks.Goals as goal

pub loop-lane-preserved : goal.loop-lane-preserved
loop-lane-preserved g c =
    let was = c.loop-lane.invariant in
    let seat = c.loop-lane.seat in
    let next = c.load_check.new.seat in
    let need = c.load_check.ensures.need in
    let stays = need.loads.stays in
    let told : seat.view.terms.sizes.lanes ≡ (sizes_of c.args.shared.now).lanes = ap (λ t. t.sizes.lanes) was.table.terms in
    let last : c.sizes-lane-end.result.lanes ≡ (sizes_of c.args.shared.now).lanes = ap (λ s. s.lanes) c.sizes-lane-end.ensures in
    let within : c.loop-lane.lane < seat.view.terms.sizes.lanes = omega (arith, told, last, c.loop-lane-test.true, c.loop-lane.auto.lane-end) in
    let most = was.fair.sizes_fit.lanes in
    let room : c.loop-lane.lane < length c.loop-lane.checks = omega (arith, within, most.1, was.room) in
    record {
      table = record { table = stays.table ∙ was.table.table; terms = stays.terms ∙ was.table.terms };
      fair = c.load_check.ensures.fair;
      phase = ap (λ x. x.phase) stays.gate ∙ was.phase;
      stays = stays_then c.args.seat.now seat next was.stays stays;
      hand = need.loads.held ∙ was.hand;
      epoch = epoch_then c.args.seat.now seat next was.epoch (lane_keeps_epoch c.loop-lane.lane need.check seat next was.fair within need.loads);
      room = length-set c.loop-lane.checks c.loop-lane.lane c.load_check.result ∙ was.room;
      checks = need_more c.args.stamp c.loop-lane.checks c.loop-lane.lane c.load_check.result seat next was.fair room within need was.checks;
    }

pub returns-clause-checks : goal.returns-clause-checks
returns-clause-checks g c =
    let was = c.loop-lane.invariant in
    let seat = c.loop-lane.seat in
    let told : seat.view.terms.sizes.lanes ≡ (sizes_of c.args.shared.now).lanes = ap (λ t. t.sizes.lanes) was.table.terms in
    let last : c.sizes-lane-end.result.lanes ≡ (sizes_of c.args.shared.now).lanes = ap (λ s. s.lanes) c.sizes-lane-end.ensures in
    all_known c.args.stamp c.loop-lane.checks seat (launch_stays c.args.stamp c.args.seat.now seat was.epoch c.requires.launched)
    (λ lane within. was.checks lane (omega (arith, told, last, within, c.loop-lane-test.false, c.loop-lane.auto.lane-end)))

use Rattle.std.proofs.Common.{◌≡◌, ◌<◌, ◌+◌, ◌==◌, sym, length, true, Some, refl, arith}
use Rattle.std.proofs.lemmas.Option.{slice_get_within}
use Rattle.st_events.specs.Terms.{heap_of, args_fit}
use Rattle.st_events.proofs.ReplayLemmas.{below_true}
use Rattle.st_events.proofs.replaying.Replay.why_not_launch.Goals as goal

pub returns : goal.returns
returns c =
    let there : c.args.site < length c.args.self.now.shape.now.checks =
    slice_get_within c.args.self.now.shape.now.checks c.args.site c.in-Some.kinds.now (sym c.in-Some.ensures) in
    let thread = below_true c.args.m c.args.self.now.sizes.now.mutators c.if-m-self.false in
    let number : (c.args.number == c.args.self.now.launches + 1) ≡ true = sym c.if-not-is_next_number.ensures in
    let fits : args_fit (heap_of c.args.self.now.heap) (Some c.in-Some.kinds.now) c.args.args ≡ true = sym c.if-not-args_fit.ensures in
    let lane : length c.args.self.now.active.items < c.args.self.now.sizes.now.lanes = omega (arith, c.args.self.now.active.ok.0) in
    rw (
      thread,
      number,
      below_true c.args.site (length c.args.self.now.shape.now.checks) there,
      ← c.in-Some.ensures,
      fits,
      below_true (length c.args.self.now.active.items) c.args.self.now.sizes.now.lanes lane,
    ) refl

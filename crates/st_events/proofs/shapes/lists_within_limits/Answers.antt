use Rattle.std.proofs.Common.{refl}
use Rattle.st_events.proofs.ShapeLemmas.{within_limits, arguments_within}
use Rattle.st_events.proofs.shapes.lists_within_limits.Goals as goal

pub returns : goal.returns
returns c = (
  λ t. within_limits c.args.classes.now c.args.checks.now (c.if-not-counts_fit.ensures.0 refl) (c.if-not-lists_fit.ensures.0 refl) (c.lists_fit-2.ensures.0 t),
  λ w. c.lists_fit-2.ensures.1 (arguments_within c.args.classes.now c.args.checks.now w),
)

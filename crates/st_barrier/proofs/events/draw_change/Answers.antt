use Rattle.std.proofs.Common.{◌∙◌, sym}
use Rattle.st_barrier.proofs.NeedLemmas.{none_known, lt_true, lt_false}
use Rattle.st_barrier.proofs.events.draw_change.Goals as goal

pub draw_since_launch-requires-clause-launched : goal.draw_since_launch-requires-clause-launched
draw_since_launch-requires-clause-launched g c = record {
  epoch = c.args.epoch;
  loaded = c.requires.epoch;
  above = lt_true c.args.stamp c.args.epoch (sym c.is_launched_since.ensures ∙ c.if-is_launched_since.true);
}

pub draw_unneeded-requires-clause-unneeded : goal.draw_unneeded-requires-clause-unneeded
draw_unneeded-requires-clause-unneeded g c =
    none_known c.args.stamp c.args.seat.now c.args.epoch c.requires.epoch (lt_false c.args.stamp c.args.epoch (sym c.is_launched_since.ensures ∙ c.if-is_launched_since.false))

use Rattle.std.proofs.lemmas.List.Elements.{All-more}
use Rattle.st_journal.specs.Format.{FitsFields}
use Rattle.st_journal.proofs.fitting.events_fit.Goals as goal

pub loop-event-preserved : goal.loop-event-preserved
loop-event-preserved c = All-more FitsFields c.args.events.now c.loop-event.event-index _ c.loop-event-test.true c.loop-event.invariant c.event_fits.ensures

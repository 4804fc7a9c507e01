use Rattle.std.proofs.Common.{take}
use Rattle.std.specs.List.{All}
use Rattle.st_journal.specs.Format.{FitsFields}
use Rattle.st_journal.proofs.fitting.events_fit.Given as goal

-- the events so far
abbrev pub invariant-loop-event : goal.invariant-loop-event
invariant-loop-event l = All FitsFields (take l.event-index l.events)

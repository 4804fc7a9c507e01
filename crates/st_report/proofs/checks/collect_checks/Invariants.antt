use Rattle.std.proofs.Common.{◌≡◌, ◌≤◌, length, take}
use Rattle.st_events.specs.History.{own_events}
use Rattle.st_report.specs.Checks.{checks_of}
use Rattle.st_report.proofs.checks.collect_checks.Given as goal

-- the own events so far are counted, and their checks collected
abbrev pub invariant-loop-event : goal.invariant-loop-event
invariant-loop-event l =
    (l.own ≡ length (own_events l.thread (take l.event-index l.journal)))
    × (l.checks.items ≡ checks_of l.thread l.places l.verdicts (take l.event-index l.journal))
    × (l.own ≤ l.event-index)

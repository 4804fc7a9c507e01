-- The launched checks of a thread, as every output tells them.
use Rattle.std.specs.Prelude.{ℕ, ◌-◌, ◌==◌, if◌then◌else◌, List, Option, None, slice_get, option_and_then, option_map}
use Rattle.std.specs.List.{enumerate_from, filter_map}
use Rattle.st_events.specs.declared.events.Event.{Event}
use Rattle.st_events.specs.declared.events.Event.TheVariants.{Launch}
use Rattle.st_events.specs.declared.events.Site.{Site}
use Rattle.st_events.specs.declared.verdicts.Verdict.{Verdict}
use Rattle.st_events.specs.History.{own_events}
use Rattle.st_report.specs.declared.checks.LaunchedCheck.{LaunchedCheck}

-- the verdict of the check of this number, from 1, if there is one
abbrev pub verdict_of : List Verdict → ℕ → Option Verdict
verdict_of verdicts number = if number == 0 then None else slice_get verdicts (number - 1)

-- the check that an event launches, if it launches one: the number of the event among its thread's own, the place of the check
-- statement, and the verdict
abbrev pub check_in : List Site → List Verdict → ℕ × Event → Option LaunchedCheck
check_in places verdicts (event, Launch m site number args) =
    option_and_then (λ place. option_map (λ verdict. record { event = event; place = place; verdict = verdict }) (verdict_of verdicts number))
    (slice_get places site)
check_in places verdicts (event, _) = None

-- the checks that a thread launches, in their order
abbrev pub checks_of : ℕ → List Site → List Verdict → List Event → List LaunchedCheck
checks_of thread places verdicts journal = filter_map (check_in places verdicts) (enumerate_from 1 (own_events thread journal))

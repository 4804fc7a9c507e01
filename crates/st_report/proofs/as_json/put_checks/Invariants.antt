use Rattle.std.proofs.Common.{◌≡◌, ◌++◌, map, take}
use Rattle.std.specs.List.{enumerate_from, flat_map}
use Rattle.st_report.specs.Checks.{checks_of}
use Rattle.st_report.specs.Json.{checks_before_commas}
use Rattle.st_report.proofs.as_json.put_checks.Given as goal

-- the checks of the threads so far
abbrev pub invariant-loop-number : goal.invariant-loop-number
invariant-loop-number l =
    l.list.items
    ≡ l.fn.list.items
    ++ flat_map (λ thread. checks_before_commas thread.1 (checks_of thread.0 l.places l.verdicts l.journal))
    (enumerate_from 0 (map (λ name. name.now) (take l.number l.threads)))

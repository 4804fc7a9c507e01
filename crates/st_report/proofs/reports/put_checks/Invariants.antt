use Rattle.std.proofs.Common.{◌≡◌, ◌++◌, map, take}
use Rattle.std.specs.List.{enumerate_from, flat_map}
use Rattle.st_report.specs.Checks.{checks_of}
use Rattle.st_report.specs.Report.{check_lines}
use Rattle.st_report.proofs.reports.put_checks.Given as goal

-- the lines of the threads so far
abbrev pub invariant-loop-number : goal.invariant-loop-number
invariant-loop-number l =
    l.out.items
    ≡ l.fn.out.items
    ++ flat_map (λ thread. check_lines thread.1 (checks_of thread.0 l.places l.verdicts l.journal))
    (enumerate_from 0 (map (λ name. name.now) (take l.number l.threads)))

use Rattle.std.proofs.Common.{◌≡◌, ◌++◌, take}
use Rattle.st_report.specs.Report.{check_lines}
use Rattle.st_report.proofs.reports.put_check_lines.Given as goal

-- the lines of the checks so far
abbrev pub invariant-loop-check : goal.invariant-loop-check
invariant-loop-check l = l.out.items ≡ l.fn.out.items ++ check_lines l.thread (take l.check-index l.checks)

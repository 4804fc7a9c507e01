use Rattle.std.proofs.Common.{◌≡◌, ◌++◌, take}
use Rattle.st_report.specs.Json.{checks_before_commas}
use Rattle.st_report.proofs.as_json.put_checks_of.Given as goal

-- the checks so far
abbrev pub invariant-loop-check : goal.invariant-loop-check
invariant-loop-check l = l.list.items ≡ l.fn.list.items ++ checks_before_commas l.thread (take l.check-index l.checks)

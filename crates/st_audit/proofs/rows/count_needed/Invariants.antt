use Rattle.std.proofs.Common.{◌≡◌, take}
use Rattle.st_audit.specs.Ledgers.{count_needed}
use Rattle.st_audit.proofs.rows.count_needed.Given as goal

abbrev pub invariant-loop-row : goal.invariant-loop-row
invariant-loop-row l = l.count ≡ count_needed l.active (take l.row-index l.rows)

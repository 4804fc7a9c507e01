use Rattle.std.proofs.Common.{take}
use Rattle.std.specs.List.{All}
use Rattle.st_journal.specs.Format.{FitsVerdict}
use Rattle.st_journal.proofs.fitting.verdicts_fit.Given as goal

-- the verdicts so far
abbrev pub invariant-loop-verdict : goal.invariant-loop-verdict
invariant-loop-verdict l = All FitsVerdict (take l.verdict-index l.verdicts)

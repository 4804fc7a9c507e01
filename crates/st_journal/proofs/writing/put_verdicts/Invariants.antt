use Rattle.std.proofs.Common.{◌≡◌, ◌++◌, take}
use Rattle.std.specs.List.{enumerate_from, flat_map}
use Rattle.st_journal.specs.Spaced.{verdict_part}
use Rattle.st_journal.proofs.writing.put_verdicts.Given as goal

-- the lines of the verdicts so far
abbrev pub invariant-loop-before : goal.invariant-loop-before
invariant-loop-before l = l.out.items ≡ l.fn.out.items ++ flat_map verdict_part (enumerate_from 1 (take l.before l.verdicts))

use Rattle.std.proofs.Common.{◌≡◌, ◌++◌, take}
use Rattle.st_journal.specs.Spaced.{spaced}
use Rattle.st_journal.proofs.writing.put_numbers.Given as goal

-- the numbers so far
abbrev pub invariant-loop-number : goal.invariant-loop-number
invariant-loop-number l = l.out.items ≡ l.fn.out.items ++ spaced (take l.number-index l.numbers)

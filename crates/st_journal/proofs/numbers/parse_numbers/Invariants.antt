use Rattle.std.proofs.Common.{◌≡◌, Some, map, take}
use Rattle.st_journal.specs.Words.{numbers_in}
use Rattle.st_journal.proofs.numbers.parse_numbers.Given as goal

-- the numbers so far
abbrev pub invariant-loop-word : goal.invariant-loop-word
invariant-loop-word l = numbers_in (map (λ word. word.now) (take l.word-index l.words)) ≡ Some l.numbers.items

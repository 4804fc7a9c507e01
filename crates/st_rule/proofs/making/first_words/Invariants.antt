use Rattle.st_rule.specs.Board.{Displays}
use Rattle.st_rule.proofs.WordLemmas.{board_up_to}
use Rattle.st_rule.proofs.making.first_words.Given as goal

-- the free list has its entries so far
abbrev pub invariant-loop-copy : goal.invariant-loop-copy
invariant-loop-copy l = Displays l.plan l.row (board_up_to l.plan l.copy)

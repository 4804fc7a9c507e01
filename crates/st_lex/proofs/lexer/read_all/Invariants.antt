-- what is left of the text completes the list so far, and the cursor has its place
use Rattle.std.proofs.Common.{length, ◌-◌}
use Rattle.st_lex.proofs.TurnLemmas.{IsAt}
use Rattle.st_lex.proofs.lexer.read_all.Given as goal

abbrev pub invariant-loop-cursor : goal.invariant-loop-cursor
invariant-loop-cursor l = IsAt l.text l.list.items l.cursor

abbrev pub decreases-loop-cursor : goal.decreases-loop-cursor
decreases-loop-cursor l = length l.text - l.cursor.offset

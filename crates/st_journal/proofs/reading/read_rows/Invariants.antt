use Rattle.std.proofs.Common.{◌≡◌, ◌+◌, ◌≤◌, length}
use Rattle.st_journal.specs.Lines.{lines}
use Rattle.st_journal.specs.Rows.{no_rows, rows_in}
use Rattle.st_journal.specs.declared.reading.TheConstants.{FIRST_ROW}
use Rattle.st_journal.proofs.reading.read_rows.Given as goal

-- the rows of what is left, after those so far; each line has at least a byte
abbrev pub invariant-loop-parts : goal.invariant-loop-parts
invariant-loop-parts l =
    (rows_in l.line l.rows (lines l.rest) ≡ rows_in FIRST_ROW no_rows (lines l.fn.text)) × (l.line + length l.rest ≤ FIRST_ROW + length l.fn.text)

abbrev pub decreases-loop-parts : goal.decreases-loop-parts
decreases-loop-parts l = length l.rest

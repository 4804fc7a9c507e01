use Rattle.std.proofs.Common.{sym}
use Rattle.st_journal.proofs.LineLemmas.{first_line_is_cut, no_first_line, rest_is_shorter}
use Rattle.st_journal.proofs.lines.first_line.Goals as goal

pub returns-in-Some-clause-parts : goal.returns-in-Some-clause-parts
returns-in-Some-clause-parts c = first_line_is_cut c.args.line c.args.text.now c.in-Some.content.now c.in-Some.rest.now (sym c.in-Some.ensures)

pub returns-in-Some-clause-shorter : goal.returns-in-Some-clause-shorter
returns-in-Some-clause-shorter c = rest_is_shorter c.args.text.now c.in-Some.content.now c.in-Some.rest.now (sym c.in-Some.ensures)

pub returns-in-None-clause-parts : goal.returns-in-None-clause-parts
returns-in-None-clause-parts c = no_first_line c.args.line c.args.text.now (sym c.in-None.ensures)

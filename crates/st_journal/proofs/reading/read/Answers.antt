use Rattle.std.proofs.Common.{arith}
use Rattle.st_journal.specs.Lines.{lines}
use Rattle.st_journal.specs.Rows.{file_in}
use Rattle.st_journal.proofs.TextLemmas.{read_is_a_journal, journal_is_read, given_error, given_version, given_other, bad_line_is_the_first, bad_version_is_another}
use Rattle.st_journal.proofs.TextLemmas.{another_is_bad_version, line_is_no_version}
use Rattle.st_journal.proofs.reading.read.Goals as goal

pub returns-clause-read : goal.returns-clause-read
returns-clause-read c = read_is_a_journal c.args.text.now c.read_file.result c.read_file.ensures

pub returns-clause-again : goal.returns-clause-again
returns-clause-again c = λ file is same. journal_is_read c.args.text.now c.read_file.result file c.read_file.ensures is same

pub returns-clause-bad_line : goal.returns-clause-bad_line
returns-clause-bad_line c = λ line is.
    bad_line_is_the_first c.args.text.now line (omega (arith, c.requires)) (given_error c.read_file.result (file_in (lines c.args.text.now)) line c.read_file.ensures is)

pub returns-clause-bad_line_of_this_version : goal.returns-clause-bad_line_of_this_version
returns-clause-bad_line_of_this_version c = λ line is other.
    line_is_no_version (file_in (lines c.args.text.now)) line
    (given_error c.read_file.result (file_in (lines c.args.text.now)) line c.read_file.ensures is) (another_is_bad_version c.args.text.now other)

pub returns-clause-bad_version : goal.returns-clause-bad_version
returns-clause-bad_version c = λ is.
    bad_version_is_another c.args.text.now (given_version c.read_file.result (file_in (lines c.args.text.now)) c.read_file.ensures is)

pub returns-clause-other_version : goal.returns-clause-other_version
returns-clause-other_version c = λ other.
    given_other c.read_file.result (file_in (lines c.args.text.now)) c.read_file.ensures (another_is_bad_version c.args.text.now other)

use Rattle.st_top.proofs.ReadingLemmas.{bad_line_is_no_journal, bad_version_is_no_journal}
use Rattle.st_top.proofs.journals.parse_journal.Goals as goal

pub returns-in-Err-BadLine-clause-cause : goal.returns-in-Err-BadLine-clause-cause
returns-in-Err-BadLine-clause-cause c = record {
  not_journal = bad_line_is_no_journal _ c.read.result c.in-Err-BadLine.line (cc) c.read.ensures.again;
  line = c.read.ensures.bad_line c.in-Err-BadLine.line (cc);
}

pub returns-in-Err-BadVersion-clause-cause : goal.returns-in-Err-BadVersion-clause-cause
returns-in-Err-BadVersion-clause-cause c = record {
  not_journal = bad_version_is_no_journal _ c.read.result (cc) c.read.ensures.again;
  version = c.read.ensures.bad_version (cc);
}

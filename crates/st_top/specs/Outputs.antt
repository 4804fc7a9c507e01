-- The outputs of commands.
use Rattle.std.specs.Prelude.{ℕ, List, ◌++◌, Option, Some, None, codes}
use Rattle.std.specs.Fmt.{decimal}
use Rattle.st_ast.specs.declared.declarations.Program.{Program}
use Rattle.st_audit.specs.declared.findings.Finding.{Finding}
use Rattle.st_audit.specs.declared.findings.Finding.TheVariants as found
use Rattle.st_events.specs.declared.limits.Sizes.{Sizes}
use Rattle.st_events.specs.Terms.{RanLists}
use Rattle.st_journal.specs.Format.{journal_text}
use Rattle.st_report.specs.Json.{json_text}
use Rattle.st_report.specs.Report.{report_text, count_line}
use Rattle.st_texts.specs.Texts.{plain_text}
use Rattle.st_top.specs.Programs.{names_of, places_of}
use Rattle.st_report.specs.declared.statuses.TheConstants.{STATUS_HOLDS, STATUS_CHECK_FAILS}
use Rattle.st_words.specs.declared.words.Form.{Form}
use Rattle.st_words.specs.declared.words.Form.TheVariants as form

-- what is written of a run: the report, the same as a line of JSON, or the journal with its verdicts
abbrev pub text_in : Form → Program → Sizes → RanLists → List ℕ
text_in form.Text tree sizes ran = report_text (names_of tree) (places_of tree) ran
text_in form.Json tree sizes ran = json_text (names_of tree) (places_of tree) ran
text_in form.Journal tree sizes ran = journal_text (record { sizes = sizes; events = ran.journal; verdicts = ran.verdicts })

-- the last line of the report
abbrev pub last_line : Program → Sizes → RanLists → List ℕ
last_line tree sizes ran = count_line ran.verdicts

-- the line of a finding; there is none for want of memory
abbrev pub finding_line : Finding → List ℕ
finding_line found.Memory = codes "no memory\n"
finding_line found.WrongSizes = codes "audit wrong sizes\n"
finding_line (found.NotLegal place) = codes "audit not legal " ++ (decimal place ++ codes "\n")
finding_line (found.NotTrace thread event) = codes "audit not trace " ++ (decimal thread ++ (codes " " ++ (decimal event ++ codes "\n")))
finding_line (found.VerdictCount launches verdicts) = codes "audit verdict count " ++ (decimal launches ++ (codes " " ++ (decimal verdicts ++ codes "\n")))
finding_line (found.WrongVerdict number plain) = codes "audit wrong verdict " ++ (decimal number ++ (codes " " ++ (plain_text plain ++ codes "\n")))

-- the line of an audit, by what it found, if it found something
abbrev pub audit_line : Option Finding → List ℕ
audit_line None = codes "audit ok\n"
audit_line (Some finding) = finding_line finding

-- the status of an audit
abbrev pub audit_status : Option Finding → ℕ
audit_status None = STATUS_HOLDS
audit_status (Some finding) = STATUS_CHECK_FAILS

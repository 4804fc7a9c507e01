-- What a command that was done leaves, before it is written.
use Rattle.std.specs.Prelude.{◌≡◌, ◌≢◌, ℕ, ◌≤◌, List, length, Option, Some, None, IfSome}
use Rattle.st_ast.specs.declared.declarations.Program.{Program}
use Rattle.st_audit.specs.declared.findings.Finding.{Finding}
use Rattle.st_audit.specs.declared.findings.Finding.TheVariants as found
use Rattle.st_audit.specs.Findings.{IsRightJournal, IsFinding}
use Rattle.st_events.specs.Terms.{RanLists}
use Rattle.st_gen.specs.Source.{source_text}
use Rattle.st_journal.specs.Format.{FileLists, IsFile, journal_text}
use Rattle.st_report.specs.Status.{run_status}
use Rattle.st_top.specs.Orders.{Order, IsOrderedRun}
use Rattle.st_top.specs.Outputs.{audit_line, audit_status}
use Rattle.st_top.specs.Programs.{IsOfSource, accepted_line}
use Rattle.st_top.specs.declared.limits.TheConstants.{MOST_JOURNAL_BYTES}
use Rattle.st_report.specs.declared.statuses.TheConstants.{STATUS_HOLDS}
use Rattle.st_types.specs.Rules.{resolution, shape_of}

-- what is written, the status that the call ends with once all of it is, and the run, if there was one
pub record Left : Type 0 where
  pub output : List ℕ
  pub status : ℕ
  pub ran : Option RanLists

-- a run as it was ordered
pub record IsRunAs (order : Order) (left : Left) : Type 0 where
  pub ran : RanLists
  pub run : IsOrderedRun order ran
  pub is_left : left ≡ record { output = order.output run.program run.sizes ran; status = run_status ran; ran = Some ran }

-- a source that was read and typed
pub record IsChecked (source : Option (List ℕ)) (left : Left) : Type 0 where
  pub program : Program
  pub accepted : IsOfSource source program
  pub is_left : left ≡ record { output = accepted_line program; status = STATUS_HOLDS; ran = None }

-- the bytes of a journal file that is read: no more than the limit, and the text of this file
pub record IsJournalOf (text : List ℕ) (file : FileLists) : Type 0 where
  pub short : length text ≤ MOST_JOURNAL_BYTES
  pub text_of : text ≡ journal_text file

-- the file is that of some journal text, which is the one told, where one is told
pub record IsOfJournal (journal : Option (List ℕ)) (file : FileLists) : Type 0 where
  pub text : List ℕ
  pub spelled : IsJournalOf text file
  pub told : IfSome journal (λ bytes. text ≡ bytes)

-- what an audit found: nothing, where the journal is right; else the first that is wrong
abbrev pub IsAnswer : Program → FileLists → Option Finding → Type 0
IsAnswer program file None = IsRightJournal (shape_of program) (resolution program) file.sizes file.events file.verdicts
IsAnswer program file (Some finding) =
    (finding ≢ found.Memory) × IsFinding (shape_of program) (resolution program) file.sizes file.events file.verdicts finding

-- a journal that was audited against its source
pub record IsAudited (source journal : Option (List ℕ)) (left : Left) : Type 0 where
  pub program : Program
  pub accepted : IsOfSource source program
  pub file : FileLists
  pub fits : IsFile file
  pub read : IsOfJournal journal file
  pub found : Option Finding
  pub answer : IsAnswer program file found
  pub is_left : left ≡ record { output = audit_line found; status = audit_status found; ran = None }

-- a source that was generated
abbrev pub IsGenerated : ℕ → Left → Type 0
IsGenerated n left = left ≡ record { output = source_text n; status = STATUS_HOLDS; ran = None }

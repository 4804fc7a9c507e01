-- How a call ended: a command was done and its output written, or a refusal was told; and which status comes where.
use Rattle.std.specs.Prelude.{◌≡◌, ◌≢◌, ℕ, ◌⊎◌, ◌↔◌, None, IsTrue, IsFalse}
use Rattle.std.specs.List.{list_any}
use Rattle.st_events.specs.Terms.{RanLists}
use Rattle.st_io.specs.Counts.{RoseBy}
use Rattle.st_io.specs.States.{FilesState, SinkState}
use Rattle.st_report.specs.Status.{is_unfinished, is_fault, is_undecided}
use Rattle.st_report.specs.declared.statuses.TheConstants.{STATUS_HOLDS, STATUS_CHECK_FAILS, STATUS_UNFINISHED, STATUS_UNDECIDED}
use Rattle.st_top.specs.Commands.{Told, IsDone, HasCause, IsInputAccepted, IsInputTold}
use Rattle.st_top.specs.Deeds.{Left}
use Rattle.st_top.specs.Putting.{IsWritten, IsLinePut}
use Rattle.st_top.specs.Refusals.{refusal_line, refusal_status}
use Rattle.st_top.specs.declared.errors.Refusal.{Refusal}
use Rattle.st_top.specs.declared.errors.Refusal.TheVariants as refusal
use Rattle.st_top.specs.declared.outcomes.Outcome.{Outcome}
use Rattle.st_top.specs.declared.statuses.TheConstants.{STATUS_INPUT, STATUS_READ_FAULT, STATUS_WRITE_FAULT, STATUS_NO_MEMORY}
use Rattle.st_words.specs.declared.words.Words.{Words}
use Rattle.st_words.specs.declared.words.Words.TheVariants as words

-- a command was done, and its output was written, whole with its status or a front of it
pub record IsDoneCall (told : Told) (words : Words) (outcome : Outcome) (before now : SinkState) : Type 0 where
  pub left : Left
  pub done : IsDone told words left
  pub ran : outcome.ran ≡ left.ran
  pub written : IsWritten left.status left.output outcome.status before now

-- a refusal was told: there is no run, the status and the line are the refusal's, and a front of the line was put, all of it where no put failed
pub record IsToldRefusal (refusal : Refusal) (outcome : Outcome) (before now : SinkState) : Type 0 where
  pub ran : outcome.ran ≡ None
  pub status : outcome.status ≡ refusal_status refusal
  pub line : IsLinePut (refusal_line refusal) before now

-- a command came to nothing, and the refusal that was told has its cause
pub record IsRefusedCall (words : Words) (files_before files_now : FilesState) (outcome : Outcome) (before now : SinkState) : Type 0 where
  pub refusal : Refusal
  pub cause : HasCause words files_before files_now refusal
  pub is_told : IsToldRefusal refusal outcome before now

-- how a call ended whose words are accepted
abbrev pub IsEnded : Words → FilesState → FilesState → Outcome → SinkState → SinkState → Type 0
IsEnded words files_before files_now outcome before now =
    IsDoneCall files_before.told words outcome before now ⊎ IsRefusedCall words files_before files_now outcome before now

-- the words were refused, or there was no memory to read them
abbrev pub AreWordsRefused : Outcome → SinkState → SinkState → Type 0
AreWordsRefused outcome before now = IsToldRefusal refusal.Words outcome before now ⊎ IsToldRefusal refusal.NoMemory outcome before now

-- the statuses of a command that was done: 0, 1, 4, 8, or 6 where a write failed
abbrev pub IsDoneStatus : ℕ → Type 0
IsDoneStatus status =
    (status ≡ STATUS_HOLDS) ⊎ (status ≡ STATUS_CHECK_FAILS) ⊎ (status ≡ STATUS_UNFINISHED) ⊎ (status ≡ STATUS_UNDECIDED) ⊎ (status ≡ STATUS_WRITE_FAULT)

-- the statuses of a refusal where the words are accepted: 7, 5 and 3
abbrev pub IsRefusalStatus : ℕ → Type 0
IsRefusalStatus status = (status ≡ STATUS_NO_MEMORY) ⊎ (status ≡ STATUS_READ_FAULT) ⊎ (status ≡ STATUS_INPUT)

-- which status a run has whose output was written whole: 4 exactly where some thread does not come to its end; else 1 exactly where some check
-- fails or meets a fault; else 8 exactly where some check has no answer
pub record HasRunStatus (status : ℕ) (ran : RanLists) : Type 0 where
  pub unfinished : (status ≡ STATUS_UNFINISHED) ↔ IsTrue (list_any is_unfinished ran.ends)
  pub check_fails : (status ≡ STATUS_CHECK_FAILS) ↔ (IsFalse (list_any is_unfinished ran.ends) × IsTrue (list_any is_fault ran.verdicts))
  pub undecided :
      (status ≡ STATUS_UNDECIDED)
      ↔ (IsFalse (list_any is_unfinished ran.ends) × IsFalse (list_any is_fault ran.verdicts) × IsTrue (list_any is_undecided ran.verdicts))

-- 3 tells that the source or the journal is refused: only where, all being told, not all is accepted; and wherever something told is not accepted, but
-- for 5 and 7
pub record IsRefusedExactly (told : Told) (words : Words) (status : ℕ) : Type 0 where
  pub only : status ≡ STATUS_INPUT → IsInputTold told words → ¬ IsInputAccepted told words
  pub wherever : ¬ IsInputAccepted told words → status ≢ STATUS_READ_FAULT → status ≢ STATUS_NO_MEMORY → status ≡ STATUS_INPUT

-- the statuses of a run that was written whole
abbrev pub IsRunStatus : ℕ → Type 0
IsRunStatus status = (status ≡ STATUS_HOLDS) ⊎ (status ≡ STATUS_CHECK_FAILS) ⊎ (status ≡ STATUS_UNFINISHED) ⊎ (status ≡ STATUS_UNDECIDED)

-- the statuses of each command, done and written whole
abbrev pub IsStatusOf : Words → ℕ → Type 0
IsStatusOf (words.Run call) status = IsRunStatus status
IsStatusOf (words.Check file) status = status ≡ STATUS_HOLDS
IsStatusOf (words.Audit file journal) status = (status ≡ STATUS_HOLDS) ⊎ (status ≡ STATUS_CHECK_FAILS)
IsStatusOf (words.Gen n) status = status ≡ STATUS_HOLDS
IsStatusOf (words.Demo n) status = IsRunStatus status

-- where all that the command reads is told and accepted, and no count of faults rose, the command was done and written whole, or there was no memory
abbrev pub IsComplete : Words → FilesState → FilesState → ℕ → SinkState → SinkState → Type 0
IsComplete words files_before files_now status before now =
    IsInputTold files_before.told words
    → IsInputAccepted files_before.told words
    → ¬ RoseBy 1 files_before.faults files_now.faults
    → ¬ RoseBy 1 before.faults now.faults
    → IsStatusOf words status ⊎ (status ≡ STATUS_NO_MEMORY)

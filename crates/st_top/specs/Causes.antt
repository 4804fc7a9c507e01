-- Why a file is refused.
use Rattle.std.specs.Prelude.{ℕ, ◌+◌, ◌<◌, List, length, Option, IfSome}
use Rattle.st_io.specs.Counts.{RoseBy}
use Rattle.st_io.specs.States.{FilesState}
use Rattle.st_journal.specs.Format.{FileLists, IsFile}
use Rattle.st_journal.specs.Lines.{IsFirstBadLine, HasOtherVersion}
use Rattle.st_lex.specs.declared.limits.TheConstants.{MOST_SOURCE_BYTES}
use Rattle.st_source.specs.Accepted.{IsAccepted}
use Rattle.st_source.specs.Refused.{IsRefusedFor}
use Rattle.st_source.specs.declared.errors.SourceError.{SourceError}
use Rattle.st_top.specs.Deeds.{IsJournalOf}
use Rattle.st_top.specs.declared.errors.Refusal.{Refusal}
use Rattle.st_top.specs.declared.errors.Refusal.TheVariants.{NoMemory, ReadFault, SourceTooLong, Source, JournalTooLong, JournalLine, JournalVersion}
use Rattle.st_top.specs.declared.limits.TheConstants.{MOST_JOURNAL_BYTES}

-- a journal text that is read, of some file
unfoldable pub IsJournalText : List ℕ → Type 0
IsJournalText text = (file : FileLists) × IsFile file × IsJournalOf text file

-- the text is no source, for this reason
pub record IsNoSource (text : List ℕ) (why : SourceError) : Type 0 where
  pub not_accepted : ¬ IsAccepted text
  pub reason : IsRefusedFor text why

-- the text is no journal, and its first line that is not of the format has this number
pub record IsBadAt (text : List ℕ) (number : ℕ) : Type 0 where
  pub not_journal : ¬ IsJournalText text
  pub line : IsFirstBadLine text number

-- the text is no journal of this version: its first line tells another
pub record IsOfOtherVersion (text : List ℕ) : Type 0 where
  pub not_journal : ¬ IsJournalText text
  pub version : HasOtherVersion text

-- the text has more bytes than this, and so many and one more were taken
pub record IsLonger (most : ℕ) (told : Option (List ℕ)) (before now : FilesState) : Type 0 where
  pub taken : RoseBy (most + 1) before.taken now.taken
  pub longer : IfSome told (λ text. most < length text)

-- the cause of a refusal while a source file is read, whose bytes are told by this
abbrev pub IsSourceCause : Option (List ℕ) → FilesState → FilesState → Refusal → Type 0
IsSourceCause told before now NoMemory = Unit {0}
IsSourceCause told before now ReadFault = RoseBy 1 before.faults now.faults
IsSourceCause told before now SourceTooLong = IsLonger MOST_SOURCE_BYTES told before now
IsSourceCause told before now (Source why) = IfSome told (λ text. IsNoSource text why)
IsSourceCause told before now _ = ⊥

-- the cause of a refusal while a journal file is read, whose bytes are told by this
abbrev pub IsJournalCause : Option (List ℕ) → FilesState → FilesState → Refusal → Type 0
IsJournalCause told before now NoMemory = Unit {0}
IsJournalCause told before now ReadFault = RoseBy 1 before.faults now.faults
IsJournalCause told before now JournalTooLong = IsLonger MOST_JOURNAL_BYTES told before now
IsJournalCause told before now (JournalLine number) = IfSome told (λ text. IsBadAt text number)
IsJournalCause told before now JournalVersion = IfSome told IsOfOtherVersion
IsJournalCause told before now _ = ⊥

-- the cause of a refusal over a text that is read from no file
abbrev pub IsTextCause : List ℕ → Refusal → Type 0
IsTextCause text NoMemory = Unit {0}
IsTextCause text (Source why) = IsNoSource text why
IsTextCause text _ = ⊥

-- the cause of a refusal over the text of a journal
abbrev pub IsJournalTextCause : List ℕ → Refusal → Type 0
IsJournalTextCause text NoMemory = Unit {0}
IsJournalTextCause text (JournalLine number) = IsBadAt text number
IsJournalTextCause text JournalVersion = IsOfOtherVersion text
IsJournalTextCause text _ = ⊥

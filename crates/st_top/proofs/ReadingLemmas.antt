-- What was read is what was told: from the text of a file, as it was read, to the cause of a refusal and to what was accepted.
use Rattle.std.proofs.Common.{◌≡◌, ◌≢◌, ℕ, ◌⊎◌, ◌↔◌, ◌<◌, ◌≤◌, ◌+◌, List, length, Option, Some, None, Result, Ok, Err, IfOk, IfErr, IfSome, inl, inr, subst}
use Rattle.st_io.specs.Counts.{RoseBy}
use Rattle.st_io.specs.States.{FilesState}
use Rattle.st_io.specs.declared.errors.FilesFault.{FilesFault}
use Rattle.st_io.specs.declared.errors.FilesFault.TheVariants.{TooLong, Failed}
use Rattle.st_journal.specs.Format.{FileLists, IsFile, journal_text}
use Rattle.st_journal.specs.declared.errors.JournalError.{JournalError}
use Rattle.st_journal.specs.declared.errors.JournalError.TheVariants as journal
use Rattle.st_top.specs.Causes.{IsSourceCause, IsJournalCause, IsTextCause, IsJournalTextCause, IsJournalText, IsLonger, IsNoSource}
use Rattle.st_top.specs.Deeds.{IsJournalOf}
use Rattle.st_top.specs.declared.errors.Refusal.{Refusal}
use Rattle.st_top.specs.declared.limits.TheConstants.{MOST_JOURNAL_BYTES}
use Rattle.st_top.specs.declared.errors.Refusal.TheVariants.{Words, NoMemory, ReadFault, SourceTooLong, Source, JournalTooLong, JournalLine, JournalVersion}

-- the bytes that were read are those that were told
abbrev pub AreTold : Option (List ℕ) → List ℕ → Type 0
AreTold told text = IfSome told (λ bytes. text ≡ bytes)

-- what holds of the text that was read holds of the one that was told
pub holds_of_told : (told : Option (List ℕ)) (text : List ℕ) (P : List ℕ → Type 0) → AreTold told text → P text → IfSome told P
holds_of_told None text P same h = tt
holds_of_told (Some bytes) text P same h = subst P same h

-- the cause of a refusal of the text is one of the refusal of the file
pub told_text_has_its_cause : (told : Option (List ℕ)) (text : List ℕ) (before now : FilesState) (refusal : Refusal)
    → AreTold told text → IsTextCause text refusal → IsSourceCause told before now refusal
told_text_has_its_cause told text before now NoMemory same cause = tt
told_text_has_its_cause told text before now (Source why) same cause = holds_of_told told text (λ bytes. IsNoSource bytes why) same cause
told_text_has_its_cause told text before now Words same cause = absurd cause
told_text_has_its_cause told text before now ReadFault same cause = absurd cause
told_text_has_its_cause told text before now SourceTooLong same cause = absurd cause
told_text_has_its_cause told text before now JournalTooLong same cause = absurd cause
told_text_has_its_cause told text before now (JournalLine number) same cause = absurd cause
told_text_has_its_cause told text before now JournalVersion same cause = absurd cause

-- the cause of a refusal of a journal text is one of the refusal of its file
pub told_journal_has_its_cause : (told : Option (List ℕ)) (text : List ℕ) (before now : FilesState) (refusal : Refusal)
    → AreTold told text → IsJournalTextCause text refusal → IsJournalCause told before now refusal
told_journal_has_its_cause told text before now NoMemory same cause = tt
told_journal_has_its_cause told text before now (JournalLine number) same cause = holds_of_told told text _ same cause
told_journal_has_its_cause told text before now JournalVersion same cause = holds_of_told told text _ same cause
told_journal_has_its_cause told text before now Words same cause = absurd cause
told_journal_has_its_cause told text before now ReadFault same cause = absurd cause
told_journal_has_its_cause told text before now SourceTooLong same cause = absurd cause
told_journal_has_its_cause told text before now (Source why) same cause = absurd cause
told_journal_has_its_cause told text before now JournalTooLong same cause = absurd cause

-- a file that was too long is longer, where it is told
pub too_long_is_longer : (told : Option (List ℕ)) (limit : ℕ) (result : Result (Unit {0}) FilesFault) (before now : FilesState)
    → IfSome told (λ bytes. (result ≡ Err TooLong) ↔ ((limit < length bytes) × (result ≢ Err Failed)))
    → RoseBy (limit + 1) before.taken now.taken
    → result ≡ Err TooLong
    → IsLonger limit told before now
too_long_is_longer None limit result before now longer taken is = record { taken = taken; longer = tt }
too_long_is_longer (Some bytes) limit result before now longer taken is = record { taken = taken; longer = (longer.0 is).0 }

-- a text whose reading is refused, though not for want of memory, is no journal
refused_is_no_journal : (text : List ℕ) (result : Result FileLists JournalError) (why : JournalError) → result ≡ Err why → why ≢ journal.Memory
    → ((file : FileLists) → IsFile file → text ≡ journal_text file → (result ≡ Ok file) ⊎ (result ≡ Err journal.Memory))
    → IsJournalText text → ⊥
unfolding IsJournalText
refused_is_no_journal text result why is not_memory again found = elim (again found.0 found.1 found.2.text_of) [
  | inl ok ↦ cc
  | inr memory ↦ not_memory (cc)
]

-- a text in which a bad line was told is no journal
pub bad_line_is_no_journal : (text : List ℕ) (result : Result FileLists JournalError) (number : ℕ) → result ≡ Err (journal.BadLine number)
    → ((file : FileLists) → IsFile file → text ≡ journal_text file → (result ≡ Ok file) ⊎ (result ≡ Err journal.Memory))
    → IsJournalText text → ⊥
bad_line_is_no_journal text result number is again found = refused_is_no_journal text result (journal.BadLine number) is (λ e. cc) again found

-- a text of another version is no journal
pub bad_version_is_no_journal : (text : List ℕ) (result : Result FileLists JournalError) → result ≡ Err journal.BadVersion
    → ((file : FileLists) → IsFile file → text ≡ journal_text file → (result ≡ Ok file) ⊎ (result ≡ Err journal.Memory))
    → IsJournalText text → ⊥
bad_version_is_no_journal text result is again found = refused_is_no_journal text result journal.BadVersion is (λ e. cc) again found

-- what a text was read to is the file of its journal
pub read_text_is_its_journal : (text : List ℕ) (file : FileLists) → length text ≤ MOST_JOURNAL_BYTES → IsFile file × (text ≡ journal_text file) → IsJournalOf text file
read_text_is_its_journal text file short read = record { short = short; text_of = read.1 }

-- and that file keeps the limits of files
pub read_file_is_one : (text : List ℕ) (file : FileLists) → IsFile file × (text ≡ journal_text file) → IsFile file
read_file_is_one text file read = read.0

-- ---- results

-- what follows of each answer
pub each_ok : {A E : Type 0} (result : Result A E) (P Q : A → Type 0) → ((a : A) → P a → Q a) → IfOk result P → IfOk result Q
each_ok (Ok a) P Q rule h = rule a h
each_ok (Err e) P Q rule h = tt

-- what follows of each error
pub each_err : {A E : Type 0} (result : Result A E) (P Q : E → Type 0) → ((e : E) → P e → Q e) → IfErr result P → IfErr result Q
each_err (Ok a) P Q rule h = tt
each_err (Err e) P Q rule h = rule e h

-- The lines of a text, and which of them is the first that is not of the format.
use Rattle.std.specs.Prelude.{◌≡◌, ◌≢◌, ℕ, ◌-◌, ◌==◌, true, List, [], ◌∷◌, take, codes, if◌then◌else◌}
use Rattle.std.specs.Fmt.{decimal}
use Rattle.std.specs.List.{onto_first}
use Rattle.st_journal.specs.Format.{FileLists, IsFile, journal_text, newline, line}
use Rattle.st_journal.specs.Words.{is_number}
use Rattle.st_journal.specs.declared.versions.TheConstants.{VERSION}

-- the lines of a text, each with the newline at its end, which the last may lack
abbrev pub lines : List ℕ → List (List ℕ)
lines [] = []
lines (byte ∷ text) = if byte == newline then (newline ∷ []) ∷ lines text else onto_first byte (lines text)

-- the first lines of a text, all of them where it has no more
abbrev pub first_lines : ℕ → List ℕ → List (List ℕ)
first_lines n text = take n (lines text)

-- the line of this number, from 1, is the first that is not of the format: the lines before it begin the text of some file, and
-- no file's text begins with these lines and this one; where the text has ended, no file's text ends there
pub record IsFirstBadLine (text : List ℕ) (number : ℕ) : Type 0 where
  pub begins : (file : FileLists) × IsFile file × (first_lines (number - 1) (journal_text file) ≡ first_lines (number - 1) text)
  pub ends : (file : FileLists) → IsFile file → first_lines number (journal_text file) ≢ first_lines number text

-- the first line tells another version: a decimal number without leading zeros, other than the one that is read
pub record HasOtherVersion (text : List ℕ) : Type 0 where
  pub digits : List ℕ
  pub number : is_number digits ≡ true
  pub other : digits ≢ decimal VERSION
  pub told : first_lines 1 text ≡ line (codes "strobe" ∷ codes "journal" ∷ digits ∷ []) ∷ []

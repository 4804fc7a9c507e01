-- Reading a journal text to its end: what the lines so far tell, and what the next one adds.
use Rattle.std.specs.Prelude.{◌≡◌, ℕ, ◌+◌, ◌==◌, Bool, true, false, not, List, [], ◌∷◌, ◌++◌, length, Option, Some, None, Result, Ok, Err, codes, if◌then◌else◌}
use Rattle.std.specs.Str.{bytes_eq}
use Rattle.st_journal.specs.declared.errors.JournalError.{JournalError}
use Rattle.st_journal.specs.declared.errors.JournalError.TheVariants as journal
use Rattle.st_journal.specs.declared.errors.LineFault.{LineFault}
use Rattle.st_journal.specs.declared.errors.LineFault.TheVariants as fault
use Rattle.st_journal.specs.declared.reading.TheConstants.{VERSION_LINE, SIZES_LINE, FIRST_ROW}
use Rattle.st_journal.specs.declared.rows.Row.{Row}
use Rattle.st_journal.specs.declared.rows.Row.TheVariants as row
use Rattle.st_journal.specs.declared.versions.TheConstants.{VERSION}
use Rattle.st_journal.specs.Format.{FileLists}
use Rattle.st_journal.specs.Reading.{content, line_or_bad, row_in, sizes_in}
use Rattle.st_journal.specs.Terms.{Event, Sizes, Verdict}
use Rattle.st_journal.specs.Words.{◌>>=◌, is_number, number_in, words_in}

-- the events and verdicts that lines tell
pub record RowLists : Type 0 where
  pub events : List Event
  pub verdicts : List Verdict

-- the rows before the first event and verdict
abbrev pub no_rows : RowLists
no_rows = record { events = []; verdicts = [] }

-- the rows with this event as the last one
abbrev pub with_event : RowLists → Event → RowLists
with_event rows event = record { events = rows.events ++ event ∷ []; verdicts = rows.verdicts }

-- the rows with this verdict as the last one
abbrev pub with_verdict : RowLists → Verdict → RowLists
with_verdict rows verdict = record { events = rows.events; verdicts = rows.verdicts ++ verdict ∷ [] }

-- what the next line adds, and whether it is the last: events come first, then verdicts in the order of their numbers, and at
-- last the counts
unfoldable pub put_row : RowLists → Row → Option (RowLists × Bool)
put_row rows (row.Event event) = if length rows.verdicts == 0 then Some (with_event rows event, false) else None
put_row rows (row.Verdict number verdict) = if number == length rows.verdicts + 1 then Some (with_verdict rows verdict, false) else None
put_row rows (row.End events verdicts) =
    if events == length rows.events then (if verdicts == length rows.verdicts then Some (rows, true) else None) else None

-- the same of the line itself, without its end
unfoldable pub line_step : RowLists → List ℕ → Option (RowLists × Bool)
line_step rows line = row_in (words_in line) >>= put_row rows

-- a call takes a line where it has such a step, and refuses it where it has none; want of memory says nothing
abbrev pub TakesLine : Result Bool LineFault → Option (RowLists × Bool) → RowLists → Type 0
TakesLine (Ok is_last) step after = step ≡ Some (after, is_last)
TakesLine (Err fault.Memory) step after = Unit {0}
TakesLine (Err fault.Bad) step after = step ≡ None

-- nothing follows the last line
abbrev pub ended : ℕ → RowLists → List (List ℕ) → Result RowLists JournalError
ended number rows [] = Ok rows
ended number rows (line ∷ lines) = Err (journal.BadLine (number + 1))

-- how reading goes on after the step at a line with this number, before these lines
abbrev pub after_step : Option (RowLists × Bool) → ℕ → List (List ℕ) → (RowLists → Result RowLists JournalError) → Result RowLists JournalError
after_step None number lines further = Err (journal.BadLine number)
after_step (Some (rows, false)) number lines further = further rows
after_step (Some (rows, true)) number lines further = ended number rows lines

-- the rows of these lines, the first of which has this number, after those so far
unfoldable pub rows_in : ℕ → RowLists → List (List ℕ) → Result RowLists JournalError
rows_in number rows [] = Err (journal.BadLine number)
rows_in number rows (line ∷ lines) =
    after_step (content line >>= line_step rows) number lines (λ more. rows_in (number + 1) more lines)

infixl 10 ◌>=>◌
-- one step after another, up to the first error
abbrev pub ◌>=>◌ : {A B : Type 0} → Result A JournalError → (A → Result B JournalError) → Result B JournalError
(Ok x) >=> f = f x
(Err e) >=> f = Err e

-- a number of a version
abbrev pub is_known : Option ℕ → Bool
is_known None = false
is_known (Some version) = version == VERSION

-- whether these words tell the version that is read
unfoldable pub version_of : List ℕ → List ℕ → List ℕ → Result (Unit {0}) JournalError
version_of name format version =
    if not (bytes_eq name (codes "strobe")) then Err (journal.BadLine VERSION_LINE)
    else (if not (bytes_eq format (codes "journal")) then Err (journal.BadLine VERSION_LINE)
    else (if not (is_number version) then Err (journal.BadLine VERSION_LINE)
    else (if is_known (number_in version) then Ok tt else Err journal.BadVersion)))

-- the same of the words of the first line
unfoldable pub version_in : List (List ℕ) → Result (Unit {0}) JournalError
version_in (name ∷ format ∷ version ∷ []) = version_of name format version
version_in _ = Err (journal.BadLine VERSION_LINE)

-- what a line of this number tells
abbrev pub told_at : {X : Type 0} → ℕ → Option X → Result X JournalError
told_at number None = Err (journal.BadLine number)
told_at number (Some x) = Ok x

-- the file of sizes and rows
abbrev pub file_of : Sizes → RowLists → FileLists
file_of sizes rows = record { sizes = sizes; events = rows.events; verdicts = rows.verdicts }

-- the file of sizes and the lines after them
abbrev pub file_with : Sizes → List (List ℕ) → Result FileLists JournalError
file_with sizes lines = rows_in FIRST_ROW no_rows lines >=> λ rows. Ok (file_of sizes rows)

-- the file that the lines after the first tell
abbrev pub sized_file : List (List ℕ) → Result FileLists JournalError
sized_file lines =
    line_or_bad SIZES_LINE lines >=> λ second. told_at SIZES_LINE (sizes_in (words_in second.0)) >=> λ sizes. file_with sizes second.1

-- the file that the lines of a text tell
unfoldable pub file_in : List (List ℕ) → Result FileLists JournalError
file_in lines = line_or_bad VERSION_LINE lines >=> λ first. version_in (words_in first.0) >=> λ known. sized_file first.1

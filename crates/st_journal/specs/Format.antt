-- The journal text: the words of each line, the lines of a file, and which files have a text.
use Rattle.std.specs.Prelude.{◌≡◌, ℕ, ◌<◌, ◌≤◌, ◌^◌, ◌==◌, Bool, true, false, List, [], ◌∷◌, ◌++◌, length, take, drop, map, codes}
use Rattle.std.specs.List.{flat_map, list_all, join_with_byte, enumerate_from, All}
use Rattle.std.specs.Fmt.{decimal}
use Rattle.st_journal.specs.Terms.{Event, New, Load, Store, Cas, Launch, Retire, Args, Sizes, Verdict, AreWithinLimits, Site}
use Rattle.st_events.specs.declared.shapes.TheConstants.{MOST_ARGS}
use Rattle.st_events.specs.declared.verdicts.Plain.TheVariants as plain
use Rattle.st_events.specs.declared.verdicts.Verdict.TheVariants as verdict
use Rattle.st_texts.specs.Texts.{verdict_text}
use Rattle.st_journal.specs.declared.versions.TheConstants.{VERSION}

-- what a journal file holds
pub record FileLists : Type 0 where
  pub sizes : Sizes
  pub events : List Event
  pub verdicts : List Verdict

-- the byte between two words
abbrev pub blank : ℕ
blank = 32

-- the byte at a line's end
abbrev pub newline : ℕ
newline = 10

-- a line: its words joined with one blank, and the end of the line
abbrev pub line : List (List ℕ) → List ℕ
line words = join_with_byte blank words ++ newline ∷ []

-- the words of a line of numbers: which line it is, and the numbers
abbrev pub numbered : List ℕ → List ℕ → List (List ℕ)
numbered tag numbers = tag ∷ map decimal numbers

-- a Cas is written as done by 1, as not done by 0
abbrev pub flag : Bool → ℕ
flag true = 1
flag false = 0

-- the words of an event
abbrev pub event_words : Event → List (List ℕ)
event_words (New m obj class) = numbered (codes "N") (m ∷ obj ∷ class ∷ [])
event_words (Load m obj field value) = numbered (codes "L") (m ∷ obj ∷ field ∷ value ∷ [])
event_words (Store m obj field value) = numbered (codes "S") (m ∷ obj ∷ field ∷ value ∷ [])
event_words (Cas m obj field expect value done) = numbered (codes "C") (m ∷ obj ∷ field ∷ expect ∷ value ∷ flag done ∷ [])
event_words (Launch m site number args) = numbered (codes "K") (m ∷ number ∷ site ∷ args.count ∷ take args.count args.words)
event_words (Retire m number) = numbered (codes "R") (m ∷ number ∷ [])

-- the words of a verdict with its number; the last of them may have blanks of its own
abbrev pub verdict_words : ℕ × Verdict → List (List ℕ)
verdict_words numbered_verdict = codes "V" ∷ decimal numbered_verdict.0 ∷ verdict_text numbered_verdict.1 ∷ []

-- the first line
abbrev pub version_words : ℕ → List (List ℕ)
version_words version = codes "strobe" ∷ codes "journal" ∷ decimal version ∷ []

-- the second line
abbrev pub sizes_words : Sizes → List (List ℕ)
sizes_words sizes = numbered (codes "sizes") (sizes.mutators ∷ sizes.lanes ∷ sizes.objects ∷ sizes.copies ∷ sizes.events ∷ sizes.calls ∷ [])

-- the last line: how many events and verdicts the lines before it tell
abbrev pub end_words : FileLists → List (List ℕ)
end_words file = numbered (codes "end") (length file.events ∷ length file.verdicts ∷ [])

-- the lines of a file: the version, the sizes, each event, each verdict with its number from 1, and the counts
unfoldable pub file_lines : FileLists → List (List ℕ)
file_lines file =
    line (version_words VERSION) ∷ line (sizes_words file.sizes) ∷ (map (λ event. line (event_words event)) file.events
    ++ (map (λ verdict. line (verdict_words verdict)) (enumerate_from 1 file.verdicts)
    ++ line (end_words file) ∷ []))

-- the text of a file
unfoldable pub journal_text : FileLists → List ℕ
journal_text file = flat_map (λ one_line. one_line) (file_lines file)

-- the arguments of a launch are at most four, and the unused words are 0
pub record HasUsedWords (args : Args) : Type 0 where
  pub count : args.count ≤ MOST_ARGS
  pub unused : list_all (λ word. word == 0) (drop args.count args.words) ≡ true

-- the same of an event: it is asked of a launch alone
abbrev pub HasUsedArgs : Event → Type 0
HasUsedArgs (New m obj class) = Unit {0}
HasUsedArgs (Load m obj field value) = Unit {0}
HasUsedArgs (Store m obj field value) = Unit {0}
HasUsedArgs (Cas m obj field expect value done) = Unit {0}
HasUsedArgs (Launch m site number args) = HasUsedWords args
HasUsedArgs (Retire m number) = Unit {0}

-- a number of 8 bits
abbrev pub IsByte : ℕ → Type 0
IsByte n = n < 2 ^ 8

-- a number of 16 bits
abbrev pub IsShort : ℕ → Type 0
IsShort n = n < 2 ^ 16

-- a number of 32 bits
abbrev pub IsHalf : ℕ → Type 0
IsHalf n = n < 2 ^ 32

-- a number of 64 bits
abbrev pub IsWord : ℕ → Type 0
IsWord n = n < 2 ^ 64

-- there are as many words as a launch has room for, each a word
pub record HasArgWords (args : Args) : Type 0 where
  pub room : length args.words ≡ MOST_ARGS
  pub words : All IsWord args.words
  pub used : HasUsedWords args

-- each number of an event fits the type of its field
abbrev pub FitsFields : Event → Type 0
FitsFields (New m obj class) = IsByte m × IsHalf obj × IsByte class
FitsFields (Load m obj field value) = IsByte m × IsHalf obj × IsByte field × IsWord value
FitsFields (Store m obj field value) = IsByte m × IsHalf obj × IsByte field × IsWord value
FitsFields (Cas m obj field expect value done) = IsByte m × IsHalf obj × IsByte field × IsWord expect × IsWord value
FitsFields (Launch m site number args) = IsByte m × IsHalf number × IsShort site × HasArgWords args
FitsFields (Retire m number) = IsByte m × IsHalf number

-- each number of a place fits the type of its field
abbrev pub FitsPlace : Site → Type 0
FitsPlace place = IsHalf place.line × IsHalf place.column

-- each number of a verdict fits the type of its field
abbrev pub FitsVerdict : Verdict → Type 0
FitsVerdict (verdict.Plain plain.Holds) = Unit {0}
FitsVerdict (verdict.Plain plain.Fails) = Unit {0}
FitsVerdict (verdict.Plain (plain.Null place)) = FitsPlace place
FitsVerdict (verdict.Plain (plain.Divide place)) = FitsPlace place
FitsVerdict (verdict.Plain (plain.Overflow place)) = FitsPlace place
FitsVerdict (verdict.Plain plain.Spent) = Unit {0}
FitsVerdict (verdict.Plain plain.Deep) = Unit {0}
FitsVerdict (verdict.Abandoned obj) = IsHalf obj

-- the file has a text of the format: its sizes are within the limits, and each number of it fits
pub record IsFile (file : FileLists) : Type 0 where
  pub sizes : AreWithinLimits file.sizes
  pub events : All FitsFields file.events
  pub verdicts : All FitsVerdict file.verdicts
  pub few_events : IsHalf (length file.events)
  pub few_verdicts : IsHalf (length file.verdicts)

-- the text is of the format
abbrev pub IsJournal : List ℕ → Type 0
IsJournal text = (file : FileLists) × IsFile file × (text ≡ journal_text file)

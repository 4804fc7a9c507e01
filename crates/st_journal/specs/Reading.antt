-- Reading a journal text line by line: what each function of the reader gives. What is read is of the format, and what is of
-- the format is read: no clause of a public call cites this file.
use Rattle.std.specs.Prelude.{◌≡◌, ℕ, ◌^◌, ◌==◌, nat_le, Bool, true, false, ◌&&◌, List, [], ◌∷◌, length, Option, Some, None, Result, Ok, Err, codes, if◌then◌else◌}
use Rattle.std.specs.Str.{bytes_eq}
use Rattle.st_journal.specs.Terms.{Event, New, Load, Store, Cas, Launch, Retire, Args, Sizes, Verdict, Site, Plain}
use Rattle.st_events.specs.declared.limits.TheConstants.{MOST_MUTATORS, MOST_LANES, MOST_OBJECTS, MOST_COPIES, MOST_EVENTS, MOST_CALLS}
use Rattle.st_events.specs.declared.verdicts.Plain.TheVariants as plain
use Rattle.st_events.specs.declared.verdicts.Verdict.TheVariants as verdict
use Rattle.st_journal.specs.declared.errors.JournalError.{JournalError}
use Rattle.st_journal.specs.declared.errors.JournalError.TheVariants as journal
use Rattle.st_journal.specs.declared.errors.LineFault.{LineFault}
use Rattle.st_journal.specs.declared.errors.LineFault.TheVariants as fault
use Rattle.st_journal.specs.declared.rows.Row.{Row}
use Rattle.st_journal.specs.declared.rows.Row.TheVariants as row
use Rattle.st_journal.specs.Format.{newline}
use Rattle.st_journal.specs.Words.{◌>>=◌, below, cut, number_in, numbers_in}

-- the error that tells a fault of a line
abbrev pub error_of : LineFault → ℕ → JournalError
error_of fault.Memory line = journal.Memory
error_of fault.Bad line = journal.BadLine line

-- what a function of the reader answers is what reading gives, but for want of memory
abbrev pub IsAsRead : {X Y : Type 0} → (X → Y) → Result X JournalError → Result Y JournalError → Type 0
IsAsRead view (Ok x) read = read ≡ Ok (view x)
IsAsRead view (Err journal.Memory) read = Unit {0}
IsAsRead view (Err (journal.BadLine line)) read = read ≡ Err (journal.BadLine line)
IsAsRead view (Err journal.BadVersion) read = read ≡ Err journal.BadVersion

-- the number, where it has 8 bits
abbrev pub byte : ℕ → Option ℕ
byte n = below (2 ^ 8) n

-- the number, where it has 16 bits
abbrev pub short : ℕ → Option ℕ
short n = below (2 ^ 16) n

-- the number, where it has 32 bits
abbrev pub half : ℕ → Option ℕ
half n = below (2 ^ 32) n

-- 1 or 0
abbrev pub truth : ℕ → Option Bool
truth n = if n == 1 then Some true else (if n == 0 then Some false else None)

-- the event that the numbers after N tell: thread, object, class
unfoldable pub new_in : List ℕ → Option Event
new_in (m ∷ obj ∷ class ∷ []) = do
  m ← byte m
  obj ← half obj
  class ← byte class
  Some (New m obj class)
new_in _ = None

-- the event that the numbers after L tell: thread, object, field, value
unfoldable pub load_in : List ℕ → Option Event
load_in (m ∷ obj ∷ field ∷ value ∷ []) = do
  m ← byte m
  obj ← half obj
  field ← byte field
  Some (Load m obj field value)
load_in _ = None

-- the event that the numbers after S tell: thread, object, field, value
unfoldable pub store_in : List ℕ → Option Event
store_in (m ∷ obj ∷ field ∷ value ∷ []) = do
  m ← byte m
  obj ← half obj
  field ← byte field
  Some (Store m obj field value)
store_in _ = None

-- the event that the numbers after C tell: thread, object, field, what was expected, value, and 1 where it was done
unfoldable pub cas_in : List ℕ → Option Event
cas_in (m ∷ obj ∷ field ∷ expect ∷ value ∷ done ∷ []) = do
  m ← byte m
  obj ← half obj
  field ← byte field
  done ← truth done
  Some (Cas m obj field expect value done)
cas_in _ = None

-- the words of a launch, with a 0 for each that is not used
abbrev pub padded : List ℕ → Option (List ℕ)
padded [] = Some (0 ∷ 0 ∷ 0 ∷ 0 ∷ [])
padded (a ∷ []) = Some (a ∷ 0 ∷ 0 ∷ 0 ∷ [])
padded (a ∷ b ∷ []) = Some (a ∷ b ∷ 0 ∷ 0 ∷ [])
padded (a ∷ b ∷ c ∷ []) = Some (a ∷ b ∷ c ∷ 0 ∷ [])
padded (a ∷ b ∷ c ∷ d ∷ []) = Some (a ∷ b ∷ c ∷ d ∷ [])
padded (a ∷ b ∷ c ∷ d ∷ e ∷ more) = None

-- the arguments of a launch, of which the count comes first
unfoldable pub args_in : ℕ → List ℕ → Option Args
args_in count words = do
  all ← padded words
  if count == length words then Some (record { count = count; words = all }) else None

-- the event that the numbers after K tell: thread, check, site, how many arguments, and these
unfoldable pub launch_in : List ℕ → Option Event
launch_in (m ∷ number ∷ site ∷ count ∷ words) = do
  m ← byte m
  number ← half number
  site ← short site
  args ← args_in count words
  Some (Launch m site number args)
launch_in _ = None

-- the event that the numbers after R tell: thread and check
unfoldable pub retire_in : List ℕ → Option Event
retire_in (m ∷ number ∷ []) = do
  m ← byte m
  number ← half number
  Some (Retire m number)
retire_in _ = None

-- the event that a tag and numbers tell
unfoldable pub event_in : List ℕ → List ℕ → Option Event
event_in tag numbers =
    if bytes_eq tag (codes "N") then new_in numbers
    else (if bytes_eq tag (codes "L") then load_in numbers
    else (if bytes_eq tag (codes "S") then store_in numbers
    else (if bytes_eq tag (codes "C") then cas_in numbers
    else (if bytes_eq tag (codes "K") then launch_in numbers
    else (if bytes_eq tag (codes "R") then retire_in numbers else None)))))

-- a number of 32 bits
unfoldable pub half_in : List ℕ → Option ℕ
half_in word = number_in word >>= half

-- LINE:COLUMN
unfoldable pub place_in : List ℕ → Option Site
place_in word = do
  parts ← cut 58 word
  line ← half_in parts.0
  column ← half_in parts.1
  Some (record { line = line; column = column })

-- a verdict of one word
unfoldable pub plain_in : List ℕ → Option Plain
plain_in word =
    if bytes_eq word (codes "holds") then Some plain.Holds
    else (if bytes_eq word (codes "fails") then Some plain.Fails
    else (if bytes_eq word (codes "spent") then Some plain.Spent
    else (if bytes_eq word (codes "deep") then Some plain.Deep else None)))

-- a fault at a place
unfoldable pub fault_in : List ℕ → Site → Option Plain
fault_in kind place =
    if bytes_eq kind (codes "null") then Some (plain.Null place)
    else (if bytes_eq kind (codes "divide") then Some (plain.Divide place)
    else (if bytes_eq kind (codes "overflow") then Some (plain.Overflow place) else None))

-- the verdict that words tell
unfoldable pub verdict_in : List (List ℕ) → Option Verdict
verdict_in (word ∷ []) = plain_in word >>= λ value. Some (verdict.Plain value)
verdict_in (head ∷ obj ∷ []) = if bytes_eq head (codes "abandoned") then half_in obj >>= (λ obj. Some (verdict.Abandoned obj)) else None
verdict_in (head ∷ kind ∷ place ∷ []) =
    if bytes_eq head (codes "fault") then place_in place >>= (λ place. fault_in kind place >>= λ value. Some (verdict.Plain value)) else None
verdict_in _ = None

-- the row that the words after V tell: the check's number, and its verdict
unfoldable pub verdict_row_in : List (List ℕ) → Option Row
verdict_row_in (number ∷ words) = do
  number ← half_in number
  verdict ← verdict_in words
  Some (row.Verdict number verdict)
verdict_row_in [] = None

-- the row that the numbers after end tell: how many events and how many verdicts
unfoldable pub end_row_in : List ℕ → Option Row
end_row_in (events ∷ verdicts ∷ []) = do
  events ← half events
  verdicts ← half verdicts
  Some (row.End events verdicts)
end_row_in _ = None

-- what a line of a tag and numbers tells
unfoldable pub numbered_row_in : List ℕ → List ℕ → Option Row
numbered_row_in tag numbers =
    if bytes_eq tag (codes "end") then end_row_in numbers else event_in tag numbers >>= λ event. Some (row.Event event)

-- what the words of a line after the second tell
unfoldable pub row_in : List (List ℕ) → Option Row
row_in [] = None
row_in (tag ∷ words) = if bytes_eq tag (codes "V") then verdict_row_in words else numbers_in words >>= numbered_row_in tag

-- the sizes that numbers tell, where they are within the limits
unfoldable pub sizes_of : List ℕ → Option Sizes
sizes_of (mutators ∷ lanes ∷ objects ∷ copies ∷ events ∷ calls ∷ []) = do
  mutators ← byte mutators
  lanes ← byte lanes
  objects ← half objects
  copies ← half copies
  events ← half events
  calls ← half calls
  if nat_le mutators MOST_MUTATORS
      && nat_le 1 lanes && nat_le lanes MOST_LANES
      && nat_le 1 objects && nat_le objects MOST_OBJECTS
      && nat_le copies MOST_COPIES
      && nat_le 1 events && nat_le events MOST_EVENTS
      && nat_le calls MOST_CALLS
      then Some (record { mutators = mutators; lanes = lanes; objects = objects; copies = copies; events = events; calls = calls }) else None
sizes_of _ = None

-- the sizes that the words of the second line tell
unfoldable pub sizes_in : List (List ℕ) → Option Sizes
sizes_in (tag ∷ words) = if bytes_eq tag (codes "sizes") then numbers_in words >>= sizes_of else None
sizes_in [] = None

-- what stands in a line before the newline at its end, if there is one
abbrev pub before_end : List ℕ × List ℕ → Option (List ℕ)
before_end (line, []) = Some line
before_end (line, byte ∷ rest) = None

-- a line that has an end, with the lines after it; the line of this number is bad where it has none
abbrev pub with_rest : ℕ → Option (List ℕ) → List (List ℕ) → Result (List ℕ × List (List ℕ)) JournalError
with_rest number None lines = Err (journal.BadLine number)
with_rest number (Some line) lines = Ok (line, lines)

-- what a line says before its newline; nothing where it has no newline, or where something stands behind it
unfoldable pub content : List ℕ → Option (List ℕ)
content line = cut newline line >>= before_end

-- the first of these lines, without its end, and the lines after it; it is bad where there is none, or it has no end
unfoldable pub line_or_bad : ℕ → List (List ℕ) → Result (List ℕ × List (List ℕ)) JournalError
line_or_bad number [] = Err (journal.BadLine number)
line_or_bad number (line ∷ lines) = with_rest number (content line) lines

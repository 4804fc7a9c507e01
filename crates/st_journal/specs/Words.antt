-- The words of a line, and the numbers that they write.
use Rattle.std.specs.Prelude.{◌≡◌, ℕ, ◌^◌, ◌==◌, nat_lt, Bool, false, not, ◌&&◌, List, [], ◌∷◌, Option, Some, None, Result, Ok, Err, option_map, if◌then◌else◌}
use Rattle.std.specs.List.{slice_split}
use Rattle.std.specs.Str.{all_ascii_digits}
use Rattle.std.specs.Str.Parse.{digits_value}
use Rattle.st_journal.specs.declared.errors.LineFault.{LineFault}
use Rattle.st_journal.specs.declared.errors.LineFault.TheVariants as fault

infixl 10 ◌>>=◌
-- one step after another, where none has no value
abbrev pub ◌>>=◌ : {A B : Type 0} → Option A → (A → Option B) → Option B
(Some x) >>= f = f x
None >>= f = None

-- what a function of the reader answers is what reading gives, but for want of memory
abbrev pub Parses : {X Y : Type 0} → (X → Y) → Result X LineFault → Option Y → Type 0
Parses view (Ok x) read = read ≡ Some (view x)
Parses view (Err fault.Memory) read = Unit {0}
Parses view (Err fault.Bad) read = read ≡ None

-- this byte
abbrev pub is_byte : ℕ → ℕ → Bool
is_byte byte b = b == byte

-- what stands before and after the first such byte
abbrev pub cut : ℕ → List ℕ → Option (List ℕ × List ℕ)
cut byte [] = None
cut byte (b ∷ text) = if b == byte then Some ([], text) else option_map (λ parts. (b ∷ parts.0, parts.1)) (cut byte text)

-- the words of a line without its end
abbrev pub words_in : List ℕ → List (List ℕ)
words_in text = slice_split (is_byte 32) text

-- a word that is a decimal number without leading zeros
abbrev pub is_number : List ℕ → Bool
is_number [] = false
is_number (digit ∷ []) = all_ascii_digits (digit ∷ [])
is_number (digit ∷ next ∷ digits) = not (digit == 48) && all_ascii_digits (digit ∷ next ∷ digits)

-- a number below a limit
abbrev pub below : ℕ → ℕ → Option ℕ
below limit n = if nat_lt n limit then Some n else None

-- the number that a word writes
unfoldable pub number_in : List ℕ → Option ℕ
number_in word = if is_number word then below (2 ^ 64) (digits_value 10 word) else None

-- the numbers that words write
abbrev pub numbers_in : List (List ℕ) → Option (List ℕ)
numbers_in [] = Some []
numbers_in (word ∷ words) = do
  number ← number_in word
  numbers ← numbers_in words
  Some (number ∷ numbers)

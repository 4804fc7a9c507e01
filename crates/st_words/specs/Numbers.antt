-- The numbers of words.
use Rattle.std.specs.Prelude.{ℕ, ◌&&◌, Bool, List, length, Option, Some, None, if◌then◌else◌, nat_le}
use Rattle.std.specs.Char.{is_ascii_digit}
use Rattle.std.specs.List.{list_all}
use Rattle.std.specs.Option.{option_map_or}
use Rattle.std.specs.Str.Parse.{digits_value}
use Rattle.clap.specs.Words.{Row, first_of}
use Rattle.st_words.specs.declared.limits.TheConstants.{MOST_DIGITS}

-- one to twenty decimal digits; leading zeros are digits too, a sign is none
abbrev pub is_numeral : List ℕ → Bool
is_numeral word = nat_le 1 (length word) && (nat_le (length word) MOST_DIGITS && list_all is_ascii_digit word)

-- the number, where it is within a range, both ends included
abbrev pub within : ℕ → ℕ → ℕ → Option ℕ
within least most n = if nat_le least n && nat_le n most then Some n else None

-- the number that a word tells, where it is within the range
abbrev pub number_in : ℕ → ℕ → List ℕ → Option ℕ
number_in least most word = if is_numeral word then within least most (digits_value 10 word) else None

-- the number of an option, where it is within the range; the usual one where the option does not stand
unfoldable pub number_or : ℕ → ℕ → ℕ → List ℕ → List Row → Option ℕ
number_or usual least most name rows = option_map_or (number_in least most) (first_of name rows) (Some usual)

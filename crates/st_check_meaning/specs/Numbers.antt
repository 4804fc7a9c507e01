-- Words and what they stand for: a number of 64 bits in two's complement, 0 or 1 for false and true, the number of an object.
use Rattle.std.specs.Prelude.{ℕ, ◌^◌, ◌==◌, nat_lt, Bool, not, if◌then◌else◌, ℤ, pos, negsuc}
use Rattle.std.specs.Int.{w64, cast_signed, cast_unsigned, from_bool}
use Rattle.st_events.specs.declared.events.Site.{Site}
use Rattle.st_events.specs.declared.verdicts.Plain.TheVariants.{Overflow}
use Rattle.st_check_meaning.specs.Courses.{Course, comes_to, ends_in}

-- the number that a word stands for
abbrev pub number_of : ℕ → ℤ
number_of word = cast_signed w64 word

-- the word of a number
abbrev pub word_of_number : ℤ → ℕ
word_of_number number = cast_unsigned w64 number

-- the word of a truth: 1 where it is true, else 0
abbrev pub word_of_truth : Bool → ℕ
word_of_truth truth = from_bool truth

-- whether the word is that of true
abbrev pub is_true : ℕ → Bool
is_true word = not (word == 0)

-- whether the number has 64 bits: from -2^63 to 2^63 - 1
abbrev pub is_in_range : ℤ → Bool
is_in_range (pos n) = nat_lt n (2 ^ 63)
is_in_range (negsuc n) = nat_lt n (2 ^ 63)

-- the number, where it is in range; else an overflow at this place
abbrev pub number_or_overflow : ℤ → Site → Course ℕ
number_or_overflow number at = if is_in_range number then comes_to (word_of_number number) else ends_in (Overflow at)

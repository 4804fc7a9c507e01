-- Laws of numbers in decimal: a word is a number exactly where it is what is written of one.
use Rattle.std.proofs.Common.{◌≡◌, ℕ, ◌^◌, ◌<◌, Bool, true, false, not, cond, ltb, eqb, ◌&&◌, List, [], ◌∷◌, length, get_or, Option, Some, None, Result, Ok, Err}
use Rattle.std.proofs.Common.{refl, sym, ap, ◌∙◌, arith}
use Rattle.std.specs.Fmt.{decimal}
use Rattle.std.specs.Result.{result_ok, OkIff}
use Rattle.std.specs.Str.{all_ascii_digits, IsUtf8}
use Rattle.std.specs.Str.Parse.{digits_value, ParsesUnsigned}
use Rattle.std.proofs.Common.{inl, inr}
use Rattle.std.proofs.lemmas.Bool.{cases_lt, lt-ltb, le-ltb, and_parts, and_from, eqb-false, ne_eqb, not-true}
use Rattle.std.proofs.lemmas.Fmt.{decimal-digits_value, decimal_digit, decimal_nonempty, digits_decimal, digits_value-decimal, first_decimal, IsAscii-from_digits}
use Rattle.std.proofs.lemmas.Str.{IsUtf8-from_ascii}
use Rattle.std.proofs.lemmas.Str.Parse.{IsNumeralModel, numerals_by_value, tells_all_ascii_digits, parse_digits}
use Rattle.st_journal.specs.Words.{is_number, number_in, below}

-- a text of digits alone
abbrev pub Digits : List ℕ → Type 0
Digits ds = all_ascii_digits ds ≡ true

-- numbers in decimal, in the words of the library
pub decimals : IsNumeralModel Digits (digits_value 10)
decimals = numerals_by_value Digits tells_all_ascii_digits

and_right : (a b : Bool) → (a && b) ≡ true → b ≡ true
and_right true b e = e
and_right false b e = absurd cc

-- a number is digits, and not nothing
pub number_is_digits : (word : List ℕ) → is_number word ≡ true → Digits word
number_is_digits [] e = absurd cc
number_is_digits (d ∷ []) e = e
number_is_digits (d ∷ c ∷ ds) e = and_right (not (eqb d 48)) (all_ascii_digits (d ∷ c ∷ ds)) e

number_is_not_empty : (word : List ℕ) → is_number word ≡ true → 0 < length word
number_is_not_empty [] e = absurd cc
number_is_not_empty (d ∷ ds) e = omega arith

-- digits are text
pub number_is_text : (word : List ℕ) → is_number word ≡ true → IsUtf8 word
number_is_text word e = IsUtf8-from_ascii word (IsAscii-from_digits word (decimals.to word (number_is_digits word e)))

-- a word that is no decimal number is read as none
pub no_number : (word : List ℕ) → is_number word ≡ false → number_in word ≡ None
unfolding number_in
no_number word e = rw e refl

parsed : {E : Type 0} (long : Type 0) (n : ℕ) (r : Result ℕ E) → long → OkIff r (long × (n < 2 ^ 64)) n → result_ok r ≡ below (2 ^ 64) n
parsed long n (Ok x) more h = let fits : ltb n (2 ^ 64) ≡ true = lt-ltb n (2 ^ 64) h.0.1 in rw fits (ap Some h.1)
parsed long n (Err e) more h =
    elim (cases_lt n (2 ^ 64)) [
      | inl lt ↦ absurd (h (more, lt))
      | inr le ↦ let past : ltb n (2 ^ 64) ≡ false = le-ltb n (2 ^ 64) le in rw past refl
    ]

-- what std's reader of numbers gives
pub parse_gives_the_number : {E : Type 0} (word : List ℕ) (r : Result ℕ E) → is_number word ≡ true → ParsesUnsigned 64 10 word r → result_ok r ≡ number_in word
unfolding number_in
parse_gives_the_number word r e h =
    rw e (parsed (0 < length word) (digits_value 10 word) r (number_is_not_empty word e) (parse_digits decimals 64 word r h (number_is_digits word e)))

-- ---- a word that is read as a number is what is written of it, and what is written is read

no_leading_zero : (word : List ℕ) → is_number word ≡ true → get_or word 0 0 ≡ 48 → length word ≡ 1
no_leading_zero [] e begins = absurd cc
no_leading_zero (d ∷ []) e begins = refl
no_leading_zero (d ∷ c ∷ ds) e begins =
    let parts = and_parts (not (eqb d 48)) (all_ascii_digits (d ∷ c ∷ ds)) e in
    absurd (eqb-false d 48 (not-true (eqb d 48) parts.0) begins)

is_number_of_digits : (word : List ℕ) → Digits word → 0 < length word → (get_or word 0 0 ≡ 48 → length word ≡ 1) → is_number word ≡ true
is_number_of_digits [] digits some begins = absurd (omega (arith, some))
is_number_of_digits (d ∷ []) digits some begins = digits
is_number_of_digits (d ∷ c ∷ ds) digits some begins =
    and_from (not (eqb d 48)) (all_ascii_digits (d ∷ c ∷ ds)) (ap not (ne_eqb d 48 (λ e. omega (arith, begins e)))) digits

below_is : (limit n m : ℕ) → below limit n ≡ Some m → (n ≡ m) × (n < limit)
below_is limit n m e = elim (cases_lt n limit) [
  | inl lt ↦ let there : ltb n limit ≡ true = lt-ltb n limit lt in let is : Some n ≡ Some m = rw there at e in (cc, lt)
  | inr le ↦ let past : ltb n limit ≡ false = le-ltb n limit le in let none : None ≡ Some m = rw past at e in absurd cc
]

chosen : (t : Bool) (x : Option ℕ) (n : ℕ) → cond t x None ≡ Some n → (t ≡ true) × (x ≡ Some n)
chosen true x n e = (refl, e)
chosen false x n e = absurd cc

-- a word that is read as a number is the decimal text of this number, which has 64 bits
pub number_is_written : (word : List ℕ) (n : ℕ) → number_in word ≡ Some n → (word ≡ decimal n) × (n < 2 ^ 64)
unfolding number_in
number_is_written word n e =
    let one = chosen (is_number word) (below (2 ^ 64) (digits_value 10 word)) n e in
    let is = below_is (2 ^ 64) (digits_value 10 word) n one.1 in
    let written = decimal-digits_value decimals word (number_is_digits word one.0) (number_is_not_empty word one.0) (no_leading_zero word one.0) is.1 in
    (sym written ∙ ap decimal is.0, omega (arith, is.0, is.1))

first_is_no_zero : (n : ℕ) → n < 2 ^ 64 → get_or (decimal n) 0 0 ≡ 48 → length (decimal n) ≡ 1
first_is_no_zero n fits begins = elim (cases_lt 0 n) [
  | inl some ↦ absurd (omega (arith, first_decimal n some fits, begins))
  | inr none ↦ let is : n ≡ 0 = omega arith in rw is (ap length (decimal_digit 0 (omega arith)))
]

-- the decimal text of a number of 64 bits has digits alone and no leading zero
pub written_is_number : (n : ℕ) → n < 2 ^ 64 → is_number (decimal n) ≡ true
written_is_number n fits = is_number_of_digits (decimal n) (digits_decimal decimals n fits) (decimal_nonempty n fits) (first_is_no_zero n fits)

-- the decimal text of a number of 64 bits is read as this number
pub written_is_read : (n : ℕ) → n < 2 ^ 64 → number_in (decimal n) ≡ Some n
unfolding number_in
written_is_read n fits =
    let one : is_number (decimal n) ≡ true = written_is_number n fits in
    let value : digits_value 10 (decimal n) ≡ n = digits_value-decimal decimals n fits in
    let there : ltb n (2 ^ 64) ≡ true = lt-ltb n (2 ^ 64) fits in
    rw (one, value, there) refl

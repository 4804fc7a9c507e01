-- Laws of the numbers of words.
use Rattle.std.proofs.Common.{◌≡◌, ℕ, ◌^◌, ◌<◌, Bool, true, false, leb, ◌&&◌, List, [], ◌∷◌, length, Some, None, Result, Err, cond}
use Rattle.std.proofs.Common.{refl, sym, subst, arith, inl, inr}
use Rattle.std.specs.Result.{OkIff}
use Rattle.std.specs.Char.{is_ascii_digit}
use Rattle.std.specs.List.{list_all}
use Rattle.std.specs.Str.{all_ascii_digits}
use Rattle.std.specs.Str.Parse.{digits_value, ParsesUnsigned}
use Rattle.std.proofs.lemmas.Bool.{cases_lt, lt-leb, and_parts}
use Rattle.std.proofs.lemmas.Str.Parse.{IsNumeralModel, numerals_by_value, tells_all_ascii_digits, parse_digits}
use Rattle.st_words.specs.Numbers.{is_numeral, number_in, within}

abbrev Digits : List ℕ → Type 0
Digits ds = all_ascii_digits ds ≡ true

decimals : IsNumeralModel Digits (digits_value 10)
decimals = numerals_by_value Digits tells_all_ascii_digits

numeral_is_not_empty : (word : List ℕ) → is_numeral word ≡ true → 0 < length word
numeral_is_not_empty [] e = absurd cc
numeral_is_not_empty (d ∷ ds) e = omega arith

numeral_is_digits : (word : List ℕ) → is_numeral word ≡ true → Digits word
numeral_is_digits word e = (and_parts (leb (length word) 20) (list_all is_ascii_digit word) (and_parts (leb 1 (length word)) _ e).1).1

-- what std's reader of numbers gives for a numeral
pub parse_of_numeral : {E : Type 0} (word : List ℕ) (r : Result ℕ E) → is_numeral word ≡ true → ParsesUnsigned 64 10 word r
    → OkIff r ((0 < length word) × (digits_value 10 word < 2 ^ 64)) (digits_value 10 word)
parse_of_numeral word r e h = parse_digits decimals 64 word r h (numeral_is_digits word e)

-- a number above the range is not within it
above_range : (least most n : ℕ) → most < n → within least most n ≡ None
above_range least most n past = go (leb least n) (leb n most) (lt-leb n most past)
  where
    go : (low high : Bool) → high ≡ false → cond (low && high) (Some n) None ≡ None
    go true high e = rw e refl
    go false high e = refl

-- a numeral that std does not read tells a number above the range
pub numeral_refused : {E : Type 0} (least most : ℕ) (word : List ℕ) (r : Result ℕ E) (e : E) → most < 2 ^ 64 → is_numeral word ≡ true → ParsesUnsigned 64 10 word r → r ≡ Err e
    → None ≡ number_in least most word
numeral_refused {E} least most word r e fits one h is =
    let read : ¬ ((0 < length word) × (digits_value 10 word < 2 ^ 64)) =
    subst (λ (q : Result ℕ E). OkIff q ((0 < length word) × (digits_value 10 word < 2 ^ 64)) (digits_value 10 word)) is (parse_of_numeral word r one h) in
    elim (cases_lt (digits_value 10 word) (2 ^ 64)) [
      | inl lt ↦ absurd (read (numeral_is_not_empty word one, lt))
      | inr le ↦ rw one (sym (above_range least most (digits_value 10 word) (omega (arith, fits, le))))
    ]

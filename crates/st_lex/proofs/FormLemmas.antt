-- The bytes of a token have one kind, and none begins with a blank.
use Rattle.std.proofs.Common.{◌≡◌, ℕ, ◌<◌, Bool, true, false, ◌&&◌, ◌||◌, List, [], ◌∷◌, refl, arith}
use Rattle.std.specs.List.{list_all}
use Rattle.std.proofs.lemmas.Bool.{true≢false, false≢true, and_parts}
use Rattle.std.proofs.lemmas.Bool.Decides.{nat_tests}
use Rattle.st_lex.specs.Terms.{TokenKind, Word, Key, Number, Mark, LARGEST_NUMBER}
use Rattle.st_lex.specs.Bytes.{is_blank, is_letter, is_digit, is_name_byte}
use Rattle.st_lex.specs.Spellings.{is_name, is_keyword, is_number, decimal, is_mark, is_spelling, HasForm}
use Rattle.st_lex.proofs.Runs.{false_where_not_true}
use Rattle.st_lex.proofs.Tables.{is_other, single_no, double_no}
use Rattle.st_lex.proofs.PieceLemmas.{letter_apart, letter_other, digit_other, blank_other}

clash : (b : Bool) → b ≡ true → b ≡ false → ⊥
clash b yes_ no_ = true≢false (rw (← yes_) no_)

-- a byte that is no mark's begins none
not_mark : (b : ℕ) (bytes : List ℕ) → is_other b ≡ true → is_mark (b ∷ bytes) ≡ false
not_mark b [] h = single_no b h
not_mark b (c ∷ []) h = double_no b c h
not_mark b (c ∷ d ∷ bytes) h = refl

name_not_number : (bytes : List ℕ) → is_name bytes ≡ true → is_number bytes ≡ true → ⊥
name_not_number [] name number = false≢true name
name_not_number (b ∷ bytes) name number =
    clash (is_digit b) (and_parts _ _ number).0 (letter_apart b (and_parts _ _ name).0).0

name_not_mark : (bytes : List ℕ) → is_name bytes ≡ true → is_mark bytes ≡ true → ⊥
name_not_mark [] name mark = false≢true name
name_not_mark (b ∷ bytes) name mark = clash (is_mark (b ∷ bytes)) mark (not_mark b bytes (letter_other b (and_parts _ _ name).0))

number_not_mark : (bytes : List ℕ) → is_number bytes ≡ true → is_mark bytes ≡ true → ⊥
number_not_mark [] number mark = false≢true number
number_not_mark (b ∷ bytes) number mark = clash (is_mark (b ∷ bytes)) mark (not_mark b bytes (digit_other b (and_parts _ _ number).0))

-- bytes have one kind
pub one_kind : (k l : TokenKind) (bytes : List ℕ) → HasForm k bytes → HasForm l bytes → k ≡ l
one_kind Word Word bytes a b = refl
one_kind Word Key bytes a b = absurd (clash (is_keyword bytes) b.1 a.1)
one_kind Word (Number n) bytes a b = absurd (name_not_number bytes a.0 b.0)
one_kind Word Mark bytes a b = absurd (name_not_mark bytes a.0 b)
one_kind Key Word bytes a b = absurd (clash (is_keyword bytes) a.1 b.1)
one_kind Key Key bytes a b = refl
one_kind Key (Number n) bytes a b = absurd (name_not_number bytes a.0 b.0)
one_kind Key Mark bytes a b = absurd (name_not_mark bytes a.0 b)
one_kind (Number m) Word bytes a b = absurd (name_not_number bytes b.0 a.0)
one_kind (Number m) Key bytes a b = absurd (name_not_number bytes b.0 a.0)
one_kind (Number m) (Number n) bytes a b = let left = a.1 in let right = b.1 in cc
one_kind (Number m) Mark bytes a b = absurd (number_not_mark bytes a.0 b)
one_kind Mark Word bytes a b = absurd (name_not_mark bytes b.0 a)
one_kind Mark Key bytes a b = absurd (name_not_mark bytes b.0 a)
one_kind Mark (Number n) bytes a b = absurd (number_not_mark bytes b.0 a)
one_kind Mark Mark bytes a b = refl

-- a number is spelled as a token
pub number_spelled : (bytes : List ℕ) → is_number bytes ≡ true → is_spelling bytes ≡ true
unfolding is_spelling
number_spelled bytes number = elim (is_name bytes) as (λ t. (t || is_number bytes || is_mark bytes) ≡ true) [
  | true ↦ refl
  | false ↦ rw number refl
]

-- what has a form is spelled as a token
pub spelled : (k : TokenKind) (bytes : List ℕ) → HasForm k bytes → is_spelling bytes ≡ true
unfolding is_spelling
spelled Word bytes a = rw a.0 refl
spelled Key bytes a = rw a.0 refl
spelled (Number n) bytes a = number_spelled bytes a.0
spelled Mark bytes a = elim (is_name bytes) as (λ t. (t || is_number bytes || is_mark bytes) ≡ true) [
  | true ↦ refl
  | false ↦ elim (is_number bytes) as (λ t. (t || is_mark bytes) ≡ true) [ true ↦ refl | false ↦ a ]
]

-- a number above the largest is no token
pub no_long_token : (k : TokenKind) (bytes : List ℕ) → is_number bytes ≡ true → LARGEST_NUMBER < decimal bytes → HasForm k bytes
    → ⊥
no_long_token Word bytes number above a = name_not_number bytes a.0 number
no_long_token Key bytes number above a = name_not_number bytes a.0 number
no_long_token (Number n) bytes number above a = let fits = a.2 in omega arith
no_long_token Mark bytes number above a = number_not_mark bytes number a

blank_apart : (b : ℕ) → is_blank b ≡ true → (is_letter b ≡ false) × (is_digit b ≡ false)
blank_apart b h = (grind (arith, nat_tests), grind (arith, nat_tests))

-- no token begins with a blank
pub spelled_no_blank : (b : ℕ) (bytes : List ℕ) → is_spelling (b ∷ bytes) ≡ true → is_blank b ≡ false
unfolding is_spelling
spelled_no_blank b bytes h = false_where_not_true (is_blank b) (λ blank. let apart = blank_apart b blank in
    let none : (is_letter b && list_all is_name_byte bytes || is_digit b && list_all is_digit bytes || is_mark (b ∷ bytes)) ≡ false =
    rw (apart.0, apart.1, not_mark b bytes (blank_other b blank)) refl in
    true≢false (rw (← h) none))

-- Which bytes are a name, a keyword, a number or a mark.
use Rattle.std.specs.Prelude.{◌≡◌, ℕ, ◌+◌, ◌-◌, ◌*◌, ◌≤◌, Bool, false, IsTrue, IsFalse, ◌&&◌, ◌||◌, ◌==◌, List, [], ◌∷◌, fold, pos}
use Rattle.std.specs.List.{list_any, list_all}
use Rattle.std.specs.Str.{bytes_eq}
use Rattle.st_lex.specs.Terms.{TokenKind, Word, Key, Number, Mark, LARGEST_NUMBER}
use Rattle.st_lex.specs.declared.words.TheConstants.{KEYWORDS, SINGLE_MARKS, DOUBLE_MARKS}
use Rattle.st_lex.specs.Bytes.{is_letter, is_digit, is_name_byte}

-- a letter or `_`, then letters, digits or `_`; keywords are spelled so, too
abbrev pub is_name : List ℕ → Bool
is_name [] = false
is_name (b ∷ bs) = is_letter b && list_all is_name_byte bs

-- one of the keywords
unfoldable pub is_keyword : List ℕ → Bool
is_keyword bytes = list_any (λ k. bytes_eq k.now bytes) KEYWORDS

-- one decimal digit or more
abbrev pub is_number : List ℕ → Bool
is_number [] = false
is_number (b ∷ bs) = is_digit b && list_all is_digit bs

-- the value of decimal digits
abbrev pub decimal : List ℕ → ℕ
decimal digits = fold (λ value digit. 10 * value + (digit - 48)) 0 digits

-- one of the marks of one byte
unfoldable pub is_single_mark : ℕ → Bool
is_single_mark b = list_any (λ m. m == b) SINGLE_MARKS

-- one of the marks of two bytes
unfoldable pub is_double_mark : ℕ → ℕ → Bool
is_double_mark a b = list_any (λ m. bytes_eq m (a ∷ b ∷ [])) DOUBLE_MARKS

-- a mark, of one byte or two
abbrev pub is_mark : List ℕ → Bool
is_mark [] = false
is_mark (a ∷ []) = is_single_mark a
is_mark (a ∷ b ∷ []) = is_double_mark a b
is_mark (a ∷ b ∷ c ∷ bs) = false

-- spelled as a token; the value of a number is not looked at
unfoldable pub is_spelling : List ℕ → Bool
is_spelling bytes = is_name bytes || is_number bytes || is_mark bytes

-- the bytes are a token of the kind
abbrev pub HasForm : TokenKind → List ℕ → Type 0
HasForm Word bytes = IsTrue (is_name bytes) × IsFalse (is_keyword bytes)
HasForm Key bytes = IsTrue (is_name bytes) × IsTrue (is_keyword bytes)
HasForm (Number value) bytes = IsTrue (is_number bytes) × (value ≡ pos (decimal bytes)) × (decimal bytes ≤ LARGEST_NUMBER)
HasForm Mark bytes = IsTrue (is_mark bytes)

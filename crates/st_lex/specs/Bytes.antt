-- The classes of bytes.
use Rattle.std.specs.Prelude.{ℕ, Bool, false, not, ◌&&◌, ◌||◌, ◌==◌, List, [], ◌∷◌}
use Rattle.std.specs.Char.{is_ascii_alphabetic, is_ascii_digit}

-- a line ends with byte 10
abbrev pub is_newline : ℕ → Bool
is_newline b = b == 10

-- a tab, a newline, a carriage return or a space
abbrev pub is_blank : ℕ → Bool
is_blank b = b == 9 || b == 10 || b == 13 || b == 32

-- a letter of ASCII, or `_`
abbrev pub is_letter : ℕ → Bool
is_letter b = is_ascii_alphabetic b || b == 95

-- a decimal digit
abbrev pub is_digit : ℕ → Bool
is_digit b = is_ascii_digit b

-- what a name may go on with
abbrev pub is_name_byte : ℕ → Bool
is_name_byte b = is_letter b || is_digit b

-- a comment goes on with every byte but a newline
abbrev pub is_comment_byte : ℕ → Bool
is_comment_byte b = not (is_newline b)

-- the text begins with `//`
abbrev pub opens_comment : List ℕ → Bool
opens_comment [] = false
opens_comment (a ∷ []) = false
opens_comment (a ∷ b ∷ z) = a == 47 && b == 47

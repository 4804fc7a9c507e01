-- Keywords and marks by name, and short texts read by computation. Code and definitions take the same tables: without these
-- lines a changed one would change both, and no proof would tell.
use Rattle.std.proofs.Common.{◌≡◌, [], ◌∷◌, map, refl, pos}
use Rattle.std.specs.Prelude.{Ok, Err, codes}
use Rattle.st_lex.specs.declared.words.TheConstants.{KEYWORDS, SINGLE_MARKS, DOUBLE_MARKS}
use Rattle.st_lex.specs.Terms.{Word, Key, Number}
use Rattle.st_lex.specs.Terms.fault
use Rattle.st_lex.specs.Reading.{front_piece, token_piece, read_tokens}
use Rattle.st_lex.specs.Places.{line_at, column_at}
use Rattle.st_lex.specs.Spellings.{is_keyword, is_single_mark, is_double_mark}

-- the keywords, by name
keywords : map (λ k. k.now) KEYWORDS
    ≡ codes "class" ∷ codes "shared" ∷ codes "pred" ∷ codes "proc" ∷ codes "thread" ∷ codes "var" ∷ codes "if" ∷ codes "else"
    ∷ codes "while" ∷ codes "check" ∷ codes "new" ∷ codes "cas" ∷ codes "null" ∷ codes "true" ∷ codes "false" ∷ codes "int"
    ∷ codes "bool" ∷ codes "mark" ∷ codes "old" ∷ codes "lock" ∷ codes "set" ∷ codes "array" ∷ []
keywords = refl

-- the marks of one byte, and those of two
single_marks : SINGLE_MARKS ≡ codes "{}();:,.=<>+-*/%!?"
single_marks = refl

double_marks : DOUBLE_MARKS ≡ codes "==" ∷ codes "!=" ∷ codes "<=" ∷ codes ">=" ∷ codes "&&" ∷ codes "||" ∷ []
double_marks = refl

-- the longest token is taken: `12ab` is a number and a name
longest : read_tokens (codes "12ab")
    ≡ Ok (record { kind = Number (pos 12); start = 0; end = 2; site = record { line = 1; column = 1 } }
    ∷ record { kind = Word; start = 2; end = 4; site = record { line = 1; column = 3 } } ∷ [])
unfolding read_tokens front_piece token_piece line_at column_at is_keyword is_single_mark is_double_mark
longest = refl

-- a keyword on the second line, after a comment
second_line : read_tokens (codes "//x\n if")
    ≡ Ok (record { kind = Key; start = 5; end = 7; site = record { line = 2; column = 2 } } ∷ [])
unfolding read_tokens front_piece token_piece line_at column_at is_keyword is_single_mark is_double_mark
second_line = refl

-- a single `&` is a bad byte
bad_byte : read_tokens (codes "a & b") ≡ Err (record { offset = 2; fault = fault.BadByte })
unfolding read_tokens front_piece token_piece line_at column_at is_keyword is_single_mark is_double_mark
bad_byte = refl

-- the largest number is a token, and one more is a long number
largest : read_tokens (codes "9223372036854775807")
    ≡ Ok (record { kind = Number (pos 9223372036854775807); start = 0; end = 19; site = record { line = 1; column = 1 } } ∷ [])
unfolding read_tokens front_piece token_piece line_at column_at is_keyword is_single_mark is_double_mark
largest = refl

long_number : read_tokens (codes " 9223372036854775808") ≡ Err (record { offset = 1; fault = fault.LongNumber })
unfolding read_tokens front_piece token_piece line_at column_at is_keyword is_single_mark is_double_mark
long_number = refl

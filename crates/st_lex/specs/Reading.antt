-- Reading a text from the front, piece by piece. `proofs/Exact.antt` shows that this reads what `Tokens` defines.
use Rattle.std.specs.Prelude.{◌≡◌, ℕ, zero, suc, ◌+◌, ◌-◌, if◌then◌else◌, nat_le, List, [], ◌∷◌, length, take, slice_index, pos, Result, Ok, Err}
use Rattle.std.specs.List.{prefix_len}
use Rattle.st_lex.specs.Terms.{Token, TokenKind, Fault, LexError, Piece, LARGEST_NUMBER}
use Rattle.st_lex.specs.Terms.error
use Rattle.st_lex.specs.Terms.fault
use Rattle.st_lex.specs.Terms.kind
use Rattle.st_lex.specs.Terms.piece
use Rattle.st_lex.specs.Bytes.{is_newline, is_blank, is_letter, is_digit, is_name_byte, is_comment_byte, opens_comment}
use Rattle.st_lex.specs.Places.{place_at}
use Rattle.st_lex.specs.Spellings.{is_keyword, decimal, is_single_mark, is_double_mark}

-- where the reading stops: the first offset at which no token stands, with its fault
pub record Stop : Type 0 where
  pub offset : ℕ
  pub fault : Fault

-- the keyword or name of these bytes
abbrev pub word_piece : List ℕ → Piece
word_piece bytes = piece.Found (if is_keyword bytes then kind.Key else kind.Word) (length bytes)

-- the number of these digits, or that it is too large
abbrev pub number_piece : List ℕ → Piece
number_piece digits =
    if nat_le (decimal digits) LARGEST_NUMBER then piece.Found (kind.Number (pos (decimal digits))) (length digits)
    else piece.Wrong fault.LongNumber

-- the mark at the front, of two bytes where it can be
abbrev pub mark_piece : List ℕ → Piece
mark_piece [] = piece.Wrong fault.BadByte
mark_piece (a ∷ []) = if is_single_mark a then piece.Found kind.Mark 1 else piece.Wrong fault.BadByte
mark_piece (a ∷ b ∷ z) =
    if is_double_mark a b then piece.Found kind.Mark 2
    else (if is_single_mark a then piece.Found kind.Mark 1 else piece.Wrong fault.BadByte)

-- the token at the front of a text, where no blank and no comment stands there
unfoldable pub token_piece : List ℕ → Piece
token_piece z =
    if is_letter (slice_index z 0) then word_piece (take (prefix_len is_name_byte z) z)
    else (if is_digit (slice_index z 0) then number_piece (take (prefix_len is_digit z) z)
    else mark_piece z)

-- what stands at the front of a text that is not empty
unfoldable pub front_piece : List ℕ → Piece
front_piece z =
    if is_newline (slice_index z 0) then piece.Newline
    else (if is_blank (slice_index z 0) then piece.Gap 1
    else (if opens_comment z then piece.Gap (prefix_len is_comment_byte z)
    else token_piece z))

-- the token of a kind, of so many bytes from an offset on
abbrev pub token_at : (text : List ℕ) (offset : ℕ) (kind : TokenKind) (len : ℕ) → Token
token_at text offset kind len = record { kind = kind; start = offset; end = offset + len; site = place_at text offset }

-- a token before what is read, if the reading does not stop
abbrev pub with_first : Token → Result (List Token) Stop → Result (List Token) Stop
with_first token (Ok tokens) = Ok (token ∷ tokens)
with_first token (Err stop) = Err stop

-- what is read from an offset on where the piece stands there, given what is read after so many bytes
abbrev pub reads_on : List ℕ → ℕ → Piece → (ℕ → Result (List Token) Stop) → Result (List Token) Stop
reads_on text offset piece.Newline after = after 1
reads_on text offset (piece.Gap len) after = after len
reads_on text offset (piece.Found kind len) after = with_first (token_at text offset kind len) (after len)
reads_on text offset (piece.Wrong fault) after = Err (record { offset = offset; fault = fault })

-- the tokens of the rest of a text, which begins at an offset; the first number counts the bytes of a piece that are left
abbrev pub read_rest : List ℕ → ℕ → ℕ → List ℕ → Result (List Token) Stop
read_rest text left offset [] = Ok []
read_rest text (suc left) offset (b ∷ z) = read_rest text left (offset + 1) z
read_rest text zero offset (b ∷ z) =
    reads_on text offset (front_piece (b ∷ z)) (λ len. read_rest text (len - 1) (offset + 1) z)

-- the tokens of a text, or where the reading stops
unfoldable pub read_tokens : List ℕ → Result (List Token) Stop
read_tokens text = read_rest text 0 0 text

-- an error other than want of memory tells where the reading stopped
abbrev pub TellsStop : List ℕ → LexError → Result (List Token) Stop → Type 0
TellsStop text error.Memory read = Unit {0}
TellsStop text (error.BadByte at) read = (offset : ℕ)
    × (read ≡ Err (record { offset = offset; fault = fault.BadByte })) × (at ≡ place_at text offset)
TellsStop text (error.LongNumber at) read = (offset : ℕ)
    × (read ≡ Err (record { offset = offset; fault = fault.LongNumber })) × (at ≡ place_at text offset)

-- the answer, seen by `view`, is what is read, unless memory ran out
abbrev pub GivesRead : {X : Type 0} → (X → List Token) → List ℕ → Result X LexError → Result (List Token) Stop → Type 0
GivesRead view text (Ok x) read = read ≡ Ok (view x)
GivesRead view text (Err e) read = TellsStop text e read

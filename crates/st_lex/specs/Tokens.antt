-- The tokens of a text, and the first fault of one. An offset is the number of bytes before it, and a gap is what stands between tokens.
use Rattle.std.specs.Prelude.{◌≡◌, ℕ, ◌<◌, ◌≤◌, IsTrue, IsFalse, ◌⊎◌, List, [], ◌∷◌, length, drop, slice_index, slice_range}
use Rattle.std.specs.List.{AllByRecursion}
use Rattle.st_lex.specs.Terms.{Token, Fault, LARGEST_NUMBER}
use Rattle.st_lex.specs.Terms.fault
use Rattle.st_lex.specs.Bytes.{is_newline, is_blank, opens_comment}
use Rattle.st_lex.specs.Places.{place_at}
use Rattle.st_lex.specs.Spellings.{is_number, is_spelling, decimal, HasForm}

-- a token is its slice of the text
abbrev pub text_of : List ℕ → Token → List ℕ
text_of text token = slice_range text token.start token.end

-- the offset is in a comment that begins at `from` or later: `//`, and no newline from there up to and with the offset
pub record InComment (text : List ℕ) (from offset : ℕ) : Type 0 where
  pub start : ℕ
  pub after : from ≤ start
  pub before : start ≤ offset
  pub opens : IsTrue (opens_comment (drop start text))
  pub open_still : (k : ℕ) → start ≤ k → k ≤ offset → IsFalse (is_newline (slice_index text k))

-- between two offsets stand only blanks and comments, and the last comment ends with a newline or the text
pub record IsGap (text : List ℕ) (from to : ℕ) : Type 0 where
  pub forward : from ≤ to
  pub within : to ≤ length text
  pub filled : (offset : ℕ) → from ≤ offset → offset < to
      → IsTrue (is_blank (slice_index text offset)) ⊎ InComment text from offset
  pub closed : to < length text → InComment text from to → ⊥

-- no longer slice from the start is spelled as a token
abbrev pub IsLongest : List ℕ → ℕ → ℕ → Type 0
IsLongest text start end = (more : ℕ) → end < more → more ≤ length text → IsFalse (is_spelling (slice_range text start more))

-- the token stands in the text: its bytes have the form of its kind, and cannot be made longer
pub record IsToken (text : List ℕ) (token : Token) : Type 0 where
  pub forward : token.start < token.end
  pub within : token.end ≤ length text
  pub form : HasForm token.kind (text_of text token)
  pub longest : IsLongest text token.start token.end
  pub site : token.site ≡ place_at text token.start

-- from an offset up to another only blanks and comments stand before, between and after the tokens, which are in order
abbrev pub AreTokensApart : List ℕ → ℕ → List Token → ℕ → Type 0
AreTokensApart text from [] to = IsGap text from to
AreTokensApart text from (token ∷ tokens) to = IsGap text from token.start × AreTokensApart text token.end tokens to

-- up to an offset the text is these tokens
pub record Spells (text : List ℕ) (tokens : List Token) (to : ℕ) : Type 0 where
  pub each : AllByRecursion (IsToken text) tokens
  pub apart : AreTokensApart text 0 tokens to

-- these are the tokens of the text
abbrev pub IsTokensOf : List ℕ → List Token → Type 0
IsTokensOf text tokens = Spells text tokens (length text)

-- a byte that is no blank, and with which no token begins; a single `&` or `|` is one
pub record IsBadByte (text : List ℕ) (offset : ℕ) : Type 0 where
  pub within : offset < length text
  pub no_blank : IsFalse (is_blank (slice_index text offset))
  pub no_token : IsLongest text offset offset

-- a number above the largest
pub record IsLongNumber (text : List ℕ) (offset : ℕ) : Type 0 where
  pub end : ℕ
  pub forward : offset < end
  pub within : end ≤ length text
  pub digits : IsTrue (is_number (slice_range text offset end))
  pub longest : IsLongest text offset end
  pub above : LARGEST_NUMBER < decimal (slice_range text offset end)

-- the offset has this fault
abbrev pub HasFault : List ℕ → ℕ → Fault → Type 0
HasFault text offset fault.BadByte = IsBadByte text offset
HasFault text offset fault.LongNumber = IsLongNumber text offset

-- the first offset at which no token stands, and its fault: up to there the text is tokens
pub record IsFaultOf (text : List ℕ) (offset : ℕ) (fault : Fault) : Type 0 where
  pub before : List Token
  pub spelled : Spells text before offset
  pub here : HasFault text offset fault

-- What an error of `tokens` tells.
use Rattle.std.specs.Prelude.{◌≡◌, ℕ, List}
use Rattle.st_lex.specs.Terms.{Site, Fault, LexError}
use Rattle.st_lex.specs.Terms.error
use Rattle.st_lex.specs.Terms.fault
use Rattle.st_lex.specs.Places.{place_at}
use Rattle.st_lex.specs.Tokens.{IsFaultOf}

-- the error that tells the fault at a place
abbrev pub error_at : Fault → Site → LexError
error_at fault.BadByte place = error.BadByte place
error_at fault.LongNumber place = error.LongNumber place

-- the place is that of the first offset at which no token stands, and there is this fault
pub record StopsAt (text : List ℕ) (fault : Fault) (at : Site) : Type 0 where
  pub offset : ℕ
  pub first : IsFaultOf text offset fault
  pub place : at ≡ place_at text offset

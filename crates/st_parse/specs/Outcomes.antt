-- What `parse` answers.
use Rattle.std.specs.Prelude.{◌≡◌, ℕ, ◌+◌, if◌then◌else◌, List, [], ◌∷◌, length, Option, Some, None, Result, Ok, Err}
use Rattle.st_events.specs.declared.events.Site.{Site}
use Rattle.st_ast.specs.declared.declarations.Program.{Program}
use Rattle.st_lex.specs.declared.kinds.Token.{Token}
use Rattle.st_lex.specs.Bytes.{is_newline}
use Rattle.st_lex.specs.Places.{place_at}
use Rattle.st_parse.specs.declared.errors.ParseError.{ParseError}
use Rattle.st_parse.specs.declared.errors.ParseError.TheVariants as error
use Rattle.st_grammar.specs.declared.counts.What.{What}
use Rattle.st_grammar.specs.declared.token_limits.Over.{Over}
use Rattle.st_grammar.specs.declared.token_limits.Over.TheVariants as over
use Rattle.st_grammar.specs.Counts.{IsWithinCounts, IsFirstExcess, items_of, first_excess}
use Rattle.st_grammar.specs.FirstFault.{IsUnexpected}
use Rattle.st_grammar.specs.Grammar.{Parses}
use Rattle.st_grammar_laws.specs.Reading.{Outcome, program}
use Rattle.st_grammar.specs.Terminals.{Terminal, terminals_of}
use Rattle.st_grammar.specs.TokenLimits.{IsWithinTokenLimits, first_over}

-- the tokens of the text spell this program, and nothing is above a limit
pub record IsProgramOf (text : List ℕ) (tokens : List Token) (p : Program) : Type 0 where
  pub spelled : Parses (terminals_of text tokens) p
  pub few_tokens : IsWithinTokenLimits (terminals_of text tokens)
  pub few_items : IsWithinCounts p

-- no token is above a limit, and here the text goes wrong first
pub record StopsUnexpected (text : List ℕ) (tokens : List Token) (at : Site) : Type 0 where
  pub few_tokens : IsWithinTokenLimits (terminals_of text tokens)
  pub unexpected : IsUnexpected text tokens at

-- the tokens of the text spell a program, no token is above a limit, and this is the first of the program that is above one
pub record HasTooMany (text : List ℕ) (tokens : List Token) (what : What) (at : Site) : Type 0 where
  pub tree : Program
  pub spelled : Parses (terminals_of text tokens) tree
  pub few_tokens : IsWithinTokenLimits (terminals_of text tokens)
  pub first : IsFirstExcess tree what at

-- the error that tells what a token is above
abbrev pub error_of : Over → Site → ParseError
error_of over.Deep at = error.TooDeep at
error_of over.Long at = error.TooLong at

-- the place after a byte that stands at a place
abbrev pub place_after : Site → ℕ → Site
place_after place byte =
    if is_newline byte then record { line = place.line + 1; column = 1 } else record { line = place.line; column = place.column + 1 }

-- the place of the first of the terminals that are left, or after the last byte of the text
abbrev pub place_of : List ℕ → List Terminal → Site
place_of text [] = place_at text (length text)
place_of text (t ∷ ts) = t.site

-- the answer about a program by what is the first in it above its limit, if anything is
abbrev pub counted_by : Program → Option (What × Site) → Result Program ParseError
counted_by p None = Ok p
counted_by p (Some excess) = Err (error.TooMany excess.0 excess.1)

-- the program, where nothing in it is above its limit
unfoldable pub counted : Program → Result Program ParseError
counted p = counted_by p (first_excess (items_of p))

-- the answer by what was read: the program, or the place of the first terminal that is left
abbrev pub read_by : List ℕ → Outcome Program → Result Program ParseError
read_by text (Ok p) = Ok p.0
read_by text (Err left) = Err (error.Unexpected (place_of text left))

-- the program that is read, whatever is in it
unfoldable pub read : List ℕ → List Terminal → Result Program ParseError
read text ts = read_by text (program ts)

-- a program that was read is then counted; an error stays
abbrev pub then_counted : Result Program ParseError → Result Program ParseError
then_counted (Ok p) = counted p
then_counted (Err why) = Err why

-- the answer by what is the first token above a limit, if any is: without one the terminals are read and counted
abbrev pub limited_by : List ℕ → List Terminal → Option (Over × Site) → Result Program ParseError
limited_by text ts (Some over) = Err (error_of over.0 over.1)
limited_by text ts None = then_counted (read text ts)

-- the limits on tokens come first, then the grammar, then the counts
unfoldable pub answer : List ℕ → List Terminal → Result Program ParseError
answer text ts = limited_by text ts (first_over ts)

-- the answer is this one, unless memory runs out
abbrev pub IsButForMemory : Result Program ParseError → Result Program ParseError → Type 0
IsButForMemory (Err error.Memory) wanted = Unit {0}
IsButForMemory result wanted = result ≡ wanted

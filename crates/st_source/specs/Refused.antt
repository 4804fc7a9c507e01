-- Why a text is refused: the first stage that it does not pass, with that stage's own first fault.
use Rattle.std.specs.Prelude.{◌≡◌, ℕ, ◌<◌, ◌≤◌, List, ◌∷◌, length}
use Rattle.st_ast.specs.declared.declarations.Program.{Program}
use Rattle.st_lex.specs.declared.errors.Fault.TheVariants as fault
use Rattle.st_lex.specs.declared.kinds.Token.{Token}
use Rattle.st_lex.specs.declared.limits.TheConstants.{MOST_SOURCE_BYTES}
use Rattle.st_lex.specs.Errors.{StopsAt}
use Rattle.st_lex.specs.Tokens.{IsTokensOf}
use Rattle.st_parse.specs.Faults.{HasParseFault}
use Rattle.st_types.specs.Rules.{faults_of}
use Rattle.st_source.specs.Terms.{LexError, ParseError, TypeError, SourceError}
use Rattle.st_source.specs.Terms.lex
use Rattle.st_source.specs.Terms.error
use Rattle.st_source.specs.Accepted.{IsTreeOf}

-- at this place, the first at which no token stands, the text has this fault; want of memory is none
abbrev pub HasLexFault : List ℕ → LexError → Type 0
HasLexFault text lex.Memory = ⊥
HasLexFault text (lex.BadByte at) = StopsAt text fault.BadByte at
HasLexFault text (lex.LongNumber at) = StopsAt text fault.LongNumber at

-- the text is not too long, and has no tokens
pub record HasNoTokens (text : List ℕ) (why : LexError) : Type 0 where
  pub short : length text ≤ MOST_SOURCE_BYTES
  pub fault : HasLexFault text why

-- the text has its tokens, and they have no tree within the limits
pub record HasNoTree (text : List ℕ) (why : ParseError) : Type 0 where
  pub short : length text ≤ MOST_SOURCE_BYTES
  pub tokens : List Token
  pub lexed : IsTokensOf text tokens
  pub fault : HasParseFault text tokens why

-- the text has its tree, and this is the first of the tree's faults in the order of the walk
pub record BreaksRule (text : List ℕ) (why : TypeError) : Type 0 where
  pub tree : Program
  pub spelled : IsTreeOf text tree
  pub later : List TypeError
  pub first : faults_of tree ≡ why ∷ later

-- the text is refused for this, and no text for want of memory
abbrev pub IsRefusedFor : List ℕ → SourceError → Type 0
IsRefusedFor text error.Memory = ⊥
IsRefusedFor text error.TooLong = MOST_SOURCE_BYTES < length text
IsRefusedFor text (error.Lex why) = HasNoTokens text why
IsRefusedFor text (error.Parse why) = HasNoTree text why
IsRefusedFor text (error.Types why) = BreaksRule text why

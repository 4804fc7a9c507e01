-- The fault of tokens that have no tree within the limits.
use Rattle.std.specs.Prelude.{ℕ, List}
use Rattle.st_lex.specs.declared.kinds.Token.{Token}
use Rattle.st_grammar.specs.declared.token_limits.Over.TheVariants as over
use Rattle.st_grammar.specs.Terminals.{terminals_of}
use Rattle.st_grammar.specs.TokenLimits.{IsFirstOver}
use Rattle.st_parse.specs.declared.errors.ParseError.{ParseError}
use Rattle.st_parse.specs.declared.errors.ParseError.TheVariants as parse
use Rattle.st_parse.specs.Outcomes.{StopsUnexpected, HasTooMany}

-- the tokens have this fault, first at this place: limits on tokens, then the grammar, then limits on counts
abbrev pub HasParseFault : List ℕ → List Token → ParseError → Type 0
HasParseFault text tokens parse.Memory = ⊥
HasParseFault text tokens (parse.Unexpected at) = StopsUnexpected text tokens at
HasParseFault text tokens (parse.TooMany what at) = HasTooMany text tokens what at
HasParseFault text tokens (parse.TooDeep at) = IsFirstOver (terminals_of text tokens) over.Deep at
HasParseFault text tokens (parse.TooLong at) = IsFirstOver (terminals_of text tokens) over.Long at

-- Where a cursor stands among the tokens of a text.
use Rattle.std.specs.Prelude.{◌≡◌, ℕ, List, All, drop}
use Rattle.st_lex.specs.declared.kinds.Token.{Token}
use Rattle.st_lex.specs.Tokens.{IsToken}
use Rattle.st_grammar.specs.declared.sorts.Sort.{Sort}
use Rattle.st_grammar.specs.Terminals.{next_sort, terminals_of}

-- so many tokens of the text are taken, and this is the sort of the next
pub record IsPlace (text : List ℕ) (tokens : List Token) (taken : ℕ) (sort : Sort) : Type 0 where
  pub each : All (IsToken text) tokens
  pub next : sort ≡ next_sort (drop taken (terminals_of text tokens))

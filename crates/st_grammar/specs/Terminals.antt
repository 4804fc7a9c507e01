-- What the grammar sees of a token.
use Rattle.std.specs.Prelude.{◌≡◌, ℕ, List, [], ◌∷◌, map, ℤ, pos}
use Rattle.st_events.specs.declared.events.Site.{Site}
use Rattle.st_lex.specs.declared.kinds.Token.{Token}
use Rattle.st_lex.specs.declared.kinds.TokenKind.{TokenKind}
use Rattle.st_lex.specs.declared.kinds.TokenKind.TheVariants as kind
use Rattle.st_lex.specs.Tokens.{text_of}
use Rattle.st_grammar.specs.declared.sorts.Sort.{Sort}
use Rattle.st_grammar.specs.declared.sorts.Sort.TheVariants as sort
use Rattle.st_grammar.specs.Sorts.{sort_of}

-- a token as the grammar sees it: its sort, its bytes, the value of a number, and its place
pub record Terminal : Type 0 where
  pub sort : Sort
  pub bytes : List ℕ
  pub value : ℤ
  pub site : Site

-- the value of a number; of every other token 0
abbrev pub value_of : TokenKind → ℤ
value_of (kind.Number value) = value
value_of _ = pos 0

-- of a token of the text
abbrev pub terminal_of : List ℕ → Token → Terminal
terminal_of text token = record { sort = sort_of token.kind (text_of text token); bytes = text_of text token; value = value_of token.kind; site = token.site }

-- of the tokens of the text
abbrev pub terminals_of : List ℕ → List Token → List Terminal
terminals_of text tokens = map (terminal_of text) tokens

-- the terminal has the sort
pub record Is (sort : Sort) (t : Terminal) : Type 0 where
  pub same : t.sort ≡ sort

-- the sort of the next terminal; at the end, that of a terminal that no rule uses
abbrev pub next_sort : List Terminal → Sort
next_sort [] = sort.Other
next_sort (t ∷ ts) = t.sort

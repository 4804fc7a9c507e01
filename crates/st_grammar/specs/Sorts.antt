-- The sort of a token: what the grammar asks of it.
use Rattle.std.specs.Prelude.{ℕ, Bool, if◌then◌else◌, List, [], ◌∷◌, map}
use Rattle.std.specs.Str.{bytes_eq}
use denote.Enum.Bare.{sameb}
use Rattle.st_lex.specs.declared.kinds.TokenKind.{TokenKind}
use Rattle.st_lex.specs.declared.kinds.TokenKind.TheVariants as kind
use Rattle.st_grammar.specs.declared.sorts.Sort.{Sort}
use Rattle.st_grammar.specs.declared.sorts.Sort.TheVariants as sort
use Rattle.st_grammar.specs.declared.sorts.TheConstants.{KEYWORDS, MARKS}
use Rattle.st_grammar.specs.contracts.sorts.Sort.{the_type}

-- `==` on sorts
unfoldable pub same_sort : Sort → Sort → Bool
same_sort = sameb the_type

-- the sort that a table of words gives these bytes
abbrev pub look_up : List (List ℕ × Sort) → List ℕ → Sort
look_up [] bytes = sort.Other
look_up (word ∷ words) bytes = if bytes_eq word.0 bytes then word.1 else look_up words bytes

-- the keywords that rules use, and the marks, each with its sort
abbrev pub keywords : List (List ℕ × Sort)
keywords = map (λ word. (word.0.now, word.1)) KEYWORDS

-- the marks of one or two bytes, each with its sort
abbrev pub marks : List (List ℕ × Sort)
marks = map (λ word. (word.0.now, word.1)) MARKS

-- the sort of a token of this kind with these bytes
unfoldable pub sort_of : TokenKind → List ℕ → Sort
sort_of kind.Word bytes = sort.Name
sort_of (kind.Number value) bytes = sort.Number
sort_of kind.Key bytes = look_up keywords bytes
sort_of kind.Mark bytes = look_up marks bytes

-- The errors of the stages, as those of a source.
use Rattle.st_source.specs.Terms.{LexError, ParseError, TypeError, SourceError}
use Rattle.st_source.specs.Terms.lex
use Rattle.st_source.specs.Terms.parse
use Rattle.st_source.specs.Terms.types
use Rattle.st_source.specs.Terms.error

-- a text without tokens, as the refusal of a source; want of memory is the source's own
abbrev pub lex_refusal : LexError → SourceError
lex_refusal lex.Memory = error.Memory
lex_refusal why = error.Lex why

-- tokens without a tree, likewise
abbrev pub parse_refusal : ParseError → SourceError
parse_refusal parse.Memory = error.Memory
parse_refusal why = error.Parse why

-- a tree that breaks a rule, likewise
abbrev pub type_refusal : TypeError → SourceError
type_refusal types.Memory = error.Memory
type_refusal why = error.Types why

-- What is written of a text that is refused: one line, with the place and the fault.
use Rattle.std.specs.Prelude.{ℕ, List, ◌++◌, codes}
use Rattle.st_grammar.specs.declared.counts.What.{What}
use Rattle.st_grammar.specs.declared.counts.What.TheVariants as what
use Rattle.st_texts.specs.Texts.{place_text}
use Rattle.st_source.specs.Terms.{LexError, ParseError, TypeError, SourceError}
use Rattle.st_source.specs.Terms.lex
use Rattle.st_source.specs.Terms.parse
use Rattle.st_source.specs.Terms.types
use Rattle.st_source.specs.Terms.error

-- what there is too much of
abbrev pub what_text : What → List ℕ
what_text what.Classes = codes "classes"
what_text what.Fields = codes "fields"
what_text what.Preds = codes "predicates"
what_text what.Procs = codes "procedures"
what_text what.Threads = codes "threads"
what_text what.Params = codes "parameters"
what_text what.Locals = codes "locals"
what_text what.CheckArgs = codes "arguments"
what_text what.Checks = codes "checks"

-- the place of a fault of each stage, and what it is
abbrev pub lex_text : LexError → List ℕ
lex_text lex.Memory = codes "no memory"
lex_text (lex.BadByte at) = place_text at ++ codes " bad byte"
lex_text (lex.LongNumber at) = place_text at ++ codes " long number"

-- of the tree: the place, and what is wrong there or what there is too much of
abbrev pub parse_text : ParseError → List ℕ
parse_text parse.Memory = codes "no memory"
parse_text (parse.Unexpected at) = place_text at ++ codes " unexpected"
parse_text (parse.TooMany what at) = place_text at ++ (codes " too many " ++ what_text what)
parse_text (parse.TooDeep at) = place_text at ++ codes " too deep"
parse_text (parse.TooLong at) = place_text at ++ codes " too long"

-- of types: the place, and the rule that is broken there
abbrev pub type_text : TypeError → List ℕ
type_text types.Memory = codes "no memory"
type_text (types.UnknownName at) = place_text at ++ codes " unknown name"
type_text (types.Twice at) = place_text at ++ codes " declared twice"
type_text (types.Mismatch at wanted found) = place_text at ++ codes " mismatch"
type_text (types.WrongCount at) = place_text at ++ codes " wrong count"
type_text (types.NotPure at) = place_text at ++ codes " not pure"
type_text (types.NotHere at) = place_text at ++ codes " not here"

-- of each stage
abbrev pub refusal_text : SourceError → List ℕ
refusal_text error.Memory = codes "no memory"
refusal_text error.TooLong = codes "source too long"
refusal_text (error.Lex why) = lex_text why
refusal_text (error.Parse why) = parse_text why
refusal_text (error.Types why) = type_text why

-- and its line
unfoldable pub refusal_line : SourceError → List ℕ
refusal_line why = refusal_text why ++ codes "\n"

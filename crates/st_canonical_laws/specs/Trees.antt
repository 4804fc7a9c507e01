-- Trees of the grammar, and what it means that the canonical text of one reads back.
use Rattle.std.specs.Prelude.{ℕ, List}
use Rattle.st_ast.specs.declared.declarations.Program.{Program}
use Rattle.st_ast.specs.Lines.{canonical_text}
use Rattle.st_lex.specs.declared.kinds.Token.{Token}
use Rattle.st_lex.specs.Tokens.{IsTokensOf}
use Rattle.st_parse.specs.Outcomes.{IsProgramOf}
use Rattle.st_canonical_laws.specs.Placeless.{IsSameButForPlaces}

-- the tree of a text: its tokens spell it, within the limits on tokens and counts. Nothing is asked of the length of that text.
pub record IsOfGrammar (p : Program) : Type 0 where
  pub text : List ℕ
  pub tokens : List Token
  pub listed : IsTokensOf text tokens
  pub spelled : IsProgramOf text tokens p

-- the canonical text has tokens, which spell the same tree but for places, within the limits
pub record ReadsBack (p : Program) : Type 0 where
  pub tokens : List Token
  pub listed : IsTokensOf (canonical_text p) tokens
  pub tree : Program
  pub spelled : IsProgramOf (canonical_text p) tokens tree
  pub same : IsSameButForPlaces tree p

-- Which texts are sources of programs: from bytes to the tree, in one place for all commands.
use Rattle.std.specs.Prelude.{◌≡◌, ℕ, ◌≤◌, List, [], length}
use Rattle.st_ast.specs.declared.declarations.Program.{Program}
use Rattle.st_lex.specs.declared.kinds.Token.{Token}
use Rattle.st_lex.specs.declared.limits.TheConstants.{MOST_SOURCE_BYTES}
use Rattle.st_lex.specs.Tokens.{IsTokensOf}
use Rattle.st_parse.specs.Outcomes.{IsProgramOf}
use Rattle.st_types.specs.Rules.{faults_of}

-- the text is not too long and has its tokens, and these have this tree of the grammar within the limits
pub record IsTreeOf (text : List ℕ) (tree : Program) : Type 0 where
  pub short : length text ≤ MOST_SOURCE_BYTES
  pub tokens : List Token
  pub lexed : IsTokensOf text tokens
  pub parsed : IsProgramOf text tokens tree

-- the text has this tree, and the tree keeps every rule of types
pub record IsSourceOf (text : List ℕ) (tree : Program) : Type 0 where
  pub spelled : IsTreeOf text tree
  pub rules : faults_of tree ≡ []

-- the text is the source of some program
pub record IsAccepted (text : List ℕ) : Type 0 where
  pub tree : Program
  pub source : IsSourceOf text tree

-- The words of a tree: what the canonical text writes for it, token by token.
use Rattle.std.specs.Prelude.{ℕ, Bool, true, false, List, [], ◌∷◌, ◌++◌, map, codes}
use Rattle.std.specs.Fmt.{signed_decimal}
use Rattle.std.specs.List.{flat_map}
use Rattle.st_ast.specs.declared.declarations.Param.{Param}
use Rattle.st_ast.specs.declared.declarations.TypeName.{TypeName}
use Rattle.st_ast.specs.declared.declarations.TypeName.TheVariants as types
use Rattle.st_ast.specs.declared.expressions.Expr.{Expr, fold-Expr}
use Rattle.st_ast.specs.declared.expressions.Expr.TheOpen.{Expr-F}
use Rattle.st_ast.specs.declared.operators.Op.{Op}
use Rattle.st_ast.specs.declared.operators.Op.TheVariants as op
use Rattle.st_ast.specs.declared.statements.Value.{Value}
use Rattle.st_ast.specs.declared.statements.Value.TheVariants as value

-- a word is the bytes of a token
abbrev pub Word : Type 0
Word = List ℕ

-- how an operator is spelled
abbrev pub op_word : Op → Word
op_word op.Add = codes "+"
op_word op.Sub = codes "-"
op_word op.Mul = codes "*"
op_word op.Div = codes "/"
op_word op.Rem = codes "%"
op_word op.Less = codes "<"
op_word op.LessEq = codes "<="
op_word op.Greater = codes ">"
op_word op.GreaterEq = codes ">="
op_word op.Equal = codes "=="
op_word op.NotEqual = codes "!="
op_word op.Both = codes "&&"
op_word op.Either = codes "||"

-- how a type is spelled; a class by its name
abbrev pub type_word : TypeName → Word
type_word types.Int = codes "int"
type_word types.Bool = codes "bool"
type_word (types.Class name site) = name

-- how a truth value is spelled
abbrev pub truth_word : Bool → Word
truth_word true = codes "true"
truth_word false = codes "false"

-- the words of items, with a comma before each
abbrev pub after_commas : List (List Word) → List Word
after_commas = flat_map (λ words. codes "," ∷ words)

-- with a comma before each but the first
abbrev pub listed : List (List Word) → List Word
listed [] = []
listed (first ∷ more) = first ++ after_commas more

-- words with a parenthesis before and behind them
abbrev pub in_parens : List Word → List Word
in_parens words = codes "(" ∷ words ++ codes ")" ∷ []

-- one level of an expression
abbrev pub expr_layer : Expr-F (List Word) → List Word
expr_layer (Expr-F.Number value site) = signed_decimal value ∷ []
expr_layer (Expr-F.Truth value site) = truth_word value ∷ []
expr_layer (Expr-F.Null site) = codes "null" ∷ []
expr_layer (Expr-F.Local name site) = name ∷ []
expr_layer (Expr-F.Call name args site) = name ∷ in_parens (listed args)
expr_layer (Expr-F.Shared name site) = codes "shared" ∷ codes "." ∷ name ∷ []
expr_layer (Expr-F.Field object name site) = object ++ codes "." ∷ name ∷ []
expr_layer (Expr-F.Paren inner site) = in_parens inner
expr_layer (Expr-F.Not inner site) = codes "!" ∷ inner
expr_layer (Expr-F.Minus inner site) = codes "-" ∷ inner
expr_layer (Expr-F.Binary op left right site) = left ++ op_word op ∷ right
expr_layer (Expr-F.Cond test left right site) = test ++ codes "?" ∷ left ++ codes ":" ∷ right

-- an expression
unfoldable pub expr_words : Expr → List Word
expr_words e = fold-Expr (List Word) expr_layer e

-- the arguments of a call
abbrev pub args_words : List Expr → List Word
args_words args = listed (map expr_words args)

-- a call of a predicate or a procedure: the name, and the arguments in parentheses
abbrev pub call_words : List ℕ → List Expr → List Word
call_words name args = name ∷ in_parens (args_words args)

-- what stands to the right of `=`
abbrev pub value_words : Value → List Word
value_words (value.Plain e) = expr_words e
value_words (value.New class site) = codes "new" ∷ class ∷ []
value_words (value.Cas place expect e site) =
    codes "cas" ∷ in_parens (expr_words place ++ codes "," ∷ expr_words expect ++ codes "," ∷ expr_words e)

-- a parameter, with its type after a colon
abbrev pub param_words : Param → List Word
param_words param = param.name ∷ codes ":" ∷ type_word param.kind ∷ []

-- the parameters of a predicate or a procedure
abbrev pub params_words : List Param → List Word
params_words params = listed (map param_words params)

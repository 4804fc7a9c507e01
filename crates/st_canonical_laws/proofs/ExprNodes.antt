-- Expressions without their places, and their words, node by node.
use Rattle.std.proofs.Common.{◌≡◌, ℕ, ℤ, Bool, List, [], ◌∷◌, ◌++◌, map, ap, sym, ◌∙◌}
use Rattle.std.specs.Prelude.{codes}
use Rattle.std.specs.Fmt.{signed_decimal}
use Rattle.st_events.specs.declared.events.Site.{Site}
use Rattle.st_ast.specs.declared.expressions.Expr.{Expr}
use Rattle.st_ast.specs.declared.expressions.Expr.TheFolds.{fold-roll-Expr, map-Expr}
use Rattle.st_ast.specs.declared.expressions.Expr.TheOpen.{Expr-F}
use Rattle.st_ast.specs.declared.expressions.Expr.TheVariants as expr
use Rattle.st_ast.specs.declared.expressions.Expr.TheViews.{roll-Expr}
use Rattle.st_ast.specs.declared.operators.Op.{Op}
use Rattle.st_ast.specs.Words.{truth_word, op_word, in_parens, call_words, expr_words}
use Rattle.st_ast.proofs.WordEquations.{words_of_layer}
use Rattle.st_canonical_laws.specs.Placeless.{nowhere, expr_layer, bare_expr}

bare_of_layer : (x : Expr-F Expr) → bare_expr (roll-Expr x) ≡ expr_layer (map-Expr Expr Expr bare_expr x)
unfolding bare_expr
bare_of_layer x = fold-roll-Expr Expr expr_layer x

-- a number keeps its value
pub bare_number : (value : ℤ) (site : Site) → bare_expr (expr.Number value site) ≡ expr.Number value nowhere
bare_number value site = ap bare_expr (sym (expr.rolls-Number value site)) ∙ bare_of_layer (Expr-F.Number value site)

-- it is written in decimal, with its sign
pub words_number : (value : ℤ) (site : Site) → expr_words (expr.Number value site) ≡ signed_decimal value ∷ []
words_number value site = ap expr_words (sym (expr.rolls-Number value site)) ∙ words_of_layer (Expr-F.Number value site)

-- a truth value stays
pub bare_truth : (value : Bool) (site : Site) → bare_expr (expr.Truth value site) ≡ expr.Truth value nowhere
bare_truth value site = ap bare_expr (sym (expr.rolls-Truth value site)) ∙ bare_of_layer (Expr-F.Truth value site)

-- it is written as `true` or `false`
pub words_truth : (value : Bool) (site : Site) → expr_words (expr.Truth value site) ≡ truth_word value ∷ []
words_truth value site = ap expr_words (sym (expr.rolls-Truth value site)) ∙ words_of_layer (Expr-F.Truth value site)

-- `null` has but its place to lose
pub bare_null : (site : Site) → bare_expr (expr.Null site) ≡ expr.Null nowhere
bare_null site = ap bare_expr (sym (expr.rolls-Null site)) ∙ bare_of_layer (Expr-F.Null site)

-- it is written as one word
pub words_null : (site : Site) → expr_words (expr.Null site) ≡ codes "null" ∷ []
words_null site = ap expr_words (sym (expr.rolls-Null site)) ∙ words_of_layer (Expr-F.Null site)

-- a local keeps its name
pub bare_local : (name : List ℕ) (site : Site) → bare_expr (expr.Local name site) ≡ expr.Local name nowhere
bare_local name site = ap bare_expr (sym (expr.rolls-Local name site)) ∙ bare_of_layer (Expr-F.Local name site)

-- it is written as its name
pub words_local : (name : List ℕ) (site : Site) → expr_words (expr.Local name site) ≡ name ∷ []
words_local name site = ap expr_words (sym (expr.rolls-Local name site)) ∙ words_of_layer (Expr-F.Local name site)

-- a call of a predicate keeps its name, and its arguments lose their places
pub bare_call : (name : List ℕ) (args : List Expr) (site : Site) → bare_expr (expr.Call name args site) ≡ expr.Call name (map bare_expr args) nowhere
bare_call name args site = ap bare_expr (sym (expr.rolls-Call name args site)) ∙ bare_of_layer (Expr-F.Call name args site)

-- it is written as the name and the arguments in parentheses
pub words_call : (name : List ℕ) (args : List Expr) (site : Site) → expr_words (expr.Call name args site) ≡ call_words name args
words_call name args site = ap expr_words (sym (expr.rolls-Call name args site)) ∙ words_of_layer (Expr-F.Call name args site)

-- a shared variable keeps its name
pub bare_shared : (name : List ℕ) (site : Site) → bare_expr (expr.Shared name site) ≡ expr.Shared name nowhere
bare_shared name site = ap bare_expr (sym (expr.rolls-Shared name site)) ∙ bare_of_layer (Expr-F.Shared name site)

-- it is written as a field of `shared`
pub words_shared : (name : List ℕ) (site : Site) → expr_words (expr.Shared name site) ≡ codes "shared" ∷ codes "." ∷ name ∷ []
words_shared name site = ap expr_words (sym (expr.rolls-Shared name site)) ∙ words_of_layer (Expr-F.Shared name site)

-- a field keeps its name, and its object loses its places
pub bare_field : (object : Expr) (name : List ℕ) (site : Site) → bare_expr (expr.Field object name site) ≡ expr.Field (bare_expr object) name nowhere
bare_field object name site = ap bare_expr (sym (expr.rolls-Field object name site)) ∙ bare_of_layer (Expr-F.Field object name site)

-- it is written as the object, a dot, and the name
pub words_field : (object : Expr) (name : List ℕ) (site : Site) → expr_words (expr.Field object name site) ≡ expr_words object ++ codes "." ∷ name ∷ []
words_field object name site = ap expr_words (sym (expr.rolls-Field object name site)) ∙ words_of_layer (Expr-F.Field object name site)

-- a pair of parentheses stays in the tree
pub bare_paren : (inner : Expr) (site : Site) → bare_expr (expr.Paren inner site) ≡ expr.Paren (bare_expr inner) nowhere
bare_paren inner site = ap bare_expr (sym (expr.rolls-Paren inner site)) ∙ bare_of_layer (Expr-F.Paren inner site)

-- it is written around what is in it
pub words_paren : (inner : Expr) (site : Site) → expr_words (expr.Paren inner site) ≡ in_parens (expr_words inner)
words_paren inner site = ap expr_words (sym (expr.rolls-Paren inner site)) ∙ words_of_layer (Expr-F.Paren inner site)

-- a `!` stays before what it negates
pub bare_not : (inner : Expr) (site : Site) → bare_expr (expr.Not inner site) ≡ expr.Not (bare_expr inner) nowhere
bare_not inner site = ap bare_expr (sym (expr.rolls-Not inner site)) ∙ bare_of_layer (Expr-F.Not inner site)

-- it is written before it
pub words_not : (inner : Expr) (site : Site) → expr_words (expr.Not inner site) ≡ codes "!" ∷ expr_words inner
words_not inner site = ap expr_words (sym (expr.rolls-Not inner site)) ∙ words_of_layer (Expr-F.Not inner site)

-- a sign stays before its operand
pub bare_minus : (inner : Expr) (site : Site) → bare_expr (expr.Minus inner site) ≡ expr.Minus (bare_expr inner) nowhere
bare_minus inner site = ap bare_expr (sym (expr.rolls-Minus inner site)) ∙ bare_of_layer (Expr-F.Minus inner site)

-- it is written before it
pub words_minus : (inner : Expr) (site : Site) → expr_words (expr.Minus inner site) ≡ codes "-" ∷ expr_words inner
words_minus inner site = ap expr_words (sym (expr.rolls-Minus inner site)) ∙ words_of_layer (Expr-F.Minus inner site)

-- an operator keeps its kind, and both operands lose their places
pub bare_binary : (op : Op) (left right : Expr) (site : Site) → bare_expr (expr.Binary op left right site) ≡ expr.Binary op (bare_expr left) (bare_expr right) nowhere
bare_binary op left right site = ap bare_expr (sym (expr.rolls-Binary op left right site)) ∙ bare_of_layer (Expr-F.Binary op left right site)

-- it is written between its operands
pub words_binary : (op : Op) (left right : Expr) (site : Site) → expr_words (expr.Binary op left right site) ≡ expr_words left ++ op_word op ∷ expr_words right
words_binary op left right site = ap expr_words (sym (expr.rolls-Binary op left right site)) ∙ words_of_layer (Expr-F.Binary op left right site)

-- a choice loses the places in its three parts
pub bare_cond : (test left right : Expr) (site : Site) → bare_expr (expr.Cond test left right site) ≡ expr.Cond (bare_expr test) (bare_expr left) (bare_expr right) nowhere
bare_cond test left right site = ap bare_expr (sym (expr.rolls-Cond test left right site)) ∙ bare_of_layer (Expr-F.Cond test left right site)

-- they are written with `?` and `:` between them
pub words_cond : (test left right : Expr) (site : Site) → expr_words (expr.Cond test left right site) ≡ expr_words test ++ codes "?" ∷ expr_words left ++ codes ":" ∷ expr_words right
words_cond test left right site = ap expr_words (sym (expr.rolls-Cond test left right site)) ∙ words_of_layer (Expr-F.Cond test left right site)

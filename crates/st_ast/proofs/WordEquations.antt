-- The words of an expression and the lines of a statement, node by node.
use Rattle.std.proofs.Common.{◌≡◌, ℕ, Bool, List, ap, sym, ◌∙◌}
use Rattle.st_events.specs.declared.events.Site.{Site}
use Rattle.st_ast.specs.declared.expressions.Expr.{Expr}
use Rattle.st_ast.specs.declared.expressions.Expr.TheVariants as expr
use Rattle.st_ast.specs.declared.expressions.Expr.TheViews.{roll-Expr}
use Rattle.st_ast.specs.declared.expressions.Expr.TheFolds.{fold-roll-Expr, map-Expr}
use Rattle.st_ast.specs.declared.expressions.Expr.TheOpen.{Expr-F}
use Rattle.st_ast.specs.declared.statements.Stmt.{Stmt}
use Rattle.st_ast.specs.declared.statements.Stmt.TheViews.{roll-Stmt}
use Rattle.st_ast.specs.declared.statements.Stmt.TheFolds.{fold-roll-Stmt, map-Stmt}
use Rattle.st_ast.specs.declared.statements.Stmt.TheOpen.{Stmt-F}
use Rattle.st_ast.specs.Words.{Word, expr_layer, expr_words, call_words}
use Rattle.st_ast.specs.Lines.{Line, stmt_layer, stmt_lines}

-- the words of a layer
pub words_of_layer : (x : Expr-F Expr) → expr_words (roll-Expr x) ≡ expr_layer (map-Expr Expr (List Word) expr_words x)
unfolding expr_words
words_of_layer x = fold-roll-Expr (List Word) expr_layer x

-- a call is written as its name and its arguments in parentheses
pub words_of_call : (name : List ℕ) (args : List Expr) (site : Site)
    → expr_words (expr.Call name args site) ≡ call_words name args
words_of_call name args site =
    ap expr_words (sym (expr.rolls-Call name args site)) ∙ words_of_layer (Expr-F.Call name args site)

-- a truth value is written as its layer says, since it has no expression inside
pub words_of_truth : (b : Bool) (site : Site) → expr_words (expr.Truth b site) ≡ expr_layer (Expr-F.Truth b site)
words_of_truth b site = ap expr_words (sym (expr.rolls-Truth b site)) ∙ words_of_layer (Expr-F.Truth b site)

-- the lines of a layer
pub lines_of_layer : (x : Stmt-F Stmt) (depth : ℕ) → stmt_lines (roll-Stmt x) depth ≡ stmt_layer (map-Stmt Stmt (ℕ → List Line) stmt_lines x) depth
unfolding stmt_lines
lines_of_layer x depth = ap (λ (f : ℕ → List Line). f depth) (fold-roll-Stmt (ℕ → List Line) stmt_layer x)

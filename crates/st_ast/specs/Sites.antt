-- Where a node of a tree stands in its text.
use Rattle.st_events.specs.declared.events.Site.{Site}
use Rattle.st_ast.specs.declared.expressions.Expr.{Expr, out-Expr}
use Rattle.st_ast.specs.declared.expressions.Expr.TheOpen.{Expr-F}

-- of one level of an expression
abbrev pub site_of_layer : Expr-F Expr → Site
site_of_layer (Expr-F.Number value site) = site
site_of_layer (Expr-F.Truth value site) = site
site_of_layer (Expr-F.Null site) = site
site_of_layer (Expr-F.Local name site) = site
site_of_layer (Expr-F.Call name args site) = site
site_of_layer (Expr-F.Shared name site) = site
site_of_layer (Expr-F.Field object name site) = site
site_of_layer (Expr-F.Paren inner site) = site
site_of_layer (Expr-F.Not inner site) = site
site_of_layer (Expr-F.Minus inner site) = site
site_of_layer (Expr-F.Binary op left right site) = site
site_of_layer (Expr-F.Cond test left right site) = site

-- the place of the token that an expression is known by
abbrev pub site_of_expr : Expr → Site
site_of_expr e = site_of_layer (out-Expr e)

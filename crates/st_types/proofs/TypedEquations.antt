-- What an expression comes to, node by node.
use Rattle.std.proofs.Common.{◌≡◌, ℕ, List, map, Ok, Err, refl, ap, sym, ◌∙◌}
use Rattle.st_events.specs.declared.events.Site.{Site}
use Rattle.st_ast.specs.declared.expressions.Expr.{Expr}
use Rattle.st_ast.specs.declared.expressions.Expr.TheVariants.{Call, rolls-Call}
use Rattle.st_ast.specs.declared.expressions.Expr.TheFolds.{fold-roll-Expr}
use Rattle.st_ast.specs.declared.expressions.Expr.TheOpen.{Expr-F}
use Rattle.st_types.specs.Checked.{Checked, ◌>>=◌}
use Rattle.st_types.specs.Judged.{typed, typed_node, each_of, outcome}
use Rattle.st_types.specs.Nodes.{Seen}
use Rattle.st_types.specs.Scopes.{ScopeView}

-- a call is typed by its arguments from left to right, and then by itself
pub typed_call : (s : ScopeView) (name : List ℕ) (args : List Expr) (site : Site) →
    typed s (Call name args site) ≡ each_of (map (typed s) args) >>= (λ seen. outcome s (Expr-F.Call name seen site))
typed_call s name args site =
    ap (typed s) (sym (rolls-Call name args site)) ∙ fold-roll-Expr (Checked Seen) (typed_node s) (Expr-F.Call name args site) ∙ joined (each_of (map (typed s) args))
  where
    joined : (r : Checked (List Seen)) → r >>= (λ seen. Ok (Expr-F.Call name seen site)) >>= outcome s ≡ r >>= (λ seen. outcome s (Expr-F.Call name seen site))
    joined (Ok seen) = refl
    joined (Err e) = refl

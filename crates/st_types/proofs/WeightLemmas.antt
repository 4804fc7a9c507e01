-- How many statements a statement is, with those in its blocks: the walk goes from more to fewer.
use Rattle.std.proofs.Common.{ℕ, ◌+◌, ◌≤◌, ◌<◌, List, [], ◌∷◌, map, length, get_or, Option, Some, None, ap, sym, ◌∙◌, arith, zero, suc}
use Rattle.st_events.specs.declared.events.Site.{Site}
use Rattle.st_ast.specs.declared.expressions.Expr.{Expr}
use Rattle.st_ast.specs.declared.statements.Stmt.{Stmt}
use Rattle.st_ast.specs.declared.statements.Stmt.TheOpen.{Stmt-F}
use Rattle.st_ast.specs.declared.statements.Stmt.TheVariants as stmts
use Rattle.st_ast.specs.declared.statements.Stmt.TheFolds.{fold-Stmt, fold-roll-Stmt}

-- the sum of numbers
abbrev pub total : List ℕ → ℕ
total [] = 0
total (n ∷ ns) = n + total ns

abbrev other_weight : Option (List ℕ) → ℕ
other_weight None = 0
other_weight (Some ns) = total ns

abbrev weight_node : Stmt-F ℕ → ℕ
weight_node (Stmt-F.Var name name_site kind value site) = 1
weight_node (Stmt-F.Assign name value site) = 1
weight_node (Stmt-F.Put place value site) = 1
weight_node (Stmt-F.If cond first other site) = 1 + (total first + other_weight other)
weight_node (Stmt-F.While cond body site) = 1 + total body
weight_node (Stmt-F.Call name args site) = 1
weight_node (Stmt-F.Check body site) = 1

-- how many statements a statement is: itself, and those in its blocks
unfoldable pub weight : Stmt → ℕ
weight s = fold-Stmt ℕ weight_node s

-- how many some statements are together
unfoldable pub weight_all : List Stmt → ℕ
weight_all ss = total (map weight ss)

-- one of some statements is no more than all of them
pub weight_within : (ss : List Stmt) (i : ℕ) (d : Stmt) → i < length ss → weight (get_or ss i d) ≤ weight_all ss
unfolding weight_all
weight_within [] i d h = absurd (omega arith)
weight_within (s ∷ ss) zero d h = omega arith
weight_within (s ∷ ss) (suc i) d h =
    let more = weight_within ss i d (omega arith) in
    omega (arith, more)

-- the statements of an `if` are fewer than the `if`
pub first_weighs_less : (cond : Expr) (first : List Stmt) (other : Option (List Stmt)) (site : Site) → weight_all first < weight (stmts.If cond first other site)
unfolding weight weight_all
first_weighs_less cond first None site =
    let e = ap (fold-Stmt ℕ weight_node) (sym (stmts.rolls-If cond first None site)) ∙ fold-roll-Stmt ℕ weight_node (Stmt-F.If cond first None site) in
    omega (arith, e)
first_weighs_less cond first (Some other) site =
    let e = ap (fold-Stmt ℕ weight_node) (sym (stmts.rolls-If cond first (Some other) site)) ∙ fold-roll-Stmt ℕ weight_node (Stmt-F.If cond first (Some other) site) in
    omega (arith, e)

-- those behind its `else` are
pub other_weighs_less : (cond : Expr) (first other : List Stmt) (site : Site) → weight_all other < weight (stmts.If cond first (Some other) site)
unfolding weight weight_all
other_weighs_less cond first other site =
    let e = ap (fold-Stmt ℕ weight_node) (sym (stmts.rolls-If cond first (Some other) site)) ∙ fold-roll-Stmt ℕ weight_node (Stmt-F.If cond first (Some other) site) in
    omega (arith, e)

-- and those of a `while` are fewer than the `while`
pub body_weighs_less : (cond : Expr) (body : List Stmt) (site : Site) → weight_all body < weight (stmts.While cond body site)
unfolding weight weight_all
body_weighs_less cond body site =
    let e = ap (fold-Stmt ℕ weight_node) (sym (stmts.rolls-While cond body site)) ∙ fold-roll-Stmt ℕ weight_node (Stmt-F.While cond body site) in
    omega (arith, e)

-- The faults of an expression in the order of the walk: those of its operands from left to right, then its own.
use Rattle.std.specs.Prelude.{List, [], ◌∷◌, ◌++◌, map, Ok}
use Rattle.st_ast.specs.declared.expressions.Expr.{Expr}
use Rattle.st_ast.specs.declared.expressions.Expr.TheOpen.{Expr-F}
use Rattle.st_ast.specs.declared.expressions.Expr.TheFolds.{fold-Expr, map-Expr}
use Rattle.st_types.specs.declared.errors.TypeError.{TypeError}
use Rattle.st_types.specs.Checked.{Checked, verdict, ◌>>=◌}
use Rattle.st_types.specs.Nodes.{Seen, rule, node}
use Rattle.st_types.specs.Scopes.{ScopeView}

-- lists of faults, one after another
abbrev pub in_order : List (List TypeError) → List TypeError
in_order [] = []
in_order (faults ∷ more) = faults ++ in_order more

-- what the operands of a node hold, from left to right
abbrev pub operands : {X : Type 0} → Expr-F X → List X
operands (Expr-F.Number value site) = []
operands (Expr-F.Truth value site) = []
operands (Expr-F.Null site) = []
operands (Expr-F.Local name site) = []
operands (Expr-F.Call name args site) = args
operands (Expr-F.Shared name site) = []
operands (Expr-F.Field object name site) = object ∷ []
operands (Expr-F.Paren inner site) = inner ∷ []
operands (Expr-F.Not inner site) = inner ∷ []
operands (Expr-F.Minus inner site) = inner ∷ []
operands (Expr-F.Binary op left right site) = left ∷ right ∷ []
operands (Expr-F.Cond test left right site) = test ∷ left ∷ right ∷ []

-- what is seen of an expression, and its faults
pub record Judged : Type 0 where
  pub seen : Seen
  pub faults : List TypeError

-- one node, once its operands are judged
abbrev pub judged_node : ScopeView → Expr-F Judged → Judged
judged_node s x = record {
  seen = node s (map-Expr Judged Seen (λ j. j.seen) x);
  faults = in_order (map (λ j. j.faults) (operands x)) ++ rule s (map-Expr Judged Seen (λ j. j.seen) x);
}

-- an expression in a scope
abbrev pub judged : ScopeView → Expr → Judged
judged s = fold-Expr Judged (judged_node s)

-- what a node comes to, once its operands are seen: its first fault, or what it is
abbrev pub outcome : ScopeView → Expr-F Seen → Checked Seen
outcome s x = verdict (rule s x) (node s x)

-- values one after another, up to the first fault
abbrev pub each_of : {A : Type 0} → List (Checked A) → Checked (List A)
each_of [] = Ok []
each_of (first ∷ more) = first >>= (λ a. each_of more >>= (λ rest. Ok (a ∷ rest)))

-- the operands of a node, from left to right, up to the first fault
abbrev pub seen_operands : Expr-F (Checked Seen) → Checked (Expr-F Seen)
seen_operands (Expr-F.Number value site) = Ok (Expr-F.Number value site)
seen_operands (Expr-F.Truth value site) = Ok (Expr-F.Truth value site)
seen_operands (Expr-F.Null site) = Ok (Expr-F.Null site)
seen_operands (Expr-F.Local name site) = Ok (Expr-F.Local name site)
seen_operands (Expr-F.Call name args site) = each_of args >>= (λ seen. Ok (Expr-F.Call name seen site))
seen_operands (Expr-F.Shared name site) = Ok (Expr-F.Shared name site)
seen_operands (Expr-F.Field object name site) = object >>= (λ o. Ok (Expr-F.Field o name site))
seen_operands (Expr-F.Paren inner site) = inner >>= (λ i. Ok (Expr-F.Paren i site))
seen_operands (Expr-F.Not inner site) = inner >>= (λ i. Ok (Expr-F.Not i site))
seen_operands (Expr-F.Minus inner site) = inner >>= (λ i. Ok (Expr-F.Minus i site))
seen_operands (Expr-F.Binary op left right site) = left >>= (λ l. right >>= (λ r. Ok (Expr-F.Binary op l r site)))
seen_operands (Expr-F.Cond test left right site) = test >>= (λ t. left >>= (λ l. right >>= (λ r. Ok (Expr-F.Cond t l r site))))

-- an expression: its first fault, or what is seen of it
abbrev pub typed_node : ScopeView → Expr-F (Checked Seen) → Checked Seen
typed_node s x = seen_operands x >>= outcome s

-- a whole expression: its first fault, or what is seen of it
abbrev pub typed : ScopeView → Expr → Checked Seen
typed s = fold-Expr (Checked Seen) (typed_node s)

-- An expression comes to the first of its faults, or to what is seen of it where it has none.
use Rattle.std.proofs.Common.{◌≡◌, List, [], ◌∷◌, ◌++◌, map, Ok, refl, ap, sym, ◌∙◌, subst}
use Rattle.st_ast.specs.declared.expressions.Expr.{Expr}
use Rattle.st_ast.specs.declared.expressions.Expr.TheViews.{roll-Expr}
use Rattle.st_ast.specs.declared.expressions.Expr.TheFolds.{fold-roll-Expr, ind-Expr, map-Expr}
use Rattle.st_ast.specs.declared.expressions.Expr.TheOpen.{Expr-F}
use Rattle.st_types.specs.declared.errors.TypeError.{TypeError}
use Rattle.st_types.specs.Checked.{Checked, verdict, ◌>>=◌}
use Rattle.st_types.specs.Judged.{Judged, judged, judged_node, in_order, typed, typed_node, each_of, outcome}
use Rattle.st_types.specs.Nodes.{Seen, rule, node}
use Rattle.st_types.specs.Scopes.{ScopeView}

abbrev IsSo : ScopeView → Expr → Type 0
IsSo s e = typed s e ≡ verdict (judged s e).faults (judged s e).seen

-- one operand, two, three, and any number of arguments
one_operand : (s : ScopeView) (k : Seen → Expr-F Seen) (fa : List TypeError) (a : Seen) →
    (verdict fa a >>= (λ x. Ok (k x))) >>= outcome s ≡ verdict ((fa ++ []) ++ rule s (k a)) (node s (k a))
one_operand s k [] a = refl
one_operand s k (f ∷ fa) a = refl

two_operands : (s : ScopeView) (k : Seen → Seen → Expr-F Seen) (fa fb : List TypeError) (a b : Seen) →
    (verdict fa a >>= (λ x. verdict fb b >>= (λ y. Ok (k x y)))) >>= outcome s ≡ verdict ((fa ++ (fb ++ [])) ++ rule s (k a b)) (node s (k a b))
two_operands s k [] [] a b = refl
two_operands s k [] (f ∷ fb) a b = refl
two_operands s k (f ∷ fa) fb a b = refl

three_operands : (s : ScopeView) (k : Seen → Seen → Seen → Expr-F Seen) (fa fb fc : List TypeError) (a b c : Seen) →
    (verdict fa a >>= (λ x. verdict fb b >>= (λ y. verdict fc c >>= (λ z. Ok (k x y z))))) >>= outcome s ≡ verdict ((fa ++ (fb ++ (fc ++ []))) ++ rule s (k a b c)) (node s (k a b c))
three_operands s k [] [] [] a b c = refl
three_operands s k [] [] (f ∷ fc) a b c = refl
three_operands s k [] (f ∷ fb) fc a b c = refl
three_operands s k (f ∷ fa) fb fc a b c = refl

all_operands : (s : ScopeView) (k : List Seen → Expr-F Seen) (fs : List TypeError) (seen : List Seen) →
    (verdict fs seen >>= (λ x. Ok (k x))) >>= outcome s ≡ verdict (fs ++ rule s (k seen)) (node s (k seen))
all_operands s k [] seen = refl
all_operands s k (f ∷ fs) seen = refl

one_more : (fa fs : List TypeError) (a : Seen) (seen : List Seen) → verdict fa a >>= (λ x. verdict fs seen >>= (λ rest. Ok (x ∷ rest))) ≡ verdict (fa ++ fs) (a ∷ seen)
one_more [] [] a seen = refl
one_more [] (f ∷ fs) a seen = refl
one_more (f ∷ fa) fs a seen = refl

each_is : (s : ScopeView) (es : List ((e : Expr) × IsSo s e)) →
    each_of (map (typed s) (map (λ e. e.0) es)) ≡ verdict (in_order (map (λ j. j.faults) (map (judged s) (map (λ e. e.0) es)))) (map (λ j. j.seen) (map (judged s) (map (λ e. e.0) es)))
each_is s [] = refl
each_is s (e ∷ es) = rw (e.1, each_is s es) (one_more (judged s e.0).faults (in_order (map (λ j. j.faults) (map
    (judged s) (map (λ e. e.0) es)))) (judged s e.0).seen (map (λ j. j.seen) (map (judged s) (map (λ e. e.0) es))))

-- the operands that a layer holds, each with its proof
abbrev bare : (s : ScopeView) → Expr-F ((e : Expr) × IsSo s e) → Expr-F Expr
bare s y = map-Expr ((e : Expr) × IsSo s e) Expr (λ e. e.0) y

layer_is : (s : ScopeView) (y : Expr-F ((e : Expr) × IsSo s e)) →
    typed_node s (map-Expr Expr (Checked Seen) (typed s) (bare s y))
    ≡ verdict (judged_node s (map-Expr Expr Judged (judged s) (bare s y))).faults (judged_node s (map-Expr Expr Judged (judged s) (bare s y))).seen
layer_is s (Expr-F.Number value site) = refl
layer_is s (Expr-F.Truth value site) = refl
layer_is s (Expr-F.Null site) = refl
layer_is s (Expr-F.Local name site) = refl
layer_is s (Expr-F.Call name args site) = rw (each_is s args) (all_operands s (λ seen. Expr-F.Call name seen site) (in_order
    (map (λ j. j.faults) (map (judged s) (map (λ e. e.0) args)))) (map (λ j. j.seen) (map (judged s) (map (λ e. e.0) args))))
layer_is s (Expr-F.Shared name site) = refl
layer_is s (Expr-F.Field object name site) = rw object.1 (one_operand s (λ o. Expr-F.Field o name site) (judged s object.0).faults (judged s object.0).seen)
layer_is s (Expr-F.Paren inner site) = rw inner.1 (one_operand s (λ i. Expr-F.Paren i site) (judged s inner.0).faults (judged s inner.0).seen)
layer_is s (Expr-F.Not inner site) = rw inner.1 (one_operand s (λ i. Expr-F.Not i site) (judged s inner.0).faults (judged s inner.0).seen)
layer_is s (Expr-F.Minus inner site) = rw inner.1 (one_operand s (λ i. Expr-F.Minus i site) (judged s inner.0).faults (judged s inner.0).seen)
layer_is s (Expr-F.Binary op left right site) = rw (left.1, right.1) (two_operands s (λ l r. Expr-F.Binary op l r site)
    (judged s left.0).faults (judged s right.0).faults (judged s left.0).seen (judged s right.0).seen)
layer_is s (Expr-F.Cond test left right site) = rw (test.1, left.1, right.1) (three_operands s (λ t l r. Expr-F.Cond t l r site)
    (judged s test.0).faults (judged s left.0).faults (judged s right.0).faults (judged s test.0).seen (judged s left.0).seen (judged s right.0).seen)

-- an expression, up to its first fault
pub typed_is_first : (s : ScopeView) (e : Expr) → typed s e ≡ verdict (judged s e).faults (judged s e).seen
typed_is_first s = ind-Expr (IsSo s) (λ x y is.
    subst (λ z. IsSo s (roll-Expr z)) is
    (fold-roll-Expr (Checked Seen) (typed_node s) (bare s y) ∙ layer_is s y ∙ sym (ap (λ j. verdict j.faults j.seen) (fold-roll-Expr Judged (judged_node s) (bare s y)))))

-- The names of locals that an expression mentions: the limits on counts list them with places, the rules of types without.
use Rattle.std.proofs.Common.{◌≡◌, ℕ, List, [], ◌∷◌, ◌++◌, map, refl, ap, sym, ◌∙◌, subst, append_assoc, append-nil}
use Rattle.std.proofs.lemmas.List.{map-append}
use Rattle.std.specs.List.{flat_map}
use Rattle.st_ast.specs.declared.expressions.Expr.{Expr}
use Rattle.st_ast.specs.declared.expressions.Expr.TheViews.{roll-Expr}
use Rattle.st_ast.specs.declared.expressions.Expr.TheFolds.{fold-Expr, fold-roll-Expr, ind-Expr, map-Expr}
use Rattle.st_ast.specs.declared.expressions.Expr.TheOpen.{Expr-F}
use Rattle.st_grammar.specs.Counts as counts
use Rattle.st_grammar.specs.Counts.{Mention, mentions_step}
use Rattle.st_types.specs.Statements.{mentions, mentions_layer}

-- a mention without its place
abbrev pub name_of : Mention → List ℕ
name_of m = m.name

abbrev with_places : Expr → List Mention
with_places = fold-Expr (List Mention) mentions_step

abbrev Agrees : Expr → Type 0
Agrees e = map name_of (with_places e) ≡ mentions e

-- the operands that a layer holds, each with its proof
abbrev bare : Expr-F ((e : Expr) × Agrees e) → Expr-F Expr
bare y = map-Expr ((e : Expr) × Agrees e) Expr (λ e. e.0) y

each_agrees : (es : List ((e : Expr) × Agrees e))
    → map name_of (counts.all_of (map with_places (map (λ e. e.0) es))) ≡ flat_map (λ names. names) (map mentions (map (λ e. e.0) es))
each_agrees [] = refl
each_agrees (e ∷ es) =
    map-append name_of (with_places e.0) (counts.all_of (map with_places (map (λ e. e.0) es)))
    ∙ ap (λ names. names ++ map name_of (counts.all_of (map with_places (map (λ e. e.0) es)))) e.1
    ∙ ap (λ names. mentions e.0 ++ names) (each_agrees es)

one_agrees : (e : (e : Expr) × Agrees e) → map name_of (with_places e.0) ≡ mentions e.0 ++ []
one_agrees e = e.1 ∙ sym (append-nil (mentions e.0))

two_agree : (a b : (e : Expr) × Agrees e) → map name_of (with_places a.0 ++ with_places b.0) ≡ mentions a.0 ++ (mentions b.0 ++ [])
two_agree a b =
    map-append name_of (with_places a.0) (with_places b.0)
    ∙ ap (λ names. names ++ map name_of (with_places b.0)) a.1
    ∙ ap (λ names. mentions a.0 ++ names) (one_agrees b)

three_agree : (a b c : (e : Expr) × Agrees e)
    → map name_of ((with_places a.0 ++ with_places b.0) ++ with_places c.0) ≡ mentions a.0 ++ (mentions b.0 ++ (mentions c.0 ++ []))
three_agree a b c =
    ap (map name_of) (append_assoc (with_places a.0) (with_places b.0) (with_places c.0))
    ∙ map-append name_of (with_places a.0) (with_places b.0 ++ with_places c.0)
    ∙ ap (λ names. names ++ map name_of (with_places b.0 ++ with_places c.0)) a.1
    ∙ ap (λ names. mentions a.0 ++ names) (two_agree b c)

layer_agrees : (y : Expr-F ((e : Expr) × Agrees e))
    → map name_of (mentions_step (map-Expr Expr (List Mention) with_places (bare y))) ≡ mentions_layer (map-Expr Expr (List (List ℕ)) mentions (bare y))
layer_agrees (Expr-F.Number value site) = refl
layer_agrees (Expr-F.Truth value site) = refl
layer_agrees (Expr-F.Null site) = refl
layer_agrees (Expr-F.Local name site) = refl
layer_agrees (Expr-F.Call name args site) = each_agrees args
layer_agrees (Expr-F.Shared name site) = refl
layer_agrees (Expr-F.Field object name site) = one_agrees object
layer_agrees (Expr-F.Paren inner site) = one_agrees inner
layer_agrees (Expr-F.Not inner site) = one_agrees inner
layer_agrees (Expr-F.Minus inner site) = one_agrees inner
layer_agrees (Expr-F.Binary op left right site) = two_agree left right
layer_agrees (Expr-F.Cond test left right site) = three_agree test left right

all_agree : (e : Expr) → Agrees e
all_agree = ind-Expr Agrees (λ x y is.
    subst (λ z. Agrees (roll-Expr z)) is
    (ap (map name_of) (fold-roll-Expr (List Mention) mentions_step (bare y)) ∙ layer_agrees y ∙ sym (fold-roll-Expr (List (List ℕ)) mentions_layer (bare y))))

-- the names are the same, in the same order
pub names_agree : (e : Expr) → map name_of (counts.mentions e) ≡ mentions e
unfolding counts.mentions
names_agree e = all_agree e

-- What is counted in a tree without its places is what is counted in the tree, but for places.
use Rattle.std.proofs.Common.{◌≡◌, ℕ, Bool, true, false, ◌||◌, List, [], ◌∷◌, ◌++◌, map, Some, None, refl, ap, sym, ◌∙◌, subst}
use Rattle.std.specs.Prelude.{if◌then◌else◌, nat_lt, slice_index}
use Rattle.std.specs.List.{flat_map}
use Rattle.std.specs.Str.{bytes_eq}
use Rattle.std.proofs.lemmas.List.{map-append}
use Rattle.st_events.specs.declared.events.Site.{Site}
use Rattle.st_ast.specs.declared.declarations.Class.{Class}
use Rattle.st_ast.specs.declared.declarations.Field.{Field}
use Rattle.st_ast.specs.declared.declarations.Param.{Param}
use Rattle.st_ast.specs.declared.declarations.Pred.{Pred}
use Rattle.st_ast.specs.declared.declarations.Proc.{Proc}
use Rattle.st_ast.specs.declared.declarations.Program.{Program}
use Rattle.st_ast.specs.declared.declarations.Thread.{Thread}
use Rattle.st_ast.specs.declared.expressions.Expr.{Expr}
use Rattle.st_ast.specs.declared.expressions.Expr.TheFolds.{fold-roll-Expr, ind-Expr, map-Expr}
use Rattle.st_ast.specs.declared.expressions.Expr.TheOpen.{Expr-F}
use Rattle.st_ast.specs.declared.expressions.Expr.TheVariants as expr
use Rattle.st_ast.specs.declared.expressions.Expr.TheViews.{roll-Expr}
use Rattle.st_ast.specs.declared.statements.Stmt.{Stmt}
use Rattle.st_ast.specs.declared.statements.Stmt.TheFolds.{fold-roll-Stmt, ind-Stmt, map-Stmt}
use Rattle.st_ast.specs.declared.statements.Stmt.TheOpen.{Stmt-F}
use Rattle.st_ast.specs.declared.statements.Stmt.TheVariants as stmt
use Rattle.st_ast.specs.declared.statements.Stmt.TheViews.{roll-Stmt}
use Rattle.st_grammar.specs.declared.counts.Item.{Item}
use Rattle.st_grammar.specs.declared.counts.Item.TheVariants as item
use Rattle.st_grammar.specs.declared.counts.What.{What}
use Rattle.st_grammar.specs.declared.counts.What.TheVariants as what
use Rattle.st_grammar.specs.Counts.{Mention, all_of, mentions_step, mentions, is_named, argument_item, argument_items, check_items, stmt_step, stmt_items, field_items}
use Rattle.st_grammar.specs.Counts.{class_items, param_items, head_items, pred_items, proc_items, thread_items, items_of, counted, excess, at_start, most, slot, IsWithinCounts}
use Rattle.st_canonical_laws.specs.Placeless.{nowhere, expr_layer, bare_expr, bare_type, bare_value, stmt_layer, bare_stmt, bare_field, bare_class, bare_param, bare_pred, bare_proc, bare_thread, bare}
use Rattle.st_canonical_laws.proofs.LimitLemmas.{Each, each_from, each_to}

abbrev bare_mention : Mention → Mention
bare_mention m = record { name = m.name; site = nowhere }

abbrev bare_item : Item → Item
bare_item (item.Anew w) = item.Anew w
bare_item (item.One w site) = item.One w nowhere

-- lists of lists
all_mapped : {X Y : Type 0} (f : X → Y) (xss : List (List X)) → all_of (map (map f) xss) ≡ map f (all_of xss)
all_mapped f [] = refl
all_mapped f (xs ∷ xss) = ap (λ l. map f xs ++ l) (all_mapped f xss) ∙ sym (map-append f xs (all_of xss))

-- ---- mentions

-- the layer without its place
abbrev placeless : {A : Type 0} → Expr-F A → Expr-F A
placeless (Expr-F.Number value site) = Expr-F.Number value nowhere
placeless (Expr-F.Truth value site) = Expr-F.Truth value nowhere
placeless (Expr-F.Null site) = Expr-F.Null nowhere
placeless (Expr-F.Local name site) = Expr-F.Local name nowhere
placeless (Expr-F.Call name args site) = Expr-F.Call name args nowhere
placeless (Expr-F.Shared name site) = Expr-F.Shared name nowhere
placeless (Expr-F.Field object name site) = Expr-F.Field object name nowhere
placeless (Expr-F.Paren inner site) = Expr-F.Paren inner nowhere
placeless (Expr-F.Not inner site) = Expr-F.Not inner nowhere
placeless (Expr-F.Minus inner site) = Expr-F.Minus inner nowhere
placeless (Expr-F.Binary op left right site) = Expr-F.Binary op left right nowhere
placeless (Expr-F.Cond test left right site) = Expr-F.Cond test left right nowhere

rolled : (x : Expr-F Expr) → expr_layer x ≡ roll-Expr (placeless x)
rolled (Expr-F.Number value site) = sym (expr.rolls-Number value nowhere)
rolled (Expr-F.Truth value site) = sym (expr.rolls-Truth value nowhere)
rolled (Expr-F.Null site) = sym (expr.rolls-Null nowhere)
rolled (Expr-F.Local name site) = sym (expr.rolls-Local name nowhere)
rolled (Expr-F.Call name args site) = sym (expr.rolls-Call name args nowhere)
rolled (Expr-F.Shared name site) = sym (expr.rolls-Shared name nowhere)
rolled (Expr-F.Field object name site) = sym (expr.rolls-Field object name nowhere)
rolled (Expr-F.Paren inner site) = sym (expr.rolls-Paren inner nowhere)
rolled (Expr-F.Not inner site) = sym (expr.rolls-Not inner nowhere)
rolled (Expr-F.Minus inner site) = sym (expr.rolls-Minus inner nowhere)
rolled (Expr-F.Binary op left right site) = sym (expr.rolls-Binary op left right nowhere)
rolled (Expr-F.Cond test left right site) = sym (expr.rolls-Cond test left right nowhere)

abbrev IsSo : Expr → Type 0
IsSo e = mentions (bare_expr e) ≡ map bare_mention (mentions e)

each_so : (es : List ((e : Expr) × IsSo e)) → map mentions (map bare_expr (map (λ e. e.0) es)) ≡ map (map bare_mention) (map mentions (map (λ e. e.0) es))
each_so [] = refl
each_so (e ∷ es) = rw (e.1, each_so es) refl

-- the operands that a layer holds, each with its proof
abbrev operands : Expr-F ((e : Expr) × IsSo e) → Expr-F Expr
operands y = map-Expr ((e : Expr) × IsSo e) Expr (λ e. e.0) y

layer_so : (y : Expr-F ((e : Expr) × IsSo e))
    → mentions_step (map-Expr Expr (List Mention) mentions (placeless (map-Expr Expr Expr bare_expr (operands y))))
    ≡ map bare_mention (mentions_step (map-Expr Expr (List Mention) mentions (operands y)))
layer_so (Expr-F.Number value site) = refl
layer_so (Expr-F.Truth value site) = refl
layer_so (Expr-F.Null site) = refl
layer_so (Expr-F.Local name site) = refl
layer_so (Expr-F.Call name args site) = ap all_of (each_so args) ∙ all_mapped bare_mention (map mentions (map (λ e. e.0) args))
layer_so (Expr-F.Shared name site) = refl
layer_so (Expr-F.Field object name site) = object.1
layer_so (Expr-F.Paren inner site) = inner.1
layer_so (Expr-F.Not inner site) = inner.1
layer_so (Expr-F.Minus inner site) = inner.1
layer_so (Expr-F.Binary op left right site) =
    ap (λ l. l ++ mentions (bare_expr right.0)) left.1 ∙ ap (λ l. map bare_mention (mentions left.0) ++ l) right.1
    ∙ sym (map-append bare_mention (mentions left.0) (mentions right.0))
layer_so (Expr-F.Cond test left right site) =
    ap (λ l. l ++ mentions (bare_expr left.0) ++ mentions (bare_expr right.0)) test.1
    ∙ ap (λ l. map bare_mention (mentions test.0) ++ l ++ mentions (bare_expr right.0)) left.1
    ∙ ap (λ l. map bare_mention (mentions test.0) ++ map bare_mention (mentions left.0) ++ l) right.1
    ∙ ap (λ l. l ++ map bare_mention (mentions right.0)) (sym (map-append bare_mention (mentions test.0) (mentions left.0)))
    ∙ sym (map-append bare_mention (mentions test.0 ++ mentions left.0) (mentions right.0))

mentions_of : (x : Expr-F Expr) → mentions (roll-Expr x) ≡ mentions_step (map-Expr Expr (List Mention) mentions x)
unfolding mentions
mentions_of x = fold-roll-Expr (List Mention) mentions_step x

bare_of : (x : Expr-F Expr) → bare_expr (roll-Expr x) ≡ expr_layer (map-Expr Expr Expr bare_expr x)
unfolding bare_expr
bare_of x = fold-roll-Expr Expr expr_layer x

mentions_same : (e : Expr) → mentions (bare_expr e) ≡ map bare_mention (mentions e)
mentions_same = ind-Expr IsSo (λ x y is.
    subst (λ z. IsSo (roll-Expr z)) is
    (ap mentions (bare_of (operands y) ∙ rolled (map-Expr Expr Expr bare_expr (operands y)))
    ∙ mentions_of (placeless (map-Expr Expr Expr bare_expr (operands y))) ∙ layer_so y ∙ sym (ap (map bare_mention) (mentions_of (operands y)))))

-- ---- statements

named_same : (ms : List Mention) (name : List ℕ) → is_named (map bare_mention ms) name ≡ is_named ms name
named_same [] name = refl
named_same (m ∷ ms) name = ap (λ b. bytes_eq m.name name || b) (named_same ms name)

if_item : (b : Bool) (site : Site) → (if b then [] else item.One what.CheckArgs nowhere ∷ []) ≡ map bare_item (if b then [] else item.One what.CheckArgs site ∷ [])
if_item true site = refl
if_item false site = refl

arguments_same : (before ms : List Mention) → argument_items (map bare_mention before) (map bare_mention ms) ≡ map bare_item (argument_items before ms)
arguments_same before [] = refl
arguments_same before (m ∷ ms) =
    let first : argument_item (map bare_mention before) (bare_mention m) ≡ map bare_item (argument_item before m) =
    ap (λ b. if b then [] else item.One what.CheckArgs nowhere ∷ []) (named_same before m.name) ∙ if_item (is_named before m.name) m.site in
    let rest : argument_items (map bare_mention before ++ bare_mention m ∷ []) (map bare_mention ms) ≡ map bare_item (argument_items (before ++ m ∷ []) ms) =
    ap (λ l. argument_items l (map bare_mention ms)) (sym (map-append bare_mention before (m ∷ []))) ∙ arguments_same (before ++ m ∷ []) ms in
    ap (λ l. l ++ argument_items (map bare_mention before ++ bare_mention m ∷ []) (map bare_mention ms)) first
    ∙ ap (λ l. map bare_item (argument_item before m) ++ l) rest ∙ sym (map-append bare_item (argument_item before m) (argument_items (before ++ m ∷ []) ms))

check_same : (body : Expr) (site : Site) → check_items (bare_expr body) nowhere ≡ map bare_item (check_items body site)
unfolding check_items
check_same body site =
    ap (λ l. item.One what.Checks nowhere ∷ item.Anew what.CheckArgs ∷ argument_items [] l) (mentions_same body)
    ∙ ap (λ l. item.One what.Checks nowhere ∷ item.Anew what.CheckArgs ∷ l) (arguments_same [] (mentions body))

abbrev IsAlso : Stmt → Type 0
IsAlso s = stmt_items (bare_stmt s) ≡ map bare_item (stmt_items s)

each_also : (ss : List ((s : Stmt) × IsAlso s)) → map stmt_items (map bare_stmt (map (λ s. s.0) ss)) ≡ map (map bare_item) (map stmt_items (map (λ s. s.0) ss))
each_also [] = refl
each_also (s ∷ ss) = rw (s.1, each_also ss) refl

abbrev parts : Stmt-F ((s : Stmt) × IsAlso s) → Stmt-F Stmt
parts y = map-Stmt ((s : Stmt) × IsAlso s) Stmt (λ s. s.0) y

items_of_stmt : (x : Stmt-F Stmt) → stmt_items (roll-Stmt x) ≡ stmt_step (map-Stmt Stmt (List Item) stmt_items x)
unfolding stmt_items
items_of_stmt x = fold-roll-Stmt (List Item) stmt_step x

bare_of_stmt : (x : Stmt-F Stmt) → bare_stmt (roll-Stmt x) ≡ stmt_layer (map-Stmt Stmt Stmt bare_stmt x)
unfolding bare_stmt
bare_of_stmt x = fold-roll-Stmt Stmt stmt_layer x

block_also : (ss : List ((s : Stmt) × IsAlso s)) → all_of (map stmt_items (map bare_stmt (map (λ s. s.0) ss))) ≡ map bare_item (all_of (map stmt_items (map (λ s. s.0) ss)))
block_also ss = ap all_of (each_also ss) ∙ all_mapped bare_item (map stmt_items (map (λ s. s.0) ss))

layer_also : (y : Stmt-F ((s : Stmt) × IsAlso s)) → stmt_items (stmt_layer (map-Stmt Stmt Stmt bare_stmt (parts y))) ≡ map bare_item (stmt_step (map-Stmt Stmt (List Item) stmt_items (parts y)))
layer_also (Stmt-F.Var name name_site kind value site) =
    ap stmt_items (sym (stmt.rolls-Var name nowhere (bare_type kind) (bare_value value) nowhere))
    ∙ items_of_stmt (Stmt-F.Var name nowhere (bare_type kind) (bare_value value) nowhere)
layer_also (Stmt-F.Assign name value site) = ap stmt_items (sym (stmt.rolls-Assign name (bare_value value) nowhere)) ∙ items_of_stmt (Stmt-F.Assign name (bare_value value) nowhere)
layer_also (Stmt-F.Put place value site) = ap stmt_items (sym (stmt.rolls-Put (bare_expr place) (bare_value value) nowhere)) ∙ items_of_stmt (Stmt-F.Put (bare_expr place) (bare_value value) nowhere)
layer_also (Stmt-F.If cond first None site) =
    ap stmt_items (sym (stmt.rolls-If (bare_expr cond) (map bare_stmt (map (λ s. s.0) first)) None nowhere))
    ∙ items_of_stmt (Stmt-F.If (bare_expr cond) (map bare_stmt (map (λ s. s.0) first)) None nowhere)
    ∙ ap (λ l. l ++ []) (block_also first) ∙ sym (map-append bare_item (all_of (map stmt_items (map (λ s. s.0) first))) [])
layer_also (Stmt-F.If cond first (Some body) site) =
    ap stmt_items (sym (stmt.rolls-If (bare_expr cond) (map bare_stmt (map (λ s. s.0) first)) (Some (map bare_stmt (map (λ s. s.0) body))) nowhere))
    ∙ items_of_stmt (Stmt-F.If (bare_expr cond) (map bare_stmt (map (λ s. s.0) first)) (Some (map bare_stmt (map (λ s. s.0) body))) nowhere)
    ∙ ap (λ l. l ++ all_of (map stmt_items (map bare_stmt (map (λ s. s.0) body)))) (block_also first)
    ∙ ap (λ l. map bare_item (all_of (map stmt_items (map (λ s. s.0) first))) ++ l) (block_also body)
    ∙ sym (map-append bare_item (all_of (map stmt_items (map (λ s. s.0) first))) (all_of (map stmt_items (map (λ s. s.0) body))))
layer_also (Stmt-F.While cond body site) =
    ap stmt_items (sym (stmt.rolls-While (bare_expr cond) (map bare_stmt (map (λ s. s.0) body)) nowhere))
    ∙ items_of_stmt (Stmt-F.While (bare_expr cond) (map bare_stmt (map (λ s. s.0) body)) nowhere) ∙ block_also body
layer_also (Stmt-F.Call name args site) = ap stmt_items (sym (stmt.rolls-Call name (map bare_expr args) nowhere)) ∙ items_of_stmt (Stmt-F.Call name (map bare_expr args) nowhere)
layer_also (Stmt-F.Check body site) =
    ap stmt_items (sym (stmt.rolls-Check (bare_expr body) nowhere)) ∙ items_of_stmt (Stmt-F.Check (bare_expr body) nowhere) ∙ check_same body site

-- a statement without its places has the same items to count, without theirs
pub stmt_same : (s : Stmt) → stmt_items (bare_stmt s) ≡ map bare_item (stmt_items s)
stmt_same = ind-Stmt IsAlso (λ x y is.
    subst (λ z. IsAlso (roll-Stmt z)) is
    (ap stmt_items (bare_of_stmt (parts y)) ∙ layer_also y ∙ sym (ap (map bare_item) (items_of_stmt (parts y)))))

-- ---- programs

-- items of things one after another
each_mapped : {X : Type 0} (f : X → List Item) (b : X → X) → ((x : X) → f (b x) ≡ map bare_item (f x)) → (xs : List X)
    → flat_map f (map b xs) ≡ map bare_item (flat_map f xs)
each_mapped f b h [] = refl
each_mapped f b h (x ∷ xs) =
    ap (λ l. l ++ flat_map f (map b xs)) (h x) ∙ ap (λ l. map bare_item (f x) ++ l) (each_mapped f b h xs) ∙ sym (map-append bare_item (f x) (flat_map f xs))

fields_same : (fields : List Field) → flat_map field_items (map bare_field fields) ≡ map bare_item (flat_map field_items fields)
fields_same = each_mapped field_items bare_field (λ f. refl)

params_same : (params : List Param) → flat_map param_items (map bare_param params) ≡ map bare_item (flat_map param_items params)
params_same = each_mapped param_items bare_param (λ p. refl)

stmts_same : (ss : List Stmt) → flat_map stmt_items (map bare_stmt ss) ≡ map bare_item (flat_map stmt_items ss)
stmts_same = each_mapped stmt_items bare_stmt stmt_same

class_same : (c : Class) → class_items (bare_class c) ≡ map bare_item (class_items c)
class_same c = ap (λ l. item.One what.Classes nowhere ∷ item.Anew what.Fields ∷ l) (fields_same c.fields)

head_same : (params : List Param) → head_items (map bare_param params) ≡ map bare_item (head_items params)
head_same params = ap (λ l. item.Anew what.Params ∷ item.Anew what.Locals ∷ l) (params_same params)

pred_same : (p : Pred) → pred_items (bare_pred p) ≡ map bare_item (pred_items p)
pred_same p = ap (λ l. item.One what.Preds nowhere ∷ l) (head_same p.params)

proc_same : (p : Proc) → proc_items (bare_proc p) ≡ map bare_item (proc_items p)
proc_same p =
    ap (λ l. (item.One what.Procs nowhere ∷ l) ++ flat_map stmt_items (map bare_stmt p.body)) (head_same p.params)
    ∙ ap (λ l. (item.One what.Procs nowhere ∷ map bare_item (head_items p.params)) ++ l) (stmts_same p.body)
    ∙ sym (map-append bare_item (item.One what.Procs p.site ∷ head_items p.params) (flat_map stmt_items p.body))

thread_same : (t : Thread) → thread_items (bare_thread t) ≡ map bare_item (thread_items t)
thread_same t = ap (λ l. item.One what.Threads nowhere ∷ item.Anew what.Locals ∷ l) (stmts_same t.body)

two_mapped : (a b x y : List Item) → a ≡ map bare_item x → b ≡ map bare_item y → a ++ b ≡ map bare_item (x ++ y)
two_mapped a b x y h k = ap (λ l. l ++ b) h ∙ ap (λ l. map bare_item x ++ l) k ∙ sym (map-append bare_item x y)

items_same : (p : Program) → items_of (bare p) ≡ map bare_item (items_of p)
unfolding items_of bare
items_same p =
    let classes = each_mapped class_items bare_class class_same p.classes in
    let shared = ap (λ l. item.Anew what.Fields ∷ l) (fields_same p.shared) in
    let preds = each_mapped pred_items bare_pred pred_same p.preds in
    let procs = each_mapped proc_items bare_proc proc_same p.procs in
    let threads = each_mapped thread_items bare_thread thread_same p.threads in
    two_mapped _ _ _ _ (two_mapped _ _ _ _ (two_mapped _ _ _ _ (two_mapped _ _ _ _ classes shared) preds) procs) threads

if_none : (b : Bool) (x y : What × Site) → (if b then None else Some x) ≡ None → (if b then None else Some y) ≡ None
if_none true x y h = refl
if_none false x y h = absurd cc

excess_anywhere : (counts : List ℕ) (i : Item) → excess counts (bare_item i) ≡ None → excess counts i ≡ None
excess_anywhere counts (item.Anew w) h = refl
excess_anywhere counts (item.One w site) h = if_none (nat_lt (slice_index counts (slot w)) (most w)) (w, nowhere) (w, site) h

excess_nowhere : (counts : List ℕ) (i : Item) → excess counts i ≡ None → excess counts (bare_item i) ≡ None
excess_nowhere counts (item.Anew w) h = refl
excess_nowhere counts (item.One w site) h = if_none (nat_lt (slice_index counts (slot w)) (most w)) (w, site) (w, nowhere) h

counted_same : (counts : List ℕ) (i : Item) → counted counts (bare_item i) ≡ counted counts i
counted_same counts (item.Anew w) = refl
counted_same counts (item.One w site) = refl

to_bare : (counts : List ℕ) (is : List Item) → Each excess counted counts is → Each excess counted counts (map bare_item is)
to_bare counts [] h = tt
to_bare counts (i ∷ is) h =
    (excess_nowhere counts i h.0, subst (λ c. Each excess counted c (map bare_item is)) (sym (counted_same counts i)) (to_bare (counted counts i) is h.1))

from_bare : (counts : List ℕ) (is : List Item) → Each excess counted counts (map bare_item is) → Each excess counted counts is
from_bare counts [] h = tt
from_bare counts (i ∷ is) h =
    (excess_anywhere counts i h.0, from_bare (counted counts i) is (subst (λ c. Each excess counted c (map bare_item is)) (counted_same counts i) h.1))

-- trees that are the same but for places have the same counts
pub counts_same : (p q : Program) → bare p ≡ bare q → IsWithinCounts p → IsWithinCounts q
counts_same p q e h =
    let bared : Each excess counted at_start (items_of (bare p)) =
    subst (Each excess counted at_start) (sym (items_same p)) (to_bare at_start (items_of p) (each_from excess counted at_start (items_of p) h)) in
    let other : Each excess counted at_start (map bare_item (items_of q)) =
    subst (Each excess counted at_start) (ap items_of e ∙ items_same q) bared in
    each_to excess counted at_start (items_of q) (from_bare at_start (items_of q) other)

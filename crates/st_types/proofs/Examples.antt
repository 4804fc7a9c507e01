-- A small source, with numbers in the place of names, computed by the prover.
use Rattle.std.proofs.Common.{◌≡◌, ℕ, Bool, true, false, List, [], ◌∷◌, ◌++◌, map, length, pos, refl, ap, sym, ◌∙◌}
use Rattle.std.specs.Prelude.{ℤ, codes}
use Rattle.std.specs.List.{flat_map}
use Rattle.st_events.specs.declared.events.Site.{Site}
use Rattle.st_events.specs.declared.shapes.Kind.TheVariants as kinds
use Rattle.st_ast.specs.declared.declarations.Program as trees
use Rattle.st_ast.specs.declared.declarations.Pred.{Pred}
use Rattle.st_ast.specs.declared.declarations.TypeName.TheVariants as types
use Rattle.st_ast.specs.declared.operators.Op.{Op}
use Rattle.st_ast.specs.declared.operators.Op.TheVariants as op
use Rattle.st_ast.specs.declared.expressions.Expr.{Expr}
use Rattle.st_ast.specs.declared.expressions.Expr.TheVariants as expr
use Rattle.st_ast.specs.declared.expressions.Expr.TheOpen.{Expr-F}
use Rattle.st_ast.specs.declared.expressions.Expr.TheFolds.{fold-roll-Expr}
use Rattle.st_ast.specs.declared.statements.Stmt.{Stmt}
use Rattle.st_ast.specs.declared.statements.Stmt.TheVariants as stmts
use Rattle.st_ast.specs.declared.statements.Stmt.TheOpen.{Stmt-F}
use Rattle.st_ast.specs.declared.statements.Stmt.TheFolds.{fold-roll-Stmt}
use Rattle.st_ast.specs.declared.statements.Value.TheVariants as values
use Rattle.st_resolved.specs.declared.expressions.Operator.TheVariants as operator
use Rattle.st_resolved.specs.Terms.{Term, a_number, a_local, a_binary, an_either, a_call, no_terms, term_then, from_term, Command, a_set, a_launch, no_commands, command_then, Program}
use Rattle.st_types.specs.declared.kinds.Found.TheVariants.{Known}
use Rattle.st_types.specs.declared.errors.TypeError.{TypeError}
use Rattle.st_types.specs.Judged.{Judged, judged, judged_node, in_order}
use Rattle.st_types.specs.Kinds.{asks}
use Rattle.st_types.specs.Names.{Local}
use Rattle.st_types.specs.Nodes.{a_bool, an_int}
use Rattle.st_types.specs.Rules.{faults_of, resolution, pred_scope}
use Rattle.st_types.specs.Scopes.{ScopeView}
use Rattle.st_types.specs.Statements.{mentions, mentions_layer, numbers_of, args_of_check, locals_at, check_scope, plain_scope, known_kind, asks_new, is_local, declare}
use Rattle.st_types.specs.Statements.{Launched, Reached, Walked, WalkedBlock, walk_all, walk_node, walk}
use Rattle.st_types.proofs.ArgumentLemmas.{mentions_of_call, mentions_of_binary}

-- ---- the source, on one line

-- a place, by its column
abbrev column : ℕ → Site
column n = record { line = 1; column = n }

-- `pred low(x: int, y: int): bool = x < y;`
abbrev low : Pred
low = record {
  name = codes "low";
  params = record { name = codes "x"; kind = types.Int; site = column 10 } ∷ record { name = codes "y"; kind = types.Int; site = column 18 } ∷ [];
  result = types.Bool;
  body = expr.Binary op.Less (expr.Local (codes "x") (column 34)) (expr.Local (codes "y") (column 38)) (column 36);
  site = column 6;
}

-- `low(b, a)`
abbrev a_call_of_low : Expr
a_call_of_low = expr.Call (codes "low") (expr.Local (codes "b") (column 94) ∷ expr.Local (codes "a") (column 97) ∷ []) (column 90)

-- `b == a`
abbrev an_equality : Expr
an_equality = expr.Binary op.Equal (expr.Local (codes "b") (column 103)) (expr.Local (codes "a") (column 108)) (column 105)

-- `low(b, a) || b == a`
abbrev condition : Expr
condition = expr.Binary op.Either a_call_of_low an_equality (column 100)

-- `var a: int = 1;`
abbrev a_var : Stmt
a_var = stmts.Var (codes "a") (column 56) types.Int (values.Plain (expr.Number (pos 1) (column 65))) (column 52)

-- `var b: int = 2;`
abbrev b_var : Stmt
b_var = stmts.Var (codes "b") (column 72) types.Int (values.Plain (expr.Number (pos 2) (column 81))) (column 68)

-- `check low(b, a) || b == a;`
abbrev its_statement : Stmt
its_statement = stmts.Check condition (column 84)

-- the statements of the thread
abbrev body : List Stmt
body = a_var ∷ b_var ∷ its_statement ∷ []

-- the predicate, and `thread t { .. }` around the statements
abbrev tree : trees.Program
tree = record { classes = []; shared = []; preds = low ∷ []; procs = []; threads = record { name = codes "t"; body = body; site = column 48 } ∷ [] }

-- ---- nodes, one by one

number : (s : ScopeView) (value : ℤ) (site : Site) → judged s (expr.Number value site) ≡ judged_node s (Expr-F.Number value site)
number s value site = ap (judged s) (sym (expr.rolls-Number value site)) ∙ fold-roll-Expr Judged (judged_node s) (Expr-F.Number value site)

local : (s : ScopeView) (name : List ℕ) (site : Site) → judged s (expr.Local name site) ≡ judged_node s (Expr-F.Local name site)
local s name site = ap (judged s) (sym (expr.rolls-Local name site)) ∙ fold-roll-Expr Judged (judged_node s) (Expr-F.Local name site)

call : (s : ScopeView) (name : List ℕ) (args : List Expr) (site : Site) → judged s (expr.Call name args site) ≡ judged_node s (Expr-F.Call name (map (judged s) args) site)
call s name args site = ap (judged s) (sym (expr.rolls-Call name args site)) ∙ fold-roll-Expr Judged (judged_node s) (Expr-F.Call name args site)

binary : (s : ScopeView) (o : Op) (left right : Expr) (site : Site) (l r : Judged) → judged s left ≡ l → judged s right ≡ r
    → judged s (expr.Binary o left right site) ≡ judged_node s (Expr-F.Binary o l r site)
binary s o left right site l r h k =
    ap (judged s) (sym (expr.rolls-Binary o left right site)) ∙ fold-roll-Expr Judged (judged_node s) (Expr-F.Binary o left right site)
    ∙ ap (λ x. judged_node s (Expr-F.Binary o x (judged s right) site)) h ∙ ap (λ x. judged_node s (Expr-F.Binary o l x site)) k

mentions_of_local : (name : List ℕ) (site : Site) → mentions (expr.Local name site) ≡ name ∷ []
mentions_of_local name site = ap mentions (sym (expr.rolls-Local name site)) ∙ fold-roll-Expr (List (List ℕ)) mentions_layer (Expr-F.Local name site)

-- ---- the arguments of the check: b, which is named first, and then a

-- the locals of the thread, where the check stands
abbrev locals : List Local
locals = record { name = codes "a"; kind = an_int; is_known = true } ∷ record { name = codes "b"; kind = an_int; is_known = true } ∷ []

names_of_call : mentions a_call_of_low ≡ codes "b" ∷ codes "a" ∷ []
names_of_call =
    mentions_of_call (codes "low") (expr.Local (codes "b") (column 94) ∷ expr.Local (codes "a") (column 97) ∷ []) (column 90)
    ∙ ap (λ names. names ++ flat_map mentions (expr.Local (codes "a") (column 97) ∷ [])) (mentions_of_local (codes "b") (column 94))
    ∙ ap (λ names. codes "b" ∷ (names ++ [])) (mentions_of_local (codes "a") (column 97))

names_of_equality : mentions an_equality ≡ codes "b" ∷ codes "a" ∷ []
names_of_equality =
    mentions_of_binary op.Equal (expr.Local (codes "b") (column 103)) (expr.Local (codes "a") (column 108)) (column 105)
    ∙ ap (λ names. names ++ mentions (expr.Local (codes "a") (column 108))) (mentions_of_local (codes "b") (column 103))
    ∙ ap (λ names. codes "b" ∷ names) (mentions_of_local (codes "a") (column 108))

names : mentions condition ≡ codes "b" ∷ codes "a" ∷ codes "b" ∷ codes "a" ∷ []
names =
    mentions_of_binary op.Either a_call_of_low an_equality (column 100)
    ∙ ap (λ ns. ns ++ mentions an_equality) names_of_call
    ∙ ap (λ ns. codes "b" ∷ codes "a" ∷ ns) names_of_equality

-- the arguments of a check that has these names
abbrev args_of : List (List ℕ) → List ℕ
args_of ns = numbers_of locals ns []

pub arguments : args_of_check locals condition ≡ 1 ∷ 0 ∷ []
arguments = ap args_of names

-- ---- what the check's expression is, over its arguments: b is its local 0, and a its local 1

-- what the check's expression stands in
abbrev inside : ScopeView
inside = record {
  program = tree;
  locals = record { name = codes "b"; kind = an_int; is_known = true } ∷ record { name = codes "a"; kind = an_int; is_known = true } ∷ [];
  may_call = true;
}

-- the scope of the check, of such arguments
abbrev scope_of : List ℕ → ScopeView
scope_of numbers = record { program = tree; locals = locals_at locals numbers; may_call = true }

its_scope : check_scope tree locals condition ≡ inside
its_scope = ap scope_of arguments

-- `low(b, a) || b == a` with numbers
abbrev its_term : Term
its_term = an_either (a_call 0 (term_then (a_local 0) (term_then (a_local 1) no_terms))) (a_binary operator.Equal (a_local 0) (a_local 1) (column 105))

-- an expression of kind bool without faults
abbrev a_right : Site → Term → Judged
a_right site term = record { seen = record { site = site; kind = a_bool; term = term }; faults = [] }

call_is : judged inside a_call_of_low ≡ a_right (column 90) (a_call 0 (term_then (a_local 0) (term_then (a_local 1) no_terms)))
call_is =
    call inside (codes "low") (expr.Local (codes "b") (column 94) ∷ expr.Local (codes "a") (column 97) ∷ []) (column 90)
    ∙ ap (λ j. judged_node inside (Expr-F.Call (codes "low") (j ∷ judged inside (expr.Local (codes "a") (column 97)) ∷ []) (column 90))) (local inside (codes "b") (column 94))
    ∙ ap (λ j. judged_node inside (Expr-F.Call (codes "low") (judged_node inside (Expr-F.Local (codes "b") (column 94)) ∷ j ∷ []) (column 90))) (local inside (codes "a") (column 97))

equality_is : judged inside an_equality ≡ a_right (column 105) (a_binary operator.Equal (a_local 0) (a_local 1) (column 105))
equality_is = binary inside op.Equal (expr.Local (codes "b") (column 103)) (expr.Local (codes "a") (column 108)) (column 105) _ _ (local inside (codes "b") (column 103)) (local inside (codes "a") (column 108))

condition_is : judged inside condition ≡ a_right (column 100) its_term
condition_is = binary inside op.Either a_call_of_low an_equality (column 100) _ _ call_is equality_is

-- ---- the predicate's body

abbrev in_low : ScopeView
in_low = pred_scope tree low

low_is : judged in_low low.body ≡ a_right (column 36) (a_binary operator.Less (a_local 0) (a_local 1) (column 36))
low_is = binary in_low op.Less (expr.Local (codes "x") (column 34)) (expr.Local (codes "y") (column 38)) (column 36) _ _ (local in_low (codes "x") (column 34)) (local in_low (codes "y") (column 38))

-- ---- the statements, one by one

-- how far the walk is
abbrev reached : List Local → List Launched → Reached
reached locals checks = record { locals = locals; checks = checks }

-- a statement without faults
abbrev walked : Command → Reached → Walked
walked command r = record { faults = []; command = command; reached = r }

-- `var name: int = ..`, whose value is judged so
abbrev by_value : List ℕ → Site → Reached → Judged → Bool → Walked
by_value name site r j is_taken = record {
  faults = in_order (asks_new is_taken site ∷ [] ∷ j.faults ∷ asks an_int j.seen.site j.seen.kind ∷ []);
  command = a_set (length r.locals) (from_term j.seen.term);
  reached = declare r name an_int;
}

var_walk : (name : List ℕ) (name_site value_site site : Site) (value : ℤ) (r : Reached) → is_local r.locals name ≡ false
    → walk tree (stmts.Var name name_site types.Int (values.Plain (expr.Number value value_site)) site) r
    ≡ walked (a_set (length r.locals) (from_term (a_number value))) (declare r name an_int)
var_walk name name_site value_site site value r is_new =
    ap (λ s. walk tree s r) (sym (stmts.rolls-Var name name_site types.Int (values.Plain (expr.Number value value_site)) site))
    ∙ ap (λ (f : Reached → Walked). f r) (fold-roll-Stmt (Reached → Walked) (walk_node tree) (Stmt-F.Var name name_site types.Int (values.Plain (expr.Number value value_site)) site))
    ∙ ap (λ j. by_value name site r j (is_local r.locals name)) (number (plain_scope tree r.locals) value value_site)
    ∙ ap (by_value name site r (judged_node (plain_scope tree r.locals) (Expr-F.Number value value_site))) is_new

-- the check statement with numbers
abbrev its_check : Launched
its_check = record { check = record { args = 1 ∷ 0 ∷ []; body = its_term; at = column 84 }; kinds = kinds.Int ∷ kinds.Int ∷ [] }

-- a check statement with these arguments, whose expression is judged so
abbrev with_args : List ℕ → Judged → Walked
with_args ns j = record {
  faults = in_order (j.faults ∷ asks a_bool j.seen.site j.seen.kind ∷ []);
  command = a_launch 0;
  reached = reached locals (record {
    check = record { args = ns; body = j.seen.term; at = column 84 };
    kinds = map (λ l. known_kind l.kind) (locals_at locals ns);
  } ∷ []);
}

check_walk : walk tree (stmts.Check condition (column 84)) (reached locals []) ≡ walked (a_launch 0) (reached locals (its_check ∷ []))
check_walk =
    ap (λ s. walk tree s (reached locals [])) (sym (stmts.rolls-Check condition (column 84)))
    ∙ ap (λ (f : Reached → Walked). f (reached locals [])) (fold-roll-Stmt (Reached → Walked) (walk_node tree) (Stmt-F.Check condition (column 84)))
    ∙ ap (λ ns. with_args ns (judged (scope_of ns) condition)) arguments
    ∙ ap (with_args (1 ∷ 0 ∷ [])) condition_is

-- a statement, and those behind it
abbrev behind_walk : Walked → WalkedBlock → WalkedBlock
behind_walk w more = record { faults = w.faults ++ more.faults; block = command_then w.command more.block; reached = more.reached }

next_walk : (f : Reached → Walked) (more : List (Reached → Walked)) (r : Reached) (w : Walked) → f r ≡ w → walk_all (f ∷ more) r ≡ behind_walk w (walk_all more w.reached)
next_walk f more r w h = ap (λ x. behind_walk x (walk_all more x.reached)) h

-- ---- the whole tree

-- the statements of the thread with numbers
abbrev its_body : WalkedBlock
its_body = record {
  faults = [];
  block = command_then (a_set 0 (from_term (a_number (pos 1)))) (command_then (a_set 1 (from_term (a_number (pos 2)))) (command_then (a_launch 0) no_commands));
  reached = reached locals (its_check ∷ []);
}

-- the walk over a list of statements
abbrev from_here : List Stmt → Reached → WalkedBlock
from_here ss r = walk_all (map (walk tree) ss) r

-- the two variables
abbrev a_walked : Walked
a_walked = walked (a_set 0 (from_term (a_number (pos 1)))) (declare (reached [] []) (codes "a") an_int)

abbrev b_walked : Walked
b_walked = walked (a_set 1 (from_term (a_number (pos 2)))) (reached locals [])

-- the check
abbrev check_walked : Walked
check_walked = walked (a_launch 0) (reached locals (its_check ∷ []))

body_is : from_here body (reached [] []) ≡ its_body
body_is =
    next_walk (walk tree a_var) (map (walk tree) (b_var ∷ its_statement ∷ [])) (reached [] []) a_walked (var_walk (codes "a") (column 56) (column 65) (column 52) (pos 1) (reached [] []) refl)
    ∙ ap (behind_walk a_walked)
    (next_walk (walk tree b_var) (map (walk tree) (its_statement ∷ [])) a_walked.reached b_walked (var_walk (codes "b") (column 72) (column 81) (column 68) (pos 2) a_walked.reached refl))
    ∙ ap (λ b. behind_walk a_walked (behind_walk b_walked b)) (next_walk (walk tree its_statement) [] b_walked.reached check_walked check_walk)

-- the predicate's body with numbers
abbrev low_judged : Judged
low_judged = a_right (column 36) (a_binary operator.Less (a_local 0) (a_local 1) (column 36))

-- the program of a body of `low` and a walk over the thread
abbrev numbered : Judged → WalkedBlock → Program
numbered j w = record {
  preds = record { params = kinds.Int ∷ kinds.Int ∷ []; result = kinds.Bool; body = j.seen.term } ∷ [];
  procs = [];
  threads = record { params = 0; locals = map (λ l. known_kind l.kind) w.reached.locals; block = w.block } ∷ [];
  checks = map (λ l. l.check) w.reached.checks;
}

-- the tree with numbers in the place of names
pub its_resolution :
    resolution tree
    ≡ record {
      preds = record { params = kinds.Int ∷ kinds.Int ∷ []; result = kinds.Bool; body = a_binary operator.Less (a_local 0) (a_local 1) (column 36) } ∷ [];
      procs = [];
      threads = record { params = 0; locals = kinds.Int ∷ kinds.Int ∷ []; block = its_body.block } ∷ [];
      checks = its_check.check ∷ [];
    }
unfolding resolution
its_resolution = ap (λ j. numbered j (from_here body (reached [] []))) low_is ∙ ap (numbered low_judged) body_is

-- the faults of a body of `low` and of a walk over the thread
abbrev all_faults : Judged → WalkedBlock → List TypeError
all_faults j w = in_order ([] ∷ [] ∷ ((j.faults ++ asks a_bool j.seen.site j.seen.kind) ++ []) ∷ [] ∷ (w.faults ++ []) ∷ [])

-- it breaks no rule
pub it_has_no_faults : faults_of tree ≡ []
unfolding faults_of
it_has_no_faults = ap (λ j. all_faults j (from_here body (reached [] []))) low_is ∙ ap (all_faults low_judged) body_is

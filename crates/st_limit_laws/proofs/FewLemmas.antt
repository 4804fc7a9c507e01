-- Of a spelled program of which no item is above its limit, there are few of each declaration.
use Rattle.std.proofs.Common.{◌≡◌, ◌≢◌, ℕ, ◌+◌, ◌≤◌, ◌<◌, Bool, true, false, if◌then◌else◌, List, [], ◌∷◌, ◌++◌, map, length, fold, All, Option}
use Rattle.std.proofs.Common.{Some, None, refl, ap, sym, subst}
use Rattle.std.proofs.Common.{◌∙◌, append_assoc, append-nil, arith, rules}
use Rattle.std.specs.List.{flat_map}
use Rattle.std.proofs.lemmas.List.Folds.{flat_map-map}
use Rattle.std.proofs.lemmas.List.{get_or-set_same}
use Rattle.std.proofs.lemmas.List.Elements.{All-cons}
use Rattle.st_ast.specs.declared.declarations.Class.{Class}
use Rattle.st_ast.specs.declared.declarations.Field.{Field}
use Rattle.st_ast.specs.declared.declarations.Param.{Param}
use Rattle.st_ast.specs.declared.declarations.Pred.{Pred}
use Rattle.st_ast.specs.declared.declarations.Proc.{Proc}
use Rattle.st_ast.specs.declared.declarations.Program.{Program}
use Rattle.st_ast.specs.declared.declarations.Thread.{Thread}
use Rattle.st_ast.specs.declared.declarations.TypeName.{TypeName}
use Rattle.st_ast.specs.declared.expressions.Expr.{Expr}
use Rattle.st_ast.specs.declared.statements.Stmt.{Stmt, the_lemmas}
use Rattle.st_ast.specs.declared.statements.Stmt.TheVariants as stmt
use Rattle.st_ast.specs.declared.statements.Value.{Value}
use Rattle.st_ast.specs.Sites.{site_of_expr}
use Rattle.st_events.specs.declared.events.Site.{Site}
use Rattle.st_events.specs.declared.shapes.TheConstants.{MOST_FIELDS}
use Rattle.st_resolved.specs.declared.limits.TheConstants.{MOST_PARAMS, MOST_LOCALS}
use Rattle.st_grammar.specs.declared.counts.Item.{Item}
use Rattle.st_grammar.specs.declared.counts.Item.TheVariants as item
use Rattle.st_grammar.specs.declared.counts.What.{What}
use Rattle.st_grammar.specs.declared.counts.What.TheVariants as what
use Rattle.st_grammar.specs.Counts as c
use Rattle.st_grammar.specs.Counts.{slot, most, counted, excess, at_start, items_of, stmt_items, check_items, IsWithinCounts}
use Rattle.st_grammar.specs.Firsts.{first_from}
use Rattle.st_grammar.specs.Grammar as g
use Rattle.st_grammar.specs.Grammar.{AreMany, IsStmt, IsElse, IsBlock, AreStmts, IsProc, IsThread, Parses}
use Rattle.st_grammar.specs.Terminals.{Terminal}
use Rattle.st_grammar.proofs.FirstLemmas.{none_of}
use Rattle.st_limit_laws.specs.Few.{HasFewOfEach, IsFewBody, how_many}
use Rattle.st_limit_laws.proofs.TotalLemmas.{within_none, none_append, at, Lasts, slot_below, ones_append, ones_each, lasts_append, lasts_each, counted_length, total}

-- a count that never begins anew: of declarations, and of check statements
record IsTotal (w : What) : Type 0 where
  no_field : slot w ≢ 1
  no_param : slot w ≢ 5
  no_local : slot w ≢ 6
  no_argument : slot w ≢ 7

class_total : IsTotal what.Classes
class_total = record { no_field = λ e. omega (arith, e); no_param = λ e. omega (arith, e); no_local = λ e. omega (arith, e); no_argument = λ e. omega (arith, e) }

pred_total : IsTotal what.Preds
pred_total = record { no_field = λ e. omega (arith, e); no_param = λ e. omega (arith, e); no_local = λ e. omega (arith, e); no_argument = λ e. omega (arith, e) }

proc_total : IsTotal what.Procs
proc_total = record { no_field = λ e. omega (arith, e); no_param = λ e. omega (arith, e); no_local = λ e. omega (arith, e); no_argument = λ e. omega (arith, e) }

check_total : IsTotal what.Checks
check_total = record { no_field = λ e. omega (arith, e); no_param = λ e. omega (arith, e); no_local = λ e. omega (arith, e); no_argument = λ e. omega (arith, e) }

thread_total : IsTotal what.Threads
thread_total = record { no_field = λ e. omega (arith, e); no_param = λ e. omega (arith, e); no_local = λ e. omega (arith, e); no_argument = λ e. omega (arith, e) }

-- no count begins anew among fields
lasts_fields : (w : What) (fields : List Field) → Lasts w (flat_map c.field_items fields)
lasts_fields w [] = tt
lasts_fields w (f ∷ fs) = lasts_fields w fs

-- nor among parameters
lasts_params : (w : What) (params : List Param) → Lasts w (flat_map c.param_items params)
lasts_params w [] = tt
lasts_params w (p ∷ ps) = lasts_params w ps

abbrev given : List Stmt → Option (List Stmt) → List Stmt
given body None = body
given body (Some others) = others

-- in a statement only the count of a check's arguments begins anew
module _ (w : What) (no_argument : slot w ≢ 7) where
  lasts_argument : (b : Bool) (m : c.Mention) (ts : List Item) → Lasts w ts → Lasts w ((if b then [] else item.One what.CheckArgs m.site ∷ []) ++ ts)
  lasts_argument true m ts h = h
  lasts_argument false m ts h = h

  lasts_arguments : (before ms : List c.Mention) → Lasts w (c.argument_items before ms)
  lasts_arguments before [] = tt
  lasts_arguments before (m ∷ ms) = lasts_argument (c.is_named before m.name) m _ (lasts_arguments (before ++ m ∷ []) ms)

  lasts_check : (body : Expr) (site : Site) → Lasts w (check_items body site)
  unfolding check_items
  lasts_check body site = (no_argument, lasts_arguments [] (c.mentions body))

  -- the items of a statement; of one with blocks those of its blocks
  items_of_var : (name : List ℕ) (name_site : Site) (kind : TypeName) (v : Value) (site : Site)
      → stmt_items (stmt.Var name name_site kind v site) ≡ item.One what.Locals name_site ∷ []
  unfolding stmt_items
  items_of_var name name_site kind v site = search (rules, the_lemmas)

  items_of_assign : (name : List ℕ) (v : Value) (site : Site) → stmt_items (stmt.Assign name v site) ≡ []
  unfolding stmt_items
  items_of_assign name v site = search (rules, the_lemmas)

  items_of_put : (place : Expr) (v : Value) (site : Site) → stmt_items (stmt.Put place v site) ≡ []
  unfolding stmt_items
  items_of_put place v site = search (rules, the_lemmas)

  items_of_call : (name : List ℕ) (args : List Expr) (site : Site) → stmt_items (stmt.Call name args site) ≡ []
  unfolding stmt_items
  items_of_call name args site = search (rules, the_lemmas)

  items_of_check : (body : Expr) (site : Site) → stmt_items (stmt.Check body site) ≡ check_items body site
  unfolding stmt_items
  items_of_check body site = search (rules, the_lemmas)

  items_of_if : (cond : Expr) (body others : List Stmt) (other : Option (List Stmt)) (site : Site) → other ≡ Some others
      → stmt_items (stmt.If cond body other site) ≡ flat_map stmt_items body ++ flat_map stmt_items others
  unfolding stmt_items
  items_of_if cond body others other site e = search (rules, the_lemmas, append_assoc, flat_map-map)

  items_of_if_alone : (cond : Expr) (body : List Stmt) (site : Site) → stmt_items (stmt.If cond body None site) ≡ flat_map stmt_items body
  unfolding stmt_items
  items_of_if_alone cond body site = search (rules, the_lemmas, append-nil, append_assoc, flat_map-map)

  items_of_while : (cond : Expr) (body : List Stmt) (site : Site) → stmt_items (stmt.While cond body site) ≡ flat_map stmt_items body
  unfolding stmt_items
  items_of_while cond body site = search (rules, the_lemmas, flat_map-map)

  lasts_as : {xs ys : List Item} → xs ≡ ys → Lasts w ys → Lasts w xs
  lasts_as e h = subst (Lasts w) (sym e) h

  lasts_if : (cond : Expr) (body : List Stmt) (other : Option (List Stmt)) (site : Site)
      → Lasts w (flat_map stmt_items body) → ((others : List Stmt) → other ≡ Some others → Lasts w (flat_map stmt_items others))
      → Lasts w (stmt_items (stmt.If cond body other site))
  lasts_if cond body None site h k = lasts_as (items_of_if_alone cond body site) h
  lasts_if cond body (Some others) site h k = lasts_as (items_of_if cond body others (Some others) site refl) (lasts_append w (flat_map stmt_items body) (flat_map stmt_items others) h (k others refl))

  mutual
    lasts_stmt : {ts : List Terminal} {s : Stmt} → IsStmt ts s → Lasts w (stmt_items s)
    lasts_stmt (g.var {word = word} {name = name} {kind = kind} {v = v} a b d e f h i) = lasts_as (items_of_var name.bytes name.site kind v word.site) tt
    lasts_stmt (g.assigned {name = name} {v = v} a b d e) = lasts_as (items_of_assign name.bytes v name.site) tt
    lasts_stmt (g.put {place = place} {v = v} a b d e) = lasts_as (items_of_put place v (site_of_expr place)) tt
    lasts_stmt (g.if_then {word = word} {cond = cond} {then = body} {other = other} a b d e f h) =
        lasts_if cond body other word.site (lasts_block f) (lasts_else h)
    lasts_stmt (g.while_do {word = word} {cond = cond} {body = body} a b d e f) = lasts_as (items_of_while cond body word.site) (lasts_block f)
    lasts_stmt (g.called {name = name} {args = args} a b d e f) = lasts_as (items_of_call name.bytes args name.site) tt
    lasts_stmt (g.check {word = word} {body = body} a b d) = lasts_as (items_of_check body word.site) (lasts_check body word.site)

    lasts_else : {ts : List Terminal} {other : Option (List Stmt)} → IsElse ts other → (others : List Stmt) → other ≡ Some others
        → Lasts w (flat_map stmt_items others)
    lasts_else g.no_else others e = absurd cc
    lasts_else (g.else_block {body = body} a b) others e = subst (λ l. Lasts w (flat_map stmt_items l)) (ap (given body) e) (lasts_block b)

    lasts_block : {ts : List Terminal} {body : List Stmt} → IsBlock ts body → Lasts w (flat_map stmt_items body)
    lasts_block (g.block a h b) = lasts_stmts h

    lasts_stmts : {ts : List Terminal} {body : List Stmt} → AreStmts ts body → Lasts w (flat_map stmt_items body)
    lasts_stmts g.no_stmts = tt
    lasts_stmts (g.more_stmts {s = s} {ss = ss} h k) = lasts_append w (stmt_items s) (flat_map stmt_items ss) (lasts_stmt h) (lasts_stmts k)

-- what begins anew is the count of fields, or of something in a body
module _ (w : What) (t : IsTotal w) where
  lasts_class : (class : Class) → Lasts w (c.class_items class)
  lasts_class class = (t.no_field, lasts_fields w class.fields)

  lasts_head : (params : List Param) → Lasts w (c.head_items params)
  lasts_head params = (t.no_param, (t.no_local, lasts_params w params))

  lasts_pred : (pred : Pred) → Lasts w (c.pred_items pred)
  lasts_pred pred = lasts_head pred.params

  lasts_procs : {ts : List Terminal} {procs : List Proc} → AreMany IsProc ts procs → Lasts w (flat_map c.proc_items procs)
  lasts_procs g.none = tt
  lasts_procs (g.more {items = procs} (g.proc {params = params} {body = body} a b d e f h) k) =
      lasts_append w (c.head_items params ++ flat_map stmt_items body) (flat_map c.proc_items procs)
      (lasts_append w (c.head_items params) (flat_map stmt_items body) (lasts_head params) (lasts_block w t.no_argument h)) (lasts_procs k)

  lasts_threads : {ts : List Terminal} {threads : List Thread} → AreMany IsThread ts threads → Lasts w (flat_map c.thread_items threads)
  lasts_threads g.none = tt
  lasts_threads (g.more {items = threads} (g.thread {body = body} a b h) k) =
      (t.no_local, lasts_append w (flat_map stmt_items body) (flat_map c.thread_items threads) (lasts_block w t.no_argument h) (lasts_threads k))

  lasts_items : {ts : List Terminal} {p : Program} → Parses ts p → Lasts w (items_of p)
  unfolding items_of
  lasts_items (g.program {classes = classes} {shared = shared} {preds = preds} {procs = procs} {threads = threads} a b d e f) =
      let first : List Item = flat_map c.class_items classes in
      let second : List Item = item.Anew what.Fields ∷ flat_map c.field_items shared in
      let third : List Item = flat_map c.pred_items preds in
      let fourth : List Item = flat_map c.proc_items procs in
      let two : Lasts w (first ++ second) = lasts_append w first second (lasts_each w c.class_items lasts_class classes) (t.no_field, lasts_fields w shared) in
      let three : Lasts w ((first ++ second) ++ third) = lasts_append w (first ++ second) third two (lasts_each w c.pred_items lasts_pred preds) in
      let four : Lasts w (((first ++ second) ++ third) ++ fourth) = lasts_append w ((first ++ second) ++ third) fourth three (lasts_procs e) in
      lasts_append w (((first ++ second) ++ third) ++ fourth) (flat_map c.thread_items threads) four (lasts_threads f)

-- the items of a program, part by part
record Parts (w : What) (p : Program) : Type 0 where
  sum : how_many w (items_of p) ≡ how_many w (flat_map c.class_items p.classes) + how_many w (flat_map c.field_items p.shared)
      + how_many w (flat_map c.pred_items p.preds) + how_many w (flat_map c.proc_items p.procs) + how_many w (flat_map c.thread_items p.threads)

parts_of : (w : What) (p : Program) → Parts w p
unfolding items_of
parts_of w p =
    let classes : List Item = flat_map c.class_items p.classes in
    let shared : List Item = item.Anew what.Fields ∷ flat_map c.field_items p.shared in
    let preds : List Item = flat_map c.pred_items p.preds in
    let procs : List Item = flat_map c.proc_items p.procs in
    let threads : List Item = flat_map c.thread_items p.threads in
    let one : how_many w (classes ++ shared) ≡ how_many w classes + how_many w (flat_map c.field_items p.shared) = ones_append w classes shared in
    let two : how_many w ((classes ++ shared) ++ preds) ≡ how_many w (classes ++ shared) + how_many w preds = ones_append w (classes ++ shared) preds in
    let three : how_many w (((classes ++ shared) ++ preds) ++ procs) ≡ how_many w ((classes ++ shared) ++ preds) + how_many w procs = ones_append w ((classes ++ shared) ++ preds) procs in
    let all : how_many w ((((classes ++ shared) ++ preds) ++ procs) ++ threads) ≡ how_many w (((classes ++ shared) ++ preds) ++ procs) + how_many w threads =
    ones_append w (((classes ++ shared) ++ preds) ++ procs) threads in
    record { sum = omega (arith, one, two, three, all) }

nothing_yet : (w : What) → at at_start w ≤ most w
nothing_yet what.Classes = omega arith
nothing_yet what.Fields = omega arith
nothing_yet what.Preds = omega arith
nothing_yet what.Procs = omega arith
nothing_yet what.Threads = omega arith
nothing_yet what.Params = omega arith
nothing_yet what.Locals = omega arith
nothing_yet what.CheckArgs = omega arith
nothing_yet what.Checks = omega arith

-- no declaration is above its limit
few : {ts : List Terminal} {p : Program} (w : What) → IsTotal w → Parses ts p → first_from excess counted at_start (items_of p) ≡ None
    → how_many w (items_of p) ≤ most w
few {p = p} w t h within =
    let start : at at_start w ≤ most w = nothing_yet w in
    let most_of : at at_start w + how_many w (items_of p) ≤ most w = total w (items_of p) at_start refl within (lasts_items w t h) start in
    omega (arith, most_of)

-- counting many items leaves nine counts
pub folded_length : (ts : List Item) (counts : List ℕ) → length counts ≡ 9 → length (fold counted counts ts) ≡ 9
folded_length [] counts long = long
folded_length (t ∷ ts) counts long = folded_length ts (counted counts t) (counted_length counts t long)

-- a count begins anew at 0
anew : (w : What) (counts : List ℕ) → length counts ≡ 9 → at (counted counts (item.Anew w)) w ≡ 0
anew w counts long = let below : slot w < 9 = slot_below w in get_or-set_same counts (slot w) 0 0 (omega (arith, below, long))

-- what is counted anew is within its limit, as far as the count lasts
pub few_anew : (w : What) (ts : List Item) (counts : List ℕ) → length counts ≡ 9 → first_from excess counted counts (item.Anew w ∷ ts) ≡ None → Lasts w ts
    → how_many w ts ≤ most w
few_anew w ts counts long e lasts =
    let none : at (counted counts (item.Anew w)) w ≡ 0 = anew w counts long in
    let h : at (counted counts (item.Anew w)) w + how_many w ts ≤ most w =
    total w ts (counted counts (item.Anew w)) (counted_length counts (item.Anew w) long) e lasts (omega (arith, none)) in
    omega (arith, h)

-- fields that are counted anew are few
fields_few : (fields : List Field) (counts : List ℕ) → length counts ≡ 9
    → first_from excess counted counts (item.Anew what.Fields ∷ flat_map c.field_items fields) ≡ None → length fields ≤ MOST_FIELDS
fields_few fields counts long e =
    let h : how_many what.Fields (flat_map c.field_items fields) ≤ most what.Fields =
    few_anew what.Fields (flat_map c.field_items fields) counts long e (lasts_fields what.Fields fields) in
    let each : length fields ≤ how_many what.Fields (flat_map c.field_items fields) = ones_each what.Fields c.field_items (λ f. omega arith) fields in
    omega (arith, h, each)

-- the fields of each class are few, whatever follows
class_fields : (classes : List Class) (counts : List ℕ) (rest : List Item) → length counts ≡ 9
    → first_from excess counted counts (flat_map c.class_items classes ++ rest) ≡ None
    → All (λ (class : Class). length class.fields ≤ MOST_FIELDS) classes
class_fields [] counts rest long e = search rules
class_fields (x ∷ xs) counts rest long e =
    let named = item.One what.Classes x.site in
    let parts = none_append excess counted counts (c.class_items x) (flat_map c.class_items xs ++ rest)
    (ap (first_from excess counted counts) (sym (append_assoc (c.class_items x) (flat_map c.class_items xs) rest)) ∙ e) in
    let here = none_of (excess counts named) (first_from excess counted (counted counts named) (item.Anew what.Fields ∷ flat_map c.field_items x.fields)) parts.0 in
    All-cons (λ (class : Class). length class.fields ≤ MOST_FIELDS) x xs
    (fields_few x.fields (counted counts named) (counted_length counts named long) here.1)
    (class_fields xs (fold counted counts (c.class_items x)) rest (folded_length (c.class_items x) counts long) parts.1)

-- the front of the items: the classes and the shared variables
front : (p : Program) → first_from excess counted at_start (items_of p) ≡ None
    → first_from excess counted at_start (flat_map c.class_items p.classes ++ (item.Anew what.Fields ∷ flat_map c.field_items p.shared)) ≡ None
unfolding items_of
front p e =
    let classes : List Item = flat_map c.class_items p.classes in
    let shared : List Item = item.Anew what.Fields ∷ flat_map c.field_items p.shared in
    let preds : List Item = flat_map c.pred_items p.preds in
    let procs : List Item = flat_map c.proc_items p.procs in
    let threads : List Item = flat_map c.thread_items p.threads in
    let three = none_append excess counted at_start (((classes ++ shared) ++ preds) ++ procs) threads e in
    let two = none_append excess counted at_start ((classes ++ shared) ++ preds) procs three.0 in
    (none_append excess counted at_start (classes ++ shared) preds two.0).0

-- the shared variables are few
shared_few : (p : Program) → first_from excess counted at_start (items_of p) ≡ None → length p.shared ≤ MOST_FIELDS
shared_few p e =
    let classes : List Item = flat_map c.class_items p.classes in
    let shared : List Item = item.Anew what.Fields ∷ flat_map c.field_items p.shared in
    let counts : List ℕ = fold counted at_start classes in
    fields_few p.shared counts (folded_length classes at_start refl) (none_append excess counted at_start classes shared (front p e)).1

classes_few : (p : Program) → first_from excess counted at_start (items_of p) ≡ None → All (λ (class : Class). length class.fields ≤ MOST_FIELDS) p.classes
classes_few p e = class_fields p.classes at_start (item.Anew what.Fields ∷ flat_map c.field_items p.shared) refl (front p e)

-- what is counted in a body with parameters, its parameters first
record Body (params : List Param) (ss : List Stmt) (counts : List ℕ) : Type 0 where
  few_params : length params ≤ MOST_PARAMS
  few_locals : length params + how_many what.Locals (flat_map stmt_items ss) ≤ MOST_LOCALS

params_counted : (w : What) → ((p : Param) → 1 ≤ how_many w (c.param_items p)) → (params : List Param) (ts : List Item)
    → length params + how_many w ts ≤ how_many w (flat_map c.param_items params ++ ts)
params_counted w one params ts =
    let each : length params ≤ how_many w (flat_map c.param_items params) = ones_each w c.param_items one params in
    let both : how_many w (flat_map c.param_items params ++ ts) ≡ how_many w (flat_map c.param_items params) + how_many w ts = ones_append w (flat_map c.param_items params) ts in
    omega (arith, each, both)

body_few : (params : List Param) (ss : List Stmt) (counts : List ℕ) → length counts ≡ 9
    → ((w : What) → slot w ≢ 7 → Lasts w (flat_map stmt_items ss))
    → first_from excess counted counts (c.head_items params ++ flat_map stmt_items ss) ≡ None → Body params ss counts
body_few params ss counts long lasts e =
    let others : List Item = flat_map c.param_items params ++ flat_map stmt_items ss in
    let next : List ℕ = counted counts (item.Anew what.Params) in
    let all_params : how_many what.Params (item.Anew what.Locals ∷ others) ≤ most what.Params =
    few_anew what.Params (item.Anew what.Locals ∷ others) counts long e (
      (λ k. omega (arith, k)),
      lasts_append what.Params (flat_map c.param_items params) (flat_map stmt_items ss)
          (lasts_params what.Params params) (lasts what.Params (λ k. omega (arith, k))),
    ) in
    let all_locals : how_many what.Locals others ≤ most what.Locals =
    few_anew what.Locals others next (counted_length counts (item.Anew what.Params) long) e
    (lasts_append what.Locals (flat_map c.param_items params) (flat_map stmt_items ss) (lasts_params what.Locals params) (lasts what.Locals (λ k. omega (arith, k)))) in
    let some_params : length params + how_many what.Params (flat_map stmt_items ss) ≤ how_many what.Params others =
    params_counted what.Params (λ p. omega arith) params (flat_map stmt_items ss) in
    let some_locals : length params + how_many what.Locals (flat_map stmt_items ss) ≤ how_many what.Locals others =
    params_counted what.Locals (λ p. omega arith) params (flat_map stmt_items ss) in
    record { few_params = omega (arith, all_params, some_params); few_locals = omega (arith, all_locals, some_locals) }

preds_few : (preds : List Pred) (counts : List ℕ) → length counts ≡ 9 → first_from excess counted counts (flat_map c.pred_items preds) ≡ None
    → All (λ (pred : Pred). length pred.params ≤ MOST_PARAMS) preds
preds_few [] counts long e = search rules
preds_few (x ∷ xs) counts long e =
    let named = item.One what.Preds x.site in
    let parts = none_append excess counted counts (c.pred_items x) (flat_map c.pred_items xs) e in
    let here = none_of (excess counts named) (first_from excess counted (counted counts named) (c.head_items x.params)) parts.0 in
    let head : first_from excess counted (counted counts named) (c.head_items x.params ++ flat_map stmt_items []) ≡ None =
    ap (first_from excess counted (counted counts named)) (append-nil (c.head_items x.params)) ∙ here.1 in
    All-cons (λ (pred : Pred). length pred.params ≤ MOST_PARAMS) x xs
    (body_few x.params [] (counted counts named) (counted_length counts named long) (λ w k. tt) head).few_params
    (preds_few xs (fold counted counts (c.pred_items x)) (folded_length (c.pred_items x) counts long) parts.1)

procs_few : {ts : List Terminal} {procs : List Proc} → AreMany IsProc ts procs → (counts : List ℕ) → length counts ≡ 9
    → first_from excess counted counts (flat_map c.proc_items procs) ≡ None → All IsFewBody procs
procs_few g.none counts long e = search rules
procs_few (g.more {item = x} {items = xs} (g.proc {params = params} {body = body} a b d f h i) k) counts long e =
    let named = item.One what.Procs x.site in
    let parts = none_append excess counted counts (c.proc_items x) (flat_map c.proc_items xs) e in
    let here = none_of (excess counts named) (first_from excess counted (counted counts named) (c.head_items params ++ flat_map stmt_items body)) parts.0 in
    let few_of : Body params body (counted counts named) =
    body_few params body (counted counts named) (counted_length counts named long) (λ w k. lasts_block w k i) here.1 in
    All-cons IsFewBody x xs (record { params = few_of.few_params; locals = few_of.few_locals })
    (procs_few k (fold counted counts (c.proc_items x)) (folded_length (c.proc_items x) counts long) parts.1)

threads_few : {ts : List Terminal} {threads : List Thread} → AreMany IsThread ts threads → (counts : List ℕ) → length counts ≡ 9
    → first_from excess counted counts (flat_map c.thread_items threads) ≡ None
    → All (λ (thread : Thread). how_many what.Locals (flat_map stmt_items thread.body) ≤ MOST_LOCALS) threads
threads_few g.none counts long e = search rules
threads_few (g.more {item = x} {items = xs} (g.thread {body = body} a b i) k) counts long e =
    let named = item.One what.Threads x.site in
    let parts = none_append excess counted counts (c.thread_items x) (flat_map c.thread_items xs) e in
    let here = none_of (excess counts named) (first_from excess counted (counted counts named) (item.Anew what.Locals ∷ flat_map stmt_items body)) parts.0 in
    let locals : how_many what.Locals (flat_map stmt_items body) ≤ most what.Locals =
    few_anew what.Locals (flat_map stmt_items body) (counted counts named) (counted_length counts named long) here.1 (lasts_block what.Locals (λ e. omega (arith, e)) i) in
    All-cons (λ (thread : Thread). how_many what.Locals (flat_map stmt_items thread.body) ≤ MOST_LOCALS) x xs locals
    (threads_few k (fold counted counts (c.thread_items x)) (folded_length (c.thread_items x) counts long) parts.1)

-- the items after the front: those of the predicates, the procedures and the threads, each with the counts before it
pub record Bodies (p : Program) : Type 0 where
  pub before_preds : List ℕ
  pub before_procs : List ℕ
  pub before_threads : List ℕ
  pub long_preds : length before_preds ≡ 9
  pub long_procs : length before_procs ≡ 9
  pub long_threads : length before_threads ≡ 9
  pub preds : first_from excess counted before_preds (flat_map c.pred_items p.preds) ≡ None
  pub procs : first_from excess counted before_procs (flat_map c.proc_items p.procs) ≡ None
  pub threads : first_from excess counted before_threads (flat_map c.thread_items p.threads) ≡ None

-- where no count of a tree is in excess, none is among its predicates, its procedures and its threads, each from the counts before them
pub bodies_of : (p : Program) → first_from excess counted at_start (items_of p) ≡ None → Bodies p
unfolding items_of
bodies_of p e =
    let first : List Item = flat_map c.class_items p.classes ++ (item.Anew what.Fields ∷ flat_map c.field_items p.shared) in
    let preds : List Item = flat_map c.pred_items p.preds in
    let procs : List Item = flat_map c.proc_items p.procs in
    let threads : List Item = flat_map c.thread_items p.threads in
    let three = none_append excess counted at_start ((first ++ preds) ++ procs) threads e in
    let two = none_append excess counted at_start (first ++ preds) procs three.0 in
    let one = none_append excess counted at_start first preds two.0 in
    record {
      before_preds = fold counted at_start first;
      before_procs = fold counted at_start (first ++ preds);
      before_threads = fold counted at_start ((first ++ preds) ++ procs);
      long_preds = folded_length first at_start refl;
      long_procs = folded_length (first ++ preds) at_start refl;
      long_threads = folded_length ((first ++ preds) ++ procs) at_start refl;
      preds = one.1;
      procs = two.1;
      threads = three.1;
    }

-- the terminals of the procedures and of the threads
pub record Spelled (p : Program) : Type 0 where
  pub of_procs : List Terminal
  pub of_threads : List Terminal
  pub procs : AreMany IsProc of_procs p.procs
  pub threads : AreMany IsThread of_threads p.threads

-- a spelled program has the words of its procedures and of its threads
pub spelled : {ts : List Terminal} {p : Program} → Parses ts p → Spelled p
spelled (g.program {ws = ws} {xs = xs} a b d f h) = record { of_procs = ws; of_threads = xs; procs = f; threads = h }

-- a spelled tree within the limits on counts has few of each: what the limits say of items, said of the tree
pub few_of_each : (ts : List Terminal) (p : Program) → Parses ts p → IsWithinCounts p → HasFewOfEach p
few_of_each ts p h within =
    let none : first_from excess counted at_start (items_of p) ≡ None = within_none excess counted at_start (items_of p) within in
    let inner : Bodies p = bodies_of p none in
    let words : Spelled p = spelled h in
    let some_classes : length p.classes ≤ how_many what.Classes (flat_map c.class_items p.classes) = ones_each what.Classes c.class_items (λ x. omega arith) p.classes in
    let some_preds : length p.preds ≤ how_many what.Preds (flat_map c.pred_items p.preds) = ones_each what.Preds c.pred_items (λ x. omega arith) p.preds in
    let some_procs : length p.procs ≤ how_many what.Procs (flat_map c.proc_items p.procs) = ones_each what.Procs c.proc_items (λ x. omega arith) p.procs in
    let some_threads : length p.threads ≤ how_many what.Threads (flat_map c.thread_items p.threads) =
    ones_each what.Threads c.thread_items (λ x. omega arith) p.threads in
    record {
      classes = omega (arith, some_classes, (parts_of what.Classes p).sum, few what.Classes class_total h none);
      fields = classes_few p none;
      shared = shared_few p none;
      preds = omega (arith, some_preds, (parts_of what.Preds p).sum, few what.Preds pred_total h none);
      procs = omega (arith, some_procs, (parts_of what.Procs p).sum, few what.Procs proc_total h none);
      threads = omega (arith, some_threads, (parts_of what.Threads p).sum, few what.Threads thread_total h none);
      pred_params = preds_few p.preds inner.before_preds inner.long_preds inner.preds;
      bodies = procs_few words.procs inner.before_procs inner.long_procs inner.procs;
      thread_locals = threads_few words.threads inner.before_threads inner.long_threads inner.threads;
      checks = omega (arith, (parts_of what.Checks p).sum, few what.Checks check_total h none);
    }

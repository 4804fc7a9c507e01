-- What is counted of the items of statements is their tally: locals, check statements, and the names in each of these.
use Rattle.std.proofs.Common.{◌≡◌, ℕ, ◌+◌, ◌≤◌, Bool, true, false, if◌then◌else◌, List, [], ◌∷◌, ◌++◌, map, length, fold, Some, None}
use Rattle.std.proofs.Common.{refl, ap, sym, ◌∙◌, subst, arith}
use Rattle.std.proofs.lemmas.List.{map-append}
use Rattle.std.specs.List.{flat_map, list_any}
use Rattle.std.specs.Str.{bytes_eq}
use Rattle.st_ast.specs.declared.declarations.Param.{Param}
use Rattle.st_ast.specs.declared.declarations.Proc.{Proc}
use Rattle.st_ast.specs.declared.declarations.Thread.{Thread}
use Rattle.st_ast.specs.declared.expressions.Expr.{Expr}
use Rattle.st_ast.specs.declared.statements.Stmt.{Stmt}
use Rattle.st_ast.specs.declared.statements.Stmt.TheViews.{roll-Stmt}
use Rattle.st_ast.specs.declared.statements.Stmt.TheFolds.{fold-Stmt, fold-roll-Stmt, ind-Stmt, map-Stmt}
use Rattle.st_ast.specs.declared.statements.Stmt.TheOpen.{Stmt-F}
use Rattle.st_events.specs.declared.events.Site.{Site}
use Rattle.st_events.specs.declared.shapes.TheConstants.{MOST_ARGS}
use Rattle.st_grammar.specs.declared.counts.Item.{Item}
use Rattle.st_grammar.specs.declared.counts.Item.TheVariants as item
use Rattle.st_grammar.specs.declared.counts.What.{What}
use Rattle.st_grammar.specs.declared.counts.What.TheVariants as what
use Rattle.st_grammar.specs.Counts as c
use Rattle.st_grammar.specs.Counts.{Mention, slot, most, counted, excess, stmt_step, stmt_items, argument_items, check_items, is_named}
use Rattle.st_grammar.specs.Firsts.{first_from}
use Rattle.st_grammar.proofs.FirstLemmas.{none_of}
use Rattle.st_limit_laws.specs.Few.{as_one, how_many}
use Rattle.st_limit_laws.proofs.TotalLemmas.{none_append, Lasts, ones_append, counted_length}
use Rattle.st_limit_laws.proofs.FewLemmas.{few_anew, folded_length}
use Rattle.st_types.specs.Tallies.{Tally, empty, joined, all_of, count_new, distinct_names, tally, tally_node, tally_all}
use Rattle.st_types.specs.Limits.{proc_tally, thread_tally}
use Rattle.st_limit_laws.proofs.MentionLemmas.{name_of, names_agree}

-- the items have so many locals and checks, and each of the checks has few names where nothing is above its limit
pub record Counted (ts : List Item) (t : Tally) : Type 0 where
  pub locals : how_many what.Locals ts ≡ t.locals
  pub checks : how_many what.Checks ts ≡ t.checks
  pub names : (counts : List ℕ) → length counts ≡ 9 → first_from excess counted counts ts ≡ None → t.names ≤ MOST_ARGS

counted_nothing : Counted [] empty
counted_nothing = record { locals = refl; checks = refl; names = λ counts long none. omega arith }

counted_joined : (xs ys : List Item) (s t : Tally) → Counted xs s → Counted ys t → Counted (xs ++ ys) (joined s t)
counted_joined xs ys s t h k = record {
  locals = let e : how_many what.Locals (xs ++ ys) ≡ how_many what.Locals xs + how_many what.Locals ys = ones_append what.Locals xs ys in omega (arith, e, h.locals, k.locals);
  checks = let e : how_many what.Checks (xs ++ ys) ≡ how_many what.Checks xs + how_many what.Checks ys = ones_append what.Checks xs ys in omega (arith, e, h.checks, k.checks);
  names = λ counts long none.
      let parts = none_append excess counted counts xs ys none in
      let left : s.names ≤ MOST_ARGS = h.names counts long parts.0 in
      let right : t.names ≤ MOST_ARGS = k.names (fold counted counts xs) (folded_length xs counts long) parts.1 in
      omega (arith, left, right);
}

-- the arguments of a check are items of one kind
no_other : (w : What) → as_one w what.CheckArgs ≡ 0 → (before ms : List Mention) → how_many w (argument_items before ms) ≡ 0
no_other w other before [] = refl
no_other w other before (m ∷ ms) = by (is_named before m.name) (no_other w other (before ++ m ∷ []) ms)
  where
    by : (b : Bool) → how_many w (argument_items (before ++ m ∷ []) ms) ≡ 0
        → how_many w ((if b then [] else item.One what.CheckArgs m.site ∷ []) ++ argument_items (before ++ m ∷ []) ms) ≡ 0
    by true later = later
    by false later = omega (arith, other, later)

-- their count does not begin anew
arguments_last : (w : What) (before ms : List Mention) → Lasts w (argument_items before ms)
arguments_last w before [] = tt
arguments_last w before (m ∷ ms) = by (is_named before m.name) (arguments_last w (before ++ m ∷ []) ms)
  where
    by : (b : Bool) → Lasts w (argument_items (before ++ m ∷ []) ms)
        → Lasts w ((if b then [] else item.One what.CheckArgs m.site ∷ []) ++ argument_items (before ++ m ∷ []) ms)
    by true later = later
    by false later = later

named_alike : (before : List Mention) (name : List ℕ) → is_named before name ≡ list_any (λ other. bytes_eq other name) (map name_of before)
named_alike [] name = refl
named_alike (m ∷ ms) name = search (named_alike ms name)

-- there is one for each new name
each_is_new : (before ms : List Mention) → how_many what.CheckArgs (argument_items before ms) ≡ count_new (map name_of before) (map name_of ms)
each_is_new before [] = refl
each_is_new before (m ∷ ms) =
    by (is_named before m.name) (each_is_new (before ++ m ∷ []) ms)
    ∙ ap (λ b. (if b then 0 else 1) + count_new (map name_of before ++ m.name ∷ []) (map name_of ms)) (named_alike before m.name)
  where
    by : (b : Bool) → how_many what.CheckArgs (argument_items (before ++ m ∷ []) ms) ≡ count_new (map name_of (before ++ m ∷ [])) (map name_of ms)
        → how_many what.CheckArgs ((if b then [] else item.One what.CheckArgs m.site ∷ []) ++ argument_items (before ++ m ∷ []) ms)
        ≡ (if b then 0 else 1) + count_new (map name_of before ++ m.name ∷ []) (map name_of ms)
    by true later =
        let e : how_many what.CheckArgs (argument_items (before ++ m ∷ []) ms) ≡ count_new (map name_of before ++ m.name ∷ []) (map name_of ms) =
        later ∙ ap (λ names. count_new names (map name_of ms)) (map-append name_of before (m ∷ [])) in
        omega (arith, e)
    by false later =
        let e : how_many what.CheckArgs (argument_items (before ++ m ∷ []) ms) ≡ count_new (map name_of before ++ m.name ∷ []) (map name_of ms) =
        later ∙ ap (λ names. count_new names (map name_of ms)) (map-append name_of before (m ∷ [])) in
        omega (arith, e)

distinct : (body : Expr) → how_many what.CheckArgs (argument_items [] (c.mentions body)) ≡ distinct_names body
distinct body = each_is_new [] (c.mentions body) ∙ ap (count_new []) (names_agree body)

counted_check : (body : Expr) (site : Site) → Counted (check_items body site) (record { locals = 0; checks = 1; names = distinct_names body })
unfolding check_items
counted_check body site =
    let args : List Item = argument_items [] (c.mentions body) in
    let no_locals : how_many what.Locals args ≡ 0 = no_other what.Locals refl [] (c.mentions body) in
    let no_checks : how_many what.Checks args ≡ 0 = no_other what.Checks refl [] (c.mentions body) in
    record {
      locals = omega (arith, no_locals);
      checks = omega (arith, no_checks);
      names = λ counts long none.
          let named = item.One what.Checks site in
          let later = none_of (excess counts named) (first_from excess counted (counted counts named) (item.Anew what.CheckArgs ∷ args)) none in
          let few : how_many what.CheckArgs args ≤ MOST_ARGS =
          few_anew what.CheckArgs args (counted counts named) (counted_length counts named long) later.1 (arguments_last what.CheckArgs [] (c.mentions body)) in
          omega (arith, few, distinct body);
    }

abbrev items : Stmt → List Item
items = fold-Stmt (List Item) stmt_step

abbrev Agrees : Stmt → Type 0
Agrees s = Counted (items s) (tally s)

-- the statements that a layer holds, each with its proof
abbrev bare : Stmt-F ((s : Stmt) × Agrees s) → Stmt-F Stmt
bare y = map-Stmt ((s : Stmt) × Agrees s) Stmt (λ s. s.0) y

all_counted : (ss : List ((s : Stmt) × Agrees s)) → Counted (c.all_of (map items (map (λ s. s.0) ss))) (all_of (map tally (map (λ s. s.0) ss)))
all_counted [] = counted_nothing
all_counted (s ∷ ss) = counted_joined (items s.0) (c.all_of (map items (map (λ s. s.0) ss))) (tally s.0) (all_of (map tally (map (λ s. s.0) ss))) s.1 (all_counted ss)

layer_counted : (y : Stmt-F ((s : Stmt) × Agrees s))
    → Counted (stmt_step (map-Stmt Stmt (List Item) items (bare y))) (tally_node (map-Stmt Stmt Tally tally (bare y)))
layer_counted (Stmt-F.Var name name_site kind value site) = record { locals = refl; checks = refl; names = λ counts long none. omega arith }
layer_counted (Stmt-F.Assign name value site) = counted_nothing
layer_counted (Stmt-F.Put place value site) = counted_nothing
layer_counted (Stmt-F.If cond first None site) = counted_joined (c.all_of (map items (map (λ s. s.0) first))) [] _ empty (all_counted first) counted_nothing
layer_counted (Stmt-F.If cond first (Some other) site) =
    counted_joined (c.all_of (map items (map (λ s. s.0) first))) (c.all_of (map items (map (λ s. s.0) other))) _ _ (all_counted first) (all_counted other)
layer_counted (Stmt-F.While cond body site) = all_counted body
layer_counted (Stmt-F.Call name args site) = counted_nothing
layer_counted (Stmt-F.Check body site) = counted_check body site

stmt_counted : (s : Stmt) → Agrees s
stmt_counted = ind-Stmt Agrees (λ x y is.
    subst (λ z. Agrees (roll-Stmt z)) is
    (subst (λ ts. Counted ts (tally (roll-Stmt (bare y)))) (sym (fold-roll-Stmt (List Item) stmt_step (bare y)))
    (subst (λ t. Counted (stmt_step (map-Stmt Stmt (List Item) items (bare y))) t) (sym (fold-roll-Stmt Tally tally_node (bare y))) (layer_counted y))))

-- of statements, one after another
pub body_counted : (ss : List Stmt) → Counted (flat_map stmt_items ss) (tally_all ss)
unfolding stmt_items
body_counted [] = counted_nothing
body_counted (s ∷ ss) = counted_joined (items s) (flat_map stmt_items ss) (tally s) (tally_all ss) (stmt_counted s) (body_counted ss)

-- no check statement is among parameters
no_check : (params : List Param) → how_many what.Checks (flat_map c.param_items params) ≡ 0
no_check [] = refl
no_check (p ∷ ps) = let later : how_many what.Checks (flat_map c.param_items ps) ≡ 0 = no_check ps in omega (arith, later)

-- the check statements of procedures, and of threads
pub proc_checks : (procs : List Proc) → how_many what.Checks (flat_map c.proc_items procs) ≡ (all_of (map proc_tally procs)).checks
proc_checks [] = refl
proc_checks (x ∷ xs) =
    let none : how_many what.Checks (flat_map c.param_items x.params) ≡ 0 = no_check x.params in
    let head : how_many what.Checks (item.One what.Procs x.site ∷ c.head_items x.params) ≡ 0 = omega (arith, none) in
    let one : how_many what.Checks (c.proc_items x) ≡ how_many what.Checks (item.One what.Procs x.site ∷ c.head_items x.params) + how_many what.Checks (flat_map stmt_items x.body) =
    ones_append what.Checks (item.One what.Procs x.site ∷ c.head_items x.params) (flat_map stmt_items x.body) in
    let all : how_many what.Checks (flat_map c.proc_items (x ∷ xs)) ≡ how_many what.Checks (c.proc_items x) + how_many what.Checks (flat_map c.proc_items xs) =
    ones_append what.Checks (c.proc_items x) (flat_map c.proc_items xs) in
    let later : how_many what.Checks (flat_map c.proc_items xs) ≡ (all_of (map proc_tally xs)).checks = proc_checks xs in
    omega (arith, head, one, all, later, (body_counted x.body).checks)

-- the check statements that the limits count in threads are those of their bodies
pub thread_checks : (threads : List Thread) → how_many what.Checks (flat_map c.thread_items threads) ≡ (all_of (map thread_tally threads)).checks
thread_checks [] = refl
thread_checks (x ∷ xs) =
    let both : how_many what.Checks (flat_map stmt_items x.body ++ flat_map c.thread_items xs) ≡ how_many what.Checks (flat_map stmt_items x.body) + how_many what.Checks (flat_map c.thread_items xs) =
    ones_append what.Checks (flat_map stmt_items x.body) (flat_map c.thread_items xs) in
    let later : how_many what.Checks (flat_map c.thread_items xs) ≡ (all_of (map thread_tally xs)).checks = thread_checks xs in
    omega (arith, both, later, (body_counted x.body).checks)

-- the names in each of them are few
pub proc_names : (procs : List Proc) (counts : List ℕ) → length counts ≡ 9 → first_from excess counted counts (flat_map c.proc_items procs) ≡ None
    → (all_of (map proc_tally procs)).names ≤ MOST_ARGS
proc_names [] counts long none = omega arith
proc_names (x ∷ xs) counts long none =
    let head : List Item = item.One what.Procs x.site ∷ c.head_items x.params in
    let parts = none_append excess counted counts (c.proc_items x) (flat_map c.proc_items xs) none in
    let inner = none_append excess counted counts head (flat_map stmt_items x.body) parts.0 in
    let here : (proc_tally x).names ≤ MOST_ARGS = (body_counted x.body).names (fold counted counts head) (folded_length head counts long) inner.1 in
    let later : (all_of (map proc_tally xs)).names ≤ MOST_ARGS = proc_names xs (fold counted counts (c.proc_items x)) (folded_length (c.proc_items x) counts long) parts.1 in
    omega (arith, here, later)

-- within the limits, each check statement of a thread has few distinct names
pub thread_names : (threads : List Thread) (counts : List ℕ) → length counts ≡ 9 → first_from excess counted counts (flat_map c.thread_items threads) ≡ None
    → (all_of (map thread_tally threads)).names ≤ MOST_ARGS
thread_names [] counts long none = omega arith
thread_names (x ∷ xs) counts long none =
    let head : List Item = item.One what.Threads x.site ∷ item.Anew what.Locals ∷ [] in
    let parts = none_append excess counted counts (c.thread_items x) (flat_map c.thread_items xs) none in
    let inner = none_append excess counted counts head (flat_map stmt_items x.body) parts.0 in
    let here : (thread_tally x).names ≤ MOST_ARGS = (body_counted x.body).names (fold counted counts head) (folded_length head counts long) inner.1 in
    let later : (all_of (map thread_tally xs)).names ≤ MOST_ARGS = thread_names xs (fold counted counts (c.thread_items x)) (folded_length (c.thread_items x) counts long) parts.1 in
    omega (arith, here, later)

-- A statement, walked up to its first fault, comes to the first of the faults of its walk, or to itself with numbers where it has none.
use Rattle.std.proofs.Common.{◌≡◌, ℕ, List, [], ◌∷◌, ◌++◌, map, length, Option, Some, None, Ok, refl, ap, sym, ◌∙◌, subst, append_assoc, append-nil}
use Rattle.st_events.specs.declared.events.Site.{Site}
use Rattle.st_ast.specs.declared.declarations.Program.{Program}
use Rattle.st_ast.specs.declared.declarations.TypeName.{TypeName}
use Rattle.st_ast.specs.declared.expressions.Expr.{Expr}
use Rattle.st_ast.specs.declared.statements.Stmt.{Stmt}
use Rattle.st_ast.specs.declared.statements.Stmt.TheOpen.{Stmt-F}
use Rattle.st_ast.specs.declared.statements.Stmt.TheViews.{roll-Stmt}
use Rattle.st_ast.specs.declared.statements.Stmt.TheFolds.{fold-roll-Stmt, ind-Stmt, map-Stmt}
use Rattle.st_ast.specs.declared.statements.Value.{Value}
use Rattle.st_ast.specs.declared.statements.Value.TheVariants as values
use Rattle.st_resolved.specs.Terms.{from_term, a_put, a_set, a_proc_call, an_if, a_while, Command, command_then, a_launch}
use Rattle.st_resolved.specs.Views.{terms_of}
use Rattle.st_types.specs.declared.errors.TypeError.{TypeError}
use Rattle.st_types.specs.Checked.{Checked, verdict, ◌>>=◌}
use Rattle.st_types.specs.Judged.{judged, typed, each_of, in_order}
use Rattle.st_types.specs.declared.kinds.Found.{Found}
use Rattle.st_types.specs.Kinds.{asks}
use Rattle.st_types.specs.Names.{kind_of, find_local, named_kind, named_number, proc_number}
use Rattle.st_types.specs.Nodes.{Seen, a_bool, asks_name, number_or_0}
use Rattle.st_types.specs.Scopes.{ScopeView}
use Rattle.st_types.specs.Statements.{plain_scope, check_scope, judged_value, asks_new, asks_type, asks_proc, is_local, target_at, Given, Reached, Walked, WalkedBlock, walk_all}
use Rattle.st_types.specs.Statements.{walk_block, walk_node, walk, other_walks, closed, declare}
use Rattle.st_types.specs.Stepwise.{typed_value, typed_condition, Stepped, SteppedBlock, step_all, step_block, other_steps, step_node, step, var_given, assigned, stored}
use Rattle.st_types.specs.Stepwise.{called, launched}
use Rattle.st_types.proofs.JudgedLemmas.{typed_is_first}

-- faults, and what follows where there are none
pub in_turn : {A B : Type 0} (xs ys : List TypeError) (a : A) (f : A → Checked B) (b : B) → f a ≡ verdict ys b → verdict xs a >>= f ≡ verdict (xs ++ ys) b
in_turn [] ys a f b h = h
in_turn (x ∷ xs) ys a f b h = refl

-- faults, and what is made of the value where there are none
pub mapped : {A B : Type 0} (xs : List TypeError) (a : A) (g : A → B) → verdict xs a >>= (λ x. Ok (g x)) ≡ verdict xs (g a)
mapped [] a g = refl
mapped (x ∷ xs) a g = refl

-- the same faults in another grouping
pub grouped : {A : Type 0} (xs ys : List TypeError) (a : A) → xs ≡ ys → verdict xs a ≡ verdict ys a
grouped xs ys a h = ap (λ fs. verdict fs a) h

-- a value
pub typed_value_is : (s : ScopeView) (value : Value) → typed_value s value ≡ verdict (judged_value s value).faults (judged_value s value).given
typed_value_is s (values.Plain e) = rw (typed_is_first s e) (mapped (judged s e).faults (judged s e).seen (λ t. record { site = t.site; kind = t.kind; source = from_term t.term }))
typed_value_is s (values.New class site) = refl
typed_value_is s (values.Cas place expect value site) =
    let t = (judged s place).seen in
    let e = (judged s expect).seen in
    let v = (judged s value).seen in
    let fs = asks t.kind e.site e.kind ++ asks t.kind v.site v.kind in
    rw (typed_is_first s place, typed_is_first s expect, typed_is_first s value)
    (in_turn (judged s place).faults _ t _ _ (in_turn (judged s expect).faults _ e _ _ (in_turn (judged s value).faults fs v _ _ refl))
    ∙ grouped _ _ _ (simp append-nil))

-- a condition
pub typed_condition_is : (s : ScopeView) (e : Expr) →
    typed_condition s e ≡ verdict ((judged s e).faults ++ asks a_bool (judged s e).seen.site (judged s e).seen.kind) (judged s e).seen
typed_condition_is s e = rw (typed_is_first s e) (in_turn (judged s e).faults _ (judged s e).seen _ _ refl)

-- what stands to the right of a target, of this kind
given_is : (s : ScopeView) (value : Value) (kind : Found) → typed_value s value >>= (λ v. verdict (asks kind v.site v.kind) v)
    ≡ verdict ((judged_value s value).faults ++ asks kind (judged_value s value).given.site (judged_value s value).given.kind) (judged_value s value).given
given_is s value kind = rw (typed_value_is s value) (in_turn (judged_value s value).faults _ (judged_value s value).given _ _ refl)

-- each kind of statement that holds no others
var_is : (p : Program) (name : List ℕ) (kind : TypeName) (value : Value) (site : Site) (r : Reached) →
    var_given (plain_scope p r.locals) name kind value site
    ≡ verdict (in_order (asks_new (is_local r.locals name) site ∷ asks_type p kind ∷ (judged_value (plain_scope p r.locals) value).faults
    ∷ asks (kind_of p kind) (judged_value (plain_scope p r.locals) value).given.site (judged_value (plain_scope p r.locals) value).given.kind ∷ []))
    (judged_value (plain_scope p r.locals) value).given
var_is p name kind value site r =
    in_turn (asks_new (is_local r.locals name) site ++ asks_type p kind) _ (tt {0}) _ _ (given_is (plain_scope p r.locals) value (kind_of p kind))
    ∙ grouped _ _ _ (simp (append_assoc, append-nil))

assigned_is : (s : ScopeView) (name : List ℕ) (value : Value) (site : Site) →
    assigned s name value site
    ≡ verdict (in_order (asks_name site (find_local s.locals name) ∷ (judged_value s value).faults
    ∷ asks (named_kind (find_local s.locals name)) (judged_value s value).given.site (judged_value s value).given.kind ∷ []))
    (a_set (named_number (find_local s.locals name)) (judged_value s value).given.source)
assigned_is s name value site =
    rw (typed_value_is s value)
    (in_turn (asks_name site (find_local s.locals name)) _ (tt {0}) _ _ (in_turn (judged_value s value).faults _ (judged_value s value).given _ _ refl)
    ∙ grouped _ _ _ (simp append-nil))

stored_is : (s : ScopeView) (place : Expr) (value : Value) →
    stored s place value
    ≡ verdict (in_order ((judged s place).faults ∷ (judged_value s value).faults
    ∷ asks (judged s place).seen.kind (judged_value s value).given.site (judged_value s value).given.kind ∷ []))
    (a_put (target_at (judged s place).seen.term) (judged_value s value).given.source)
stored_is s place value =
    rw (typed_is_first s place, typed_value_is s value)
    (in_turn (judged s place).faults _ (judged s place).seen _ _ (in_turn (judged_value s value).faults _ (judged_value s value).given _ _ refl)
    ∙ grouped _ _ _ (simp append-nil))

-- arguments, up to the first fault, come to the first of all their faults, or to what is seen of each
pub args_are : (s : ScopeView) (es : List Expr) →
    each_of (map (typed s) es) ≡ verdict (in_order (map (λ j. j.faults) (map (judged s) es))) (map (λ j. j.seen) (map (judged s) es))
args_are s [] = refl
args_are s (e ∷ es) =
    rw (typed_is_first s e, args_are s es)
    (in_turn (judged s e).faults _ (judged s e).seen _ _ (mapped _ _ (λ rest. (judged s e).seen ∷ rest)))

called_is : (s : ScopeView) (name : List ℕ) (args : List Expr) (site : Site) →
    called s name args site
    ≡ verdict (in_order (map (λ j. j.faults) (map (judged s) args)) ++ asks_proc s.program name (map (λ j. j.seen) (map (judged s) args)) site)
    (a_proc_call (number_or_0 (proc_number s.program name)) (terms_of (map (λ a. a.term) (map (λ j. j.seen) (map (judged s) args)))) site)
called_is s name args site = rw (args_are s args) (in_turn (in_order (map (λ j. j.faults) (map (judged s) args))) _ (map (λ j. j.seen) (map (judged s) args)) _ _ refl)

-- what a walk leaves, without its faults
abbrev pub stepped_of : Walked → Stepped
stepped_of w = record { command = w.command; reached = w.reached }

-- what a walk over statements gives where it has no faults
abbrev pub stepped_block_of : WalkedBlock → SteppedBlock
stepped_block_of w = record { block = w.block; reached = w.reached }

-- a step over the statement comes to the first of the faults of the walk, or to what the walk gives
abbrev pub IsSo : Program → Stmt → Type 0
IsSo p s = (r : Reached) → step p s r ≡ verdict (walk p s r).faults (stepped_of (walk p s r))

-- statements that are stepped are walked up to their first fault
abbrev pub AreSo : List (Reached → Checked Stepped) → List (Reached → Walked) → Type 0
AreSo steps walks = (r : Reached) → step_all steps r ≡ verdict (walk_all walks r).faults (stepped_block_of (walk_all walks r))

all_is : (p : Program) (ss : List ((s : Stmt) × IsSo p s)) → AreSo (map (step p) (map (λ s. s.0) ss)) (map (walk p) (map (λ s. s.0) ss))
all_is p [] r = refl
all_is p (s ∷ ss) r =
    rw (s.1 r)
    (in_turn (walk p s.0 r).faults _ (stepped_of (walk p s.0 r)) _ _
    (rw (all_is p ss (walk p s.0 r).reached)
    (mapped _ _ (λ (b : SteppedBlock). let c : SteppedBlock = record { block = command_then (walk p s.0 r).command b.block; reached = b.reached } in c))))

-- where this holds of each of some statements it holds of their block
pub block_is : (steps : List (Reached → Checked Stepped)) (walks : List (Reached → Walked)) (r : Reached) → AreSo steps walks
    → step_block steps r ≡ verdict (walk_block walks r).faults (stepped_block_of (walk_block walks r))
block_is steps walks r h = rw (h r) (mapped _ _ (λ (b : SteppedBlock). let c : SteppedBlock = record { block = b.block; reached = closed (length r.locals) b.reached } in c))

-- the statements that a layer holds, each with its proof
abbrev bare : (p : Program) → Stmt-F ((s : Stmt) × IsSo p s) → Stmt-F Stmt
bare p y = map-Stmt ((s : Stmt) × IsSo p s) Stmt (λ s. s.0) y

if_is : (p : Program) (cond : Expr) (first : List (Reached → Checked Stepped)) (first_walks : List (Reached → Walked))
    (other : Option (List (Reached → Checked Stepped))) (walks : Option (List (Reached → Walked))) (site : Site) (r : Reached)
    → AreSo first first_walks → AreSo (other_steps other) (other_walks walks)
    → step_node p (Stmt-F.If cond first other site) r
    ≡ verdict (walk_node p (Stmt-F.If cond first_walks walks site) r).faults (stepped_of (walk_node p (Stmt-F.If cond first_walks walks site) r))
if_is p cond first first_walks other walks site r h k =
    let test = judged (plain_scope p r.locals) cond in
    let yes = walk_block first_walks r in
    let no = walk_block (other_walks walks) yes.reached in
    let whole : Stepped = record { command = an_if test.seen.term yes.block no.block; reached = no.reached } in
    rw (typed_condition_is (plain_scope p r.locals) cond)
    (in_turn (test.faults ++ asks a_bool test.seen.site test.seen.kind) (yes.faults ++ no.faults) test.seen _ whole
    (rw (block_is first first_walks r h)
    (in_turn yes.faults no.faults (stepped_block_of yes) _ whole (rw (block_is (other_steps other) (other_walks walks) yes.reached k)
    (mapped no.faults (stepped_block_of no)
    (λ (b : SteppedBlock). let s : Stepped = record { command = an_if test.seen.term yes.block b.block; reached = b.reached } in s)))))
    ∙ grouped _ _ _ (simp (append_assoc, append-nil)))

layer_is : (p : Program) (y : Stmt-F ((s : Stmt) × IsSo p s)) (r : Reached) →
    step_node p (map-Stmt Stmt (Reached → Checked Stepped) (step p) (bare p y)) r
    ≡ verdict (walk_node p (map-Stmt Stmt (Reached → Walked) (walk p) (bare p y)) r).faults
    (stepped_of (walk_node p (map-Stmt Stmt (Reached → Walked) (walk p) (bare p y)) r))
layer_is p (Stmt-F.Var name name_site kind value site) r =
    rw (var_is p name kind value site r)
    (mapped _ _ (λ (v : Given). let s : Stepped = record { command = a_set (length r.locals) v.source; reached = declare r name (kind_of p kind) } in s))
layer_is p (Stmt-F.Assign name value site) r =
    rw (assigned_is (plain_scope p r.locals) name value site) (mapped _ _ (λ (c : Command). let s : Stepped = record { command = c; reached = r } in s))
layer_is p (Stmt-F.Put place value site) r =
    rw (stored_is (plain_scope p r.locals) place value) (mapped _ _ (λ (c : Command). let s : Stepped = record { command = c; reached = r } in s))
layer_is p (Stmt-F.If cond first None site) r =
    if_is p cond (map (step p) (map (λ s. s.0) first)) (map (walk p) (map (λ s. s.0) first)) None None site r (all_is p first) (all_is p [])
layer_is p (Stmt-F.If cond first (Some other) site) r =
    if_is p cond (map (step p) (map (λ s. s.0) first)) (map (walk p) (map (λ s. s.0) first))
    (Some (map (step p) (map (λ s. s.0) other))) (Some (map (walk p) (map (λ s. s.0) other))) site r (all_is p first) (all_is p other)
layer_is p (Stmt-F.While cond body site) r =
    let test = judged (plain_scope p r.locals) cond in
    let turn = walk_block (map (walk p) (map (λ s. s.0) body)) r in
    let whole : Stepped = record { command = a_while test.seen.term turn.block; reached = turn.reached } in
    rw (typed_condition_is (plain_scope p r.locals) cond)
    (in_turn (test.faults ++ asks a_bool test.seen.site test.seen.kind) turn.faults test.seen _ whole
    (rw (block_is (map (step p) (map (λ s. s.0) body)) (map (walk p) (map (λ s. s.0) body)) r (all_is p body))
    (mapped turn.faults (stepped_block_of turn) (λ (b : SteppedBlock). let s : Stepped = record { command = a_while test.seen.term b.block; reached = b.reached } in s)))
    ∙ grouped _ _ _ (simp (append_assoc, append-nil)))
layer_is p (Stmt-F.Call name args site) r =
    rw (called_is (plain_scope p r.locals) name args site) (mapped _ _ (λ (c : Command). let s : Stepped = record { command = c; reached = r } in s))
layer_is p (Stmt-F.Check body site) r =
    rw (typed_condition_is (check_scope p r.locals body) body)
    (mapped _ _ (λ (t : Seen). let s : Stepped = record { command = a_launch (length r.checks); reached = launched r body t site } in s)
    ∙ grouped _ _ _ (simp append-nil))

-- a statement, up to its first fault
pub step_is_first : (p : Program) (s : Stmt) → IsSo p s
step_is_first p = ind-Stmt (IsSo p) (λ x y is.
    subst (λ z. IsSo p (roll-Stmt z)) is
    (λ r. ap (λ (f : Reached → Checked Stepped). f r) (fold-roll-Stmt (Reached → Checked Stepped) (step_node p) (bare p y))
    ∙ layer_is p y r
    ∙ sym (ap (λ (f : Reached → Walked). verdict (f r).faults (stepped_of (f r))) (fold-roll-Stmt (Reached → Walked) (walk_node p) (bare p y)))))

-- statements, up to their first fault
pub steps_are_first : (p : Program) (ss : List Stmt) → AreSo (map (step p) ss) (map (walk p) ss)
steps_are_first p [] r = refl
steps_are_first p (s ∷ ss) r =
    rw (step_is_first p s r)
    (in_turn (walk p s r).faults _ (stepped_of (walk p s r)) _ _
    (rw (steps_are_first p ss (walk p s r).reached)
    (mapped _ _ (λ (b : SteppedBlock). let c : SteppedBlock = record { block = command_then (walk p s r).command b.block; reached = b.reached } in c))))

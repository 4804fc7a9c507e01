-- A statement that keeps the rules is right among the locals that its body has at its end, and so is each check statement in it.
use Rattle.std.proofs.Common.{◌≡◌, ℕ, ◌<◌, ◌==◌, arith, Bool, true, false, List, [], ◌∷◌, ◌++◌, map, length, Option, Some, None, refl, ap, sym, ◌∙◌, subst, append_assoc}
use Rattle.std.specs.Prelude.{slice_get, option_map, is_some, ◌&&◌, position, if◌then◌else◌}
use Rattle.std.specs.List.{AllByRecursion, list_any}
use Rattle.std.specs.Str.{bytes_eq}
use Rattle.std.proofs.lemmas.List.{length-map}
use Rattle.std.proofs.lemmas.Option.{slice_get-map}
use Rattle.st_ast.specs.declared.declarations.Class.{Class}
use Rattle.st_ast.specs.declared.declarations.Proc.{Proc}
use Rattle.st_ast.specs.declared.declarations.Program as trees
use Rattle.st_ast.specs.declared.declarations.TypeName.TheVariants as types
use Rattle.st_ast.specs.declared.expressions.Expr.{Expr}
use Rattle.st_ast.specs.declared.expressions.Expr.TheViews.{out-roll-Expr}
use Rattle.st_ast.specs.declared.expressions.Expr.TheFolds.{fold-roll-Expr, ind-Expr, map-Expr}
use Rattle.st_ast.specs.declared.expressions.Expr.TheOpen.{Expr-F}
use Rattle.st_ast.specs.declared.statements.Stmt.{Stmt}
use Rattle.st_ast.specs.declared.statements.Stmt.TheOpen.{Stmt-F}
use Rattle.st_ast.specs.declared.statements.Stmt.TheViews.{roll-Stmt}
use Rattle.st_ast.specs.declared.statements.Stmt.TheFolds.{fold-roll-Stmt, ind-Stmt, map-Stmt}
use Rattle.st_ast.specs.declared.statements.Value.{Value}
use Rattle.st_ast.specs.declared.statements.Value.TheVariants as values
use Rattle.st_events.specs.declared.events.Site.{Site}
use Rattle.st_events.specs.declared.shapes.Kind.{Kind}
use Rattle.st_events.specs.declared.shapes.Kind.TheVariants as kinds
use Rattle.st_events.specs.Kind.{IsDeclaredKind}
use Rattle.st_events.specs.Shape.{ShapeLists, kinds_of}
use Rattle.st_resolved.specs.Kinds.{Setting, HasKind, StoresKind, GivesKind}
use Rattle.st_resolved.specs.Terms.{Term, from_term, from_new, Program, an_if, a_while, a_launch}
use Rattle.st_resolved.specs.WellFormed as formed
use Rattle.st_types.specs.declared.errors.TypeError.TheVariants.{UnknownName, NotHere}
use Rattle.st_types.specs.declared.kinds.Found.{Found}
use Rattle.st_types.specs.declared.kinds.Found.TheVariants.{Unknown, Null, Known}
use Rattle.st_types.specs.declared.names.Named.{Named}
use Rattle.st_types.specs.Judged.{Judged, judged, judged_node, in_order}
use Rattle.st_types.specs.Kinds.{goes_with, asks}
use Rattle.st_types.specs.Names.{kind_of, find_field, find_local, Local, class_kind, class_number, pred_number, proc_number, named_kind}
use Rattle.st_types.specs.Nodes.{Seen, a_bool, asks_name, asks_args, number_or_0}
use Rattle.st_types.specs.Places.{is_place, is_place_layer, has_target, has_targets, are_all, targets_node, have_targets}
use Rattle.st_types.specs.Rules.{field_kinds, class_kinds}
use Rattle.st_types.specs.Scopes.{ScopeView}
use Rattle.st_types.specs.Statements.{known_kind, target_at, judged_value, Launched, Reached, Walked, WalkedBlock, walk_all, walk_block, walk_node, walk}
use Rattle.st_types.specs.Statements.{plain_scope, check_scope, asks_new, asks_type, asks_proc, is_local, mentions, with_number, numbers_of, args_of_check, locals_at, if_any, launch}
use Rattle.st_types.proofs.ShapeLemmas.{none_left, none_right, classes_of, IsDeclaredFound, type_known, all_append, found_declared}
use Rattle.st_types.proofs.TermLemmas.{Allows, allowed_as, asked_goes, asked_as_kind, HasFound, IsSetting, IsJudgedIn, named_has, field_fits, args_asked, expression_fits}
use Rattle.st_types.proofs.SettingLemmas.{AreFirst, first_at, first_front, first_last, first_open, first_of_all, known_at, named_in, local_named, StandsFor, plain_is, calling_is}

-- where a place stores
abbrev StoresAt : Setting → Judged → Type 0
StoresAt t j = (kind : Kind) × (j.seen.kind ≡ Known kind) × StoresKind t (target_at j.seen.term) kind

layer_place : (s : ScopeView) (t : Setting) → IsSetting s t → (x : Expr-F Expr) → is_place_layer x ≡ true
    → (judged_node s (map-Expr Expr Judged (judged s) x)).faults ≡ [] → StoresAt t (judged_node s (map-Expr Expr Judged (judged s) x))
layer_place s t w (Expr-F.Number value site) h k = cc
layer_place s t w (Expr-F.Truth value site) h k = cc
layer_place s t w (Expr-F.Null site) h k = cc
layer_place s t w (Expr-F.Local name site) h k = cc
layer_place s t w (Expr-F.Call name args site) h k = cc
layer_place s t w (Expr-F.Shared name site) h k = named_has (kinds_of t.shape 0) site (find_field s.program s.program.shared name) k (w.shared name)
layer_place s t w (Expr-F.Field object name site) h k =
    let j = judged s object in
    let none = none_left j.faults [] (none_left (j.faults ++ []) _ k) in
    field_fits s t w site name j.seen j.seen.kind refl (none_right (j.faults ++ []) _ k) (expression_fits s t w object none)
layer_place s t w (Expr-F.Paren inner site) h k = cc
layer_place s t w (Expr-F.Not inner site) h k = cc
layer_place s t w (Expr-F.Minus inner site) h k = cc
layer_place s t w (Expr-F.Binary op left right site) h k = cc
layer_place s t w (Expr-F.Cond test left right site) h k = cc

place_fits : (s : ScopeView) (t : Setting) → IsSetting s t → (e : Expr) → is_place e ≡ true → (judged s e).faults ≡ [] → StoresAt t (judged s e)
place_fits s t w = ind-Expr (λ e. is_place e ≡ true → (judged s e).faults ≡ [] → StoresAt t (judged s e)) (λ x y is h k.
    subst (StoresAt t) (sym (fold-roll-Expr Judged (judged_node s) x))
    (layer_place s t w x (sym (ap is_place_layer (out-roll-Expr x)) ∙ h) (subst (λ (j : Judged). j.faults ≡ []) (fold-roll-Expr Judged (judged_node s) x) k)))

-- what stands to the right of `=`
term_gives : (t : Setting) (term : Term) (found : Found) → HasFound t term found → Allows (GivesKind t (from_term term)) found
term_gives t term Unknown h = h
term_gives t term Null h = h
term_gives t term (Known kind) h = h

new_fits : (p : trees.Program) (t : Setting) (site : Site) (o : Option ℕ) → length t.shape.classes ≡ classes_of p → IsDeclaredFound p (class_kind o)
    → Allows (GivesKind t (from_new (number_or_0 o) site)) (class_kind o)
new_fits p t site None long d = absurd (let none : Unknown ≡ Known d.0 = d.1 in cc)
new_fits p t site (Some class) long d =
    let same : kinds.Ref class ≡ d.0 = cc in
    let within = subst (IsDeclaredKind (classes_of p)) (sym same) d.2 in
    (within.0, subst (λ n. class < n) (sym long) within.1, refl)

value_fits : (s : ScopeView) (t : Setting) → IsSetting s t → length t.shape.classes ≡ classes_of s.program → (value : Value) → has_target value ≡ true
    → (judged_value s value).faults ≡ [] → Allows (GivesKind t (judged_value s value).given.source) (judged_value s value).given.kind
value_fits s t w long (values.Plain e) h k = term_gives t (judged s e).seen.term (judged s e).seen.kind (expression_fits s t w e k)
value_fits s t w long (values.New class site) h k = new_fits s.program t site (class_number s.program class) long (type_known s.program (types.Class class site) k)
value_fits s t w long (values.Cas place expect value site) h k =
    let a = judged s place in
    let b = judged s expect in
    let c = judged s value in
    let first = asks a.seen.kind b.seen.site b.seen.kind in
    let second = asks a.seen.kind c.seen.site c.seen.kind in
    let behind = none_right a.faults (b.faults ++ (c.faults ++ (first ++ (second ++ [])))) k in
    let values = none_right b.faults (c.faults ++ (first ++ (second ++ []))) behind in
    let own = none_right c.faults (first ++ (second ++ [])) values in
    let stored = place_fits s t w place h (none_left a.faults _ k) in
    let expected = subst (λ f. goes_with f b.seen.kind ≡ true) stored.1 (asked_goes a.seen.kind b.seen.kind b.seen.site (none_left first _ own)) in
    let new = subst (λ f. goes_with f c.seen.kind ≡ true) stored.1 (asked_goes a.seen.kind c.seen.kind c.seen.site (none_left second [] (none_right first _ own))) in (
      stored.0,
      stored.2,
      allowed_as (HasKind t b.seen.term) stored.0 b.seen.kind expected (expression_fits s t w expect (none_left b.faults _ behind)),
      allowed_as (HasKind t c.seen.term) stored.0 c.seen.kind new (expression_fits s t w value (none_left c.faults _ values)),
      refl,
    )

-- a list is a front of another
abbrev pub IsFront : {X : Type 0} → List X → List X → Type 0
IsFront {X} xs all = (rest : List X) × (all ≡ xs ++ rest)

front_of : {X : Type 0} (xs ys all : List X) → IsFront (xs ++ ys) all → IsFront xs all
front_of xs ys all h = (ys ++ h.0, h.1 ∙ append_assoc xs ys h.0)

at_end : {X : Type 0} (xs : List X) (x : X) (rest : List X) → slice_get ((xs ++ x ∷ []) ++ rest) (length xs) ≡ Some x
at_end [] x rest = refl
at_end (y ∷ xs) x rest = at_end xs x rest

last_of : {X : Type 0} (xs : List X) (x : X) (all : List X) → IsFront (xs ++ x ∷ []) all → slice_get all (length xs) ≡ Some x
last_of xs x all h = ap (λ ys. slice_get ys (length xs)) h.1 ∙ at_end xs x h.0

-- the locals and the check statements behind a walk begin with those in front of it
pub record HasBefore (founds : List Found) (all : List Launched) (before : Reached) : Type 0 where
  pub locals : AreFirst before.locals founds
  pub checks : IsFront before.checks all

-- what holds behind a walk, that the locals and check statements of the whole body begin with these, holds in front of it
abbrev pub GoesBack : (Reached → Reached) → Type 0
GoesBack f = (founds : List Found) (all : List Launched) (r : Reached) → HasBefore founds all (f r) → HasBefore founds all r

all_back : (walks : List (Reached → Walked)) → AllByRecursion (λ (f : Reached → Walked). GoesBack (λ r. (f r).reached)) walks → GoesBack (λ r. (walk_all walks r).reached)
all_back [] each founds all r h = h
all_back (f ∷ walks) each founds all r h = each.0 founds all r (all_back walks each.1 founds all (f r).reached h)

block_opens : (walks : List (Reached → Walked)) (founds : List Found) (all : List Launched) (r : Reached) → HasBefore founds all (walk_block walks r).reached
    → HasBefore founds all (walk_all walks r).reached
block_opens walks founds all r h = record { locals = first_open (length r.locals) (walk_all walks r).reached.locals founds h.locals; checks = h.checks }

block_back : (walks : List (Reached → Walked)) → AllByRecursion (λ (f : Reached → Walked). GoesBack (λ r. (f r).reached)) walks → GoesBack (λ r. (walk_block walks r).reached)
block_back walks each founds all r h = all_back walks each founds all r (block_opens walks founds all r h)

abbrev IsBack : trees.Program → Stmt → Type 0
IsBack p s = GoesBack (λ r. (walk p s r).reached)

each_back : (p : trees.Program) (ss : List ((s : Stmt) × IsBack p s)) → AllByRecursion (λ (f : Reached → Walked). GoesBack (λ r. (f r).reached)) (map (walk p) (map (λ s. s.0) ss))
each_back p [] = tt
each_back p (s ∷ ss) = (s.1, each_back p ss)

abbrev bare_back : (p : trees.Program) → Stmt-F ((s : Stmt) × IsBack p s) → Stmt-F Stmt
bare_back p y = map-Stmt ((s : Stmt) × IsBack p s) Stmt (λ s. s.0) y

layer_back : (p : trees.Program) (y : Stmt-F ((s : Stmt) × IsBack p s)) → GoesBack (λ r. (walk_node p (map-Stmt Stmt (Reached → Walked) (walk p) (bare_back p y)) r).reached)
layer_back p (Stmt-F.Var name name_site kind value site) founds all r h = record { locals = first_front r.locals _ founds h.locals; checks = h.checks }
layer_back p (Stmt-F.Assign name value site) founds all r h = h
layer_back p (Stmt-F.Put place value site) founds all r h = h
layer_back p (Stmt-F.If cond first None site) founds all r h =
    let yes = (walk_block (map (walk p) (map (λ s. s.0) first)) r).reached in
    block_back (map (walk p) (map (λ s. s.0) first)) (each_back p first) founds all r (block_back [] tt founds all yes h)
layer_back p (Stmt-F.If cond first (Some other) site) founds all r h =
    let yes = (walk_block (map (walk p) (map (λ s. s.0) first)) r).reached in
    block_back (map (walk p) (map (λ s. s.0) first)) (each_back p first) founds all r
    (block_back (map (walk p) (map (λ s. s.0) other)) (each_back p other) founds all yes h)
layer_back p (Stmt-F.While cond body site) founds all r h = block_back (map (walk p) (map (λ s. s.0) body)) (each_back p body) founds all r h
layer_back p (Stmt-F.Call name args site) founds all r h = h
layer_back p (Stmt-F.Check body site) founds all r h = record { locals = h.locals; checks = front_of r.checks _ all h.checks }

-- so it is with any statement
pub walk_back : (p : trees.Program) (s : Stmt) → IsBack p s
walk_back p = ind-Stmt (IsBack p) (λ x y is.
    subst (λ z. IsBack p (roll-Stmt z)) is
    (subst (λ (f : Reached → Walked). GoesBack (λ r. (f r).reached)) (sym (fold-roll-Stmt (Reached → Walked) (walk_node p) (bare_back p y))) (layer_back p y)))

-- and with statements, one after another
pub statements_back : (p : trees.Program) (ss : List Stmt) → GoesBack (λ r. (walk_all (map (walk p) ss) r).reached)
statements_back p ss = all_back (map (walk p) ss) (each ss)
  where
    each : (ss : List Stmt) → AllByRecursion (λ (f : Reached → Walked). GoesBack (λ r. (f r).reached)) (map (walk p) ss)
    each [] = tt
    each (s ∷ ss) = (walk_back p s, each ss)

-- a body: the tree, shape and program around it, what its locals are found to be at its end, and all check statements
pub record Around : Type 0 where
  pub tree : trees.Program
  pub shape : ShapeLists
  pub program : Program
  pub founds : List Found
  pub all : List Launched

-- tree, shape and program belong together, the locals of the body have known kinds, and these are all check statements of the program and their kinds
pub record IsAround (a : Around) : Type 0 where
  pub stands : StandsFor a.tree a.shape a.program
  pub declared : AllByRecursion (IsDeclaredFound a.tree) a.founds
  pub checks : a.program.checks ≡ map (λ l. l.check) a.all
  pub kinds : a.shape.checks ≡ map (λ l. l.kinds) a.all

-- the kinds of its locals, and what its expressions stand in
abbrev pub kinds_at_end : Around → List Kind
kinds_at_end a = map known_kind a.founds

-- the setting of its expressions: the shape, and the locals as they are at the end of the body
abbrev pub setting_of : Around → Setting
setting_of a = formed.plain_setting a.shape (kinds_at_end a)

-- the expression of a check statement is true or false among its arguments
abbrev pub IsRightLaunch : ShapeLists → Program → Launched → Type 0
IsRightLaunch shape q l = HasKind (record { shape = shape; preds = q.preds; locals = l.kinds }) l.check.body kinds.Bool

-- what a walk comes to is right, and so are the check statements behind it where those in front are
pub record IsRightWalk (a : Around) (before after : List Launched) (Right : Type 0) : Type 0 where
  pub right : Right
  pub launches : AllByRecursion (IsRightLaunch a.shape a.program) before → AllByRecursion (IsRightLaunch a.shape a.program) after

-- where a walk over a statement has no faults, the command that it gives is right in the body, and so are the check statements that it adds
abbrev pub WalksRight : Around → (Reached → Walked) → Type 0
WalksRight a f =
    (r : Reached) → (f r).faults ≡ [] → HasBefore a.founds a.all (f r).reached
    → IsRightWalk a r.checks (f r).reached.checks (formed.IsRightCommand a.shape a.program (kinds_at_end a) (f r).command)

-- the same of a walk over statements, and the block that it gives
abbrev pub BlocksRight : Around → (Reached → WalkedBlock) → Type 0
BlocksRight a f =
    (r : Reached) → (f r).faults ≡ [] → HasBefore a.founds a.all (f r).reached
    → IsRightWalk a r.checks (f r).reached.checks (formed.IsRightBlock a.shape a.program (kinds_at_end a) (f r).block)

abbrev IsRightStep : Around → (Reached → Walked) → Type 0
IsRightStep a f = WalksRight a f × GoesBack (λ r. (f r).reached)

backs : (a : Around) (walks : List (Reached → Walked)) → AllByRecursion (IsRightStep a) walks → AllByRecursion (λ (f : Reached → Walked). GoesBack (λ r. (f r).reached)) walks
backs a [] each = tt
backs a (f ∷ walks) each = (each.0.1, backs a walks each.1)

all_right : (a : Around) (walks : List (Reached → Walked)) → AllByRecursion (IsRightStep a) walks → BlocksRight a (walk_all walks)
all_right a [] each r h b = record { right = tt; launches = λ x. x }
all_right a (f ∷ walks) each r h b =
    let mid = (f r).reached in
    let later = (walk_all walks mid).faults in
    let more = all_right a walks each.1 mid (none_right (f r).faults later h) b in
    let one = each.0.0 r (none_left (f r).faults later h) (all_back walks (backs a walks each.1) a.founds a.all mid b) in
    record { right = (one.right, more.right); launches = λ x. more.launches (one.launches x) }

block_right : (a : Around) (walks : List (Reached → Walked)) → AllByRecursion (IsRightStep a) walks → BlocksRight a (walk_block walks)
block_right a walks each r h b =
    let inner = all_right a walks each r h (block_opens walks a.founds a.all r b) in
    record { right = inner.right; launches = inner.launches }

-- what the expressions of a body stand in at a point
plain_at : (a : Around) → IsAround a → (r : Reached) → HasBefore a.founds a.all r → IsSetting (plain_scope a.tree r.locals) (setting_of a)
plain_at a w r b = plain_is a.tree a.shape a.program r.locals a.founds w.stands b.locals w.declared

many_classes : (a : Around) → IsAround a → length a.shape.classes ≡ classes_of a.tree
many_classes a w =
    let count = length-map a.tree.classes (λ (c : Class). field_kinds a.tree c.fields) in
    let same : length (class_kinds a.tree) ≡ classes_of a.tree = omega (arith, count) in
    ap length w.stands.classes ∙ same

gives : (a : Around) → IsAround a → (r : Reached) → HasBefore a.founds a.all r → (value : Value) → has_target value ≡ true → (kind : Kind) (found : Found) → found ≡ Known kind
    → (judged_value (plain_scope a.tree r.locals) value).faults ≡ []
    → asks found (judged_value (plain_scope a.tree r.locals) value).given.site (judged_value (plain_scope a.tree r.locals) value).given.kind ≡ []
    → GivesKind (setting_of a) (judged_value (plain_scope a.tree r.locals) value).given.source kind
gives a w r b value h kind found same none asked =
    let v = (judged_value (plain_scope a.tree r.locals) value).given in
    allowed_as (GivesKind (setting_of a) v.source) kind v.kind (subst (λ f. goes_with f v.kind ≡ true) same (asked_goes found v.kind v.site asked))
    (value_fits (plain_scope a.tree r.locals) (setting_of a) (plain_at a w r b) (many_classes a w) value h none)

tested : (a : Around) → IsAround a → (r : Reached) → HasBefore a.founds a.all r → (cond : Expr) → (judged (plain_scope a.tree r.locals) cond).faults ≡ []
    → asks a_bool (judged (plain_scope a.tree r.locals) cond).seen.site (judged (plain_scope a.tree r.locals) cond).seen.kind ≡ []
    → HasKind (setting_of a) (judged (plain_scope a.tree r.locals) cond).seen.term kinds.Bool
tested a w r b cond none asked =
    let test = (judged (plain_scope a.tree r.locals) cond).seen in
    asked_as_kind (setting_of a) test.term kinds.Bool test.kind test.site asked (expression_fits (plain_scope a.tree r.locals) (setting_of a) (plain_at a w r b) cond none)

-- `if` and `while`, of the walks over their blocks
if_right : (a : Around) → IsAround a → (cond : Expr) (first other : List (Reached → Walked)) → AllByRecursion (IsRightStep a) first → AllByRecursion (IsRightStep a) other → (r : Reached)
    → in_order ((judged (plain_scope a.tree r.locals) cond).faults
    ∷ asks a_bool (judged (plain_scope a.tree r.locals) cond).seen.site (judged (plain_scope a.tree r.locals) cond).seen.kind
    ∷ (walk_block first r).faults ∷ (walk_block other (walk_block first r).reached).faults ∷ []) ≡ []
    → HasBefore a.founds a.all (walk_block other (walk_block first r).reached).reached
    → IsRightWalk a r.checks (walk_block other (walk_block first r).reached).reached.checks (formed.IsRightCommand a.shape a.program (kinds_at_end a)
    (an_if (judged (plain_scope a.tree r.locals) cond).seen.term (walk_block first r).block (walk_block other (walk_block first r).reached).block))
if_right a w cond first other each_first each_other r h b =
    let test = judged (plain_scope a.tree r.locals) cond in
    let asked = asks a_bool test.seen.site test.seen.kind in
    let yes = walk_block first r in
    let no = walk_block other yes.reached in
    let behind = none_right test.faults (asked ++ (yes.faults ++ (no.faults ++ []))) h in
    let blocks = none_right asked (yes.faults ++ (no.faults ++ [])) behind in
    let middle = block_back other (backs a other each_other) a.founds a.all yes.reached b in
    let start = block_back first (backs a first each_first) a.founds a.all r middle in
    let one = block_right a first each_first r (none_left yes.faults _ blocks) middle in
    let two = block_right a other each_other yes.reached (none_left no.faults [] (none_right yes.faults _ blocks)) b in
    record {
      right = (tested a w r start cond (none_left test.faults _ h) (none_left asked _ behind), one.right, two.right);
      launches = λ x. two.launches (one.launches x);
    }

while_right : (a : Around) → IsAround a → (cond : Expr) (body : List (Reached → Walked)) → AllByRecursion (IsRightStep a) body → (r : Reached)
    → in_order ((judged (plain_scope a.tree r.locals) cond).faults
    ∷ asks a_bool (judged (plain_scope a.tree r.locals) cond).seen.site (judged (plain_scope a.tree r.locals) cond).seen.kind
    ∷ (walk_block body r).faults ∷ []) ≡ []
    → HasBefore a.founds a.all (walk_block body r).reached
    → IsRightWalk a r.checks (walk_block body r).reached.checks (formed.IsRightCommand a.shape a.program (kinds_at_end a)
    (a_while (judged (plain_scope a.tree r.locals) cond).seen.term (walk_block body r).block))
while_right a w cond body each r h b =
    let test = judged (plain_scope a.tree r.locals) cond in
    let asked = asks a_bool test.seen.site test.seen.kind in
    let turn = walk_block body r in
    let behind = none_right test.faults (asked ++ (turn.faults ++ [])) h in
    let start = block_back body (backs a body each) a.founds a.all r b in
    let inner = block_right a body each r (none_left turn.faults [] (none_right asked _ behind)) b in
    record {
      right = (tested a w r start cond (none_left test.faults _ h) (none_left asked _ behind), inner.right);
      launches = inner.launches;
    }

-- the procedure that is called
asked_proc : (p : trees.Program) (name : List ℕ) (args : List Seen) (site : Site) (taken : Bool) (o : Option ℕ) → is_some (pred_number p name) ≡ taken → proc_number p name ≡ o
    → asks_proc p name args site ≡ []
    → (n : ℕ) × (procedure : Proc) × (proc_number p name ≡ Some n) × (slice_get p.procs n ≡ Some procedure) × (asks_args p procedure.params args site ≡ [])
asked_proc p name args site true o e k h = absurd (let same : asks_proc p name args site ≡ NotHere site ∷ [] = rw e refl in cc)
asked_proc p name args site false None e k h = absurd (let same : asks_proc p name args site ≡ UnknownName site ∷ [] = rw (e, k) refl in cc)
asked_proc p name args site false (Some n) e k h = by_place (slice_get p.procs n) refl
  where
    by_place : (o : Option Proc) → slice_get p.procs n ≡ o
        → (n : ℕ) × (procedure : Proc) × (proc_number p name ≡ Some n) × (slice_get p.procs n ≡ Some procedure) × (asks_args p procedure.params args site ≡ [])
    by_place None m = absurd (let same : asks_proc p name args site ≡ UnknownName site ∷ [] = rw (e, k, m) refl in cc)
    by_place (Some procedure) m = (n, procedure, k, m, (let same : asks_proc p name args site ≡ asks_args p procedure.params args site = rw (e, k, m) refl in sym same ∙ h))

each_judged : (s : ScopeView) (t : Setting) → IsSetting s t → (args : List Expr) → AllByRecursion (IsJudgedIn t) (map (judged s) args)
each_judged s t w [] = tt
each_judged s t w (e ∷ args) = (expression_fits s t w e, each_judged s t w args)

-- the locals that a check takes
abbrev AreNumbers : List Local → List ℕ → Type 0
AreNumbers locals numbers = AllByRecursion (λ n. (l : Local) × (slice_get locals n ≡ Some l)) numbers

one_number : (locals : List Local) (numbers : List ℕ) (o : Option Named) → ((named : Named) → o ≡ Some named → (l : Local) × (slice_get locals named.number ≡ Some l))
    → AreNumbers locals numbers → AreNumbers locals (with_number numbers o)
one_number locals numbers None found are = are
one_number locals numbers (Some named) found are = by_test (list_any (λ n. n == named.number) numbers)
  where
    by_test : (b : Bool) → AreNumbers locals (if b then numbers else numbers ++ named.number ∷ [])
    by_test true = are
    by_test false = all_append (λ n. (l : Local) × (slice_get locals n ≡ Some l)) numbers (named.number ∷ []) are (found named refl, tt)

all_numbers : (locals : List Local) (names : List (List ℕ)) (numbers : List ℕ) → AreNumbers locals numbers → AreNumbers locals (numbers_of locals names numbers)
all_numbers locals [] numbers are = are
all_numbers locals (name ∷ names) numbers are =
    let found : (named : Named) → find_local locals name ≡ Some named → (l : Local) × (slice_get locals named.number ≡ Some l) =
    λ named h. (let l = named_in locals named (position (λ l. l.is_known && bytes_eq l.name name) locals) h in (l.0, l.1)) in
    all_numbers locals names (with_number numbers (find_local locals name)) (one_number locals numbers (find_local locals name) found are)

takes : (locals : List Local) (founds : List Found) (numbers : List ℕ) → AreFirst locals founds → AreNumbers locals numbers
    → formed.TakesLocals (map known_kind founds) numbers (map (λ l. known_kind l.kind) (locals_at locals numbers))
takes locals founds [] first are = tt
takes locals founds (n ∷ numbers) first are =
    let l = are.0.0 in
    let own : slice_get (map known_kind founds) n ≡ Some (known_kind l.kind) = slice_get-map known_kind founds n ∙ ap (option_map known_kind) (first_at locals founds n l first are.0.1) in
    subst (λ o. formed.TakesLocals (map known_kind founds) (n ∷ numbers) (map (λ (x : Local). known_kind x.kind) (if_any o ++ locals_at locals numbers))) (sym are.0.1)
    (own, takes locals founds numbers first are.1)

-- locals by themselves
pub all_first : (locals : List Local) → AreFirst locals (map (λ l. l.kind) locals)
all_first [] = tt
all_first (l ∷ locals) = (refl, all_first locals)

-- to take the kinds of locals and then the known ones is one step
pub kinds_twice : (locals : List Local) → map known_kind (map (λ l. l.kind) locals) ≡ map (λ l. known_kind l.kind) locals
kinds_twice [] = refl
kinds_twice (l ∷ locals) = ap (λ ks. known_kind l.kind ∷ ks) (kinds_twice locals)

-- locals of known kinds give a list of known kinds
pub kinds_are_declared : (p : trees.Program) (locals : List Local) → AllByRecursion (λ l. IsDeclaredFound p l.kind) locals → AllByRecursion (IsDeclaredFound p) (map (λ l. l.kind) locals)
kinds_are_declared p [] d = tt
kinds_are_declared p (l ∷ locals) d = (d.0, kinds_are_declared p locals d.1)

-- what the expression of a predicate or a check stands in, whose locals are these
pub calling_at : (p : trees.Program) (shape : ShapeLists) (q : Program) (locals : List Local) → StandsFor p shape q → AllByRecursion (λ l. IsDeclaredFound p l.kind) locals
    → IsSetting (record { program = p; locals = locals; may_call = true }) (record { shape = shape; preds = q.preds; locals = map (λ l. known_kind l.kind) locals })
calling_at p shape q locals w d =
    let scope : ScopeView = record { program = p; locals = locals; may_call = true } in
    subst (λ ks. IsSetting scope (record { shape = shape; preds = q.preds; locals = ks })) (kinds_twice locals)
    (calling_is p shape q locals (map (λ (l : Local). l.kind) locals) w (all_first locals) (kinds_are_declared p locals d))

check_right : (a : Around) → IsAround a → (r : Reached) (body : Expr) (site : Site)
    → (judged (check_scope a.tree r.locals body) body).faults
    ++ (asks a_bool (judged (check_scope a.tree r.locals body) body).seen.site (judged (check_scope a.tree r.locals body) body).seen.kind ++ []) ≡ []
    → HasBefore a.founds a.all (launch a.tree r body site)
    → IsRightWalk a r.checks (launch a.tree r body site).checks (formed.IsRightCommand a.shape a.program (kinds_at_end a) (a_launch (length r.checks)))
check_right a w r body site h b =
    let check = judged (check_scope a.tree r.locals body) body in
    let asked = asks a_bool check.seen.site check.seen.kind in
    let numbers = args_of_check r.locals body in
    let found = locals_at r.locals numbers in
    let l : Launched = record { check = record { args = numbers; body = check.seen.term; at = site }; kinds = map (λ (x : Local). known_kind x.kind) found } in
    let last = last_of r.checks l a.all b.checks in
    let declared = found_declared a.tree r.locals numbers (first_of_all a.tree r.locals a.founds b.locals w.declared) in
    let setting : Setting = record { shape = a.shape; preds = a.program.preds; locals = l.kinds } in
    let fits = expression_fits (check_scope a.tree r.locals body) setting (calling_at a.tree a.shape a.program found w.stands declared) body (none_left check.faults _ h) in
    let own = asked_as_kind setting check.seen.term kinds.Bool check.seen.kind check.seen.site (none_left asked [] (none_right check.faults _ h)) fits in
    record {
      right = (
        l.check,
        l.kinds,
        ap (λ cs. slice_get cs (length r.checks)) w.checks ∙ slice_get-map (λ (x : Launched). x.check) a.all (length r.checks) ∙ ap (option_map (λ (x : Launched). x.check)) last,
        ap (λ ks. slice_get ks (length r.checks)) w.kinds ∙ slice_get-map (λ (x : Launched). x.kinds) a.all (length r.checks) ∙ ap (option_map (λ (x : Launched). x.kinds)) last,
        takes r.locals a.founds numbers b.locals (all_numbers r.locals (mentions body) [] tt),
      );
      launches = λ x. all_append (IsRightLaunch a.shape a.program) r.checks (l ∷ []) x (own, tt);
    }

-- both parts of a conjunction that is true are true
pub both_true : (x y : Bool) → (x && y) ≡ true → (x ≡ true) × (y ≡ true)
both_true true y h = (refl, h)
both_true false y h = cc

abbrev IsRight : Around → Stmt → Type 0
IsRight a s = has_targets s ≡ true → WalksRight a (walk a.tree s)

each_right : (a : Around) (ss : List ((s : Stmt) × IsRight a s)) → are_all (map has_targets (map (λ s. s.0) ss)) ≡ true → AllByRecursion (IsRightStep a) (map (walk a.tree) (map (λ s. s.0) ss))
each_right a [] h = tt
each_right a (s ∷ ss) h =
    let two = both_true (has_targets s.0) (are_all (map has_targets (map (λ s. s.0) ss))) h in
    ((s.1 two.0, walk_back a.tree s.0), each_right a ss two.1)

abbrev bare : (a : Around) → Stmt-F ((s : Stmt) × IsRight a s) → Stmt-F Stmt
bare a y = map-Stmt ((s : Stmt) × IsRight a s) Stmt (λ s. s.0) y

layer_right : (a : Around) → IsAround a → (y : Stmt-F ((s : Stmt) × IsRight a s)) → targets_node (map-Stmt Stmt Bool has_targets (bare a y)) ≡ true
    → WalksRight a (walk_node a.tree (map-Stmt Stmt (Reached → Walked) (walk a.tree) (bare a y)))
layer_right a w (Stmt-F.Var name name_site kind value site) t r h b =
    let v = judged_value (plain_scope a.tree r.locals) value in
    let own = asks (kind_of a.tree kind) v.given.site v.given.kind in
    let typed = none_right (asks_new (is_local r.locals name) site) (asks_type a.tree kind ++ (v.faults ++ (own ++ []))) h in
    let valued = none_right (asks_type a.tree kind) (v.faults ++ (own ++ [])) typed in
    let known = known_at a.tree a.founds (length r.locals) (kind_of a.tree kind) w.declared (first_last r.locals _ a.founds b.locals) in
    let before : HasBefore a.founds a.all r = record { locals = first_front r.locals _ a.founds b.locals; checks = b.checks } in
    record {
      right = (known.0, known.2, gives a w r before value t known.0 (kind_of a.tree kind) known.1 (none_left v.faults _ valued) (none_left own [] (none_right v.faults _ valued)));
      launches = λ x. x;
    }
layer_right a w (Stmt-F.Assign name value site) t r h b =
    let v = judged_value (plain_scope a.tree r.locals) value in
    let o = find_local r.locals name in
    let own = asks (named_kind o) v.given.site v.given.kind in
    let valued = none_right (asks_name site o) (v.faults ++ (own ++ [])) h in
    let named = named_has (kinds_at_end a) site o (none_left (asks_name site o) _ h) (local_named a.tree r.locals a.founds b.locals w.declared name) in
    record {
      right = (named.0, named.2, gives a w r b value t named.0 (named_kind o) named.1 (none_left v.faults _ valued) (none_left own [] (none_right v.faults _ valued)));
      launches = λ x. x;
    }
layer_right a w (Stmt-F.Put place value site) t r h b =
    let two = both_true (is_place place) (has_target value) t in
    let target = judged (plain_scope a.tree r.locals) place in
    let v = judged_value (plain_scope a.tree r.locals) value in
    let own = asks target.seen.kind v.given.site v.given.kind in
    let valued = none_right target.faults (v.faults ++ (own ++ [])) h in
    let stored = place_fits (plain_scope a.tree r.locals) (setting_of a) (plain_at a w r b) place two.0 (none_left target.faults _ h) in
    record {
      right = (stored.0, stored.2, gives a w r b value two.1 stored.0 target.seen.kind stored.1 (none_left v.faults _ valued) (none_left own [] (none_right v.faults _ valued)));
      launches = λ x. x;
    }
layer_right a w (Stmt-F.If cond first None site) t r h b =
    let two = both_true (are_all (map has_targets (map (λ s. s.0) first))) true t in
    if_right a w cond (map (walk a.tree) (map (λ s. s.0) first)) [] (each_right a first two.0) tt r h b
layer_right a w (Stmt-F.If cond first (Some other) site) t r h b =
    let two = both_true (are_all (map has_targets (map (λ s. s.0) first))) (are_all (map has_targets (map (λ s. s.0) other))) t in
    if_right a w cond (map (walk a.tree) (map (λ s. s.0) first)) (map (walk a.tree) (map (λ s. s.0) other)) (each_right a first two.0) (each_right a other two.1) r h b
layer_right a w (Stmt-F.While cond body site) t r h b = while_right a w cond (map (walk a.tree) (map (λ s. s.0) body)) (each_right a body t) r h b
layer_right a w (Stmt-F.Call name args site) t r h b =
    let scope = plain_scope a.tree r.locals in
    let given = map (judged scope) args in
    let faults = in_order (map (λ (j : Judged). j.faults) given) in
    let seen = map (λ (j : Judged). j.seen) given in
    let asked = asked_proc a.tree name seen site (is_some (pred_number a.tree name)) (proc_number a.tree name) refl refl (none_right faults _ h) in
    let found = w.stands.procs asked.0 asked.1 asked.3 in
    record {
      right = (
        found.0,
        ap (λ o. slice_get a.program.procs (number_or_0 o)) asked.2 ∙ found.1,
        args_asked a.tree asked.1.params (formed.param_kinds found.0) (setting_of a) given site found.2
            (each_judged scope (setting_of a) (plain_at a w r b) args) (none_left faults _ h) asked.4,
      );
      launches = λ x. x;
    }
layer_right a w (Stmt-F.Check body site) t r h b = check_right a w r body site h b

-- a statement without faults
pub walk_right : (a : Around) → IsAround a → (s : Stmt) → IsRight a s
walk_right a w = ind-Stmt (IsRight a) (λ x y is.
    subst (λ z. IsRight a (roll-Stmt z)) is
    (λ t. subst (WalksRight a) (sym (fold-roll-Stmt (Reached → Walked) (walk_node a.tree) (bare a y)))
    (layer_right a w y (subst (λ u. u ≡ true) (fold-roll-Stmt Bool targets_node (bare a y)) t))))

-- statements without faults
pub statements_right : (a : Around) → IsAround a → (ss : List Stmt) → have_targets ss ≡ true → BlocksRight a (walk_all (map (walk a.tree) ss))
statements_right a w ss t = all_right a (map (walk a.tree) ss) (each ss t)
  where
    each : (ss : List Stmt) → have_targets ss ≡ true → AllByRecursion (IsRightStep a) (map (walk a.tree) ss)
    each [] t = tt
    each (s ∷ ss) t = let two = both_true (has_targets s) (have_targets ss) t in ((walk_right a w s two.0, walk_back a.tree s), each ss two.1)

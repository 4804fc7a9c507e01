-- The shape of a tree that keeps the rules fits: there are few of each, and every class that a kind names is declared.
use Rattle.std.proofs.Common.{◌≡◌, ℕ, ◌+◌, ◌<◌, ◌≤◌, Bool, List, [], ◌∷◌, ◌++◌, map, length, take, drop, slice_get}
use Rattle.std.proofs.Common.{Option, Some, None, refl, sym, subst, arith, zero, suc}
use Rattle.std.specs.Prelude.{option_map, is_some, if◌then◌else◌, position, All}
use Rattle.std.specs.List.{AllByRecursion, list_any}
use Rattle.std.specs.Str.{bytes_eq}
use Rattle.std.proofs.lemmas.List.{length-map}
use Rattle.std.proofs.lemmas.List.Elements.{All-from_recursion, recursion_from_All}
use Rattle.std.proofs.lemmas.List.Quantifiers.{position-Some}
use Rattle.st_ast.specs.declared.declarations.Class.{Class}
use Rattle.st_ast.specs.declared.declarations.Field.{Field}
use Rattle.st_ast.specs.declared.declarations.Param.{Param}
use Rattle.st_ast.specs.declared.declarations.Program.{Program}
use Rattle.st_ast.specs.declared.declarations.TypeName.{TypeName}
use Rattle.st_ast.specs.declared.declarations.TypeName.TheVariants as types
use Rattle.st_ast.specs.declared.statements.Stmt.{Stmt}
use Rattle.st_ast.specs.declared.statements.Stmt.TheOpen.{Stmt-F}
use Rattle.st_ast.specs.declared.statements.Stmt.TheViews.{roll-Stmt}
use Rattle.st_ast.specs.declared.statements.Stmt.TheFolds.{fold-roll-Stmt, ind-Stmt, map-Stmt}
use Rattle.st_events.specs.declared.events.Site.{Site}
use Rattle.st_events.specs.declared.shapes.Kind.{Kind}
use Rattle.st_events.specs.declared.shapes.Kind.TheVariants as kinds
use Rattle.st_events.specs.declared.shapes.TheConstants.{MOST_ARGS, MOST_FIELDS}
use Rattle.st_events.specs.Kind.{IsDeclaredKind, AreKindsWithin}
use Rattle.st_events.specs.Shape as shapes
use Rattle.st_types.specs.declared.errors.TypeError.{TypeError}
use Rattle.st_types.specs.declared.errors.TypeError.TheVariants.{UnknownName}
use Rattle.st_types.specs.declared.kinds.Found.{Found}
use Rattle.st_types.specs.declared.kinds.Found.TheVariants.{Known}
use Rattle.st_types.specs.Judged.{judged}
use Rattle.st_types.specs.Limits.{IsWithinLimits, proc_tally, thread_tally}
use Rattle.st_types.specs.Names.{class_number, class_kind, kind_of, Local}
use Rattle.st_types.specs.Rules.{each_with_earlier, class_faults, field_faults, fields_faults, param_faults, params_faults, param_locals, faults_of, shape_of, class_kinds}
use Rattle.st_types.specs.Rules.{field_kinds, pred_faults, walk_body, proc_head_faults, WalkedRoutine, walk_routines, walk_proc, walk_thread, walked_procs, walked_threads}
use Rattle.st_types.specs.Statements.{asks_type, asks_new, known_kind, if_any, locals_at, args_of_check, Launched, Reached, Walked, walk_all, walk_block, walk_node, walk}
use Rattle.st_types.specs.Kinds.{asks}
use Rattle.st_types.specs.Nodes.{a_bool}
use Rattle.st_types.specs.Statements.{forgotten, plain_scope}
use Rattle.st_types.specs.Tallies.{Tally, all_of, tally, tally_node, tally_all}
use Rattle.st_types.proofs.CountLemmas.{few_arguments, few_found}
use Rattle.st_types.proofs.OutcomeLemmas.{few_checks}

-- where two lists of faults are empty together, the first is
pub none_left : (xs ys : List TypeError) → xs ++ ys ≡ [] → xs ≡ []
none_left [] ys h = refl
none_left (x ∷ xs) ys h = cc

-- where two lists of faults are empty together, the second is
pub none_right : (xs ys : List TypeError) → xs ++ ys ≡ [] → ys ≡ []
none_right [] ys h = h
none_right (x ∷ xs) ys h = cc

-- how many classes the shape has, that of the shared object included
abbrev pub classes_of : Program → ℕ
classes_of p = 1 + length p.classes

-- the kind is known, and where it names a class that is declared
abbrev pub IsDeclaredFound : Program → Found → Type 0
IsDeclaredFound p f = (k : Kind) × (f ≡ Known k) × IsDeclaredKind (classes_of p) k

position_within : {X : Type 0} (test : X → Bool) (xs : List X) (i : ℕ) → position test xs ≡ Some i → i < length xs
position_within test [] i h = cc
position_within test (x ∷ xs) i h = (position-Some test (x ∷ xs) i x h).0

of_position : (p : Program) (name : List ℕ) (class : ℕ) (o : Option ℕ) → position (λ (c : Class). bytes_eq c.name name) p.classes ≡ o
    → option_map (λ n. n + 1) o ≡ Some class → (1 ≤ class) × (class < classes_of p)
of_position p name class None e h = cc
of_position p name class (Some i) e h =
    let same : i + 1 ≡ class = cc in
    let within = position_within (λ (c : Class). bytes_eq c.name name) p.classes i e in
    (omega (arith, same), omega (arith, same, within))

class_known : (p : Program) (name : List ℕ) (site : Site) (o : Option ℕ) → class_number p name ≡ o → (if is_some o then [] else (UnknownName site ∷ [])) ≡ []
    → IsDeclaredFound p (class_kind o)
class_known p name site None e h = cc
class_known p name site (Some class) e h = (kinds.Ref class, refl, of_position p name class (position (λ (c : Class). bytes_eq c.name name) p.classes) refl e)

-- a type name that is not refused stands for a kind, whose class is declared
pub type_known : (p : Program) (t : TypeName) → asks_type p t ≡ [] → IsDeclaredFound p (kind_of p t)
type_known p types.Int h = (kinds.Int, refl, tt)
type_known p types.Bool h = (kinds.Bool, refl, tt)
type_known p (types.Class name site) h = class_known p name site (class_number p name) refl h

-- such a kind may stand in the shape
pub kind_declared : (p : Program) (f : Found) → IsDeclaredFound p f → IsDeclaredKind (classes_of p) (known_kind f)
kind_declared p f d = subst (λ x. IsDeclaredKind (classes_of p) (known_kind x)) (sym d.1) d.2

-- each declaration is without faults, after some others
pub each_none : {X : Type 0} (f : List X → X → List TypeError) (earlier xs : List X) → each_with_earlier f earlier xs ≡ []
    → AllByRecursion (λ x. (e : List X) × (f e x ≡ [])) xs
each_none f earlier [] h = tt
each_none f earlier (x ∷ xs) h =
    let more = each_with_earlier f (earlier ++ x ∷ []) xs in
    ((earlier, none_left (f earlier x) more h), each_none f (earlier ++ x ∷ []) xs (none_right (f earlier x) more h))

-- fields of which each has a type
fields_declared : (p : Program) (fields : List Field) → AllByRecursion (λ x. (e : List Field) × (field_faults p e x ≡ [])) fields
    → AllByRecursion (IsDeclaredKind (classes_of p)) (field_kinds p fields)
fields_declared p [] h = tt
fields_declared p (f ∷ fields) h =
    let asked = none_right (asks_new (list_any (λ (g : Field). bytes_eq g.name f.name) h.0.0) f.site) (asks_type p f.kind) h.0.1 in
    (kind_declared p (kind_of p f.kind) (type_known p f.kind asked), fields_declared p fields h.1)

kinds_within : (p : Program) (fields : List Field) → length fields ≤ MOST_FIELDS → fields_faults p fields ≡ [] → AreKindsWithin MOST_FIELDS (classes_of p) (field_kinds p fields)
kinds_within p fields few h = (
  omega (arith, few, length-map fields (λ (f : Field). known_kind (kind_of p f.kind))),
  All-from_recursion (IsDeclaredKind (classes_of p)) (field_kinds p fields) (fields_declared p fields (each_none (field_faults p) [] fields h)),
)

-- the locals so far have kinds that are known
abbrev pub AreDeclared : Program → List Local → Type 0
AreDeclared p locals = AllByRecursion (λ l. IsDeclaredFound p l.kind) locals

-- a check statement takes few arguments, of declared kinds
abbrev pub IsFitting : Program → Launched → Type 0
IsFitting p l = AllByRecursion (IsDeclaredKind (classes_of p)) l.kinds × (length l.kinds ≤ MOST_ARGS)

-- each of some check statements does
abbrev pub AreFitting : Program → List Launched → Type 0
AreFitting p ls = AllByRecursion (IsFitting p) ls

-- what holds of all holds of the one at an index
pub all_at : {X : Type 0} (P : X → Type 0) (xs : List X) (i : ℕ) (x : X) → AllByRecursion P xs → slice_get xs i ≡ Some x → P x
all_at P [] i x a h = cc
all_at P (y ∷ xs) zero x a h = let same : y ≡ x = cc in subst P same a.0
all_at P (y ∷ xs) (suc i) x a h = all_at P xs i x a.1 h

-- what holds of all of two lists holds of both one after the other
pub all_append : {X : Type 0} (P : X → Type 0) (xs ys : List X) → AllByRecursion P xs → AllByRecursion P ys → AllByRecursion P (xs ++ ys)
all_append P [] ys a b = b
all_append P (x ∷ xs) ys a b = (a.0, all_append P xs ys a.1 b)

all_if_any : {X : Type 0} (P : X → Type 0) (xs : List X) (i : ℕ) (o : Option X) → AllByRecursion P xs → slice_get xs i ≡ o → AllByRecursion P (if_any o)
all_if_any P xs i None a h = tt
all_if_any P xs i (Some x) a h = (all_at P xs i x a h, tt)

-- locals picked by their numbers from declared ones are declared
pub found_declared : (p : Program) (locals : List Local) (numbers : List ℕ) → AreDeclared p locals → AreDeclared p (locals_at locals numbers)
found_declared p locals [] a = tt
found_declared p locals (n ∷ numbers) a =
    all_append (λ l. IsDeclaredFound p l.kind) (if_any (slice_get locals n)) (locals_at locals numbers)
    (all_if_any (λ (l : Local). IsDeclaredFound p l.kind) locals n (slice_get locals n) a refl) (found_declared p locals numbers a)

-- the kinds of declared locals may stand in the shape
pub kinds_declared : (p : Program) (locals : List Local) → AreDeclared p locals → AllByRecursion (IsDeclaredKind (classes_of p)) (map (λ l. known_kind l.kind) locals)
kinds_declared p [] a = tt
kinds_declared p (l ∷ locals) a = (kind_declared p l.kind a.0, kinds_declared p locals a.1)

forgotten_declared : (p : Program) (locals : List Local) → AreDeclared p locals → AreDeclared p (map forgotten locals)
forgotten_declared p [] a = tt
forgotten_declared p (l ∷ locals) a = (a.0, forgotten_declared p locals a.1)

closed_declared : (p : Program) (n : ℕ) (locals : List Local) → AreDeclared p locals → AreDeclared p (take n locals ++ map forgotten (drop n locals))
closed_declared p zero locals a = forgotten_declared p locals a
closed_declared p (suc n) [] a = tt
closed_declared p (suc n) (l ∷ locals) a = (a.0, closed_declared p n locals a.1)

-- behind a walk the locals are declared, and the check statements fit
pub record IsDeclared (p : Program) (r : Reached) : Type 0 where
  pub locals : AreDeclared p r.locals
  pub checks : AreFitting p r.checks

abbrev Keeps : Program → Stmt → Type 0
Keeps p s = (r : Reached) → (walk p s r).faults ≡ [] → (tally s).names ≤ MOST_ARGS → IsDeclared p r → IsDeclared p (walk p s r).reached

all_keep : (p : Program) (ss : List ((s : Stmt) × Keeps p s)) (r : Reached) → (walk_all (map (walk p) (map (λ s. s.0) ss)) r).faults ≡ []
    → (all_of (map tally (map (λ s. s.0) ss))).names ≤ MOST_ARGS → IsDeclared p r → IsDeclared p (walk_all (map (walk p) (map (λ s. s.0) ss)) r).reached
all_keep p [] r h few d = d
all_keep p (s ∷ ss) r h few d =
    let first = walk p s.0 r in
    let more = (walk_all (map (walk p) (map (λ s. s.0) ss)) first.reached).faults in
    all_keep p ss first.reached (none_right first.faults more h) (omega (arith, few))
    (s.1 r (none_left first.faults more h) (omega (arith, few)) d)

block_keeps : (p : Program) (walks : List (Reached → Walked)) (r : Reached) → IsDeclared p (walk_all walks r).reached → IsDeclared p (walk_block walks r).reached
block_keeps p walks r d = record { locals = closed_declared p (length r.locals) (walk_all walks r).reached.locals d.locals; checks = d.checks }

abbrev bare : (p : Program) → Stmt-F ((s : Stmt) × Keeps p s) → Stmt-F Stmt
bare p y = map-Stmt ((s : Stmt) × Keeps p s) Stmt (λ s. s.0) y

layer_keeps : (p : Program) (y : Stmt-F ((s : Stmt) × Keeps p s)) (r : Reached) →
    (walk_node p (map-Stmt Stmt (Reached → Walked) (walk p) (bare p y)) r).faults ≡ [] → (tally_node (map-Stmt Stmt Tally tally (bare p y))).names ≤ MOST_ARGS
    → IsDeclared p r → IsDeclared p (walk_node p (map-Stmt Stmt (Reached → Walked) (walk p) (bare p y)) r).reached
layer_keeps p (Stmt-F.Var name name_site kind value site) r h few d =
    let asked = none_left (asks_type p kind) _ (none_right (asks_new _ site) _ h) in
    record { locals = all_append (λ l. IsDeclaredFound p l.kind) r.locals _ d.locals (type_known p kind asked, tt); checks = d.checks }
layer_keeps p (Stmt-F.Assign name value site) r h few d = d
layer_keeps p (Stmt-F.Put place value site) r h few d = d
layer_keeps p (Stmt-F.If cond first None site) r h few d =
    let walks = map (walk p) (map (λ s. s.0) first) in
    let yes = walk_block walks r in
    let test = judged (plain_scope p r.locals) cond in
    let blocks = none_right (asks a_bool test.seen.site test.seen.kind) (yes.faults ++ ((walk_block [] yes.reached).faults ++ [])) (none_right test.faults _ h) in
    block_keeps p [] yes.reached (block_keeps p walks r (all_keep p first r (none_left yes.faults _ blocks) (omega (arith, few)) d))
layer_keeps p (Stmt-F.If cond first (Some other) site) r h few d =
    let walks = map (walk p) (map (λ s. s.0) first) in
    let yes = walk_block walks r in
    let others = map (walk p) (map (λ s. s.0) other) in
    let no = walk_block others yes.reached in
    let test = judged (plain_scope p r.locals) cond in
    let blocks = none_right (asks a_bool test.seen.site test.seen.kind) (yes.faults ++ (no.faults ++ [])) (none_right test.faults _ h) in
    block_keeps p others yes.reached (all_keep p other yes.reached (none_left no.faults [] (none_right yes.faults (no.faults ++ []) blocks)) (omega (arith, few))
    (block_keeps p walks r (all_keep p first r (none_left yes.faults _ blocks) (omega (arith, few)) d)))
layer_keeps p (Stmt-F.While cond body site) r h few d =
    let walks = map (walk p) (map (λ s. s.0) body) in
    let turn = walk_block walks r in
    let test = judged (plain_scope p r.locals) cond in
    let block = none_left turn.faults [] (none_right (asks a_bool test.seen.site test.seen.kind) (turn.faults ++ []) (none_right test.faults _ h)) in
    block_keeps p walks r (all_keep p body r block few d)
layer_keeps p (Stmt-F.Call name args site) r h few d = d
layer_keeps p (Stmt-F.Check body site) r h few d =
    let numbers = args_of_check r.locals body in
    let found = locals_at r.locals numbers in
    let long = length-map found (λ (l : Local). known_kind l.kind) in
    record {
      locals = d.locals;
      checks = all_append (IsFitting p) r.checks _ d.checks
          ((kinds_declared p found (found_declared p r.locals numbers d.locals), omega (arith, few, long, few_found r.locals numbers, few_arguments r.locals body)), tt);
    }

-- the walk over any statement without faults keeps that the locals are declared and the check statements fit
pub walk_keeps : (p : Program) (s : Stmt) → Keeps p s
walk_keeps p = ind-Stmt (Keeps p) (λ x y keeps.
    subst (λ z. Keeps p (roll-Stmt z)) keeps
    (λ r. subst (λ (f : Reached → Walked). (f r).faults ≡ [] → (tally (roll-Stmt (bare p y))).names ≤ MOST_ARGS → IsDeclared p r → IsDeclared p (f r).reached)
    (sym (fold-roll-Stmt (Reached → Walked) (walk_node p) (bare p y)))
    (subst (λ (t : Tally). (walk_node p (map-Stmt Stmt (Reached → Walked) (walk p) (bare p y)) r).faults ≡ [] → t.names ≤ MOST_ARGS → IsDeclared p r
    → IsDeclared p (walk_node p (map-Stmt Stmt (Reached → Walked) (walk p) (bare p y)) r).reached) (sym (fold-roll-Stmt Tally tally_node (bare p y)))
    (layer_keeps p y r))))

-- so does the walk over statements
pub statements_keep : (p : Program) (ss : List Stmt) (r : Reached) → (walk_all (map (walk p) ss) r).faults ≡ [] → (tally_all ss).names ≤ MOST_ARGS → IsDeclared p r
    → IsDeclared p (walk_all (map (walk p) ss) r).reached
statements_keep p [] r h few d = d
statements_keep p (s ∷ ss) r h few d =
    let first = walk p s r in
    let more = (walk_all (map (walk p) ss) first.reached).faults in
    statements_keep p ss first.reached (none_right first.faults more h) (omega (arith, few)) (walk_keeps p s r (none_left first.faults more h) (omega (arith, few)) d)

-- parameters without faults are declared locals
pub params_declared : (p : Program) (params : List Param) → AllByRecursion (λ x. (e : List Param) × (param_faults p e x ≡ [])) params → AreDeclared p (param_locals p params)
params_declared p [] h = tt
params_declared p (q ∷ params) h =
    let asked = none_right (asks_new (list_any (λ (g : Param). bytes_eq g.name q.name) h.0.0) q.site) (asks_type p q.kind) h.0.1 in
    (type_known p q.kind asked, params_declared p params h.1)

-- a walk over one declaration keeps that the check statements fit
abbrev KeepsFit : {X : Type 0} → Program → (List X → List Launched → X → WalkedRoutine) → (X → Tally) → Type 0
KeepsFit {X} p f t = (earlier : List X) (checks : List Launched) (x : X) → (f earlier checks x).faults ≡ [] → (t x).names ≤ MOST_ARGS → AreFitting p checks
    → AreFitting p (f earlier checks x).checks

-- the walk over a procedure does
pub proc_keeps : (p : Program) → KeepsFit p (walk_proc p) proc_tally
proc_keeps p earlier checks q h few fit =
    let body = (walk_body p q.params q.body checks).faults in
    let params = none_right (asks_new _ q.site) (params_faults p q.params) (none_left (proc_head_faults p earlier q) body h) in
    (statements_keep p q.body (record { locals = param_locals p q.params; checks = checks }) (none_right (proc_head_faults p earlier q) body h) few
    (record { locals = params_declared p q.params (each_none (param_faults p) [] q.params params); checks = fit })).checks

-- and the walk over a thread
pub thread_keeps : (p : Program) → KeepsFit p (walk_thread p) thread_tally
thread_keeps p earlier checks t h few fit =
    let body = (walk_body p [] t.body checks).faults in
    (statements_keep p t.body (record { locals = []; checks = checks }) (none_right (asks_new _ t.site) body h) few (record { locals = tt; checks = fit })).checks

-- and over all of them, one after another
pub routines_keep : {X : Type 0} (p : Program) (f : List X → List Launched → X → WalkedRoutine) (t : X → Tally) (earlier : List X) (checks : List Launched) (xs : List X)
    → KeepsFit p f t → (walk_routines f earlier checks xs).faults ≡ [] → (all_of (map t xs)).names ≤ MOST_ARGS → AreFitting p checks
    → AreFitting p (walk_routines f earlier checks xs).checks
routines_keep p f t earlier checks [] keep h few fit = fit
routines_keep p f t earlier checks (x ∷ xs) keep h few fit =
    let first = f earlier checks x in
    let more = (walk_routines f (earlier ++ x ∷ []) first.checks xs).faults in
    routines_keep p f t (earlier ++ x ∷ []) first.checks xs keep (none_right first.faults more h) (omega (arith, few))
    (keep earlier checks x (none_left first.faults more h) (omega (arith, few)) fit)

classes_within : (p : Program) (classes : List Class) → AllByRecursion (λ (c : Class). length c.fields ≤ MOST_FIELDS) classes
    → AllByRecursion (λ x. (e : List Class) × (class_faults p e x ≡ [])) classes
    → AllByRecursion (AreKindsWithin MOST_FIELDS (classes_of p)) (map (λ class. field_kinds p class.fields) classes)
classes_within p [] few h = tt
classes_within p (c ∷ classes) few h = (
  kinds_within p c.fields few.0 (none_right (asks_new (list_any (λ (d : Class). bytes_eq d.name c.name) h.0.0) c.site) (fields_faults p c.fields) h.0.1),
  classes_within p classes few.1 h.1,
)

arguments_within : (p : Program) (ls : List Launched) → AreFitting p ls → AllByRecursion (AreKindsWithin MOST_ARGS (classes_of p)) (map (λ l. l.kinds) ls)
arguments_within p [] fit = tt
arguments_within p (l ∷ ls) fit = ((fit.0.1, All-from_recursion (IsDeclaredKind (classes_of p)) l.kinds fit.0.0), arguments_within p ls fit.1)

-- the shape fits
pub shape_fits : (p : Program) → IsWithinLimits p → faults_of p ≡ [] → shapes.IsWithinLimits (shape_of p)
unfolding faults_of shape_of
shape_fits p h none =
    let classes = each_with_earlier (class_faults p) [] p.classes in
    let shared = fields_faults p p.shared in
    let preds = each_with_earlier (pred_faults p) [] p.preds in
    let after_classes = none_right classes (shared ++ (preds ++ ((walked_procs p).faults ++ ((walked_threads p).faults ++ [])))) none in
    let after_shared = none_right shared (preds ++ ((walked_procs p).faults ++ ((walked_threads p).faults ++ []))) after_classes in
    let bodies = none_right preds ((walked_procs p).faults ++ ((walked_threads p).faults ++ [])) after_shared in
    let of_procs = none_left (walked_procs p).faults ((walked_threads p).faults ++ []) bodies in
    let of_threads = none_left (walked_threads p).faults [] (none_right (walked_procs p).faults ((walked_threads p).faults ++ []) bodies) in
    let names = h.arguments in
    let procs_fit = routines_keep p (walk_proc p) proc_tally [] [] p.procs (proc_keeps p) of_procs (omega (arith, names)) tt in
    let all_fit = routines_keep p (walk_thread p) thread_tally [] (walked_procs p).checks p.threads (thread_keeps p) of_threads (omega (arith, names)) procs_fit in
    let count = length-map p.classes (λ (c : Class). field_kinds p c.fields) in
    let same : length (class_kinds p) ≡ classes_of p = omega (arith, count) in
    let fields : AllByRecursion (AreKindsWithin MOST_FIELDS (classes_of p)) (class_kinds p) = (
      kinds_within p p.shared h.names.shared (none_left shared _ after_classes),
      classes_within p p.classes (recursion_from_All (λ (c : Class). length c.fields ≤ MOST_FIELDS) p.classes h.names.fields) (each_none (class_faults p) [] p.classes (none_left classes _ none)),
    ) in
    record {
      some_class = omega (arith, count);
      classes = omega (arith, count, h.names.classes);
      checks = omega (arith, few_checks p h, length-map (walked_threads p).checks (λ (l : Launched). l.kinds));
      fields = subst (λ n. All (AreKindsWithin MOST_FIELDS n) (class_kinds p)) (sym same) (All-from_recursion (AreKindsWithin MOST_FIELDS (classes_of p)) (class_kinds p) fields);
      arguments = subst (λ n. All (AreKindsWithin MOST_ARGS n) (map (λ (l : Launched). l.kinds) (walked_threads p).checks)) (sym same)
          (All-from_recursion (AreKindsWithin MOST_ARGS (classes_of p)) (map (λ (l : Launched). l.kinds) (walked_threads p).checks) (arguments_within p (walked_threads p).checks all_fit));
    }

-- A tree within the limits that keeps every rule is, with numbers in the place of names, a well-formed program.
use Rattle.std.proofs.Common.{◌≡◌, ℕ, ◌≤◌, zero, suc, true, List, [], ◌∷◌, ◌++◌, map, length, take, Some, refl, ap, sym, ◌∙◌, subst, arith, append-nil}
use Rattle.std.specs.Prelude.{slice_get, option_map, All}
use Rattle.std.specs.List.{AllByRecursion, list_any}
use Rattle.std.specs.Str.{bytes_eq}
use Rattle.std.proofs.lemmas.List.{length-map}
use Rattle.std.proofs.lemmas.List.Elements.{All-from_recursion, recursion_from_All}
use Rattle.std.proofs.lemmas.Option.{slice_get-map}
use Rattle.st_ast.specs.declared.declarations.Class.{Class}
use Rattle.st_ast.specs.declared.declarations.Field.{Field}
use Rattle.st_ast.specs.declared.declarations.Param.{Param}
use Rattle.st_ast.specs.declared.declarations.Pred.{Pred}
use Rattle.st_ast.specs.declared.declarations.Proc.{Proc}
use Rattle.st_ast.specs.declared.declarations.Thread.{Thread}
use Rattle.st_ast.specs.declared.declarations.Program as trees
use Rattle.st_ast.specs.declared.statements.Stmt.{Stmt}
use Rattle.st_events.specs.declared.shapes.TheConstants.{MOST_ARGS}
use Rattle.st_events.specs.Kind.{IsDeclaredKind}
use Rattle.st_events.specs.Shape.{ShapeLists}
use Rattle.st_events.specs.Shape as shapes
use Rattle.st_resolved.specs.declared.limits.TheConstants.{MOST_PARAMS}
use Rattle.st_resolved.specs.Kinds.{Setting, HasKind}
use Rattle.st_resolved.specs.Terms.{Routine, Program}
use Rattle.st_resolved.specs.Views.{check_of, program_of}
use Rattle.st_resolved.specs.WellFormed as formed
use Rattle.st_resolved.specs.WellFormed.{IsWellFormed, IsRightPredicate, IsRightRoutine, AreRightChecks}
use Rattle.st_types.specs.declared.kinds.Found.{Found}
use Rattle.st_types.specs.declared.kinds.Found.TheVariants.{Known}
use Rattle.st_types.specs.Judged.{judged}
use Rattle.st_types.specs.Kinds.{asks}
use Rattle.st_types.specs.Limits.{IsSmallBody, IsWithinLimits, proc_tally, thread_tally}
use Rattle.st_types.specs.Names.{kind_of, param_kinds, Local}
use Rattle.st_types.specs.Places.{have_targets, are_all}
use Rattle.st_types.specs.Rules.{each_with_earlier, class_faults, field_faults, fields_faults, param_faults, params_faults, param_locals, pred_scope, pred_head_faults, pred_body_faults}
use Rattle.st_types.specs.Rules.{pred_faults, faults_of, resolution, shape_of, class_kinds, field_kinds, predicate_at, walk_body, routine_at, proc_head_faults, WalkedRoutine}
use Rattle.st_types.specs.Rules.{walk_routines, walk_proc, walk_thread, walked_procs, walked_threads}
use Rattle.st_types.specs.Statements.{asks_type, asks_new, known_kind, Launched, Reached}
use Rattle.st_types.specs.Tallies.{all_of, tally_all}
use Rattle.st_types.specs.TypedPrograms.{TypedView, IsTyped}
use Rattle.st_types.proofs.TallyLemmas.{walk_all_grows}
use Rattle.st_types.proofs.ShapeLemmas.{none_left, none_right, classes_of, IsDeclaredFound, AreDeclared, AreFitting, type_known, each_none, all_at, params_declared, kinds_declared}
use Rattle.st_types.proofs.ShapeLemmas.{statements_keep, proc_keeps, thread_keeps, routines_keep, shape_fits}
use Rattle.st_types.proofs.TermLemmas.{asked_as_kind, expression_fits}
use Rattle.st_types.proofs.SettingLemmas.{AreFirst, AreDeclaredFields, StandsFor}
use Rattle.st_types.proofs.CommandLemmas.{IsFront, HasBefore, statements_back, Around, IsAround, IsRightLaunch, all_first, kinds_twice, kinds_are_declared, calling_at, statements_right, both_true}

-- the shape and the program of a tree, without their names
abbrev shape_at : trees.Program → ShapeLists
shape_at p = record { classes = class_kinds p; checks = map (λ l. l.kinds) (walked_threads p).checks }

abbrev program_at : trees.Program → Program
program_at p = record {
  preds = map (predicate_at p) p.preds;
  procs = (walked_procs p).routines;
  threads = (walked_threads p).routines;
  checks = map (λ l. l.check) (walked_threads p).checks;
}

-- a kind that is known
known_is : (p : trees.Program) (found : Found) → IsDeclaredFound p found → found ≡ Known (known_kind found)
known_is p found d = d.1 ∙ sym (ap (λ x. Known (known_kind x)) d.1)

params_known : (p : trees.Program) (params : List Param) → AreDeclared p (param_locals p params)
    → param_kinds p params ≡ map Known (map (λ param. known_kind (kind_of p param.kind)) params)
params_known p [] d = refl
params_known p (q ∷ params) d =
    ap (λ k. k ∷ param_kinds p params) (known_is p (kind_of p q.kind) d.0)
    ∙ ap (λ ks. Known (known_kind (kind_of p q.kind)) ∷ ks) (params_known p params d.1)

-- the parameters of a body are the first of its locals
params_taken : (p : trees.Program) (params : List Param) (locals : List Local) → AreDeclared p (param_locals p params) → AreFirst (param_locals p params) (map (λ l. l.kind) locals)
    → param_kinds p params ≡ map Known (take (length params) (map (λ l. known_kind l.kind) locals))
params_taken p [] locals d f = refl
params_taken p (q ∷ params) [] d f = elim f [ ]
params_taken p (q ∷ params) (l ∷ locals) d f =
    ap (λ k. k ∷ param_kinds p params) (known_is p (kind_of p q.kind) d.0 ∙ ap (λ x. Known (known_kind x)) f.0)
    ∙ ap (λ ks. Known (known_kind l.kind) ∷ ks) (params_taken p params locals d.1 f.1)

-- fields and shared variables
declared_fields : (p : trees.Program) (fields : List Field) → AllByRecursion (λ x. (e : List Field) × (field_faults p e x ≡ [])) fields → AreDeclaredFields p fields
declared_fields p [] h = tt
declared_fields p (f ∷ fields) h =
    let asked = none_right (asks_new (list_any (λ (g : Field). bytes_eq g.name f.name) h.0.0) f.site) (asks_type p f.kind) h.0.1 in
    (type_known p f.kind asked, declared_fields p fields h.1)

declared_classes : (p : trees.Program) (classes : List Class) → AllByRecursion (λ x. (e : List Class) × (class_faults p e x ≡ [])) classes
    → AllByRecursion (λ c. AreDeclaredFields p c.fields) classes
declared_classes p [] h = tt
declared_classes p (c ∷ classes) h =
    let fields = none_right (asks_new (list_any (λ (d : Class). bytes_eq d.name c.name) h.0.0) c.site) (fields_faults p c.fields) h.0.1 in
    (declared_fields p c.fields (each_none (field_faults p) [] c.fields fields), declared_classes p classes h.1)

-- predicates
record IsSoundPred (p : trees.Program) (pred : Pred) : Type 0 where
  params : AreDeclared p (param_locals p pred.params)
  result : IsDeclaredFound p (kind_of p pred.result)
  body : (judged (pred_scope p pred) pred.body).faults ≡ []
  asked : asks (kind_of p pred.result) (judged (pred_scope p pred) pred.body).seen.site (judged (pred_scope p pred) pred.body).seen.kind ≡ []

sound_pred : (p : trees.Program) (earlier : List Pred) (pred : Pred) → pred_faults p earlier pred ≡ [] → IsSoundPred p pred
sound_pred p earlier pred h =
    let head = none_left (pred_head_faults p earlier pred) (pred_body_faults p pred) h in
    let body = none_right (pred_head_faults p earlier pred) (pred_body_faults p pred) h in
    let typed = none_right (asks_new (list_any (λ (q : Pred). bytes_eq q.name pred.name) earlier) pred.site) (params_faults p pred.params ++ asks_type p pred.result) head in
    let own = (judged (pred_scope p pred) pred.body).faults in
    record {
      params = params_declared p pred.params (each_none (param_faults p) [] pred.params (none_left (params_faults p pred.params) (asks_type p pred.result) typed));
      result = type_known p pred.result (none_right (params_faults p pred.params) (asks_type p pred.result) typed);
      body = none_left own _ body;
      asked = none_right own _ body;
    }

sound_preds : (p : trees.Program) (preds : List Pred) → AllByRecursion (λ x. (e : List Pred) × (pred_faults p e x ≡ [])) preds → AllByRecursion (IsSoundPred p) preds
sound_preds p [] h = tt
sound_preds p (pred ∷ preds) h = (sound_pred p h.0.0 pred h.0.1, sound_preds p preds h.1)

-- the kinds of parameters as locals
kinds_of_params : (p : trees.Program) (params : List Param) → map (λ l. known_kind l.kind) (param_locals p params) ≡ map (λ param. known_kind (kind_of p param.kind)) params
kinds_of_params p [] = refl
kinds_of_params p (q ∷ params) = ap (λ ks. known_kind (kind_of p q.kind) ∷ ks) (kinds_of_params p params)

pred_right : (p : trees.Program) (shape : ShapeLists) (q : Program) → length shape.classes ≡ classes_of p → StandsFor p shape q → (pred : Pred) → IsSoundPred p pred
    → length pred.params ≤ MOST_PARAMS → IsRightPredicate shape q (predicate_at p pred)
pred_right p shape q many w pred sound few =
    let locals = param_locals p pred.params in
    let same = kinds_of_params p pred.params in
    let setting : Setting = record { shape = shape; preds = q.preds; locals = map (λ (l : Local). known_kind l.kind) locals } in
    let j = judged (pred_scope p pred) pred.body in
    let fits = expression_fits (pred_scope p pred) setting (calling_at p shape q locals w sound.params) pred.body sound.body in
    let kind = known_kind (kind_of p pred.result) in
    let asked = subst (λ f. asks f j.seen.site j.seen.kind ≡ []) (known_is p (kind_of p pred.result) sound.result) sound.asked in
    let body : HasKind setting j.seen.term kind = asked_as_kind setting j.seen.term kind j.seen.kind j.seen.site asked fits in
    record {
      few = omega (arith, few, length-map pred.params (λ (param : Param). known_kind (kind_of p param.kind)));
      kinds = subst (λ n. All (IsDeclaredKind n) (map (λ (param : Param). known_kind (kind_of p param.kind)) pred.params)) (sym many)
          (All-from_recursion (IsDeclaredKind (classes_of p)) _ (subst (AllByRecursion (IsDeclaredKind (classes_of p))) same (kinds_declared p locals sound.params)));
      body = subst (λ ks. HasKind (record { shape = shape; preds = q.preds; locals = ks }) j.seen.term kind) same body;
    }

preds_right : (p : trees.Program) (shape : ShapeLists) (q : Program) → length shape.classes ≡ classes_of p → StandsFor p shape q → (preds : List Pred)
    → AllByRecursion (IsSoundPred p) preds → AllByRecursion (λ pred. length pred.params ≤ MOST_PARAMS) preds → AllByRecursion (IsRightPredicate shape q) (map (predicate_at p) preds)
preds_right p shape q many w [] sound few = tt
preds_right p shape q many w (pred ∷ preds) sound few = (pred_right p shape q many w pred sound.0 few.0, preds_right p shape q many w preds sound.1 few.1)

-- procedures, as calls see them
head_declared : (p : trees.Program) (earlier : List Proc) (checks : List Launched) (procedure : Proc) → (walk_proc p earlier checks procedure).faults ≡ []
    → AreDeclared p (param_locals p procedure.params)
head_declared p earlier checks procedure h =
    let head = none_left (proc_head_faults p earlier procedure) (walk_body p procedure.params procedure.body checks).faults h in
    params_declared p procedure.params (each_none (param_faults p) [] procedure.params (none_right (asks_new _ procedure.site) (params_faults p procedure.params) head))

all_front : (checks : List Launched) → IsFront checks checks
all_front checks = ([], sym (append-nil checks))

procs_stand : (p : trees.Program) (earlier : List Proc) (checks : List Launched) (procs : List Proc) → (walk_routines (walk_proc p) earlier checks procs).faults ≡ []
    → (n : ℕ) (procedure : Proc) → slice_get procs n ≡ Some procedure
    → (r : Routine) × (slice_get (walk_routines (walk_proc p) earlier checks procs).routines n ≡ Some r) × (param_kinds p procedure.params ≡ map Known (formed.param_kinds r))
procs_stand p earlier checks [] h n procedure k = cc
procs_stand p earlier checks (x ∷ procs) h zero procedure k =
    let same : x ≡ procedure = cc in
    let first = walk_proc p earlier checks x in
    let more = (walk_routines (walk_proc p) (earlier ++ x ∷ []) first.checks procs).faults in
    let declared = head_declared p earlier checks x (none_left first.faults more h) in
    let behind = (walk_body p x.params x.body checks).reached in
    let start : Reached = record { locals = param_locals p x.params; checks = checks } in
    let back = statements_back p x.body (map (λ (l : Local). l.kind) behind.locals) behind.checks start (record { locals = all_first behind.locals; checks = all_front behind.checks }) in
    (first.routine, refl, subst (λ (y : Proc). param_kinds p y.params ≡ map Known (formed.param_kinds first.routine)) same (params_taken p x.params behind.locals declared back.locals))
procs_stand p earlier checks (x ∷ procs) h (suc n) procedure k =
    let first = walk_proc p earlier checks x in
    let more = (walk_routines (walk_proc p) (earlier ++ x ∷ []) first.checks procs).faults in
    procs_stand p (earlier ++ x ∷ []) first.checks procs (none_right first.faults more h) n procedure k

-- what the bodies of a tree stand in
record IsWhole (p : trees.Program) : Type 0 where
  stands : StandsFor p (shape_at p) (program_at p)
  fit : AreFitting p (walked_threads p).checks

front_fits : {X : Type 0} (P : X → Type 0) (xs ys : List X) → AllByRecursion P (xs ++ ys) → AllByRecursion P xs
front_fits P [] ys h = tt
front_fits P (x ∷ xs) ys h = (h.0, front_fits P xs ys h.1)

many_of : (p : trees.Program) → length (shape_at p).classes ≡ classes_of p
many_of p = let count = length-map p.classes (λ (c : Class). field_kinds p c.fields) in omega (arith, count)

-- routines that are right, between check statements
record IsRightRouted (p : trees.Program) (before : List Launched) (routine : Routine) (after : List Launched) : Type 0 where
  right : IsRightRoutine (shape_at p) (program_at p) routine
  front : IsFront before (walked_threads p).checks
  launches : AllByRecursion (IsRightLaunch (shape_at p) (program_at p)) before → AllByRecursion (IsRightLaunch (shape_at p) (program_at p)) after

record AreRightRouted (p : trees.Program) (before : List Launched) (routines : List Routine) (after : List Launched) : Type 0 where
  right : AllByRecursion (IsRightRoutine (shape_at p) (program_at p)) routines
  front : IsFront before (walked_threads p).checks
  launches : AllByRecursion (IsRightLaunch (shape_at p) (program_at p)) before → AllByRecursion (IsRightLaunch (shape_at p) (program_at p)) after

-- a body within the limits
record IsFine (params : List Param) (body : List Stmt) : Type 0 where
  small : IsSmallBody params body
  targets : have_targets body ≡ true
  names : (tally_all body).names ≤ MOST_ARGS

body_right : (p : trees.Program) → IsWhole p → (params : List Param) (body : List Stmt) (checks : List Launched) → IsFine params body → AreDeclared p (param_locals p params)
    → (walk_body p params body checks).faults ≡ [] → IsFront (walk_body p params body checks).reached.checks (walked_threads p).checks
    → IsRightRouted p checks (routine_at p params body checks) (walk_body p params body checks).reached.checks
body_right p w params body checks fine d h front =
    let start : Reached = record { locals = param_locals p params; checks = checks } in
    let behind = (walk_body p params body checks).reached in
    let all = (walked_threads p).checks in
    let founds = map (λ (l : Local). l.kind) behind.locals in
    let at_end : HasBefore founds all behind = record { locals = all_first behind.locals; checks = front } in
    let back = statements_back p body founds all start at_end in
    let fit = front_fits _ checks back.checks.0 (subst (AreFitting p) back.checks.1 w.fit) in
    let kept = statements_keep p body start h fine.names (record { locals = d; checks = fit }) in
    let a : Around = record { tree = p; shape = shape_at p; program = program_at p; founds = founds; all = all } in
    let around : IsAround a = record { stands = w.stands; declared = kinds_are_declared p behind.locals kept.locals; checks = refl; kinds = refl } in
    let walked = statements_right a around body fine.targets start h at_end in
    let grown = walk_all_grows p body start in
    let long = length-map params (λ (param : Param). let l : Local = record { name = param.name; kind = kind_of p param.kind; is_known = true } in l) in
    let many = length-map behind.locals (λ (l : Local). known_kind l.kind) in
    record {
      right = record {
        few_params = fine.small.few_params;
        params = omega (arith, grown.locals, long, many);
        few_locals = omega (arith, grown.locals, long, many, fine.small.few_locals);
        kinds = subst (λ n. All (IsDeclaredKind n) (map (λ (l : Local). known_kind l.kind) behind.locals)) (sym (many_of p))
            (All-from_recursion (IsDeclaredKind (classes_of p)) _ (kinds_declared p behind.locals kept.locals));
        block = subst (λ ks. formed.IsRightBlock (shape_at p) (program_at p) ks (walk_body p params body checks).block) (kinds_twice behind.locals) walked.right;
      };
      front = back.checks;
      launches = walked.launches;
    }

proc_right : (p : trees.Program) → IsWhole p → (earlier : List Proc) (checks : List Launched) (procedure : Proc) → IsFine procedure.params procedure.body
    → (walk_proc p earlier checks procedure).faults ≡ [] → IsFront (walk_proc p earlier checks procedure).checks (walked_threads p).checks
    → IsRightRouted p checks (walk_proc p earlier checks procedure).routine (walk_proc p earlier checks procedure).checks
proc_right p w earlier checks procedure fine h front =
    body_right p w procedure.params procedure.body checks fine (head_declared p earlier checks procedure h)
    (none_right (proc_head_faults p earlier procedure) (walk_body p procedure.params procedure.body checks).faults h) front

thread_right : (p : trees.Program) → IsWhole p → (earlier : List Thread) (checks : List Launched) (thread : Thread) → IsFine [] thread.body
    → (walk_thread p earlier checks thread).faults ≡ [] → IsFront (walk_thread p earlier checks thread).checks (walked_threads p).checks
    → IsRightRouted p checks (walk_thread p earlier checks thread).routine (walk_thread p earlier checks thread).checks
thread_right p w earlier checks thread fine h front =
    body_right p w [] thread.body checks fine tt (none_right (asks_new _ thread.site) (walk_body p [] thread.body checks).faults h) front

abbrev AllRoutedRight : {X : Type 0} → trees.Program → (X → Type 0) → (List X → List Launched → X → WalkedRoutine) → Type 0
AllRoutedRight {X} p Fine f = (earlier : List X) (checks : List Launched) (x : X) → Fine x → (f earlier checks x).faults ≡ []
    → IsFront (f earlier checks x).checks (walked_threads p).checks → IsRightRouted p checks (f earlier checks x).routine (f earlier checks x).checks

routines_right : {X : Type 0} (p : trees.Program) (Fine : X → Type 0) (f : List X → List Launched → X → WalkedRoutine) → AllRoutedRight p Fine f
    → (earlier : List X) (checks : List Launched) (xs : List X) → AllByRecursion Fine xs → (walk_routines f earlier checks xs).faults ≡ []
    → IsFront (walk_routines f earlier checks xs).checks (walked_threads p).checks
    → AreRightRouted p checks (walk_routines f earlier checks xs).routines (walk_routines f earlier checks xs).checks
routines_right p Fine f each earlier checks [] fine h front = record { right = tt; front = front; launches = λ x. x }
routines_right p Fine f each earlier checks (x ∷ xs) fine h front =
    let first = f earlier checks x in
    let later = (walk_routines f (earlier ++ x ∷ []) first.checks xs).faults in
    let more = routines_right p Fine f each (earlier ++ x ∷ []) first.checks xs fine.1 (none_right first.faults later h) front in
    let one = each earlier checks x fine.0 (none_left first.faults later h) more.front in
    record { right = (one.right, more.right); front = one.front; launches = λ y. more.launches (one.launches y) }

routines_count : {X : Type 0} (f : List X → List Launched → X → WalkedRoutine) (earlier : List X) (checks : List Launched) (xs : List X)
    → length (walk_routines f earlier checks xs).routines ≡ length xs
routines_count f earlier checks [] = refl
routines_count f earlier checks (x ∷ xs) = omega (arith, routines_count f (earlier ++ x ∷ []) (f earlier checks x).checks xs)

threads_plain : (p : trees.Program) (earlier : List Thread) (checks : List Launched) (threads : List Thread)
    → AllByRecursion (λ r. r.params ≡ 0) (walk_routines (walk_thread p) earlier checks threads).routines
threads_plain p earlier checks [] = tt
threads_plain p earlier checks (x ∷ threads) = (refl, threads_plain p (earlier ++ x ∷ []) (walk_thread p earlier checks x).checks threads)

-- what the limits say of each body
fine_bodies : {X : Type 0} (params : X → List Param) (body : X → List Stmt) (xs : List X) → AllByRecursion (λ x. IsSmallBody (params x) (body x)) xs
    → are_all (map (λ x. have_targets (body x)) xs) ≡ true → (all_of (map (λ x. tally_all (body x)) xs)).names ≤ MOST_ARGS → AllByRecursion (λ x. IsFine (params x) (body x)) xs
fine_bodies params body [] small targets few = tt
fine_bodies params body (x ∷ xs) small targets few =
    let two = both_true (have_targets (body x)) (are_all (map (λ x. have_targets (body x)) xs)) targets in
    (record { small = small.0; targets = two.0; names = omega (arith, few) }, fine_bodies params body xs small.1 two.1 (omega (arith, few)))

checks_right : (shape : ShapeLists) (q : Program) (ls : List Launched) → AllByRecursion (IsRightLaunch shape q) ls → AreRightChecks shape q (map (λ l. l.check) ls) (map (λ l. l.kinds) ls)
checks_right shape q [] h = tt
checks_right shape q (l ∷ ls) h = (h.0, checks_right shape q ls h.1)

-- the program of a tree is well formed
formed_at : (p : trees.Program) → IsWithinLimits p → shapes.IsWithinLimits (shape_at p) → each_with_earlier (class_faults p) [] p.classes ≡ [] → fields_faults p p.shared ≡ []
    → each_with_earlier (pred_faults p) [] p.preds ≡ [] → (walked_procs p).faults ≡ [] → (walked_threads p).faults ≡ [] → IsWellFormed (shape_at p) (program_at p)
formed_at p h fits classes shared preds procs threads =
    let all = (walked_threads p).checks in
    let names = h.arguments in
    let fit_procs = routines_keep p (walk_proc p) proc_tally [] [] p.procs (proc_keeps p) procs (omega (arith, names)) tt in
    let fit = routines_keep p (walk_thread p) thread_tally [] (walked_procs p).checks p.threads (thread_keeps p) threads (omega (arith, names)) fit_procs in
    let sound = sound_preds p p.preds (each_none (pred_faults p) [] p.preds preds) in
    let stands : StandsFor p (shape_at p) (program_at p) = record {
      classes = refl;
      shared = declared_fields p p.shared (each_none (field_faults p) [] p.shared shared);
      fields = declared_classes p p.classes (each_none (class_faults p) [] p.classes classes);
      preds = λ n pred e. (
          let own = all_at (IsSoundPred p) p.preds n pred sound e in
          (predicate_at p pred, slice_get-map (predicate_at p) p.preds n ∙ ap (option_map (predicate_at p)) e, (known_is p (kind_of p pred.result) own.result, params_known p pred.params own.params))
          );
      procs = procs_stand p [] [] p.procs procs;
    } in
    let w : IsWhole p = record { stands = stands; fit = fit } in
    let targets = both_true (are_all (map (λ (x : Proc). have_targets x.body) p.procs)) (are_all (map (λ (x : Thread). have_targets x.body) p.threads)) h.targets in
    let fine_procs = fine_bodies (λ (x : Proc). x.params) (λ (x : Proc). x.body) p.procs
    (recursion_from_All (λ (x : Proc). IsSmallBody x.params x.body) p.procs h.small_procs) targets.0 (omega (arith, names)) in
    let fine_threads = fine_bodies (λ (x : Thread). []) (λ (x : Thread). x.body) p.threads
    (recursion_from_All (λ (x : Thread). IsSmallBody [] x.body) p.threads h.small_threads) targets.1 (omega (arith, names)) in
    let of_threads = routines_right p (λ (x : Thread). IsFine [] x.body) (walk_thread p) (thread_right p w) [] (walked_procs p).checks p.threads fine_threads threads (all_front all) in
    let of_procs = routines_right p (λ (x : Proc). IsFine x.params x.body) (walk_proc p) (proc_right p w) [] [] p.procs fine_procs procs of_threads.front in
    record {
      shape_fits = fits;
      few_preds = omega (arith, h.names.preds, length-map p.preds (predicate_at p));
      few_procs = omega (arith, h.names.procs, routines_count (walk_proc p) [] [] p.procs);
      few_threads = omega (arith, h.threads, routines_count (walk_thread p) [] (walked_procs p).checks p.threads);
      preds = All-from_recursion (IsRightPredicate (shape_at p) (program_at p)) (map (predicate_at p) p.preds)
          (preds_right p (shape_at p) (program_at p) (many_of p) stands p.preds sound (recursion_from_All (λ (x : Pred). length x.params ≤ MOST_PARAMS) p.preds h.small_preds));
      procs = All-from_recursion (IsRightRoutine (shape_at p) (program_at p)) (walked_procs p).routines of_procs.right;
      threads = All-from_recursion (IsRightRoutine (shape_at p) (program_at p)) (walked_threads p).routines of_threads.right;
      no_params = All-from_recursion (λ (r : Routine). r.params ≡ 0) (walked_threads p).routines (threads_plain p [] (walked_procs p).checks p.threads);
      checks = checks_right (shape_at p) (program_at p) all (of_threads.launches (of_procs.launches tt));
    }

-- the theorem: the resolution of a tree within the limits that keeps every rule is well formed with its shape
pub well_formed : (p : trees.Program) → IsWithinLimits p → faults_of p ≡ [] → IsWellFormed (shape_of p) (resolution p)
unfolding faults_of shape_of resolution
well_formed p h none =
    let classes = each_with_earlier (class_faults p) [] p.classes in
    let shared = fields_faults p p.shared in
    let preds = each_with_earlier (pred_faults p) [] p.preds in
    let procs = (walked_procs p).faults in
    let threads = (walked_threads p).faults in
    let after_classes = none_right classes (shared ++ (preds ++ (procs ++ (threads ++ [])))) none in
    let after_shared = none_right shared (preds ++ (procs ++ (threads ++ []))) after_classes in
    let bodies = none_right preds (procs ++ (threads ++ [])) after_shared in
    let of_threads = none_left threads [] (none_right procs (threads ++ []) bodies) in
    formed_at p h (shape_fits p h none) (none_left classes _ none) (none_left shared _ after_classes) (none_left preds _ after_shared) (none_left procs _ bodies) of_threads

-- so is the resolution of a typed program
pub typed_well_formed : (t : TypedView) → IsTyped t → IsWellFormed t.shape (program_of t.resolved)
typed_well_formed t h =
    subst (λ shape. IsWellFormed shape (program_of t.resolved)) (sym h.shaped) (subst (IsWellFormed (shape_of t.program)) (sym h.resolves) (well_formed t.program h.limits h.rules))

-- it has the threads of its tree
pub threads_are : (t : TypedView) → IsTyped t → length t.program.threads ≡ length (program_of t.resolved).threads
unfolding resolution
threads_are t h =
    sym (ap (λ (q : Program). length q.threads) h.resolves ∙ routines_count (walk_thread t.program) [] (walked_procs t.program).checks t.program.threads)

-- and its shape has the check statements of its resolution
pub checks_are : (t : TypedView) → IsTyped t → length t.resolved.checks ≡ length t.shape.checks
unfolding resolution shape_of
checks_are t h =
    let all = (walked_threads t.program).checks in
    omega (
      arith,
      ap (λ (q : Program). length q.checks) h.resolves,
      ap (λ (s : ShapeLists). length s.checks) h.shaped,
      length-map t.resolved.checks check_of,
      length-map all (λ (l : Launched). l.check),
      length-map all (λ (l : Launched). l.kinds),
    )

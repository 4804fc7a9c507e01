-- The rules of types: the faults of a whole tree in the order of the walk, and what the tree is with numbers.
use Rattle.std.specs.Prelude.{true, ◌||◌, List, [], ◌∷◌, ◌++◌, map, length, is_some}
use Rattle.std.specs.List.{list_any}
use Rattle.std.specs.Str.{bytes_eq}
use Rattle.st_events.specs.Shape.{ShapeLists}
use Rattle.st_events.specs.declared.shapes.Kind.{Kind}
use Rattle.st_ast.specs.declared.declarations.Program as trees
use Rattle.st_ast.specs.declared.declarations.Class.{Class}
use Rattle.st_ast.specs.declared.declarations.Field.{Field}
use Rattle.st_ast.specs.declared.declarations.Param.{Param}
use Rattle.st_ast.specs.declared.declarations.Pred.{Pred}
use Rattle.st_ast.specs.declared.declarations.Proc.{Proc}
use Rattle.st_ast.specs.declared.declarations.Thread.{Thread}
use Rattle.st_ast.specs.declared.statements.Stmt.{Stmt}
use Rattle.st_resolved.specs.Terms.{Predicate, Routine, Program}
use Rattle.st_types.specs.declared.errors.TypeError.{TypeError}
use Rattle.st_types.specs.Judged.{judged, in_order}
use Rattle.st_types.specs.Kinds.{asks}
use Rattle.st_types.specs.Names.{kind_of, pred_number, Local}
use Rattle.st_types.specs.Scopes.{ScopeView}
use Rattle.st_types.specs.Statements.{asks_type, asks_new, known_kind, Launched, WalkedBlock, walk, walk_all}

-- the faults of declarations in their order, where each one is asked with those before it
abbrev pub each_with_earlier : {X : Type 0} → (List X → X → List TypeError) → List X → List X → List TypeError
each_with_earlier f earlier [] = []
each_with_earlier f earlier (x ∷ xs) = f earlier x ++ each_with_earlier f (earlier ++ x ∷ []) xs

-- a field or a shared variable: its name is new, its type is one
abbrev pub field_faults : trees.Program → List Field → Field → List TypeError
field_faults p earlier field = asks_new (list_any (λ f. bytes_eq f.name field.name) earlier) field.site ++ asks_type p field.kind

-- the fields of a class, or the shared variables, in their order
abbrev pub fields_faults : trees.Program → List Field → List TypeError
fields_faults p fields = each_with_earlier (field_faults p) [] fields

-- a class: its name is new, and then its fields
abbrev pub class_faults : trees.Program → List Class → Class → List TypeError
class_faults p earlier class = asks_new (list_any (λ c. bytes_eq c.name class.name) earlier) class.site ++ fields_faults p class.fields

-- parameters
abbrev pub param_faults : trees.Program → List Param → Param → List TypeError
param_faults p earlier param = asks_new (list_any (λ q. bytes_eq q.name param.name) earlier) param.site ++ asks_type p param.kind

-- all parameters of one declaration, in their order
abbrev pub params_faults : trees.Program → List Param → List TypeError
params_faults p params = each_with_earlier (param_faults p) [] params

-- the locals that parameters are
abbrev pub param_locals : trees.Program → List Param → List Local
param_locals p params = map (λ param. record { name = param.name; kind = kind_of p param.kind; is_known = true }) params

-- what the body of a predicate stands in
abbrev pub pred_scope : trees.Program → Pred → ScopeView
pred_scope p pred = record { program = p; locals = param_locals p pred.params; may_call = true }

-- the head of a predicate: its name is new among predicates and procedures, its parameters, the type of its value
abbrev pub pred_head_faults : trees.Program → List Pred → Pred → List TypeError
pred_head_faults p earlier pred =
    asks_new (list_any (λ q. bytes_eq q.name pred.name) earlier) pred.site ++ (params_faults p pred.params ++ asks_type p pred.result)

-- its body, which has the kind of its value
abbrev pub pred_body_faults : trees.Program → Pred → List TypeError
pred_body_faults p pred =
    let body = judged (pred_scope p pred) pred.body in
    body.faults ++ asks (kind_of p pred.result) body.seen.site body.seen.kind

-- a whole predicate: its head, and then its body
abbrev pub pred_faults : trees.Program → List Pred → Pred → List TypeError
pred_faults p earlier pred = pred_head_faults p earlier pred ++ pred_body_faults p pred

-- the walk over a body, with the check statements before it
abbrev pub walk_body : trees.Program → List Param → List Stmt → List Launched → WalkedBlock
walk_body p params body checks = walk_all (map (walk p) body) (record { locals = param_locals p params; checks = checks })

-- a procedure with numbers, its faults, and the check statements so far
pub record WalkedRoutine : Type 0 where
  pub faults : List TypeError
  pub routine : Routine
  pub checks : List Launched

-- a body as a routine
abbrev pub routine_at : trees.Program → List Param → List Stmt → List Launched → Routine
routine_at p params body checks =
    let walked = walk_body p params body checks in
    record { params = length params; locals = map (λ l. known_kind l.kind) walked.reached.locals; block = walked.block }

-- the body of a procedure or a thread
abbrev pub walked_body : trees.Program → List Param → List Stmt → List Launched → WalkedRoutine
walked_body p params body checks = record {
  faults = (walk_body p params body checks).faults;
  routine = routine_at p params body checks;
  checks = (walk_body p params body checks).reached.checks;
}

-- what was walked, behind the faults of its head
abbrev pub behind : List TypeError → WalkedRoutine → WalkedRoutine
behind faults w = record w { faults = faults ++ w.faults }

-- the head of a procedure: its name is new among predicates and procedures, its parameters
abbrev pub proc_head_faults : trees.Program → List Proc → Proc → List TypeError
proc_head_faults p earlier procedure =
    asks_new (is_some (pred_number p procedure.name) || list_any (λ q. bytes_eq q.name procedure.name) earlier) procedure.site ++ params_faults p procedure.params

-- a procedure: its head, its body
abbrev pub walk_proc : trees.Program → List Proc → List Launched → Proc → WalkedRoutine
walk_proc p earlier checks procedure = behind (proc_head_faults p earlier procedure) (walked_body p procedure.params procedure.body checks)

-- a thread: its name is new among threads, its body
abbrev pub walk_thread : trees.Program → List Thread → List Launched → Thread → WalkedRoutine
walk_thread p earlier checks thread = behind (asks_new (list_any (λ q. bytes_eq q.name thread.name) earlier) thread.site) (walked_body p [] thread.body checks)

-- routines, one after another
pub record WalkedRoutines : Type 0 where
  pub faults : List TypeError
  pub routines : List Routine
  pub checks : List Launched

-- a walk over declarations in their order: each with those before it, and with the check statements so far
abbrev pub walk_routines : {X : Type 0} → (List X → List Launched → X → WalkedRoutine) → List X → List Launched → List X → WalkedRoutines
walk_routines f earlier checks [] = record { faults = []; routines = []; checks = checks }
walk_routines f earlier checks (x ∷ xs) =
    let first = f earlier checks x in
    let more = walk_routines f (earlier ++ x ∷ []) first.checks xs in
    record { faults = first.faults ++ more.faults; routines = first.routine ∷ more.routines; checks = more.checks }

-- the procedures and the threads of a program
abbrev pub walked_procs : trees.Program → WalkedRoutines
walked_procs p = walk_routines (walk_proc p) [] [] p.procs

-- the threads, which are walked behind the procedures
abbrev pub walked_threads : trees.Program → WalkedRoutines
walked_threads p = walk_routines (walk_thread p) [] (walked_procs p).checks p.threads

-- the faults of a tree, in the order of the walk
unfoldable pub faults_of : trees.Program → List TypeError
faults_of p = in_order (
    each_with_earlier (class_faults p) [] p.classes ∷ fields_faults p p.shared ∷ each_with_earlier (pred_faults p) [] p.preds
    ∷ (walked_procs p).faults ∷ (walked_threads p).faults ∷ []
    )

-- a predicate with numbers
abbrev pub predicate_at : trees.Program → Pred → Predicate
predicate_at p pred = record {
  params = map (λ param. known_kind (kind_of p param.kind)) pred.params;
  result = known_kind (kind_of p pred.result);
  body = (judged (pred_scope p pred) pred.body).seen.term;
}

-- a tree that keeps the rules, with numbers in the place of names
unfoldable pub resolution : trees.Program → Program
resolution p = record {
  preds = map (predicate_at p) p.preds;
  procs = (walked_procs p).routines;
  threads = (walked_threads p).routines;
  checks = map (λ l. l.check) (walked_threads p).checks;
}

-- the kinds of fields, or of shared variables
abbrev pub field_kinds : trees.Program → List Field → List Kind
field_kinds p fields = map (λ f. known_kind (kind_of p f.kind)) fields

-- those of the shared variables, and then of each class
abbrev pub class_kinds : trees.Program → List (List Kind)
class_kinds p = field_kinds p p.shared ∷ map (λ class. field_kinds p class.fields) p.classes

-- the shape of a tree that keeps the rules
unfoldable pub shape_of : trees.Program → ShapeLists
shape_of p = record { classes = class_kinds p; checks = map (λ l. l.kinds) (walked_threads p).checks }

-- The walk over statements: their faults in order, the locals that they declare, and what they are with numbers.
use Rattle.std.specs.Prelude.{ℕ, ◌==◌, Bool, true, false, List, [], ◌∷◌, ◌++◌, map, length, take, drop, slice_get, Option, Some, None, is_some, if◌then◌else◌}
use Rattle.std.specs.List.{list_any, flat_map}
use Rattle.st_events.specs.declared.events.Site.{Site}
use Rattle.st_events.specs.declared.shapes.Kind.{Kind}
use Rattle.st_events.specs.declared.shapes.Kind.TheVariants as kinds
use Rattle.st_ast.specs.declared.declarations.Program.{Program}
use Rattle.st_ast.specs.declared.declarations.TypeName.{TypeName}
use Rattle.st_ast.specs.declared.declarations.TypeName.TheVariants as types
use Rattle.st_ast.specs.declared.declarations.Proc.{Proc}
use Rattle.st_ast.specs.declared.expressions.Expr.{Expr}
use Rattle.st_ast.specs.declared.expressions.Expr.TheOpen.{Expr-F}
use Rattle.st_ast.specs.declared.expressions.Expr.TheFolds.{fold-Expr}
use Rattle.st_ast.specs.declared.statements.Stmt.{Stmt}
use Rattle.st_ast.specs.declared.statements.Stmt.TheOpen.{Stmt-F}
use Rattle.st_ast.specs.declared.statements.Stmt.TheFolds.{fold-Stmt}
use Rattle.st_ast.specs.declared.statements.Value.{Value}
use Rattle.st_ast.specs.declared.statements.Value.TheVariants as values
use Rattle.std.specs.Str.{bytes_eq}
use Rattle.st_resolved.specs.Terms.{Term, a_shared, a_field, Target, to_shared, to_field, Source, from_term, from_new, from_cas}
use Rattle.st_resolved.specs.Terms.{Command, a_set, a_put, an_if, a_while, a_proc_call, a_launch, Block, no_commands, command_then, CheckStatement}
use Rattle.st_resolved.specs.Views.{terms_of}
use Rattle.st_types.specs.declared.errors.TypeError.{TypeError}
use Rattle.st_types.specs.declared.errors.TypeError.TheVariants.{UnknownName, Twice, NotHere}
use Rattle.st_types.specs.declared.kinds.Found.{Found}
use Rattle.st_types.specs.declared.kinds.Found.TheVariants.{Known}
use Rattle.st_types.specs.declared.names.Named.{Named}
use Rattle.st_types.specs.Judged.{judged, in_order, operands}
use Rattle.st_types.specs.Kinds.{asks}
use Rattle.st_types.specs.Names.{class_number, class_kind, kind_of, pred_number, proc_number, Local, find_local, named_kind, named_number}
use Rattle.st_types.specs.Nodes.{Seen, a_bool, asks_name, asks_args, number_or_0}
use Rattle.st_types.specs.Scopes.{ScopeView}

-- what an expression of a thread or procedure stands in
abbrev pub plain_scope : Program → List Local → ScopeView
plain_scope p locals = record { program = p; locals = locals; may_call = false }

-- a class of this name
abbrev pub asks_class : Program → List ℕ → Site → List TypeError
asks_class p name site = if is_some (class_number p name) then [] else (UnknownName site ∷ [])

-- a type name stands for a type
abbrev pub asks_type : Program → TypeName → List TypeError
asks_type p types.Int = []
asks_type p types.Bool = []
asks_type p (types.Class name site) = asks_class p name site

-- the name is new in its space
abbrev pub asks_new : Bool → Site → List TypeError
asks_new is_taken site = if is_taken then (Twice site ∷ []) else []

-- a local of the body has this name, known or not
abbrev pub is_local : List Local → List ℕ → Bool
is_local locals name = list_any (λ l. bytes_eq l.name name) locals

-- the target that a place is; by the condition on trees a place is a field or a shared variable
abbrev pub target_at : Term → Target
target_at (a_shared field) = to_shared field
target_at (a_field object field at) = to_field object field at
target_at term = to_shared 0

-- what is seen of a value: its place, its kind where it is known, and itself with numbers; and its faults
pub record Given : Type 0 where
  pub site : Site
  pub kind : Found
  pub source : Source

-- a value, judged: what is seen of it, and its faults in the order of the walk
pub record JudgedValue : Type 0 where
  pub given : Given
  pub faults : List TypeError

-- a value in a scope
abbrev pub judged_value : ScopeView → Value → JudgedValue
judged_value s (values.Plain e) = record {
  given = record { site = (judged s e).seen.site; kind = (judged s e).seen.kind; source = from_term (judged s e).seen.term };
  faults = (judged s e).faults;
}
judged_value s (values.New class site) = record {
  given = record { site = site; kind = class_kind (class_number s.program class); source = from_new (number_or_0 (class_number s.program class)) site };
  faults = asks_class s.program class site;
}
judged_value s (values.Cas place expect value site) = record {
  given = record {
    site = site;
    kind = a_bool;
    source = from_cas (target_at (judged s place).seen.term) (judged s expect).seen.term (judged s value).seen.term;
  };
  faults = in_order (
      (judged s place).faults ∷ (judged s expect).faults ∷ (judged s value).faults
      ∷ asks (judged s place).seen.kind (judged s expect).seen.site (judged s expect).seen.kind
      ∷ asks (judged s place).seen.kind (judged s value).seen.site (judged s value).seen.kind
      ∷ []
      );
}

-- the names of locals that an expression names, from left to right, each as often as it stands there
abbrev pub mentions_layer : Expr-F (List (List ℕ)) → List (List ℕ)
mentions_layer (Expr-F.Local name site) = name ∷ []
mentions_layer x = flat_map (λ names. names) (operands x)

-- the same of a whole expression
abbrev pub mentions : Expr → List (List ℕ)
mentions = fold-Expr (List (List ℕ)) mentions_layer

-- a number at the end, where it is not among them
abbrev pub with_number : List ℕ → Option Named → List ℕ
with_number numbers None = numbers
with_number numbers (Some named) = if list_any (λ n. n == named.number) numbers then numbers else numbers ++ named.number ∷ []

-- the locals that names stand for, each once, in order of first mention
abbrev pub numbers_of : List Local → List (List ℕ) → List ℕ → List ℕ
numbers_of locals [] numbers = numbers
numbers_of locals (name ∷ names) numbers = numbers_of locals names (with_number numbers (find_local locals name))

-- the arguments of a check: the distinct locals that its expression names, by their numbers, in order of first mention
abbrev pub args_of_check : List Local → Expr → List ℕ
args_of_check locals e = numbers_of locals (mentions e) []

-- what is there, as a list
abbrev pub if_any : {X : Type 0} → Option X → List X
if_any None = []
if_any (Some x) = x ∷ []

-- the locals of these numbers
abbrev pub locals_at : List Local → List ℕ → List Local
locals_at locals numbers = flat_map (λ n. if_any (slice_get locals n)) numbers

-- what the expression of a check stands in: its locals are its arguments
abbrev pub check_scope : Program → List Local → Expr → ScopeView
check_scope p locals e = record { program = p; locals = locals_at locals (args_of_check locals e); may_call = true }

-- a kind, where it is known
abbrev pub known_kind : Found → Kind
known_kind (Known kind) = kind
known_kind found = kinds.Int

-- a check statement with numbers, and the kinds of its arguments
pub record Launched : Type 0 where
  pub check : CheckStatement
  pub kinds : List Kind

-- how far a body was walked: its locals so far, and the check statements of the source so far
pub record Reached : Type 0 where
  pub locals : List Local
  pub checks : List Launched

-- what a statement comes to: its faults, itself with numbers, and how far the walk is behind it
pub record Walked : Type 0 where
  pub faults : List TypeError
  pub command : Command
  pub reached : Reached

-- the same of statements, one after another
pub record WalkedBlock : Type 0 where
  pub faults : List TypeError
  pub block : Block
  pub reached : Reached

-- statements, each from where the one before it ended
abbrev pub walk_all : List (Reached → Walked) → Reached → WalkedBlock
walk_all [] r = record { faults = []; block = no_commands; reached = r }
walk_all (first ∷ more) r = record {
  faults = (first r).faults ++ (walk_all more (first r).reached).faults;
  block = command_then (first r).command (walk_all more (first r).reached).block;
  reached = (walk_all more (first r).reached).reached;
}

-- a local that may be named no more
abbrev pub forgotten : Local → Local
forgotten l = record l { is_known = false }

-- at the end of a block: what it declared is known no more
abbrev pub closed : ℕ → Reached → Reached
closed before r = record r { locals = take before r.locals ++ map forgotten (drop before r.locals) }

-- a block, up to its end
abbrev pub walk_block : List (Reached → Walked) → Reached → WalkedBlock
walk_block walks r = record (walk_all walks r) { reached = closed (length r.locals) (walk_all walks r).reached }

-- the statements behind `else`, if there are any
abbrev pub other_walks : Option (List (Reached → Walked)) → List (Reached → Walked)
other_walks None = []
other_walks (Some walks) = walks

-- a procedure of this name; a predicate is none, and a name that is declared twice is what its first declaration says
abbrev pub find_proc : Program → List ℕ → Option Proc
find_proc p name = at_number (proc_number p name)
  where
    at_number : Option ℕ → Option Proc
    at_number None = None
    at_number (Some n) = slice_get p.procs n

-- a call statement calls a procedure, with as many arguments as it has parameters, each of its kind
abbrev pub asks_proc : Program → List ℕ → List Seen → Site → List TypeError
asks_proc p name args site = if is_some (pred_number p name) then (NotHere site ∷ []) else by_proc (find_proc p name)
  where
    by_proc : Option Proc → List TypeError
    by_proc None = UnknownName site ∷ []
    by_proc (Some procedure) = asks_args p procedure.params args site

-- one more local
abbrev pub declare : Reached → List ℕ → Found → Reached
declare r name kind = record r { locals = r.locals ++ record { name = name; kind = kind; is_known = true } ∷ [] }

-- one more check statement
abbrev pub launch : Program → Reached → Expr → Site → Reached
launch p r e site = record r {
  checks = r.checks ++ record {
    check = record { args = args_of_check r.locals e; body = (judged (check_scope p r.locals e) e).seen.term; at = site };
    kinds = map (λ l. known_kind l.kind) (locals_at r.locals (args_of_check r.locals e));
  } ∷ [];
}

-- one statement
abbrev pub walk_node : Program → Stmt-F (Reached → Walked) → Reached → Walked
walk_node p (Stmt-F.Var name name_site kind value site) r =
    let v = judged_value (plain_scope p r.locals) value in
    record {
      faults = in_order (asks_new (is_local r.locals name) site ∷ asks_type p kind ∷ v.faults ∷ asks (kind_of p kind) v.given.site v.given.kind ∷ []);
      command = a_set (length r.locals) v.given.source;
      reached = declare r name (kind_of p kind);
    }
walk_node p (Stmt-F.Assign name value site) r =
    let v = judged_value (plain_scope p r.locals) value in
    let target = find_local r.locals name in
    record {
      faults = in_order (asks_name site target ∷ v.faults ∷ asks (named_kind target) v.given.site v.given.kind ∷ []);
      command = a_set (named_number target) v.given.source;
      reached = r;
    }
walk_node p (Stmt-F.Put place value site) r =
    let target = judged (plain_scope p r.locals) place in
    let v = judged_value (plain_scope p r.locals) value in
    record {
      faults = in_order (target.faults ∷ v.faults ∷ asks target.seen.kind v.given.site v.given.kind ∷ []);
      command = a_put (target_at target.seen.term) v.given.source;
      reached = r;
    }
walk_node p (Stmt-F.If cond first other site) r =
    let test = judged (plain_scope p r.locals) cond in
    let yes = walk_block first r in
    let no = walk_block (other_walks other) yes.reached in
    record {
      faults = in_order (test.faults ∷ asks a_bool test.seen.site test.seen.kind ∷ yes.faults ∷ no.faults ∷ []);
      command = an_if test.seen.term yes.block no.block;
      reached = no.reached;
    }
walk_node p (Stmt-F.While cond body site) r =
    let test = judged (plain_scope p r.locals) cond in
    let turn = walk_block body r in
    record {
      faults = in_order (test.faults ∷ asks a_bool test.seen.site test.seen.kind ∷ turn.faults ∷ []);
      command = a_while test.seen.term turn.block;
      reached = turn.reached;
    }
walk_node p (Stmt-F.Call name args site) r =
    let given = map (judged (plain_scope p r.locals)) args in
    let seen = map (λ j. j.seen) given in
    record {
      faults = in_order (map (λ j. j.faults) given) ++ asks_proc p name seen site;
      command = a_proc_call (number_or_0 (proc_number p name)) (terms_of (map (λ a. a.term) seen)) site;
      reached = r;
    }
walk_node p (Stmt-F.Check body site) r =
    let check = judged (check_scope p r.locals body) body in
    record {
      faults = in_order (check.faults ∷ asks a_bool check.seen.site check.seen.kind ∷ []);
      command = a_launch (length r.checks);
      reached = launch p r body site;
    }

-- a statement, from where the walk is
abbrev pub walk : Program → Stmt → Reached → Walked
walk p = fold-Stmt (Reached → Walked) (walk_node p)

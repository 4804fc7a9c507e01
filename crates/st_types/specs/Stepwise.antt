-- The walk up to its first fault: what the code does, node by node. `proofs/WalkLemmas.antt` shows that it comes to the first of the faults.
use Rattle.std.specs.Prelude.{ℕ, List, [], ◌∷◌, ◌++◌, map, length, Option, Some, None, Ok}
use Rattle.st_events.specs.declared.events.Site.{Site}
use Rattle.st_ast.specs.declared.declarations.Program.{Program}
use Rattle.st_ast.specs.declared.declarations.TypeName.{TypeName}
use Rattle.st_ast.specs.declared.statements.Stmt.{Stmt}
use Rattle.st_ast.specs.declared.statements.Stmt.TheOpen.{Stmt-F}
use Rattle.st_ast.specs.declared.statements.Stmt.TheFolds.{fold-Stmt}
use Rattle.st_ast.specs.declared.statements.Value.{Value}
use Rattle.st_ast.specs.declared.statements.Value.TheVariants as values
use Rattle.st_ast.specs.declared.expressions.Expr.{Expr}
use Rattle.st_events.specs.declared.shapes.Kind.{Kind}
use Rattle.st_resolved.specs.Terms.{from_term, from_new, from_cas, Command, a_set, a_put, an_if, a_while, a_proc_call, a_launch, Block, no_commands, command_then}
use Rattle.st_resolved.specs.Terms.{CheckStatement}
use Rattle.st_resolved.specs.Views.{terms_of}
use Rattle.st_types.specs.Checked.{Checked, verdict, ◌>>=◌}
use Rattle.st_types.specs.Judged.{typed, each_of}
use Rattle.st_types.specs.Kinds.{asks}
use Rattle.st_types.specs.Names.{class_number, class_kind, kind_of, find_local, named_kind, named_number, proc_number}
use Rattle.st_types.specs.Nodes.{Seen, a_bool, asks_name, number_or_0}
use Rattle.st_types.specs.Scopes.{ScopeView}
use Rattle.st_types.specs.Statements.{plain_scope, asks_class, asks_type, asks_new, is_local, target_at, Given, Reached, closed, asks_proc, declare}
use Rattle.st_types.specs.Statements.{args_of_check, check_scope, locals_at, known_kind}

-- a value, up to its first fault
abbrev pub typed_value : ScopeView → Value → Checked Given
typed_value s (values.Plain e) = typed s e >>= (λ t. Ok (record { site = t.site; kind = t.kind; source = from_term t.term }))
typed_value s (values.New class site) = verdict (asks_class s.program class site)
    (record { site = site; kind = class_kind (class_number s.program class); source = from_new (number_or_0 (class_number s.program class)) site })
typed_value s (values.Cas place expect value site) =
    typed s place >>= (λ t. typed s expect >>= (λ e. typed s value >>= (λ v.
    verdict (asks t.kind e.site e.kind ++ asks t.kind v.site v.kind) (record { site = site; kind = a_bool; source = from_cas (target_at t.term) e.term v.term }))))

-- a statement with numbers, and how far the walk is behind it
pub record Stepped : Type 0 where
  pub command : Command
  pub reached : Reached

-- the same of statements, one after another
pub record SteppedBlock : Type 0 where
  pub block : Block
  pub reached : Reached

-- statements, each from where the one before it ended, up to the first fault
abbrev pub step_all : List (Reached → Checked Stepped) → Reached → Checked SteppedBlock
step_all [] r = Ok (record { block = no_commands; reached = r })
step_all (first ∷ more) r = first r >>= (λ a. step_all more a.reached >>= (λ b. Ok (record { block = command_then a.command b.block; reached = b.reached })))

-- a block: its statements, and at its end what they declared is known no more
abbrev pub step_block : List (Reached → Checked Stepped) → Reached → Checked SteppedBlock
step_block steps r = step_all steps r >>= (λ b. Ok (record { block = b.block; reached = closed (length r.locals) b.reached }))

-- the steps behind `else`, if there are any
abbrev pub other_steps : Option (List (Reached → Checked Stepped)) → List (Reached → Checked Stepped)
other_steps None = []
other_steps (Some steps) = steps

-- a condition
abbrev pub typed_condition : ScopeView → Expr → Checked Seen
typed_condition s e = typed s e >>= (λ t. verdict (asks a_bool t.site t.kind) t)

-- one check statement more
abbrev pub with_check : Reached → CheckStatement → List Kind → Reached
with_check r check kinds = record r { checks = r.checks ++ record { check = check; kinds = kinds } ∷ [] }

-- a check statement that is seen
abbrev pub launched : Reached → Expr → Seen → Site → Reached
launched r e seen site = with_check r (record { args = args_of_check r.locals e; body = seen.term; at = site })
    (map (λ l. known_kind l.kind) (locals_at r.locals (args_of_check r.locals e)))

-- the value of a `var`, whose name is new and whose type is one
abbrev pub var_given : ScopeView → List ℕ → TypeName → Value → Site → Checked Given
var_given s name kind value site = verdict (asks_new (is_local s.locals name) site ++ asks_type s.program kind) (tt {0})
    >>= (λ _. typed_value s value >>= (λ v. verdict (asks (kind_of s.program kind) v.site v.kind) v))

-- an assignment
abbrev pub assigned : ScopeView → List ℕ → Value → Site → Checked Command
assigned s name value site = verdict (asks_name site (find_local s.locals name)) (tt {0}) >>= (λ _. typed_value s value >>= (λ v.
    verdict (asks (named_kind (find_local s.locals name)) v.site v.kind) (a_set (named_number (find_local s.locals name)) v.source)))

-- a store
abbrev pub stored : ScopeView → Expr → Value → Checked Command
stored s place value = typed s place >>= (λ t. typed_value s value >>= (λ v. verdict (asks t.kind v.site v.kind) (a_put (target_at t.term) v.source)))

-- a call of a procedure, of the arguments that are seen
abbrev pub proc_command : Program → List ℕ → List Seen → Site → Checked Command
proc_command p name seen site = verdict (asks_proc p name seen site) (a_proc_call (number_or_0 (proc_number p name)) (terms_of (map (λ a. a.term) seen)) site)

-- a call of a procedure
abbrev pub called : ScopeView → List ℕ → List Expr → Site → Checked Command
called s name args site = each_of (map (typed s) args) >>= (λ seen. proc_command s.program name seen site)

-- a statement that declares nothing and launches nothing
abbrev pub stays : Reached → Checked Command → Checked Stepped
stays r command = command >>= (λ c. Ok (record { command = c; reached = r }))

-- a `var`
abbrev pub step_var : Program → Reached → List ℕ → TypeName → Value → Site → Checked Stepped
step_var p r name kind value site =
    var_given (plain_scope p r.locals) name kind value site >>= (λ v. Ok (record { command = a_set (length r.locals) v.source; reached = declare r name (kind_of p kind) }))

-- a check statement
abbrev pub step_check : Program → Reached → Expr → Site → Checked Stepped
step_check p r body site =
    typed_condition (check_scope p r.locals body) body >>= (λ t. Ok (record { command = a_launch (length r.checks); reached = launched r body t site }))

-- one statement, once its blocks are steps: its first fault, or itself with numbers and how far the walk is behind it
abbrev pub step_node : Program → Stmt-F (Reached → Checked Stepped) → Reached → Checked Stepped
step_node p (Stmt-F.Var name name_site kind value site) r = step_var p r name kind value site
step_node p (Stmt-F.Assign name value site) r = stays r (assigned (plain_scope p r.locals) name value site)
step_node p (Stmt-F.Put place value site) r = stays r (stored (plain_scope p r.locals) place value)
step_node p (Stmt-F.If cond first other site) r =
    typed_condition (plain_scope p r.locals) cond >>= (λ t. step_block first r >>= (λ yes. step_block (other_steps other) yes.reached >>= (λ no.
    Ok (record { command = an_if t.term yes.block no.block; reached = no.reached }))))
step_node p (Stmt-F.While cond body site) r =
    typed_condition (plain_scope p r.locals) cond >>= (λ t. step_block body r >>= (λ turn.
    Ok (record { command = a_while t.term turn.block; reached = turn.reached })))
step_node p (Stmt-F.Call name args site) r = stays r (called (plain_scope p r.locals) name args site)
step_node p (Stmt-F.Check body site) r = step_check p r body site

-- a statement, up to its first fault
abbrev pub step : Program → Stmt → Reached → Checked Stepped
step p = fold-Stmt (Reached → Checked Stepped) (step_node p)

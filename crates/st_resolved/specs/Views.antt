-- The resolved program of the code as terms and commands: the same, node by node.
use Rattle.std.specs.Prelude.{List, [], ◌∷◌, map}
use Rattle.st_resolved.specs.declared.expressions.Expr.{Expr}
use Rattle.st_resolved.specs.declared.expressions.Expr.TheOpen.{Expr-F}
use Rattle.st_resolved.specs.declared.expressions.Expr.TheFolds.{fold-Expr}
use Rattle.st_resolved.specs.declared.statements.Stmt.{Stmt}
use Rattle.st_resolved.specs.declared.statements.Stmt.TheOpen.{Stmt-F}
use Rattle.st_resolved.specs.declared.statements.Stmt.TheFolds.{fold-Stmt}
use Rattle.st_resolved.specs.declared.statements.Source.TheVariants as sources
use Rattle.st_resolved.specs.declared.statements.Target.TheVariants as targets
use Rattle.st_resolved.specs.declared.statements.Source as code_source
use Rattle.st_resolved.specs.declared.statements.Target as code_target
use Rattle.st_resolved.specs.declared.programs.Pred.{Pred}
use Rattle.st_resolved.specs.declared.programs.Body.{Body}
use Rattle.st_resolved.specs.declared.programs.Check.{Check}
use Rattle.st_resolved.specs.declared.programs.Resolved.{Resolved}
use Rattle.st_resolved.specs.Terms.{Term, a_number, a_truth, a_null, a_local, a_shared, a_field, a_not, a_minus, a_binary, a_both, an_either, a_cond, a_call}
use Rattle.st_resolved.specs.Terms.{Terms, no_terms, term_then, Target, to_shared, to_field, Source, from_term, from_new, from_cas}
use Rattle.st_resolved.specs.Terms.{Command, a_set, a_put, an_if, a_while, a_proc_call, a_launch, Block, no_commands, command_then}
use Rattle.st_resolved.specs.Terms.{Predicate, Routine, CheckStatement, Program}

-- a list of terms as arguments
abbrev pub terms_of : List Term → Terms
terms_of [] = no_terms
terms_of (t ∷ ts) = term_then t (terms_of ts)

-- one level of an expression
abbrev pub term_layer : Expr-F Term → Term
term_layer (Expr-F.Number value) = a_number value
term_layer (Expr-F.Truth value) = a_truth value
term_layer Expr-F.Null = a_null
term_layer (Expr-F.Local local) = a_local local
term_layer (Expr-F.Shared field) = a_shared field
term_layer (Expr-F.Field object field at) = a_field object field at
term_layer (Expr-F.Not inner) = a_not inner
term_layer (Expr-F.Minus inner at) = a_minus inner at
term_layer (Expr-F.Binary operator left right at) = a_binary operator left right at
term_layer (Expr-F.Both left right) = a_both left right
term_layer (Expr-F.Either left right) = an_either left right
term_layer (Expr-F.Cond test left right) = a_cond test left right
term_layer (Expr-F.Call called args) = a_call called (terms_of args)

-- an expression as a term
abbrev pub term_of : Expr → Term
term_of = fold-Expr Term term_layer

-- expressions as arguments
abbrev pub args_of : List Expr → Terms
args_of es = terms_of (map term_of es)

-- where a statement stores
abbrev pub target_of : code_target.Target → Target
target_of (targets.Shared field) = to_shared field
target_of (targets.Field object field at) = to_field (term_of object) field at

-- what stands to the right of `=`
abbrev pub source_of : code_source.Source → Source
source_of (sources.Plain e) = from_term (term_of e)
source_of (sources.New class at) = from_new class at
source_of (sources.Cas target expect value) = from_cas (target_of target) (term_of expect) (term_of value)

-- a list of commands as a block
abbrev pub commands_of : List Command → Block
commands_of [] = no_commands
commands_of (c ∷ cs) = command_then c (commands_of cs)

-- one level of a statement
abbrev pub command_layer : Stmt-F Command → Command
command_layer (Stmt-F.Set local source) = a_set local (source_of source)
command_layer (Stmt-F.Put target source) = a_put (target_of target) (source_of source)
command_layer (Stmt-F.If test first other) = an_if (term_of test) (commands_of first) (commands_of other)
command_layer (Stmt-F.While test body) = a_while (term_of test) (commands_of body)
command_layer (Stmt-F.Call called args at) = a_proc_call called (args_of args) at
command_layer (Stmt-F.Check site) = a_launch site

-- a statement as a command
abbrev pub command_of : Stmt → Command
command_of = fold-Stmt Command command_layer

-- statements as a block
abbrev pub block_of : List Stmt → Block
block_of ss = commands_of (map command_of ss)

-- a predicate
abbrev pub predicate_of : Pred → Predicate
predicate_of p = record { params = p.params; result = p.result; body = term_of p.body }

-- the body of a procedure or a thread
abbrev pub routine_of : Body → Routine
routine_of b = record { params = b.params; locals = b.locals; block = block_of b.statements }

-- a check statement
abbrev pub check_of : Check → CheckStatement
check_of c = record { args = c.args; body = term_of c.body; at = c.at }

-- the whole program
abbrev pub program_of : Resolved → Program
program_of p =
    record { preds = map predicate_of p.preds; procs = map routine_of p.procs; threads = map routine_of p.threads; checks = map check_of p.checks }

-- The condition on a tree: there are no more of each than its limit, stores have places as targets, and threads have names. Whatever the parser gives keeps it.
use Rattle.std.specs.Prelude.{◌≡◌, ◌+◌, ◌≤◌, Bool, true, ◌&&◌, List, [], length, map, All, Vec}
use Rattle.std.specs.declared.alloc.Global.{Global}
use Rattle.st_events.specs.declared.shapes.TheConstants.{MOST_CHECKS, MOST_ARGS}
use Rattle.st_events.specs.declared.limits.TheConstants.{MOST_MUTATORS}
use Rattle.st_resolved.specs.declared.limits.TheConstants.{MOST_PARAMS, MOST_LOCALS}
use Rattle.st_lex.specs.Spellings.{is_name}
use Rattle.st_ast.specs.declared.declarations.Param.{Param}
use Rattle.st_ast.specs.declared.declarations.Pred.{Pred}
use Rattle.st_ast.specs.declared.declarations.Proc.{Proc}
use Rattle.st_ast.specs.declared.declarations.Thread.{Thread}
use Rattle.st_ast.specs.declared.declarations.Program.{Program}
use Rattle.st_ast.specs.declared.statements.Stmt.{Stmt}
use Rattle.st_types.specs.declared.walks.Launched.{Launched}
use Rattle.st_types.specs.Names.{HasFewNames}
use Rattle.st_types.specs.Places.{are_all, have_targets}
use Rattle.st_types.specs.Tallies.{Tally, tally_all, joined, all_of}

-- a body with few parameters, and few locals with them
pub record IsSmallBody (params : List Param) (body : List Stmt) : Type 0 where
  pub few_params : length params ≤ MOST_PARAMS
  pub few_locals : length params + (tally_all body).locals ≤ MOST_LOCALS

-- each predicate has few parameters
abbrev pub AreSmallPreds : List Pred → Type 0
AreSmallPreds preds = All (λ pred. length pred.params ≤ MOST_PARAMS) preds

-- each procedure has a small body
abbrev pub AreSmallProcs : List Proc → Type 0
AreSmallProcs procs = All (λ procedure. IsSmallBody procedure.params procedure.body) procs

-- each thread has a small body, without parameters
abbrev pub AreSmallThreads : List Thread → Type 0
AreSmallThreads threads = All (λ thread. IsSmallBody [] thread.body) threads

-- what a procedure and a thread have of what is limited
abbrev pub proc_tally : Proc → Tally
proc_tally procedure = tally_all procedure.body

-- the same of a thread
abbrev pub thread_tally : Thread → Tally
thread_tally thread = tally_all thread.body

-- of all bodies of a program
abbrev pub tally_of : Program → Tally
tally_of p = joined (all_of (map proc_tally p.procs)) (all_of (map thread_tally p.threads))

-- few check statements with those that stand before, and few arguments of each
pub record HasRoomFor (checks : Vec Launched Global) (t : Tally) : Type 0 where
  pub few_checks : length checks.items + t.checks ≤ MOST_CHECKS
  pub few_names : t.names ≤ MOST_ARGS

-- every target in a procedure or a thread is a place
abbrev pub have_targets_of : Program → Bool
have_targets_of p = are_all (map (λ procedure. have_targets procedure.body) p.procs) && are_all (map (λ thread. have_targets thread.body) p.threads)

-- the condition of `check_types`
pub record IsWithinLimits (p : Program) : Type 0 where
  pub names : HasFewNames p
  pub threads : length p.threads ≤ MOST_MUTATORS
  pub small_preds : AreSmallPreds p.preds
  pub small_procs : AreSmallProcs p.procs
  pub small_threads : AreSmallThreads p.threads
  pub checks : (tally_of p).checks ≤ MOST_CHECKS
  pub arguments : (tally_of p).names ≤ MOST_ARGS
  pub targets : have_targets_of p ≡ true
  pub thread_names : All (λ thread. is_name thread.name ≡ true) p.threads

-- A well-formed program: every number in it names something, and every kind fits. What the types promise to whoever runs a program.
use Rattle.std.specs.Prelude.{◌≡◌, ℕ, ◌≤◌, List, [], ◌∷◌, length, take, All, Some, slice_get}
use Rattle.st_events.specs.declared.shapes.Kind.{Kind}
use Rattle.st_events.specs.declared.shapes.Kind.TheVariants.{Bool}
use Rattle.st_events.specs.declared.limits.TheConstants.{MOST_MUTATORS}
use Rattle.st_events.specs.Kind.{IsDeclaredKind}
use Rattle.st_events.specs.Shape.{ShapeLists, IsWithinLimits}
use Rattle.st_resolved.specs.declared.limits.TheConstants.{MOST_PREDS, MOST_PROCS, MOST_PARAMS, MOST_LOCALS}
use Rattle.st_resolved.specs.Terms.{Command, a_set, a_put, an_if, a_while, a_proc_call, a_launch, Block, no_commands, command_then}
use Rattle.st_resolved.specs.Terms.{Predicate, Routine, CheckStatement, Program}
use Rattle.st_resolved.specs.Kinds.{Setting, HasKind, HaveKinds, StoresKind, GivesKind}

-- the kinds of a routine's parameters: those of its first locals
abbrev pub param_kinds : Routine → List Kind
param_kinds r = take r.params r.locals

-- a check statement takes the values of locals that have these kinds
abbrev pub TakesLocals : List Kind → List ℕ → List Kind → Type 0
TakesLocals locals [] [] = Unit {0}
TakesLocals locals (local ∷ more) (kind ∷ kinds) = (slice_get locals local ≡ Some kind) × TakesLocals locals more kinds
TakesLocals locals args kinds = ⊥

-- the setting of an expression of a thread or procedure, in which nothing can be called
abbrev pub plain_setting : ShapeLists → List Kind → Setting
plain_setting shape locals = record { shape = shape; preds = []; locals = locals }

-- a statement is right in a body with these locals
abbrev mutual
  pub IsRightCommand : ShapeLists → Program → List Kind → Command → Type 0
  IsRightCommand shape p locals (a_set local source) =
      (kind : Kind) × (slice_get locals local ≡ Some kind) × GivesKind (plain_setting shape locals) source kind
  IsRightCommand shape p locals (a_put target source) =
      (kind : Kind) × StoresKind (plain_setting shape locals) target kind × GivesKind (plain_setting shape locals) source kind
  IsRightCommand shape p locals (an_if test first other) =
      HasKind (plain_setting shape locals) test Bool × IsRightBlock shape p locals first × IsRightBlock shape p locals other
  IsRightCommand shape p locals (a_while test body) = HasKind (plain_setting shape locals) test Bool × IsRightBlock shape p locals body
  IsRightCommand shape p locals (a_proc_call called args at) =
      (r : Routine) × (slice_get p.procs called ≡ Some r) × HaveKinds (plain_setting shape locals) args (param_kinds r)
  IsRightCommand shape p locals (a_launch site) =
      (check : CheckStatement) × (kinds : List Kind) × (slice_get p.checks site ≡ Some check) × (slice_get shape.checks site ≡ Some kinds) × TakesLocals locals check.args kinds

  -- each statement of a block is right
  pub IsRightBlock : ShapeLists → Program → List Kind → Block → Type 0
  IsRightBlock shape p locals no_commands = Unit {0}
  IsRightBlock shape p locals (command_then c cs) = IsRightCommand shape p locals c × IsRightBlock shape p locals cs

-- a predicate: its body has the kind of its value, in its parameters
pub record IsRightPredicate (shape : ShapeLists) (p : Program) (pred : Predicate) : Type 0 where
  pub few : length pred.params ≤ MOST_PARAMS
  pub kinds : All (IsDeclaredKind (length shape.classes)) pred.params
  pub body : HasKind (record { shape = shape; preds = p.preds; locals = pred.params }) pred.body pred.result

-- the body of a procedure or a thread
pub record IsRightRoutine (shape : ShapeLists) (p : Program) (r : Routine) : Type 0 where
  pub few_params : r.params ≤ MOST_PARAMS
  pub params : r.params ≤ length r.locals
  pub few_locals : length r.locals ≤ MOST_LOCALS
  pub kinds : All (IsDeclaredKind (length shape.classes)) r.locals
  pub block : IsRightBlock shape p r.locals r.block

-- check statements and the kinds of their arguments, pair by pair: each expression is true or false
abbrev pub AreRightChecks : ShapeLists → Program → List CheckStatement → List (List Kind) → Type 0
AreRightChecks shape p [] [] = Unit {0}
AreRightChecks shape p (check ∷ checks) (kinds ∷ more) =
    HasKind (record { shape = shape; preds = p.preds; locals = kinds }) check.body Bool × AreRightChecks shape p checks more
AreRightChecks shape p checks kinds = ⊥

-- a program of this shape is well formed
pub record IsWellFormed (shape : ShapeLists) (p : Program) : Type 0 where
  pub shape_fits : IsWithinLimits shape
  pub few_preds : length p.preds ≤ MOST_PREDS
  pub few_procs : length p.procs ≤ MOST_PROCS
  pub few_threads : length p.threads ≤ MOST_MUTATORS
  pub preds : All (IsRightPredicate shape p) p.preds
  pub procs : All (IsRightRoutine shape p) p.procs
  pub threads : All (IsRightRoutine shape p) p.threads
  pub no_params : All (λ r. r.params ≡ 0) p.threads
  pub checks : AreRightChecks shape p p.checks shape.checks

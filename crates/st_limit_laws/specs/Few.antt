-- What the limits on counts come to for a tree, declaration by declaration: crates above ask this of it.
use Rattle.std.specs.Prelude.{ℕ, ◌+◌, ◌≤◌, ◌==◌, if◌then◌else◌, List, [], ◌∷◌, length, All}
use Rattle.std.specs.List.{flat_map}
use Rattle.st_ast.specs.declared.declarations.Class.{Class}
use Rattle.st_ast.specs.declared.declarations.Pred.{Pred}
use Rattle.st_ast.specs.declared.declarations.Proc.{Proc}
use Rattle.st_ast.specs.declared.declarations.Program.{Program}
use Rattle.st_ast.specs.declared.declarations.Thread.{Thread}
use Rattle.st_ast.specs.declared.limits.TheConstants.{MOST_SOURCE_CLASSES}
use Rattle.st_events.specs.declared.limits.TheConstants.{MOST_MUTATORS}
use Rattle.st_events.specs.declared.shapes.TheConstants.{MOST_FIELDS, MOST_CHECKS}
use Rattle.st_resolved.specs.declared.limits.TheConstants.{MOST_PREDS, MOST_PROCS, MOST_PARAMS, MOST_LOCALS}
use Rattle.st_grammar.specs.Counts.{slot, stmt_items, proc_items, thread_items}
use Rattle.st_grammar.specs.declared.counts.Item.{Item}
use Rattle.st_grammar.specs.declared.counts.Item.TheVariants as item
use Rattle.st_grammar.specs.declared.counts.What.{What}
use Rattle.st_grammar.specs.declared.counts.What.TheVariants as what

-- 1 where the two are one, else 0
abbrev pub as_one : What → What → ℕ
as_one w v = if slot w == slot v then 1 else 0

-- how many of this are among the items
abbrev pub how_many : What → List Item → ℕ
how_many w [] = 0
how_many w (item.Anew v ∷ ts) = how_many w ts
how_many w (item.One v site ∷ ts) = as_one w v + how_many w ts

-- a body with few parameters, and few locals with them
pub record IsFewBody (proc : Proc) : Type 0 where
  pub params : length proc.params ≤ MOST_PARAMS
  pub locals : length proc.params + how_many what.Locals (flat_map stmt_items proc.body) ≤ MOST_LOCALS

-- no more classes, fields of a class, shared variables, predicates, procedures, threads, parameters, locals of a body and check
-- statements than there may be
pub record HasFewOfEach (p : Program) : Type 0 where
  pub classes : length p.classes ≤ MOST_SOURCE_CLASSES
  pub fields : All (λ (class : Class). length class.fields ≤ MOST_FIELDS) p.classes
  pub shared : length p.shared ≤ MOST_FIELDS
  pub preds : length p.preds ≤ MOST_PREDS
  pub procs : length p.procs ≤ MOST_PROCS
  pub threads : length p.threads ≤ MOST_MUTATORS
  pub pred_params : All (λ (pred : Pred). length pred.params ≤ MOST_PARAMS) p.preds
  pub bodies : All IsFewBody p.procs
  pub thread_locals : All (λ (thread : Thread). how_many what.Locals (flat_map stmt_items thread.body) ≤ MOST_LOCALS) p.threads
  pub checks : how_many what.Checks (flat_map proc_items p.procs) + how_many what.Checks (flat_map thread_items p.threads) ≤ MOST_CHECKS

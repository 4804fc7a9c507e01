-- Calls of predicates that are found.
use Rattle.std.proofs.Common.{◌≡◌, ℕ, List, [], ◌∷◌, map, slice_get, Some, Ok, true, refl, ap, sym, ◌∙◌}
use Rattle.st_events.specs.declared.events.Site.{Site}
use Rattle.st_ast.specs.declared.declarations.Pred.{Pred}
use Rattle.st_ast.specs.declared.expressions.Expr.TheOpen.{Expr-F}
use Rattle.st_resolved.specs.Terms.{Term, a_call, Command, a_proc_call}
use Rattle.st_resolved.specs.Views.{term_of, term_layer, args_of, command_of, command_layer}
use Rattle.st_resolved.specs.declared.expressions.Expr.{Expr}
use Rattle.st_resolved.specs.declared.expressions.Expr.TheVariants.{Call, rolls-Call}
use Rattle.st_resolved.specs.declared.expressions.Expr.TheFolds.{fold-roll-Expr}
use Rattle.st_resolved.specs.declared.expressions.Expr.TheOpen as layers
use Rattle.st_ast.specs.declared.declarations.Param.{Param}
use Rattle.st_types.specs.declared.kinds.Found.{Found}
use Rattle.st_ast.specs.declared.declarations.Program.{Program}
use Rattle.st_resolved.specs.declared.statements.Stmt.{Stmt}
use Rattle.st_resolved.specs.declared.statements.Stmt.TheVariants as stmts
use Rattle.st_resolved.specs.declared.statements.Stmt.TheOpen as statement_layers
use Rattle.st_resolved.specs.declared.statements.Stmt.TheFolds.{fold-roll-Stmt}
use Rattle.st_types.specs.Statements.{asks_proc}
use Rattle.st_types.specs.Stepwise.{proc_command}
use Rattle.st_types.specs.declared.errors.TypeError.{TypeError}
use Rattle.st_types.specs.declared.expressions.Typing.{Typing}
use Rattle.st_types.specs.Checked.{verdict}
use Rattle.st_types.specs.Judged.{outcome}
use Rattle.st_types.specs.Names.{kind_of, pred_number, proc_number}
use Rattle.st_types.specs.Nodes.{Seen, asks_args, number_or_0}
use Rattle.st_types.specs.Scopes.{ScopeView}
use Rattle.st_types.specs.Typing.{seen_of}

-- the terms of arguments
pub terms_of_args : (args : List Typing) → map (λ (arg : Seen). arg.term) (map seen_of args) ≡ map term_of (map (λ (arg : Typing). arg.expr) args)
terms_of_args [] = refl
terms_of_args (arg ∷ args) = ap (λ ts. term_of arg.expr ∷ ts) (terms_of_args args)

verdict_of_none : {A : Type 0} (xs : List TypeError) (a : A) → Ok (tt {0}) ≡ verdict xs (tt {0}) → verdict xs a ≡ Ok a
verdict_of_none [] a h = refl
verdict_of_none (x ∷ xs) a h = cc

-- the term of a call
term_of_call : (number : ℕ) (exprs : List Expr) → term_of (Call number exprs) ≡ a_call number (args_of exprs)
term_of_call number exprs = ap term_of (sym (rolls-Call number exprs)) ∙ fold-roll-Expr Term term_layer (layers.Call number exprs)

-- a call whose arguments go with the parameters of the predicate of this name
pub call_outcome : (s : ScopeView) (name : List ℕ) (args given : List Typing) (site : Site) (number : ℕ) (pred : Pred) (params : List Param) (kind : Found) (exprs : List Expr)
    → s.may_call ≡ true → Some number ≡ pred_number s.program name → slice_get s.program.preds number ≡ Some pred
    → given ≡ args → params ≡ pred.params → kind ≡ kind_of s.program pred.result → exprs ≡ map (λ arg. arg.expr) args
    → Ok (tt {0}) ≡ verdict (asks_args s.program params (map seen_of given) site) (tt {0})
    → outcome s (Expr-F.Call name (map seen_of args) site) ≡ Ok (record { site = site; kind = kind; term = term_of (Call number exprs) })
call_outcome s name args given site number pred params kind exprs may named found same_args same_params same_kind same_exprs asked =
    let passed : Ok (tt {0}) ≡ verdict (asks_args s.program pred.params (map seen_of args) site) (tt {0}) = rw (← same_args, ← same_params) asked in
    rw (may, ← named, found, terms_of_args args, same_kind, term_of_call number exprs, same_exprs) (verdict_of_none _ _ passed)

-- the command of a call statement
command_of_call : (number : ℕ) (exprs : List Expr) (at : Site) → command_of (stmts.Call number exprs at) ≡ a_proc_call number (args_of exprs) at
command_of_call number exprs at = ap command_of (sym (stmts.rolls-Call number exprs at)) ∙ fold-roll-Stmt Command command_layer (statement_layers.Call number exprs at)

-- a call statement whose arguments go with the parameters of the procedure of this name
pub proc_outcome : (p : Program) (name : List ℕ) (args given : List Typing) (site : Site) (number : ℕ) (exprs : List Expr) (boxed : Stmt)
    → given ≡ args → exprs ≡ map (λ arg. arg.expr) args → number ≡ number_or_0 (proc_number p name) → Ok (tt {0}) ≡ verdict (asks_proc p name (map seen_of given) site) (tt {0})
    → boxed ≡ stmts.Call number exprs site → proc_command p name (map seen_of args) site ≡ Ok (command_of boxed)
proc_outcome p name args given site number exprs boxed same_args same_exprs same_number asked same =
    let passed : Ok (tt {0}) ≡ verdict (asks_proc p name (map seen_of args) site) (tt {0}) = rw (← same_args) asked in
    rw (terms_of_args args, same, command_of_call number exprs site, same_exprs, same_number) (verdict_of_none _ _ passed)

-- The readers of the limits on the terminals are those of any limits, at these.
use Rattle.std.specs.Prelude.{ℕ, zero, suc, Bool, true, false, not, if◌then◌else◌, nat_lt, List, [], ◌∷◌, ◌++◌, length, Option, Some, None, is_some, Result, Ok, Err}
use Rattle.st_ast.specs.declared.declarations.Class.{Class}
use Rattle.st_ast.specs.declared.declarations.Field.{Field}
use Rattle.st_ast.specs.declared.declarations.Param.{Param}
use Rattle.st_ast.specs.declared.declarations.Pred.{Pred}
use Rattle.st_ast.specs.declared.declarations.Proc.{Proc}
use Rattle.st_ast.specs.declared.declarations.Program.{Program}
use Rattle.st_ast.specs.declared.declarations.Thread.{Thread}
use Rattle.st_ast.specs.declared.declarations.TypeName.{TypeName}
use Rattle.st_ast.specs.declared.declarations.TypeName.TheVariants as types
use Rattle.st_ast.specs.declared.expressions.Expr.{Expr}
use Rattle.st_ast.specs.declared.expressions.Expr.TheVariants as expr
use Rattle.st_ast.specs.declared.operators.Op.{Op}
use Rattle.st_ast.specs.declared.statements.Stmt.{Stmt}
use Rattle.st_ast.specs.declared.statements.Stmt.TheVariants as stmt
use Rattle.st_ast.specs.declared.statements.Value.{Value}
use Rattle.st_ast.specs.declared.statements.Value.TheVariants as value
use Rattle.st_ast.specs.Sites.{site_of_expr}
use Rattle.st_grammar.specs.declared.operators.Chain.{Chain}
use Rattle.st_grammar.specs.declared.operators.Chain.TheVariants as chain
use Rattle.st_grammar_laws.specs.declared.levels.Level.{Level}
use Rattle.st_grammar_laws.specs.declared.levels.Level.TheVariants as level
use Rattle.st_grammar.specs.declared.sorts.Sort.{Sort}
use Rattle.st_grammar.specs.declared.sorts.Sort.TheVariants as sort
use Rattle.st_grammar.specs.Operators.{chained, compared}
use Rattle.st_grammar.specs.Sorts.{same_sort}
use Rattle.st_grammar.specs.Terminals.{Terminal, next_sort}
use Rattle.st_grammar_laws.specs.Reading.{Outcome, Reader, and_then, ◌>>=◌, ◌>>◌, pure, ◌<$>◌, refuse, peek, sees}
use Rattle.st_grammar_laws.specs.Reading.{see, take_any, expect, if_shorter, turns_from, turns, one_more, many, is_sort, after_comma}
use Rattle.st_grammar_laws.specs.Reading.{listed, enclosed, field_after, fields_after, shared_field, place_after, place_by, place, literal_by, literal}
use Rattle.st_grammar_laws.specs.Reading.{is_operator, args, named, paren, primary_by, primary, postfix, unary_by, unary, binary}
use Rattle.st_grammar_laws.specs.Reading.{link, linked, term, sum, cmp_after, cmp, and, or, operand_of, branches}
use Rattle.st_grammar_laws.specs.Reading.{choice, nested, type_by, type_name, typed, new_value, in_block, field, fields, class}
use Rattle.st_grammar_laws.specs.Reading.{shared_block, param, params, finish}
use Rattle.st_ast.specs.declared.limits.TheConstants.{MOST_OPEN_BRACES}
use Rattle.st_grammar.specs.declared.limits.TheConstants.{MOST_TOKENS_BETWEEN}
use Rattle.std.proofs.Common.{◌≡◌, refl, ap, ◌∙◌}
use Rattle.st_grammar_laws.specs.Reading as r
use Rattle.st_grammar_laws.proofs.Free as free

abbrev M : ℕ
M = MOST_TOKENS_BETWEEN

abbrev B : ℕ
B = MOST_OPEN_BRACES

block_of_same : (ib : Reader (List Stmt)) → r.block_of ib ≡ free.block_of M B ib
unfolding r.block_of free.block_of r.statement free.statement r.if_stmt free.if_stmt r.while_stmt free.while_stmt r.else_part free.else_part
    r.condition free.condition r.check_stmt free.check_stmt r.shared_stmt free.shared_stmt r.named_stmt free.named_stmt r.call_after free.call_after
    r.put_after free.put_after r.var_stmt free.var_stmt r.assigned free.assigned r.value_here free.value_here r.cas_value free.cas_value r.whole
    free.whole
block_of_same ib = refl

blocks_same : (d : ℕ) → r.blocks d ≡ free.blocks M B d
unfolding r.blocks free.blocks
blocks_same zero = refl
blocks_same (suc d) = block_of_same (r.blocks d) ∙ ap (free.block_of M B) (blocks_same d)

body_same : r.body_block ≡ free.body_block M B
unfolding r.body_block free.body_block
body_same = blocks_same (suc B)

pred_same : r.pred ≡ free.pred M B
unfolding r.pred free.pred r.whole free.whole
pred_same = refl

proc_with : Reader (List Stmt) → Reader Proc
proc_with body_block = do
  expect sort.Proc
  name ← expect sort.Name
  found ← params
  body ← body_block
  pure (record { name = name.bytes; params = found; body = body; site = name.site })

proc_same : r.proc ≡ free.proc M B
unfolding r.proc free.proc proc_with
proc_same = ap proc_with body_same

thread_with : Reader (List Stmt) → Reader Thread
thread_with body_block = do
  expect sort.Thread
  name ← expect sort.Name
  body ← body_block
  pure (record { name = name.bytes; body = body; site = name.site })

thread_same : r.thread ≡ free.thread M B
unfolding r.thread free.thread thread_with
thread_same = ap thread_with body_same

program_with : Reader Pred → Reader Proc → Reader Thread → Reader Program
program_with pred proc thread = do
  classes ← many (is_sort sort.Class) class
  shared ← shared_block
  preds ← many (is_sort sort.Pred) pred
  procs ← many (is_sort sort.Proc) proc
  threads ← many (is_sort sort.Thread) thread
  finish
  pure (record { classes = classes; shared = shared; preds = preds; procs = procs; threads = threads })

-- the readers with limits of their choice are, at the limits of the language, those of the specs
pub program_same : r.program ≡ free.program MOST_TOKENS_BETWEEN MOST_OPEN_BRACES
unfolding r.program free.program program_with
program_same = ap (λ (p : Reader Pred). program_with p r.proc r.thread) pred_same ∙ ap (λ (p : Reader Proc). program_with (free.pred M B) p r.thread) proc_same ∙ ap
    (program_with (free.pred M B) (free.proc M B)) thread_same

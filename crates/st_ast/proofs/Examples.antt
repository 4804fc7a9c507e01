-- A text computed from its tree by the prover.
use Rattle.std.proofs.Common.{◌≡◌, ℕ, true, [], ◌∷◌, ◌++◌, ap, sym, ◌∙◌}
use Rattle.std.specs.Prelude.{codes, Some}
use Rattle.st_events.specs.declared.events.Site.{Site}
use Rattle.st_ast.specs.declared.declarations.Program.{Program}
use Rattle.st_ast.specs.declared.expressions.Expr.TheVariants as expr
use Rattle.st_ast.specs.declared.statements.Stmt.TheVariants as stmt
use Rattle.st_ast.specs.declared.statements.Stmt.TheOpen.{Stmt-F}
use Rattle.st_ast.specs.Lines.{line, closing, lines_of, lines_text, stmt_lines, canonical_text}
use Rattle.st_ast.specs.Words.{expr_words}
use Rattle.st_ast.proofs.WordEquations.{words_of_truth, lines_of_layer}

abbrev start : Site
start = record { line = 1; column = 1 }

-- `thread t{if(true){}else{}}`
abbrev thread_with_if : Program
thread_with_if = record {
  classes = [];
  shared = [];
  preds = [];
  procs = [];
  threads = record { name = codes "t"; body = stmt.If (expr.Truth true start) [] (Some []) start ∷ []; site = start } ∷ [];
}

condition : expr_words (expr.Truth true start) ≡ codes "true" ∷ []
condition = words_of_truth true start

if_lines : (depth : ℕ) → stmt_lines (stmt.If (expr.Truth true start) [] (Some []) start) depth
    ≡ line depth (codes "if" ∷ codes "(" ∷ codes "true" ∷ codes ")" ∷ codes "{" ∷ []) ∷ closing depth
    ∷ line depth (codes "else" ∷ codes "{" ∷ []) ∷ closing depth ∷ []
if_lines depth =
    ap (λ s. stmt_lines s depth) (sym (stmt.rolls-If (expr.Truth true start) [] (Some []) start))
    ∙ lines_of_layer (Stmt-F.If (expr.Truth true start) [] (Some []) start) depth
    ∙ ap (λ ws. line depth ((codes "if" ∷ codes "(" ∷ ws ++ codes ")" ∷ []) ++ codes "{" ∷ []) ∷ closing depth
    ∷ line depth (codes "else" ∷ codes "{" ∷ []) ∷ closing depth ∷ []) condition

if_else : canonical_text thread_with_if ≡ codes "thread t {\n  if ( true ) {\n  }\n  else {\n  }\n}\n"
unfolding canonical_text lines_of lines_text
if_else = ap (λ ls. lines_text ((line 0 (codes "thread" ∷ codes "t" ∷ codes "{" ∷ []) ∷ (ls ++ []) ++ closing 0 ∷ []) ++ [])) (if_lines 1)

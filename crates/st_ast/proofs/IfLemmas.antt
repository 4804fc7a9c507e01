-- An `if` without `else`, as it is written.
use Rattle.std.proofs.Common.{◌≡◌, ℕ, ◌+◌, List, [], ◌∷◌, ◌++◌, Option, None, ap, sym, ◌∙◌, subst, append_assoc, append-nil}
use Rattle.std.specs.Prelude.{codes}
use Rattle.std.proofs.lemmas.List.Folds.{flat_map-map}
use Rattle.st_events.specs.declared.events.Site.{Site}
use Rattle.st_ast.specs.declared.expressions.Expr.{Expr}
use Rattle.st_ast.specs.declared.statements.Stmt.{Stmt, out-Stmt}
use Rattle.st_ast.specs.declared.statements.Stmt.TheOpen.{Stmt-F}
use Rattle.st_ast.specs.declared.statements.Stmt.TheVariants.{If, rolls-If}
use Rattle.st_ast.specs.declared.statements.Stmt.TheViews.{out-roll-Stmt}
use Rattle.st_ast.specs.Words.{expr_words}
use Rattle.st_ast.specs.Lines.{Line, line, closing, front_words, last_word, block_lines, stmt_lines, lines_text}
use Rattle.st_ast.proofs.WordEquations.{lines_of_layer}
use Rattle.st_ast.proofs.WrittenLemmas.{lines_join}

-- the first line of a statement
abbrev first_line : Stmt → ℕ → List ℕ
first_line s depth = lines_text (line depth (front_words (out-Stmt s) ++ last_word (out-Stmt s) ∷ []) ∷ [])

abbrev head : Expr → ℕ → Line
head cond depth = line depth ((codes "if" ∷ codes "(" ∷ expr_words cond ++ codes ")" ∷ []) ++ codes "{" ∷ [])

first_is : (cond : Expr) (then : List Stmt) (site : Site) (depth : ℕ) → first_line (If cond then None site) depth ≡ lines_text (head cond depth ∷ [])
first_is cond then site depth =
    ap (λ (x : Stmt-F Stmt). lines_text (line depth (front_words x ++ last_word x ∷ []) ∷ []))
    (ap out-Stmt (sym (rolls-If cond then None site)) ∙ out-roll-Stmt (Stmt-F.If cond then None site))

lines_are : (cond : Expr) (then : List Stmt) (site : Site) (depth : ℕ)
    → stmt_lines (If cond then None site) depth ≡ head cond depth ∷ block_lines then depth
lines_are cond then site depth =
    ap (λ s. stmt_lines s depth) (sym (rolls-If cond then None site)) ∙ lines_of_layer (Stmt-F.If cond then None site) depth
    ∙ ap (λ ls. head cond depth ∷ ((ls ++ closing depth ∷ []) ++ [])) (flat_map-map (λ (f : ℕ → List Line). f (depth + 1)) stmt_lines then)
    ∙ ap (λ ls. head cond depth ∷ ls) (append-nil (block_lines then depth))

alone : (cond : Expr) (then : List Stmt) (site : Site) (depth : ℕ) (a b c : List ℕ) → b ≡ a ++ first_line (If cond then None site) depth
    → c ≡ b ++ lines_text (block_lines then depth) → c ≡ a ++ lines_text (stmt_lines (If cond then None site) depth)
alone cond then site depth a b c h k =
    k ∙ ap (λ l. l ++ lines_text (block_lines then depth)) (h ∙ ap (λ l. a ++ l) (first_is cond then site depth))
    ∙ append_assoc a (lines_text (head cond depth ∷ [])) (lines_text (block_lines then depth))
    ∙ ap (λ l. a ++ l) (lines_join (head cond depth ∷ []) (block_lines then depth)) ∙ ap (λ ls. a ++ lines_text ls) (sym (lines_are cond then site depth))

-- an `if` without `else` is written as soon as its first line and its block are
pub if_alone : (s : Stmt) (cond : Expr) (then body : List Stmt) (other : Option (List Stmt)) (site : Site) (depth : ℕ) (a b c : List ℕ)
    → s ≡ If cond then other site → other ≡ None → body ≡ then
    → b ≡ a ++ lines_text (line depth (front_words (out-Stmt s) ++ last_word (out-Stmt s) ∷ []) ∷ [])
    → c ≡ b ++ lines_text (block_lines body depth) → c ≡ a ++ lines_text (stmt_lines s depth)
if_alone s cond then body other site depth a b c is none same h k =
    let e : s ≡ If cond then None site = is ∙ ap (λ (o : Option (List Stmt)). If cond then o site) none in
    subst (λ (z : Stmt). b ≡ a ++ first_line z depth → c ≡ a ++ lines_text (stmt_lines z depth)) (sym e)
    (λ i. alone cond then site depth a b c i (k ∙ ap (λ (l : List Stmt). b ++ lines_text (block_lines l depth)) same)) h

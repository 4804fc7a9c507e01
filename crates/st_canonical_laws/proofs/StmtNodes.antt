-- Statements without their places, and their words, node by node.
use Rattle.std.proofs.Common.{◌≡◌, ℕ, ◌+◌, List, [], ◌∷◌, ◌++◌, map, Option, Some, None, ap, sym, ◌∙◌, append-nil}
use Rattle.std.specs.Prelude.{codes}
use Rattle.std.specs.List.{flat_map}
use Rattle.std.proofs.lemmas.Grind.{flat_map-append}
use Rattle.std.proofs.lemmas.List.Folds.{flat_map-map}
use Rattle.st_events.specs.declared.events.Site.{Site}
use Rattle.st_ast.specs.declared.declarations.TypeName.{TypeName}
use Rattle.st_ast.specs.declared.expressions.Expr.{Expr}
use Rattle.st_ast.specs.declared.statements.Stmt.{Stmt}
use Rattle.st_ast.specs.declared.statements.Stmt.TheFolds.{fold-roll-Stmt, map-Stmt}
use Rattle.st_ast.specs.declared.statements.Stmt.TheOpen.{Stmt-F}
use Rattle.st_ast.specs.declared.statements.Stmt.TheVariants as stmt
use Rattle.st_ast.specs.declared.statements.Stmt.TheViews.{roll-Stmt}
use Rattle.st_ast.specs.declared.statements.Value.{Value}
use Rattle.st_ast.specs.Lines.{Line, line, closing, in_block, stmt_lines, stmts_lines, block_lines}
use Rattle.st_ast.specs.Words.{Word, type_word, in_parens, call_words, value_words, expr_words}
use Rattle.st_ast.proofs.WordEquations.{lines_of_layer}
use Rattle.st_canonical_laws.specs.Placeless.{nowhere, bare_expr, bare_type, bare_value, stmt_layer, bare_stmt}

-- the words of lines, one after another
abbrev pub words_in : List Line → List Word
words_in = flat_map (λ l. l.words)

-- first the words of the first lines, then those of the others
pub words_in_two : (x y : List Line) → words_in (x ++ y) ≡ words_in x ++ words_in y
words_in_two x y = flat_map-append (λ l. l.words) x y

-- the block of an `else`, if there is one, without its places
abbrev pub bare_other : Option (List Stmt) → Option (List Stmt)
bare_other None = None
bare_other (Some body) = Some (map bare_stmt body)

bare_of_layer : (x : Stmt-F Stmt) → bare_stmt (roll-Stmt x) ≡ stmt_layer (map-Stmt Stmt Stmt bare_stmt x)
unfolding bare_stmt
bare_of_layer x = fold-roll-Stmt Stmt stmt_layer x

-- a `var` without its places: those of the name, the type and the value go too
pub bare_var : (name : List ℕ) (name_site : Site) (kind : TypeName) (value : Value) (site : Site)
    → bare_stmt (stmt.Var name name_site kind value site) ≡ stmt.Var name nowhere (bare_type kind) (bare_value value) nowhere
bare_var name name_site kind value site = ap bare_stmt (sym (stmt.rolls-Var name name_site kind value site)) ∙ bare_of_layer (Stmt-F.Var name name_site kind value site)

-- an assignment to a local without its places
pub bare_assign : (name : List ℕ) (value : Value) (site : Site) → bare_stmt (stmt.Assign name value site) ≡ stmt.Assign name (bare_value value) nowhere
bare_assign name value site = ap bare_stmt (sym (stmt.rolls-Assign name value site)) ∙ bare_of_layer (Stmt-F.Assign name value site)

-- an assignment to a target without its places
pub bare_put : (place : Expr) (value : Value) (site : Site) → bare_stmt (stmt.Put place value site) ≡ stmt.Put (bare_expr place) (bare_value value) nowhere
bare_put place value site = ap bare_stmt (sym (stmt.rolls-Put place value site)) ∙ bare_of_layer (Stmt-F.Put place value site)

-- an `if` without its places, with or without an `else`
pub bare_if : (cond : Expr) (then : List Stmt) (other : Option (List Stmt)) (site : Site)
    → bare_stmt (stmt.If cond then other site) ≡ stmt.If (bare_expr cond) (map bare_stmt then) (bare_other other) nowhere
bare_if cond then None site = ap bare_stmt (sym (stmt.rolls-If cond then None site)) ∙ bare_of_layer (Stmt-F.If cond then None site)
bare_if cond then (Some body) site = ap bare_stmt (sym (stmt.rolls-If cond then (Some body) site)) ∙ bare_of_layer (Stmt-F.If cond then (Some body) site)

-- a `while` without its places, its body included
pub bare_while : (cond : Expr) (body : List Stmt) (site : Site) → bare_stmt (stmt.While cond body site) ≡ stmt.While (bare_expr cond) (map bare_stmt body) nowhere
bare_while cond body site = ap bare_stmt (sym (stmt.rolls-While cond body site)) ∙ bare_of_layer (Stmt-F.While cond body site)

-- a call of a procedure without its places
pub bare_call : (name : List ℕ) (args : List Expr) (site : Site) → bare_stmt (stmt.Call name args site) ≡ stmt.Call name (map bare_expr args) nowhere
bare_call name args site = ap bare_stmt (sym (stmt.rolls-Call name args site)) ∙ bare_of_layer (Stmt-F.Call name args site)

-- a check statement without its places
pub bare_check : (body : Expr) (site : Site) → bare_stmt (stmt.Check body site) ≡ stmt.Check (bare_expr body) nowhere
bare_check body site = ap bare_stmt (sym (stmt.rolls-Check body site)) ∙ bare_of_layer (Stmt-F.Check body site)

-- a `var` is one line at any depth: name, type, value, and a `;` at the end
pub words_var : (name : List ℕ) (name_site : Site) (kind : TypeName) (value : Value) (site : Site) (depth : ℕ)
    → words_in (stmt_lines (stmt.Var name name_site kind value site) depth)
    ≡ (codes "var" ∷ name ∷ codes ":" ∷ type_word kind ∷ codes "=" ∷ value_words value) ++ codes ";" ∷ []
words_var name name_site kind value site depth =
    ap (λ s. words_in (stmt_lines s depth)) (sym (stmt.rolls-Var name name_site kind value site)) ∙ ap words_in (lines_of_layer (Stmt-F.Var name name_site kind value site) depth)
    ∙ append-nil ((codes "var" ∷ name ∷ codes ":" ∷ type_word kind ∷ codes "=" ∷ value_words value) ++ codes ";" ∷ [])

-- an assignment to a local is one line
pub words_assign : (name : List ℕ) (value : Value) (site : Site) (depth : ℕ)
    → words_in (stmt_lines (stmt.Assign name value site) depth) ≡ (name ∷ codes "=" ∷ value_words value) ++ codes ";" ∷ []
words_assign name value site depth =
    ap (λ s. words_in (stmt_lines s depth)) (sym (stmt.rolls-Assign name value site)) ∙ ap words_in (lines_of_layer (Stmt-F.Assign name value site) depth)
    ∙ append-nil ((name ∷ codes "=" ∷ value_words value) ++ codes ";" ∷ [])

-- an assignment to a target is one line
pub words_put : (place : Expr) (value : Value) (site : Site) (depth : ℕ)
    → words_in (stmt_lines (stmt.Put place value site) depth) ≡ (expr_words place ++ codes "=" ∷ value_words value) ++ codes ";" ∷ []
words_put place value site depth =
    ap (λ s. words_in (stmt_lines s depth)) (sym (stmt.rolls-Put place value site)) ∙ ap words_in (lines_of_layer (Stmt-F.Put place value site) depth)
    ∙ append-nil ((expr_words place ++ codes "=" ∷ value_words value) ++ codes ";" ∷ [])

-- a call of a procedure is one line
pub words_call : (name : List ℕ) (args : List Expr) (site : Site) (depth : ℕ) → words_in (stmt_lines (stmt.Call name args site) depth) ≡ (call_words name args) ++ codes ";" ∷ []
words_call name args site depth =
    ap (λ s. words_in (stmt_lines s depth)) (sym (stmt.rolls-Call name args site)) ∙ ap words_in (lines_of_layer (Stmt-F.Call name args site) depth)
    ∙ append-nil ((call_words name args) ++ codes ";" ∷ [])

-- a check statement is one line
pub words_check : (body : Expr) (site : Site) (depth : ℕ) → words_in (stmt_lines (stmt.Check body site) depth) ≡ (codes "check" ∷ expr_words body) ++ codes ";" ∷ []
words_check body site depth =
    ap (λ s. words_in (stmt_lines s depth)) (sym (stmt.rolls-Check body site)) ∙ ap words_in (lines_of_layer (Stmt-F.Check body site) depth)
    ∙ append-nil ((codes "check" ∷ expr_words body) ++ codes ";" ∷ [])

-- a block in the fold is a block of statements
in_block_is : (body : List Stmt) (depth : ℕ) → in_block depth (map stmt_lines body) ≡ block_lines body depth
in_block_is body depth = ap (λ ls. ls ++ closing depth ∷ []) (flat_map-map (λ (f : ℕ → List Line). f (depth + 1)) stmt_lines body)

-- `else` and its block, where there is one
abbrev pub other_lines : Option (List Stmt) → ℕ → List Line
other_lines None depth = []
other_lines (Some body) depth = line depth (codes "else" ∷ codes "{" ∷ []) ∷ block_lines body depth

abbrev if_words : Expr → List Word
if_words cond = codes "if" ∷ in_parens (expr_words cond)

-- an `if` is its head, its block, and what `else` adds
pub words_if : (cond : Expr) (then : List Stmt) (other : Option (List Stmt)) (site : Site) (depth : ℕ)
    → words_in (stmt_lines (stmt.If cond then other site) depth)
    ≡ ((codes "if" ∷ in_parens (expr_words cond)) ++ codes "{" ∷ []) ++ (words_in (block_lines then depth) ++ words_in (other_lines other depth))
words_if cond then None site depth =
    ap (λ s. words_in (stmt_lines s depth)) (sym (stmt.rolls-If cond then None site)) ∙ ap words_in (lines_of_layer (Stmt-F.If cond then None site) depth)
    ∙ ap (λ ls. (if_words cond ++ codes "{" ∷ []) ++ words_in (ls ++ [])) (in_block_is then depth)
    ∙ ap (λ ws. (if_words cond ++ codes "{" ∷ []) ++ ws) (words_in_two (block_lines then depth) [])
words_if cond then (Some body) site depth =
    ap (λ s. words_in (stmt_lines s depth)) (sym (stmt.rolls-If cond then (Some body) site))
    ∙ ap words_in (lines_of_layer (Stmt-F.If cond then (Some body) site) depth)
    ∙ ap (λ ls. (if_words cond ++ codes "{" ∷ []) ++ words_in (ls ++ line depth (codes "else" ∷ codes "{" ∷ []) ∷ in_block depth (map stmt_lines body)))
    (in_block_is then depth)
    ∙ ap (λ ls. (if_words cond ++ codes "{" ∷ []) ++ words_in (block_lines then depth ++ line depth (codes "else" ∷ codes "{" ∷ []) ∷ ls)) (in_block_is body depth)
    ∙ ap (λ ws. (if_words cond ++ codes "{" ∷ []) ++ ws) (words_in_two (block_lines then depth) (other_lines (Some body) depth))

-- a `while` is its head and its block
pub words_while : (cond : Expr) (body : List Stmt) (site : Site) (depth : ℕ)
    → words_in (stmt_lines (stmt.While cond body site) depth)
    ≡ ((codes "while" ∷ in_parens (expr_words cond)) ++ codes "{" ∷ []) ++ words_in (block_lines body depth)
words_while cond body site depth =
    ap (λ s. words_in (stmt_lines s depth)) (sym (stmt.rolls-While cond body site)) ∙ ap words_in (lines_of_layer (Stmt-F.While cond body site) depth)
    ∙ ap (λ ls. ((codes "while" ∷ in_parens (expr_words cond)) ++ codes "{" ∷ []) ++ words_in ls) (in_block_is body depth)

-- the closing brace of a block
pub words_block : (body : List Stmt) (depth : ℕ) → words_in (block_lines body depth) ≡ words_in (stmts_lines body (depth + 1)) ++ codes "}" ∷ []
words_block body depth = words_in_two (stmts_lines body (depth + 1)) (closing depth ∷ [])

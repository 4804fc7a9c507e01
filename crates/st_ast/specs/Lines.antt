-- The canonical text of a tree, line by line.
use Rattle.std.specs.Prelude.{ℕ, ◌+◌, ◌*◌, List, [], ◌∷◌, ◌++◌, replicate, codes, Option, Some, None}
use Rattle.std.specs.List.{flat_map}
use Rattle.st_ast.specs.declared.declarations.Class.{Class}
use Rattle.st_ast.specs.declared.declarations.Field.{Field}
use Rattle.st_ast.specs.declared.declarations.Pred.{Pred}
use Rattle.st_ast.specs.declared.declarations.Proc.{Proc}
use Rattle.st_ast.specs.declared.declarations.Program.{Program}
use Rattle.st_ast.specs.declared.declarations.Thread.{Thread}
use Rattle.st_ast.specs.declared.statements.Stmt.{Stmt, fold-Stmt}
use Rattle.st_ast.specs.declared.statements.Stmt.TheOpen.{Stmt-F}
use Rattle.st_ast.specs.Words.{Word, in_parens, type_word, expr_words, call_words, value_words, params_words}

-- a line: how many braces are open before it, and its words
pub record Line : Type 0 where
  pub depth : ℕ
  pub words : List Word

-- so many braces are open before these words
abbrev pub line : ℕ → List Word → Line
line depth words = record { depth = depth; words = words }

-- a closing brace stands alone
abbrev pub closing : ℕ → Line
closing depth = line depth (codes "}" ∷ [])

-- ---- statements

-- the words of a statement, or of the head of one with a block, but for the last
abbrev pub front_words : {A : Type 0} → Stmt-F A → List Word
front_words (Stmt-F.Var name name_site kind value site) = codes "var" ∷ name ∷ codes ":" ∷ type_word kind ∷ codes "=" ∷ value_words value
front_words (Stmt-F.Assign name value site) = name ∷ codes "=" ∷ value_words value
front_words (Stmt-F.Put place value site) = expr_words place ++ codes "=" ∷ value_words value
front_words (Stmt-F.If cond then other site) = codes "if" ∷ in_parens (expr_words cond)
front_words (Stmt-F.While cond body site) = codes "while" ∷ in_parens (expr_words cond)
front_words (Stmt-F.Call name args site) = call_words name args
front_words (Stmt-F.Check body site) = codes "check" ∷ expr_words body

-- a head ends with the brace that it opens
abbrev pub last_word : {A : Type 0} → Stmt-F A → Word
last_word (Stmt-F.Var name name_site kind value site) = codes ";"
last_word (Stmt-F.Assign name value site) = codes ";"
last_word (Stmt-F.Put place value site) = codes ";"
last_word (Stmt-F.If cond then other site) = codes "{"
last_word (Stmt-F.While cond body site) = codes "{"
last_word (Stmt-F.Call name args site) = codes ";"
last_word (Stmt-F.Check body site) = codes ";"

-- the statements of a block, and its closing brace
abbrev pub in_block : ℕ → List (ℕ → List Line) → List Line
in_block depth body = flat_map (λ lines_at. lines_at (depth + 1)) body ++ closing depth ∷ []

-- `else` and its block, where there is one
abbrev pub else_lines : ℕ → Option (List (ℕ → List Line)) → List Line
else_lines depth None = []
else_lines depth (Some body) = line depth (codes "else" ∷ codes "{" ∷ []) ∷ in_block depth body

-- the lines of a statement after its first
abbrev pub later_lines : Stmt-F (ℕ → List Line) → ℕ → List Line
later_lines (Stmt-F.Var name name_site kind value site) depth = []
later_lines (Stmt-F.Assign name value site) depth = []
later_lines (Stmt-F.Put place value site) depth = []
later_lines (Stmt-F.If cond then other site) depth = in_block depth then ++ else_lines depth other
later_lines (Stmt-F.While cond body site) depth = in_block depth body
later_lines (Stmt-F.Call name args site) depth = []
later_lines (Stmt-F.Check body site) depth = []

-- one level of a statement
abbrev pub stmt_layer : Stmt-F (ℕ → List Line) → ℕ → List Line
stmt_layer x depth = line depth (front_words x ++ last_word x ∷ []) ∷ later_lines x depth

-- a statement where so many braces are open
unfoldable pub stmt_lines : Stmt → ℕ → List Line
stmt_lines s = fold-Stmt (ℕ → List Line) stmt_layer s

-- statements where so many braces are open
abbrev pub stmts_lines : List Stmt → ℕ → List Line
stmts_lines ss depth = flat_map (λ s. stmt_lines s depth) ss

-- the statements of a block, and its closing brace
abbrev pub block_lines : List Stmt → ℕ → List Line
block_lines body depth = stmts_lines body (depth + 1) ++ closing depth ∷ []

-- ---- declarations

-- a field or a shared variable has a line of its own, inside of one brace
abbrev pub field_line : Field → Line
field_line field = line 1 (field.name ∷ codes ":" ∷ type_word field.kind ∷ codes ";" ∷ [])

-- a line for each field, in their order
abbrev pub each_field : List Field → List Line
each_field = flat_map (λ field. field_line field ∷ [])

-- fields, and the closing brace
abbrev pub fields_lines : List Field → List Line
fields_lines fields = each_field fields ++ closing 0 ∷ []

-- a class: its head, its fields, the closing brace
abbrev pub class_lines : Class → List Line
class_lines class = line 0 (codes "class" ∷ class.name ∷ codes "{" ∷ []) ∷ fields_lines class.fields

-- an empty shared block is not written
abbrev pub shared_lines : List Field → List Line
shared_lines [] = []
shared_lines (first ∷ more) = line 0 (codes "shared" ∷ codes "{" ∷ []) ∷ fields_lines (first ∷ more)

-- a predicate but for the `;` at its end
abbrev pub pred_words : Pred → List Word
pred_words pred =
    codes "pred" ∷ pred.name ∷ in_parens (params_words pred.params) ++ codes ":" ∷ type_word pred.result ∷ codes "=" ∷ expr_words pred.body

-- a predicate stands on one line
abbrev pub pred_lines : Pred → List Line
pred_lines pred = line 0 (pred_words pred ++ codes ";" ∷ []) ∷ []

-- the head of a procedure but for its brace
abbrev pub proc_words : Proc → List Word
proc_words proc = codes "proc" ∷ proc.name ∷ in_parens (params_words proc.params)

-- the first line of a procedure, which opens its brace
abbrev pub proc_head : Proc → Line
proc_head proc = line 0 (proc_words proc ++ codes "{" ∷ [])

-- a procedure: its head, its statements, the closing brace
abbrev pub proc_lines : Proc → List Line
proc_lines proc = proc_head proc ∷ block_lines proc.body 0

-- a thread: its head, its statements, the closing brace
abbrev pub thread_lines : Thread → List Line
thread_lines thread = line 0 (codes "thread" ∷ thread.name ∷ codes "{" ∷ []) ∷ block_lines thread.body 0

-- the lines of a program
unfoldable pub lines_of : Program → List Line
lines_of p =
    flat_map class_lines p.classes ++ shared_lines p.shared ++ flat_map pred_lines p.preds
    ++ flat_map proc_lines p.procs ++ flat_map thread_lines p.threads

-- ---- bytes

-- words with single blanks between them
abbrev pub joined : List Word → List ℕ
joined [] = []
joined (first ∷ more) = first ++ flat_map (λ word. 32 ∷ word) more

-- two blanks for each open brace, then the words, then the end of the line
abbrev pub line_text : Line → List ℕ
line_text l = replicate (2 * l.depth) 32 ++ joined l.words ++ 10 ∷ []

-- lines one after another
unfoldable pub lines_text : List Line → List ℕ
lines_text lines = flat_map line_text lines

-- the canonical text of a program
unfoldable pub canonical_text : Program → List ℕ
canonical_text p = lines_text (lines_of p)

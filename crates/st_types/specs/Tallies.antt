-- What a body has of what is limited: the locals that it declares, its check statements, and the arguments that each of these may take.
use Rattle.std.specs.Prelude.{ℕ, ◌+◌, max, List, [], ◌∷◌, ◌++◌, map, Option, Some, None, if◌then◌else◌}
use Rattle.std.specs.List.{list_any}
use Rattle.std.specs.Str.{bytes_eq}
use Rattle.st_ast.specs.declared.expressions.Expr.{Expr}
use Rattle.st_ast.specs.declared.statements.Stmt.{Stmt}
use Rattle.st_ast.specs.declared.statements.Stmt.TheOpen.{Stmt-F}
use Rattle.st_ast.specs.declared.statements.Stmt.TheFolds.{fold-Stmt}
use Rattle.st_types.specs.Statements.{mentions}

-- how many locals are declared, how many check statements there are, and the most distinct names in the expression of one of them
pub record Tally : Type 0 where
  pub locals : ℕ
  pub checks : ℕ
  pub names : ℕ

-- of nothing
abbrev pub empty : Tally
empty = record { locals = 0; checks = 0; names = 0 }

-- of two parts of one body
abbrev pub joined : Tally → Tally → Tally
joined a b = record { locals = a.locals + b.locals; checks = a.checks + b.checks; names = max a.names b.names }

-- of parts, one after another
abbrev pub all_of : List Tally → Tally
all_of [] = empty
all_of (first ∷ more) = joined first (all_of more)

-- how many names stand in a list that stand neither before it nor before in it
abbrev pub count_new : List (List ℕ) → List (List ℕ) → ℕ
count_new before [] = 0
count_new before (name ∷ names) = (if list_any (λ other. bytes_eq other name) before then 0 else 1) + count_new (before ++ name ∷ []) names

-- how many distinct names of locals, known or not, an expression has
abbrev pub distinct_names : Expr → ℕ
distinct_names e = count_new [] (mentions e)

-- of the statements behind `else`, if there are any
abbrev pub of_other : Option (List Tally) → Tally
of_other None = empty
of_other (Some tallies) = all_of tallies

-- of one statement, with the blocks in it
abbrev pub tally_node : Stmt-F Tally → Tally
tally_node (Stmt-F.Var name name_site kind value site) = record { locals = 1; checks = 0; names = 0 }
tally_node (Stmt-F.Assign name value site) = empty
tally_node (Stmt-F.Put place value site) = empty
tally_node (Stmt-F.If cond first other site) = joined (all_of first) (of_other other)
tally_node (Stmt-F.While cond body site) = all_of body
tally_node (Stmt-F.Call name args site) = empty
tally_node (Stmt-F.Check body site) = record { locals = 0; checks = 1; names = distinct_names body }

-- of a whole statement
abbrev pub tally : Stmt → Tally
tally = fold-Stmt Tally tally_node

-- of statements
abbrev pub tally_all : List Stmt → Tally
tally_all ss = all_of (map tally ss)

-- The targets of stores and of `cas` are fields and shared variables, as the grammar has them.
use Rattle.std.specs.Prelude.{Bool, true, false, ◌&&◌, List, [], ◌∷◌, map, Option, Some, None}
use Rattle.st_ast.specs.declared.expressions.Expr.{Expr, out-Expr}
use Rattle.st_ast.specs.declared.expressions.Expr.TheOpen.{Expr-F}
use Rattle.st_ast.specs.declared.statements.Stmt.{Stmt}
use Rattle.st_ast.specs.declared.statements.Stmt.TheOpen.{Stmt-F}
use Rattle.st_ast.specs.declared.statements.Stmt.TheFolds.{fold-Stmt}
use Rattle.st_ast.specs.declared.statements.Value.{Value}
use Rattle.st_ast.specs.declared.statements.Value.TheVariants as values

-- the outermost node is that of a field or of a shared variable
abbrev pub is_place_layer : Expr-F Expr → Bool
is_place_layer (Expr-F.Shared name site) = true
is_place_layer (Expr-F.Field object name site) = true
is_place_layer x = false

-- a field of an object, or a shared variable
abbrev pub is_place : Expr → Bool
is_place e = is_place_layer (out-Expr e)

-- where the value is a `cas`, it has a place
abbrev pub has_target : Value → Bool
has_target (values.Plain e) = true
has_target (values.New class site) = true
has_target (values.Cas place expect value site) = is_place place

-- all of some are true
abbrev pub are_all : List Bool → Bool
are_all [] = true
are_all (b ∷ bs) = b && are_all bs

-- all behind `else` are, if there are any
abbrev pub others_are : Option (List Bool) → Bool
others_are None = true
others_are (Some bs) = are_all bs

-- each target in a statement is a place, once this is known of its blocks
abbrev pub targets_node : Stmt-F Bool → Bool
targets_node (Stmt-F.Var name name_site kind value site) = has_target value
targets_node (Stmt-F.Assign name value site) = has_target value
targets_node (Stmt-F.Put place value site) = is_place place && has_target value
targets_node (Stmt-F.If cond first other site) = are_all first && others_are other
targets_node (Stmt-F.While cond body site) = are_all body
targets_node (Stmt-F.Call name args site) = true
targets_node (Stmt-F.Check body site) = true

-- each target in the statement is a place
abbrev pub has_targets : Stmt → Bool
has_targets = fold-Stmt Bool targets_node

-- each target in the statements
abbrev pub have_targets : List Stmt → Bool
have_targets ss = are_all (map has_targets ss)

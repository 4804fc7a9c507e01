-- Trees without their places. Two trees are the same but for places where they are equal without them.
use Rattle.std.specs.Prelude.{◌≡◌, map}
use Rattle.st_events.specs.declared.events.Site.{Site}
use Rattle.st_ast.specs.declared.declarations.Class.{Class}
use Rattle.st_ast.specs.declared.declarations.Field.{Field}
use Rattle.st_ast.specs.declared.declarations.Param.{Param}
use Rattle.st_ast.specs.declared.declarations.Pred.{Pred}
use Rattle.st_ast.specs.declared.declarations.Proc.{Proc}
use Rattle.st_ast.specs.declared.declarations.Program.{Program}
use Rattle.st_ast.specs.declared.declarations.Thread.{Thread}
use Rattle.st_ast.specs.declared.declarations.TypeName.{TypeName}
use Rattle.st_ast.specs.declared.declarations.TypeName.TheVariants as types
use Rattle.st_ast.specs.declared.expressions.Expr.{Expr, fold-Expr}
use Rattle.st_ast.specs.declared.expressions.Expr.TheOpen.{Expr-F}
use Rattle.st_ast.specs.declared.expressions.Expr.TheVariants as expr
use Rattle.st_ast.specs.declared.statements.Stmt.{Stmt, fold-Stmt}
use Rattle.st_ast.specs.declared.statements.Stmt.TheOpen.{Stmt-F}
use Rattle.st_ast.specs.declared.statements.Stmt.TheVariants as stmt
use Rattle.st_ast.specs.declared.statements.Value.{Value}
use Rattle.st_ast.specs.declared.statements.Value.TheVariants as value

-- the place that stands for none
abbrev pub nowhere : Site
nowhere = record { line = 0; column = 0 }

-- one level of an expression, whose parts are without places already
abbrev pub expr_layer : Expr-F Expr → Expr
expr_layer (Expr-F.Number value site) = expr.Number value nowhere
expr_layer (Expr-F.Truth value site) = expr.Truth value nowhere
expr_layer (Expr-F.Null site) = expr.Null nowhere
expr_layer (Expr-F.Local name site) = expr.Local name nowhere
expr_layer (Expr-F.Call name args site) = expr.Call name args nowhere
expr_layer (Expr-F.Shared name site) = expr.Shared name nowhere
expr_layer (Expr-F.Field object name site) = expr.Field object name nowhere
expr_layer (Expr-F.Paren inner site) = expr.Paren inner nowhere
expr_layer (Expr-F.Not inner site) = expr.Not inner nowhere
expr_layer (Expr-F.Minus inner site) = expr.Minus inner nowhere
expr_layer (Expr-F.Binary op left right site) = expr.Binary op left right nowhere
expr_layer (Expr-F.Cond test left right site) = expr.Cond test left right nowhere

-- an expression without its places
unfoldable pub bare_expr : Expr → Expr
bare_expr e = fold-Expr Expr expr_layer e

-- a type; the place of a class's name goes
abbrev pub bare_type : TypeName → TypeName
bare_type types.Int = types.Int
bare_type types.Bool = types.Bool
bare_type (types.Class name site) = types.Class name nowhere

-- what stands to the right of `=`
abbrev pub bare_value : Value → Value
bare_value (value.Plain e) = value.Plain (bare_expr e)
bare_value (value.New class site) = value.New class nowhere
bare_value (value.Cas place expect e site) = value.Cas (bare_expr place) (bare_expr expect) (bare_expr e) nowhere

-- one level of a statement, whose blocks are without places already
abbrev pub stmt_layer : Stmt-F Stmt → Stmt
stmt_layer (Stmt-F.Var name name_site kind value site) = stmt.Var name nowhere (bare_type kind) (bare_value value) nowhere
stmt_layer (Stmt-F.Assign name value site) = stmt.Assign name (bare_value value) nowhere
stmt_layer (Stmt-F.Put place value site) = stmt.Put (bare_expr place) (bare_value value) nowhere
stmt_layer (Stmt-F.If cond then other site) = stmt.If (bare_expr cond) then other nowhere
stmt_layer (Stmt-F.While cond body site) = stmt.While (bare_expr cond) body nowhere
stmt_layer (Stmt-F.Call name args site) = stmt.Call name (map bare_expr args) nowhere
stmt_layer (Stmt-F.Check body site) = stmt.Check (bare_expr body) nowhere

-- a statement without its places
unfoldable pub bare_stmt : Stmt → Stmt
bare_stmt s = fold-Stmt Stmt stmt_layer s

-- a field or a shared variable keeps its name and its type
abbrev pub bare_field : Field → Field
bare_field field = record { name = field.name; kind = bare_type field.kind; site = nowhere }

-- a class keeps its name and its fields
abbrev pub bare_class : Class → Class
bare_class class = record { name = class.name; fields = map bare_field class.fields; site = nowhere }

-- a parameter keeps its name and its type
abbrev pub bare_param : Param → Param
bare_param param = record { name = param.name; kind = bare_type param.kind; site = nowhere }

-- a predicate loses the places in its parameters, its result and its body too
abbrev pub bare_pred : Pred → Pred
bare_pred pred = record {
  name = pred.name;
  params = map bare_param pred.params;
  result = bare_type pred.result;
  body = bare_expr pred.body;
  site = nowhere;
}

-- so does a procedure, in its parameters and its statements
abbrev pub bare_proc : Proc → Proc
bare_proc proc = record { name = proc.name; params = map bare_param proc.params; body = map bare_stmt proc.body; site = nowhere }

-- and a thread, in its statements
abbrev pub bare_thread : Thread → Thread
bare_thread thread = record { name = thread.name; body = map bare_stmt thread.body; site = nowhere }

-- a program without its places
unfoldable pub bare : Program → Program
bare p = record {
  classes = map bare_class p.classes;
  shared = map bare_field p.shared;
  preds = map bare_pred p.preds;
  procs = map bare_proc p.procs;
  threads = map bare_thread p.threads;
}

-- the same but for places
abbrev pub IsSameButForPlaces : Program → Program → Type 0
IsSameButForPlaces p q = bare p ≡ bare q

-- The readers of statements and declarations again, for any limits on the terminals: the grammar itself has none.
use Rattle.std.specs.Prelude.{ℕ, zero, suc, Bool, true, false, not, if◌then◌else◌, nat_lt, List, [], ◌∷◌, ◌++◌, length, Option, Some, None, is_some, Result, Ok, Err}
use Rattle.st_ast.specs.declared.declarations.Class.{Class}
use Rattle.st_ast.specs.declared.declarations.Field.{Field}
use Rattle.st_ast.specs.declared.declarations.Param.{Param}
use Rattle.st_ast.specs.declared.declarations.Pred.{Pred}
use Rattle.st_ast.specs.declared.declarations.Proc.{Proc}
use Rattle.st_ast.specs.declared.declarations.Program.{Program}
use Rattle.st_ast.specs.declared.declarations.Thread.{Thread}
use Rattle.st_ast.specs.declared.declarations.TypeName.{TypeName}
use Rattle.st_ast.specs.declared.declarations.TypeName.TheVariants as types
use Rattle.st_ast.specs.declared.expressions.Expr.{Expr}
use Rattle.st_ast.specs.declared.expressions.Expr.TheVariants as expr
use Rattle.st_ast.specs.declared.operators.Op.{Op}
use Rattle.st_ast.specs.declared.statements.Stmt.{Stmt}
use Rattle.st_ast.specs.declared.statements.Stmt.TheVariants as stmt
use Rattle.st_ast.specs.declared.statements.Value.{Value}
use Rattle.st_ast.specs.declared.statements.Value.TheVariants as value
use Rattle.st_ast.specs.Sites.{site_of_expr}
use Rattle.st_grammar.specs.declared.operators.Chain.{Chain}
use Rattle.st_grammar.specs.declared.operators.Chain.TheVariants as chain
use Rattle.st_grammar_laws.specs.declared.levels.Level.{Level}
use Rattle.st_grammar_laws.specs.declared.levels.Level.TheVariants as level
use Rattle.st_grammar.specs.declared.sorts.Sort.{Sort}
use Rattle.st_grammar.specs.declared.sorts.Sort.TheVariants as sort
use Rattle.st_grammar.specs.Operators.{chained, compared}
use Rattle.st_grammar.specs.Sorts.{same_sort}
use Rattle.st_grammar.specs.Terminals.{Terminal, next_sort}
use Rattle.st_grammar_laws.specs.Reading.{Outcome, Reader, and_then, ◌>>=◌, ◌>>◌, pure, ◌<$>◌, refuse, peek, sees}
use Rattle.st_grammar_laws.specs.Reading.{see, take_any, expect, if_shorter, turns_from, turns, one_more, many, is_sort, after_comma}
use Rattle.st_grammar_laws.specs.Reading.{listed, enclosed, field_after, fields_after, shared_field, place_after, place_by, place, literal_by, literal}
use Rattle.st_grammar_laws.specs.Reading.{is_operator, args, named, paren, primary_by, primary, postfix, unary_by, unary, binary}
use Rattle.st_grammar_laws.specs.Reading.{link, linked, term, sum, cmp_after, cmp, and, or, operand_of, branches}
use Rattle.st_grammar_laws.specs.Reading.{choice, nested, type_by, type_name, typed, new_value, in_block, field, fields, class}
use Rattle.st_grammar_laws.specs.Reading.{shared_block, param, params, finish}

module _ (tokens braces : ℕ) where
  -- an expression that nests no deeper than the limit on tokens allows
  unfoldable pub whole : Reader Expr
  whole = nested (suc tokens) level.Whole

  -- "cas" "(" place "," expr "," expr ")"
  unfoldable pub cas_value : Reader Value
  cas_value = do
    word ← expect sort.Cas
    expect sort.OpenParen
    at ← place
    expect sort.Comma
    wanted ← whole
    expect sort.Comma
    e ← whole
    expect sort.CloseParen
    pure (value.Cas at wanted e word.site)

  abbrev pub value_by : Sort → Reader Value
  value_by sort.New = new_value
  value_by sort.Cas = cas_value
  value_by _ = value.Plain <$> whole

  -- value
  unfoldable pub value_here : Reader Value
  value_here = peek >>= value_by

  -- "=" value ";"
  unfoldable pub assigned : Reader Value
  assigned = do
    expect sort.Assign
    v ← value_here
    expect sort.Semicolon
    pure v

  -- "var" name ":" type "=" value ";"
  unfoldable pub var_stmt : Reader Stmt
  var_stmt = do
    word ← expect sort.Var
    name ← expect sort.Name
    kind ← typed
    v ← assigned
    pure (stmt.Var name.bytes name.site kind v word.site)

  -- "=" value ";" after a place
  unfoldable pub put_after : Expr → Reader Stmt
  put_after at = (λ v. stmt.Put at v (site_of_expr at)) <$> assigned

  -- "(" [ args ] ")" ";" after a name
  unfoldable pub call_after : Terminal → Reader Stmt
  call_after name = do
    expect sort.OpenParen
    found ← enclosed (listed whole)
    expect sort.Semicolon
    pure (stmt.Call name.bytes found name.site)

  -- "=" value ";" after a name
  abbrev pub assign_after : Terminal → Reader Stmt
  assign_after name = (λ v. stmt.Assign name.bytes v name.site) <$> assigned

  abbrev pub after_name : Terminal → Sort → Reader Stmt
  after_name name sort.Assign = assign_after name
  after_name name sort.OpenParen = call_after name
  after_name name sort.Dot = place_after name >>= put_after
  after_name name _ = refuse

  -- a statement that begins with a name
  unfoldable pub named_stmt : Reader Stmt
  named_stmt = expect sort.Name >>= (λ name. peek >>= after_name name)

  -- a statement that begins with the shared object
  unfoldable pub shared_stmt : Reader Stmt
  shared_stmt = place >>= put_after

  -- "check" expr ";"
  unfoldable pub check_stmt : Reader Stmt
  check_stmt = do
    word ← expect sort.Check
    body ← whole
    expect sort.Semicolon
    pure (stmt.Check body word.site)

  -- "(" expr ")"
  unfoldable pub condition : Reader Expr
  condition = do
    expect sort.OpenParen
    e ← whole
    expect sort.CloseParen
    pure e

  -- What the rules with blocks make, where `inner_block` reads the blocks inside.
  module _ (inner_block : Reader (List Stmt)) where
    -- [ "else" block ]
    unfoldable pub else_part : Reader (Option (List Stmt))
    else_part = do
      is_else ← see sort.Else
      if is_else then (expect sort.Else >> Some <$> inner_block) else pure None

    -- "if" "(" expr ")" block [ "else" block ]
    unfoldable pub if_stmt : Reader Stmt
    if_stmt = do
      word ← expect sort.If
      test ← condition
      body ← inner_block
      other ← else_part
      pure (stmt.If test body other word.site)

    -- "while" "(" expr ")" block
    unfoldable pub while_stmt : Reader Stmt
    while_stmt = do
      word ← expect sort.While
      test ← condition
      body ← inner_block
      pure (stmt.While test body word.site)

    abbrev pub stmt_by : Sort → Reader Stmt
    stmt_by sort.Var = var_stmt
    stmt_by sort.Name = named_stmt
    stmt_by sort.Shared = shared_stmt
    stmt_by sort.If = if_stmt
    stmt_by sort.While = while_stmt
    stmt_by sort.Check = check_stmt
    stmt_by _ = refuse

    -- stmt
    unfoldable pub statement : Reader Stmt
    statement = peek >>= stmt_by

    -- "{" { stmt } "}"
    unfoldable pub block_of : Reader (List Stmt)
    block_of = do
      expect sort.OpenBrace
      body ← many in_block statement
      expect sort.CloseBrace
      pure body

  -- blocks that nest no deeper than the number
  unfoldable pub blocks : ℕ → Reader (List Stmt)
  blocks zero = refuse
  blocks (suc depth) = block_of (blocks depth)

  -- a block that nests no deeper than the limit on braces allows
  unfoldable pub body_block : Reader (List Stmt)
  body_block = blocks (suc braces)

  -- "pred" name "(" [ params ] ")" ":" type "=" expr ";"
  unfoldable pub pred : Reader Pred
  pred = do
    expect sort.Pred
    name ← expect sort.Name
    found ← params
    kind ← typed
    expect sort.Assign
    e ← whole
    expect sort.Semicolon
    pure (record { name = name.bytes; params = found; result = kind; body = e; site = name.site })

  -- "proc" name "(" [ params ] ")" block
  unfoldable pub proc : Reader Proc
  proc = do
    expect sort.Proc
    name ← expect sort.Name
    found ← params
    body ← body_block
    pure (record { name = name.bytes; params = found; body = body; site = name.site })

  -- "thread" name block
  unfoldable pub thread : Reader Thread
  thread = do
    expect sort.Thread
    name ← expect sort.Name
    body ← body_block
    pure (record { name = name.bytes; body = body; site = name.site })

  -- { class } [ shared ] { pred } { proc } { thread }, and then the end
  unfoldable pub program : Reader Program
  program = do
    classes ← many (is_sort sort.Class) class
    shared ← shared_block
    preds ← many (is_sort sort.Pred) pred
    procs ← many (is_sort sort.Proc) proc
    threads ← many (is_sort sort.Thread) thread
    finish
    pure (record { classes = classes; shared = shared; preds = preds; procs = procs; threads = threads })

-- Reading terminals from the front: what each part of the grammar makes of them. Each function decides by the next terminal.
-- Where a reader stops at a fault, its answer is the terminals from the fault on.
use Rattle.std.specs.Prelude.{ℕ, zero, suc, Bool, true, false, not, if◌then◌else◌, nat_lt, List, [], ◌∷◌, ◌++◌, length, Option, Some, None, is_some, Result, Ok, Err}
use Rattle.st_ast.specs.declared.declarations.Class.{Class}
use Rattle.st_ast.specs.declared.declarations.Field.{Field}
use Rattle.st_ast.specs.declared.declarations.Param.{Param}
use Rattle.st_ast.specs.declared.declarations.Pred.{Pred}
use Rattle.st_ast.specs.declared.declarations.Proc.{Proc}
use Rattle.st_ast.specs.declared.declarations.Program.{Program}
use Rattle.st_ast.specs.declared.declarations.Thread.{Thread}
use Rattle.st_ast.specs.declared.declarations.TypeName.{TypeName}
use Rattle.st_ast.specs.declared.declarations.TypeName.TheVariants as types
use Rattle.st_ast.specs.declared.expressions.Expr.{Expr}
use Rattle.st_ast.specs.declared.expressions.Expr.TheVariants as expr
use Rattle.st_ast.specs.declared.operators.Op.{Op}
use Rattle.st_ast.specs.declared.statements.Stmt.{Stmt}
use Rattle.st_ast.specs.declared.statements.Stmt.TheVariants as stmt
use Rattle.st_ast.specs.declared.statements.Value.{Value}
use Rattle.st_ast.specs.declared.statements.Value.TheVariants as value
use Rattle.st_ast.specs.Sites.{site_of_expr}
use Rattle.st_grammar.specs.declared.operators.Chain.{Chain}
use Rattle.st_grammar.specs.declared.operators.Chain.TheVariants as chain
use Rattle.st_grammar_laws.specs.declared.levels.Level.{Level}
use Rattle.st_grammar_laws.specs.declared.levels.Level.TheVariants as level
use Rattle.st_ast.specs.declared.limits.TheConstants.{MOST_OPEN_BRACES}
use Rattle.st_grammar.specs.declared.limits.TheConstants.{MOST_TOKENS_BETWEEN}
use Rattle.st_grammar.specs.declared.sorts.Sort.{Sort}
use Rattle.st_grammar.specs.declared.sorts.Sort.TheVariants as sort
use Rattle.st_grammar.specs.Operators.{chained, compared}
use Rattle.st_grammar.specs.Sorts.{same_sort}
use Rattle.st_grammar.specs.Terminals.{Terminal, next_sort}

-- what was read and the terminals after it, or the terminals from the fault on
abbrev pub Outcome : Type 0 → Type 0
Outcome A = Result (A × List Terminal) (List Terminal)

-- a function from the terminals that are left
abbrev pub Reader : Type 0 → Type 0
Reader A = List Terminal → Outcome A

-- on from what was read and what is left; a fault stays
abbrev pub and_then : {A B : Type 0} → Outcome A → (A → Reader B) → Outcome B
and_then (Ok p) f = f p.0 p.1
and_then (Err rest) f = Err rest

infixl 10 ◌>>=◌
-- one reader, and then the one that its result chooses
abbrev pub ◌>>=◌ : {A B : Type 0} → Reader A → (A → Reader B) → Reader B
r >>= f = λ ts. and_then (r ts) f

infixl 10 ◌>>◌
-- one reader, and then another, whose result alone is kept
abbrev pub ◌>>◌ : {A B : Type 0} → Reader A → Reader B → Reader B
r >> s = r >>= (λ _. s)

-- takes nothing and makes this
abbrev pub pure : {A : Type 0} → A → Reader A
pure a = λ ts. Ok (a, ts)

infixr 11 ◌<$>◌
-- a reader, of whose result something else is made
abbrev pub ◌<$>◌ : {A B : Type 0} → (A → B) → Reader A → Reader B
f <$> r = r >>= (λ x. pure (f x))

-- the fault is here
abbrev pub refuse : {A : Type 0} → Reader A
refuse = λ ts. Err ts

-- the sort of the next terminal, which is not taken
abbrev pub peek : Reader Sort
peek = λ ts. Ok (next_sort ts, ts)

-- the next terminal is of the sort
unfoldable pub sees : Sort → List Terminal → Bool
sees sort ts = same_sort (next_sort ts) sort

-- whether the next terminal is of the sort; it is not taken
abbrev pub see : Sort → Reader Bool
see sort = λ ts. Ok (sees sort ts, ts)

-- the next terminal, whatever its sort
unfoldable pub take_any : Reader Terminal
take_any [] = Err []
take_any (t ∷ ts) = Ok (t, ts)

-- the next terminal, which is to be of the sort
unfoldable pub expect : Sort → Reader Terminal
expect sort [] = Err []
expect sort (t ∷ ts) = if same_sort t.sort sort then Ok (t, ts) else Err (t ∷ ts)

-- goes on where fewer terminals are left than before
abbrev pub if_shorter : {A : Type 0} → List Terminal → Reader A → Reader A
if_shorter ts r = λ us. if nat_lt (length us) (length ts) then r us else Err us

-- turns while the next terminal asks for one; the number is at least that of the terminals
unfoldable pub turns_from : {A : Type 0} → (Sort → Bool) → (A → Reader A) → ℕ → A → Reader A
turns_from asks turn n x [] = Ok (x, [])
turns_from asks turn zero x (t ∷ ts) = Err (t ∷ ts)
turns_from asks turn (suc n) x (t ∷ ts) =
    if asks t.sort then and_then (turn x (t ∷ ts)) (λ y. if_shorter (t ∷ ts) (turns_from asks turn n y)) else Ok (x, t ∷ ts)

-- turns while the next terminal asks for one, each from what the one before made
unfoldable pub turns : {A : Type 0} → (Sort → Bool) → (A → Reader A) → A → Reader A
turns asks turn x = λ ts. turns_from asks turn (length ts) x ts

-- one more item of a list
abbrev pub one_more : {A : Type 0} → Reader A → List A → Reader (List A)
one_more item items = (λ x. items ++ x ∷ []) <$> item

-- { item }, where the next terminal tells whether another comes
unfoldable pub many : {A : Type 0} → (Sort → Bool) → Reader A → Reader (List A)
many asks item = turns asks (one_more item) []

-- asks for a turn at terminals of one sort
abbrev pub is_sort : Sort → Sort → Bool
is_sort wanted sort = same_sort sort wanted

-- "," item
abbrev pub after_comma : {A : Type 0} → Reader A → Reader A
after_comma item = expect sort.Comma >> item

-- item { "," item }
unfoldable pub listed : {A : Type 0} → Reader A → Reader (List A)
listed item = item >>= (λ first. turns (is_sort sort.Comma) (one_more (after_comma item)) (first ∷ []))

-- [ list ] ")", where the list has no closing parenthesis in it
unfoldable pub enclosed : {A : Type 0} → Reader (List A) → Reader (List A)
enclosed list = do
  is_empty ← see sort.CloseParen
  items ← if is_empty then pure [] else list
  expect sort.CloseParen
  pure items

-- { "." name } after an object
unfoldable pub field_after : Expr → Reader Expr
field_after object = do
  dot ← expect sort.Dot
  name ← expect sort.Name
  pure (expr.Field object name.bytes dot.site)

-- as many fields as there are
unfoldable pub fields_after : Expr → Reader Expr
fields_after object = turns (is_sort sort.Dot) field_after object

-- "shared" "." name
unfoldable pub shared_field : Reader Expr
shared_field = do
  expect sort.Shared
  dot ← expect sort.Dot
  name ← expect sort.Name
  pure (expr.Shared name.bytes dot.site)

-- the fields of a place that begins with this local: at least one
unfoldable pub place_after : Terminal → Reader Expr
place_after object = field_after (expr.Local object.bytes object.site) >>= fields_after

-- a place begins with `shared` or with a name
abbrev pub place_by : Sort → Reader Expr
place_by sort.Shared = shared_field >>= fields_after
place_by _ = expect sort.Name >>= place_after

-- place
unfoldable pub place : Reader Expr
place = peek >>= place_by

-- a literal is one terminal
abbrev pub literal_by : Sort → Reader Expr
literal_by sort.Number = (λ t. expr.Number t.value t.site) <$> take_any
literal_by sort.True = (λ t. expr.Truth true t.site) <$> take_any
literal_by sort.False = (λ t. expr.Truth false t.site) <$> take_any
literal_by sort.Null = (λ t. expr.Null t.site) <$> take_any
literal_by _ = refuse

-- number | "true" | "false" | "null"
unfoldable pub literal : Reader Expr
literal = peek >>= literal_by

-- asks for a turn at an operator of the level
abbrev pub is_operator : Chain → Sort → Bool
is_operator chain sort = is_some (chained chain sort)

-- What the rules of expressions make, where `inner` reads the expressions inside.
module _ (inner : Level → Reader Expr) where
  -- [ args ] ")"
  unfoldable pub args : Reader (List Expr)
  args = enclosed (listed (inner level.Whole))

  -- name | name "(" [ args ] ")"
  unfoldable pub named : Reader Expr
  named = do
    name ← expect sort.Name
    is_call ← see sort.OpenParen
    if is_call then (expect sort.OpenParen >> (λ found. expr.Call name.bytes found name.site) <$> args) else pure (expr.Local name.bytes name.site)

  -- "(" expr ")"
  unfoldable pub paren : Reader Expr
  paren = do
    opening ← expect sort.OpenParen
    e ← inner level.Whole
    expect sort.CloseParen
    pure (expr.Paren e opening.site)

  -- a primary by its first terminal
  abbrev pub primary_by : Sort → Reader Expr
  primary_by sort.Name = named
  primary_by sort.Shared = shared_field
  primary_by sort.OpenParen = paren
  primary_by _ = literal

  -- named | shared field | paren | literal
  unfoldable pub primary : Reader Expr
  primary = peek >>= primary_by

  -- primary { "." name }
  unfoldable pub postfix : Reader Expr
  postfix = primary >>= fields_after

  -- a sign before another unary, or none
  abbrev pub unary_by : Sort → Reader Expr
  unary_by sort.Not = take_any >>= (λ mark. (λ e. expr.Not e mark.site) <$> inner level.Prefixed)
  unary_by sort.Minus = take_any >>= (λ mark. (λ e. expr.Minus e mark.site) <$> inner level.Prefixed)
  unary_by _ = postfix

  -- "!" unary | "-" unary | postfix
  unfoldable pub unary : Reader Expr
  unary = peek >>= unary_by

  -- the operator, which is taken, and its right operand
  abbrev pub binary : Reader Expr → Expr → Option Op → Reader Expr
  binary operand left None = refuse
  binary operand left (Some op) = take_any >>= (λ mark. (λ right. expr.Binary op left right mark.site) <$> operand)

  -- the next operator of the level and its right operand
  unfoldable pub link : Chain → Reader Expr → Expr → Reader Expr
  link chain operand left = peek >>= (λ sort. binary operand left (chained chain sort))

  -- operand { operator operand }, grouped to the left
  unfoldable pub linked : Chain → Reader Expr → Reader Expr
  linked chain operand = operand >>= turns (is_operator chain) (link chain operand)

  -- unary { ( "*" | "/" | "%" ) unary }
  unfoldable pub term : Reader Expr
  term = linked chain.Product unary

  -- term { ( "+" | "-" ) term }
  unfoldable pub sum : Reader Expr
  sum = linked chain.Sum term

  -- a sum with or without a comparison behind it
  abbrev pub cmp_after : Expr → Option Op → Reader Expr
  cmp_after left None = pure left
  cmp_after left (Some op) = binary sum left (Some op)

  -- sum [ comparison sum ]
  unfoldable pub cmp : Reader Expr
  cmp = do
    left ← sum
    sort ← peek
    cmp_after left (compared sort)

  -- cmp { "&&" cmp }
  unfoldable pub and : Reader Expr
  and = linked chain.Both cmp

  -- and { "||" and }
  unfoldable pub or : Reader Expr
  or = linked chain.Either and

  -- the operands of the operators of a level
  abbrev pub operand_of : Chain → Reader Expr
  operand_of chain.Either = and
  operand_of chain.Both = cmp
  operand_of chain.Sum = term
  operand_of chain.Product = unary

  -- "?" expr ":" expr, after its test
  unfoldable pub branches : Expr → Reader Expr
  branches test = do
    question ← expect sort.Question
    left ← inner level.Whole
    expect sort.Colon
    right ← inner level.Whole
    pure (expr.Cond test left right question.site)

  -- or [ "?" expr ":" expr ]
  unfoldable pub choice : Reader Expr
  choice = do
    test ← or
    is_cond ← see sort.Question
    if is_cond then branches test else pure test

-- expressions that nest no deeper than the number
unfoldable pub nested : ℕ → Level → Reader Expr
nested zero level = refuse
nested (suc depth) level.Whole = choice (nested depth)
nested (suc depth) level.Prefixed = unary (nested depth)

-- a type is one terminal: a word, or the name of a class
abbrev pub type_by : Sort → Reader TypeName
type_by sort.Int = (λ t. types.Int) <$> take_any
type_by sort.Bool = (λ t. types.Bool) <$> take_any
type_by sort.Name = (λ t. types.Class t.bytes t.site) <$> take_any
type_by _ = refuse

-- type
unfoldable pub type_name : Reader TypeName
type_name = peek >>= type_by

-- ":" type
unfoldable pub typed : Reader TypeName
typed = expect sort.Colon >> type_name

-- an expression that nests no deeper than the limit on tokens allows
unfoldable pub whole : Reader Expr
whole = nested (suc MOST_TOKENS_BETWEEN) level.Whole

-- "new" name
unfoldable pub new_value : Reader Value
new_value = do
  word ← expect sort.New
  name ← expect sort.Name
  pure (value.New name.bytes word.site)

-- "cas" "(" place "," expr "," expr ")"
unfoldable pub cas_value : Reader Value
cas_value = do
  word ← expect sort.Cas
  expect sort.OpenParen
  at ← place
  expect sort.Comma
  wanted ← whole
  expect sort.Comma
  e ← whole
  expect sort.CloseParen
  pure (value.Cas at wanted e word.site)

-- `new` and `cas` begin values of their own; all else is an expression
abbrev pub value_by : Sort → Reader Value
value_by sort.New = new_value
value_by sort.Cas = cas_value
value_by _ = value.Plain <$> whole

-- value
unfoldable pub value_here : Reader Value
value_here = peek >>= value_by

-- "=" value ";"
unfoldable pub assigned : Reader Value
assigned = do
  expect sort.Assign
  v ← value_here
  expect sort.Semicolon
  pure v

-- "var" name ":" type "=" value ";"
unfoldable pub var_stmt : Reader Stmt
var_stmt = do
  word ← expect sort.Var
  name ← expect sort.Name
  kind ← typed
  v ← assigned
  pure (stmt.Var name.bytes name.site kind v word.site)

-- "=" value ";" after a place
unfoldable pub put_after : Expr → Reader Stmt
put_after at = (λ v. stmt.Put at v (site_of_expr at)) <$> assigned

-- "(" [ args ] ")" ";" after a name
unfoldable pub call_after : Terminal → Reader Stmt
call_after name = do
  expect sort.OpenParen
  found ← enclosed (listed whole)
  expect sort.Semicolon
  pure (stmt.Call name.bytes found name.site)

-- "=" value ";" after a name
abbrev pub assign_after : Terminal → Reader Stmt
assign_after name = (λ v. stmt.Assign name.bytes v name.site) <$> assigned

-- a name begins an assignment, a call, or a place to put something
abbrev pub after_name : Terminal → Sort → Reader Stmt
after_name name sort.Assign = assign_after name
after_name name sort.OpenParen = call_after name
after_name name sort.Dot = place_after name >>= put_after
after_name name _ = refuse

-- a statement that begins with a name
unfoldable pub named_stmt : Reader Stmt
named_stmt = expect sort.Name >>= (λ name. peek >>= after_name name)

-- a statement that begins with the shared object
unfoldable pub shared_stmt : Reader Stmt
shared_stmt = place >>= put_after

-- "check" expr ";"
unfoldable pub check_stmt : Reader Stmt
check_stmt = do
  word ← expect sort.Check
  body ← whole
  expect sort.Semicolon
  pure (stmt.Check body word.site)

-- "(" expr ")"
unfoldable pub condition : Reader Expr
condition = do
  expect sort.OpenParen
  e ← whole
  expect sort.CloseParen
  pure e

-- a terminal that may begin a statement of a block
abbrev pub in_block : Sort → Bool
in_block sort.CloseBrace = false
in_block sort.Other = false
in_block _ = true

-- What the rules with blocks make, where `inner_block` reads the blocks inside.
module _ (inner_block : Reader (List Stmt)) where
  -- [ "else" block ]
  unfoldable pub else_part : Reader (Option (List Stmt))
  else_part = do
    is_else ← see sort.Else
    if is_else then (expect sort.Else >> Some <$> inner_block) else pure None

  -- "if" "(" expr ")" block [ "else" block ]
  unfoldable pub if_stmt : Reader Stmt
  if_stmt = do
    word ← expect sort.If
    test ← condition
    body ← inner_block
    other ← else_part
    pure (stmt.If test body other word.site)

  -- "while" "(" expr ")" block
  unfoldable pub while_stmt : Reader Stmt
  while_stmt = do
    word ← expect sort.While
    test ← condition
    body ← inner_block
    pure (stmt.While test body word.site)

  -- a statement by its first terminal
  abbrev pub stmt_by : Sort → Reader Stmt
  stmt_by sort.Var = var_stmt
  stmt_by sort.Name = named_stmt
  stmt_by sort.Shared = shared_stmt
  stmt_by sort.If = if_stmt
  stmt_by sort.While = while_stmt
  stmt_by sort.Check = check_stmt
  stmt_by _ = refuse

  -- stmt
  unfoldable pub statement : Reader Stmt
  statement = peek >>= stmt_by

  -- "{" { stmt } "}"
  unfoldable pub block_of : Reader (List Stmt)
  block_of = do
    expect sort.OpenBrace
    body ← many in_block statement
    expect sort.CloseBrace
    pure body

-- blocks that nest no deeper than the number
unfoldable pub blocks : ℕ → Reader (List Stmt)
blocks zero = refuse
blocks (suc depth) = block_of (blocks depth)

-- a block that nests no deeper than the limit on braces allows
unfoldable pub body_block : Reader (List Stmt)
body_block = blocks (suc MOST_OPEN_BRACES)

-- name ":" type ";"
unfoldable pub field : Reader Field
field = do
  name ← expect sort.Name
  kind ← typed
  expect sort.Semicolon
  pure (record { name = name.bytes; kind = kind; site = name.site })

-- "{" { field } "}"
unfoldable pub fields : Reader (List Field)
fields = do
  expect sort.OpenBrace
  found ← many (is_sort sort.Name) field
  expect sort.CloseBrace
  pure found

-- "class" name "{" { field } "}"
unfoldable pub class : Reader Class
class = do
  expect sort.Class
  name ← expect sort.Name
  found ← fields
  pure (record { name = name.bytes; fields = found; site = name.site })

-- [ shared ]
unfoldable pub shared_block : Reader (List Field)
shared_block = do
  is_there ← see sort.Shared
  if is_there then (expect sort.Shared >> fields) else pure []

-- name ":" type
unfoldable pub param : Reader Param
param = do
  name ← expect sort.Name
  kind ← typed
  pure (record { name = name.bytes; kind = kind; site = name.site })

-- "(" [ params ] ")"
unfoldable pub params : Reader (List Param)
params = expect sort.OpenParen >> enclosed (listed param)

-- the end of the terminals
unfoldable pub finish : Reader (Unit {0})
finish [] = Ok (tt, [])
finish (t ∷ ts) = Err (t ∷ ts)

-- "pred" name "(" [ params ] ")" ":" type "=" expr ";"
unfoldable pub pred : Reader Pred
pred = do
  expect sort.Pred
  name ← expect sort.Name
  found ← params
  kind ← typed
  expect sort.Assign
  e ← whole
  expect sort.Semicolon
  pure (record { name = name.bytes; params = found; result = kind; body = e; site = name.site })

-- "proc" name "(" [ params ] ")" block
unfoldable pub proc : Reader Proc
proc = do
  expect sort.Proc
  name ← expect sort.Name
  found ← params
  body ← body_block
  pure (record { name = name.bytes; params = found; body = body; site = name.site })

-- "thread" name block
unfoldable pub thread : Reader Thread
thread = do
  expect sort.Thread
  name ← expect sort.Name
  body ← body_block
  pure (record { name = name.bytes; body = body; site = name.site })

-- { class } [ shared ] { pred } { proc } { thread }, and then the end
unfoldable pub program : Reader Program
program = do
  classes ← many (is_sort sort.Class) class
  shared ← shared_block
  preds ← many (is_sort sort.Pred) pred
  procs ← many (is_sort sort.Proc) proc
  threads ← many (is_sort sort.Thread) thread
  finish
  pure (record { classes = classes; shared = shared; preds = preds; procs = procs; threads = threads })

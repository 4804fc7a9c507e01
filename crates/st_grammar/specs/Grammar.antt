-- The grammar: which lists of terminals spell which trees, one case for each rule.
-- It looks at no terminal ahead, and its cases have no order.
use Rattle.std.specs.Prelude.{◌≡◌, ℕ, true, false, List, [], ◌∷◌, ◌++◌, Option, Some, None}
use Rattle.st_events.specs.declared.events.Site.{Site}
use Rattle.st_ast.specs.declared.declarations.Class.{Class}
use Rattle.st_ast.specs.declared.declarations.Field.{Field}
use Rattle.st_ast.specs.declared.declarations.Param.{Param}
use Rattle.st_ast.specs.declared.declarations.Pred.{Pred}
use Rattle.st_ast.specs.declared.declarations.Proc.{Proc}
use Rattle.st_ast.specs.declared.declarations.Program.{Program}
use Rattle.st_ast.specs.declared.declarations.Thread.{Thread}
use Rattle.st_ast.specs.declared.declarations.TypeName.{TypeName}
use Rattle.st_ast.specs.declared.declarations.TypeName.TheVariants as types
use Rattle.st_ast.specs.declared.expressions.Expr.{Expr}
use Rattle.st_ast.specs.declared.expressions.Expr.TheVariants as expr
use Rattle.st_ast.specs.declared.operators.Op.{Op}
use Rattle.st_ast.specs.declared.statements.Stmt.{Stmt}
use Rattle.st_ast.specs.declared.statements.Stmt.TheVariants as stmt
use Rattle.st_ast.specs.declared.statements.Value.{Value}
use Rattle.st_ast.specs.declared.statements.Value.TheVariants as value
use Rattle.st_ast.specs.Sites.{site_of_expr}
use Rattle.st_grammar.specs.declared.operators.Chain.TheVariants as chain
use Rattle.st_grammar.specs.declared.sorts.Sort.TheVariants as sort
use Rattle.st_grammar.specs.Operators.{IsChained, IsCompared}
use Rattle.st_grammar.specs.Terminals.{Terminal, Is}

-- { item }: any number of items, one after another
pub data AreMany {A : Type 0} (IsItem : List Terminal → A → Type 0) : List Terminal → List A → Type 0 where
  none : AreMany IsItem [] []
  more : {ts us : List Terminal} {item : A} {items : List A}
      → IsItem ts item → AreMany IsItem us items
      → AreMany IsItem (ts ++ us) (item ∷ items)

-- item { "," item }
pub data AreListed {A : Type 0} (IsItem : List Terminal → A → Type 0) : List Terminal → List A → Type 0 where
  last : {ts : List Terminal} {item : A}
      → IsItem ts item
      → AreListed IsItem ts (item ∷ [])
  next : {ts us : List Terminal} {comma : Terminal} {item : A} {items : List A}
      → IsItem ts item → Is sort.Comma comma → AreListed IsItem us items
      → AreListed IsItem (ts ++ comma ∷ us) (item ∷ items)

-- place = name "." name { "." name } | "shared" "." name { "." name }
pub data IsPlace : List Terminal → Expr → Type 0 where
  of_local : {object dot name : Terminal}
      → Is sort.Name object → Is sort.Dot dot → Is sort.Name name
      → IsPlace (object ∷ dot ∷ name ∷ []) (expr.Field (expr.Local object.bytes object.site) name.bytes dot.site)
  of_shared : {shared dot name : Terminal}
      → Is sort.Shared shared → Is sort.Dot dot → Is sort.Name name
      → IsPlace (shared ∷ dot ∷ name ∷ []) (expr.Shared name.bytes dot.site)
  of_field : {ts : List Terminal} {dot name : Terminal} {object : Expr}
      → IsPlace ts object → Is sort.Dot dot → Is sort.Name name
      → IsPlace (ts ++ dot ∷ name ∷ []) (expr.Field object name.bytes dot.site)

mutual
  -- expr = or [ "?" expr ":" expr ]
  pub data IsExpr : List Terminal → Expr → Type 0 where
    only : {ts : List Terminal} {e : Expr}
        → IsOr ts e
        → IsExpr ts e
    cond : {ts us vs : List Terminal} {question colon : Terminal} {test left right : Expr}
        → IsOr ts test → Is sort.Question question → IsExpr us left → Is sort.Colon colon → IsExpr vs right
        → IsExpr (ts ++ question ∷ us ++ colon ∷ vs) (expr.Cond test left right question.site)

  -- or = and { "||" and }
  pub data IsOr : List Terminal → Expr → Type 0 where
    or_first : {ts : List Terminal} {e : Expr}
        → IsAnd ts e
        → IsOr ts e
    or_next : {ts us : List Terminal} {mark : Terminal} {op : Op} {left right : Expr}
        → IsOr ts left → IsChained chain.Either op mark → IsAnd us right
        → IsOr (ts ++ mark ∷ us) (expr.Binary op left right mark.site)

  -- and = cmp { "&&" cmp }
  pub data IsAnd : List Terminal → Expr → Type 0 where
    and_first : {ts : List Terminal} {e : Expr}
        → IsCmp ts e
        → IsAnd ts e
    and_next : {ts us : List Terminal} {mark : Terminal} {op : Op} {left right : Expr}
        → IsAnd ts left → IsChained chain.Both op mark → IsCmp us right
        → IsAnd (ts ++ mark ∷ us) (expr.Binary op left right mark.site)

  -- cmp = sum [ ( "==" | "!=" | "<" | "<=" | ">" | ">=" ) sum ]
  pub data IsCmp : List Terminal → Expr → Type 0 where
    cmp_only : {ts : List Terminal} {e : Expr}
        → IsSum ts e
        → IsCmp ts e
    cmp_both : {ts us : List Terminal} {mark : Terminal} {op : Op} {left right : Expr}
        → IsSum ts left → IsCompared op mark → IsSum us right
        → IsCmp (ts ++ mark ∷ us) (expr.Binary op left right mark.site)

  -- sum = term { ( "+" | "-" ) term }
  pub data IsSum : List Terminal → Expr → Type 0 where
    sum_first : {ts : List Terminal} {e : Expr}
        → IsTerm ts e
        → IsSum ts e
    sum_next : {ts us : List Terminal} {mark : Terminal} {op : Op} {left right : Expr}
        → IsSum ts left → IsChained chain.Sum op mark → IsTerm us right
        → IsSum (ts ++ mark ∷ us) (expr.Binary op left right mark.site)

  -- term = unary { ( "*" | "/" | "%" ) unary }
  pub data IsTerm : List Terminal → Expr → Type 0 where
    term_first : {ts : List Terminal} {e : Expr}
        → IsUnary ts e
        → IsTerm ts e
    term_next : {ts us : List Terminal} {mark : Terminal} {op : Op} {left right : Expr}
        → IsTerm ts left → IsChained chain.Product op mark → IsUnary us right
        → IsTerm (ts ++ mark ∷ us) (expr.Binary op left right mark.site)

  -- unary = ( "!" | "-" ) unary | postfix
  pub data IsUnary : List Terminal → Expr → Type 0 where
    plain : {ts : List Terminal} {e : Expr}
        → IsPostfix ts e
        → IsUnary ts e
    not_of : {ts : List Terminal} {mark : Terminal} {inner : Expr}
        → Is sort.Not mark → IsUnary ts inner
        → IsUnary (mark ∷ ts) (expr.Not inner mark.site)
    minus_of : {ts : List Terminal} {mark : Terminal} {inner : Expr}
        → Is sort.Minus mark → IsUnary ts inner
        → IsUnary (mark ∷ ts) (expr.Minus inner mark.site)

  -- postfix = primary { "." name }
  pub data IsPostfix : List Terminal → Expr → Type 0 where
    primary : {ts : List Terminal} {e : Expr}
        → IsPrimary ts e
        → IsPostfix ts e
    field_of : {ts : List Terminal} {dot name : Terminal} {object : Expr}
        → IsPostfix ts object → Is sort.Dot dot → Is sort.Name name
        → IsPostfix (ts ++ dot ∷ name ∷ []) (expr.Field object name.bytes dot.site)

  -- primary = number | "true" | "false" | "null" | name | name "(" [ args ] ")" | "shared" "." name | "(" expr ")"
  pub data IsPrimary : List Terminal → Expr → Type 0 where
    number : {t : Terminal}
        → Is sort.Number t
        → IsPrimary (t ∷ []) (expr.Number t.value t.site)
    truth : {t : Terminal}
        → Is sort.True t
        → IsPrimary (t ∷ []) (expr.Truth true t.site)
    untruth : {t : Terminal}
        → Is sort.False t
        → IsPrimary (t ∷ []) (expr.Truth false t.site)
    null : {t : Terminal}
        → Is sort.Null t
        → IsPrimary (t ∷ []) (expr.Null t.site)
    local : {t : Terminal}
        → Is sort.Name t
        → IsPrimary (t ∷ []) (expr.Local t.bytes t.site)
    call : {name opening closing : Terminal} {ts : List Terminal} {args : List Expr}
        → Is sort.Name name → Is sort.OpenParen opening → AreArgs ts args → Is sort.CloseParen closing
        → IsPrimary (name ∷ opening ∷ ts ++ closing ∷ []) (expr.Call name.bytes args name.site)
    shared_field : {shared dot name : Terminal}
        → Is sort.Shared shared → Is sort.Dot dot → Is sort.Name name
        → IsPrimary (shared ∷ dot ∷ name ∷ []) (expr.Shared name.bytes dot.site)
    paren : {opening closing : Terminal} {ts : List Terminal} {inner : Expr}
        → Is sort.OpenParen opening → IsExpr ts inner → Is sort.CloseParen closing
        → IsPrimary (opening ∷ ts ++ closing ∷ []) (expr.Paren inner opening.site)

  -- [ args ]
  pub data AreArgs : List Terminal → List Expr → Type 0 where
    no_args : AreArgs [] []
    some_args : {ts : List Terminal} {es : List Expr}
        → AreExprs ts es
        → AreArgs ts es

  -- args = expr { "," expr }
  pub data AreExprs : List Terminal → List Expr → Type 0 where
    last_expr : {ts : List Terminal} {e : Expr}
        → IsExpr ts e
        → AreExprs ts (e ∷ [])
    next_expr : {ts us : List Terminal} {comma : Terminal} {e : Expr} {es : List Expr}
        → IsExpr ts e → Is sort.Comma comma → AreExprs us es
        → AreExprs (ts ++ comma ∷ us) (e ∷ es)

-- type = "int" | "bool" | name
pub data IsType : List Terminal → TypeName → Type 0 where
  int : {t : Terminal}
      → Is sort.Int t
      → IsType (t ∷ []) types.Int
  bool : {t : Terminal}
      → Is sort.Bool t
      → IsType (t ∷ []) types.Bool
  class_name : {t : Terminal}
      → Is sort.Name t
      → IsType (t ∷ []) (types.Class t.bytes t.site)

-- value = expr | "new" name | "cas" "(" place "," expr "," expr ")"
pub data IsValue : List Terminal → Value → Type 0 where
  of_expr : {ts : List Terminal} {e : Expr}
      → IsExpr ts e
      → IsValue ts (value.Plain e)
  new : {word name : Terminal}
      → Is sort.New word → Is sort.Name name
      → IsValue (word ∷ name ∷ []) (value.New name.bytes word.site)
  cas : {word opening comma comma' closing : Terminal} {ts us vs : List Terminal} {place expect e : Expr}
      → Is sort.Cas word → Is sort.OpenParen opening → IsPlace ts place → Is sort.Comma comma
      → IsExpr us expect → Is sort.Comma comma' → IsExpr vs e → Is sort.CloseParen closing
      → IsValue (word ∷ opening ∷ ts ++ comma ∷ us ++ comma' ∷ vs ++ closing ∷ []) (value.Cas place expect e word.site)

mutual
  -- stmt = "var" name ":" type "=" value ";" | name "=" value ";" | place "=" value ";"
  --      | "if" "(" expr ")" block [ "else" block ] | "while" "(" expr ")" block | name "(" [ args ] ")" ";" | "check" expr ";"
  pub data IsStmt : List Terminal → Stmt → Type 0 where
    var : {word name colon assign semicolon : Terminal} {ts us : List Terminal} {kind : TypeName} {v : Value}
        → Is sort.Var word → Is sort.Name name → Is sort.Colon colon → IsType ts kind
        → Is sort.Assign assign → IsValue us v → Is sort.Semicolon semicolon
        → IsStmt (word ∷ name ∷ colon ∷ ts ++ assign ∷ us ++ semicolon ∷ []) (stmt.Var name.bytes name.site kind v word.site)
    assigned : {name assign semicolon : Terminal} {ts : List Terminal} {v : Value}
        → Is sort.Name name → Is sort.Assign assign → IsValue ts v → Is sort.Semicolon semicolon
        → IsStmt (name ∷ assign ∷ ts ++ semicolon ∷ []) (stmt.Assign name.bytes v name.site)
    put : {assign semicolon : Terminal} {ts us : List Terminal} {place : Expr} {v : Value}
        → IsPlace ts place → Is sort.Assign assign → IsValue us v → Is sort.Semicolon semicolon
        → IsStmt (ts ++ assign ∷ us ++ semicolon ∷ []) (stmt.Put place v (site_of_expr place))
    if_then : {word opening closing : Terminal} {ts us vs : List Terminal} {cond : Expr} {then : List Stmt} {other : Option (List Stmt)}
        → Is sort.If word → Is sort.OpenParen opening → IsExpr ts cond → Is sort.CloseParen closing → IsBlock us then → IsElse vs other
        → IsStmt (word ∷ opening ∷ ts ++ closing ∷ us ++ vs) (stmt.If cond then other word.site)
    while_do : {word opening closing : Terminal} {ts us : List Terminal} {cond : Expr} {body : List Stmt}
        → Is sort.While word → Is sort.OpenParen opening → IsExpr ts cond → Is sort.CloseParen closing → IsBlock us body
        → IsStmt (word ∷ opening ∷ ts ++ closing ∷ us) (stmt.While cond body word.site)
    called : {name opening closing semicolon : Terminal} {ts : List Terminal} {args : List Expr}
        → Is sort.Name name → Is sort.OpenParen opening → AreArgs ts args → Is sort.CloseParen closing → Is sort.Semicolon semicolon
        → IsStmt (name ∷ opening ∷ ts ++ closing ∷ semicolon ∷ []) (stmt.Call name.bytes args name.site)
    check : {word semicolon : Terminal} {ts : List Terminal} {body : Expr}
        → Is sort.Check word → IsExpr ts body → Is sort.Semicolon semicolon
        → IsStmt (word ∷ ts ++ semicolon ∷ []) (stmt.Check body word.site)

  -- [ "else" block ]
  pub data IsElse : List Terminal → Option (List Stmt) → Type 0 where
    no_else : IsElse [] None
    else_block : {word : Terminal} {ts : List Terminal} {body : List Stmt}
        → Is sort.Else word → IsBlock ts body
        → IsElse (word ∷ ts) (Some body)

  -- block = "{" { stmt } "}"
  pub data IsBlock : List Terminal → List Stmt → Type 0 where
    block : {opening closing : Terminal} {ts : List Terminal} {body : List Stmt}
        → Is sort.OpenBrace opening → AreStmts ts body → Is sort.CloseBrace closing
        → IsBlock (opening ∷ ts ++ closing ∷ []) body

  -- { stmt }
  pub data AreStmts : List Terminal → List Stmt → Type 0 where
    no_stmts : AreStmts [] []
    more_stmts : {ts us : List Terminal} {s : Stmt} {ss : List Stmt}
        → IsStmt ts s → AreStmts us ss
        → AreStmts (ts ++ us) (s ∷ ss)

-- field = name ":" type ";"
pub data IsField : List Terminal → Field → Type 0 where
  field : {name colon semicolon : Terminal} {ts : List Terminal} {kind : TypeName}
      → Is sort.Name name → Is sort.Colon colon → IsType ts kind → Is sort.Semicolon semicolon
      → IsField (name ∷ colon ∷ ts ++ semicolon ∷ []) (record { name = name.bytes; kind = kind; site = name.site })

-- class = "class" name "{" { field } "}"
pub data IsClass : List Terminal → Class → Type 0 where
  class : {word name opening closing : Terminal} {ts : List Terminal} {fields : List Field}
      → Is sort.Class word → Is sort.Name name → Is sort.OpenBrace opening → AreMany IsField ts fields → Is sort.CloseBrace closing
      → IsClass (word ∷ name ∷ opening ∷ ts ++ closing ∷ []) (record { name = name.bytes; fields = fields; site = name.site })

-- [ shared ], where shared = "shared" "{" { field } "}"; without it there are no shared variables
pub data IsShared : List Terminal → List Field → Type 0 where
  no_shared : IsShared [] []
  shared_block : {word opening closing : Terminal} {ts : List Terminal} {fields : List Field}
      → Is sort.Shared word → Is sort.OpenBrace opening → AreMany IsField ts fields → Is sort.CloseBrace closing
      → IsShared (word ∷ opening ∷ ts ++ closing ∷ []) fields

-- one of params = name ":" type { "," name ":" type }
pub data IsParam : List Terminal → Param → Type 0 where
  param : {name colon : Terminal} {ts : List Terminal} {kind : TypeName}
      → Is sort.Name name → Is sort.Colon colon → IsType ts kind
      → IsParam (name ∷ colon ∷ ts) (record { name = name.bytes; kind = kind; site = name.site })

-- [ params ]
pub data AreParams : List Terminal → List Param → Type 0 where
  no_params : AreParams [] []
  some_params : {ts : List Terminal} {params : List Param}
      → AreListed IsParam ts params
      → AreParams ts params

-- pred = "pred" name "(" [ params ] ")" ":" type "=" expr ";"
pub data IsPred : List Terminal → Pred → Type 0 where
  pred : {word name opening closing colon assign semicolon : Terminal} {ts us vs : List Terminal}
      {params : List Param} {result : TypeName} {body : Expr}
      → Is sort.Pred word → Is sort.Name name → Is sort.OpenParen opening → AreParams ts params → Is sort.CloseParen closing
      → Is sort.Colon colon → IsType us result → Is sort.Assign assign → IsExpr vs body → Is sort.Semicolon semicolon
      → IsPred (word ∷ name ∷ opening ∷ ts ++ closing ∷ colon ∷ us ++ assign ∷ vs ++ semicolon ∷ [])
      (record { name = name.bytes; params = params; result = result; body = body; site = name.site })

-- proc = "proc" name "(" [ params ] ")" block
pub data IsProc : List Terminal → Proc → Type 0 where
  proc : {word name opening closing : Terminal} {ts us : List Terminal} {params : List Param} {body : List Stmt}
      → Is sort.Proc word → Is sort.Name name → Is sort.OpenParen opening → AreParams ts params → Is sort.CloseParen closing → IsBlock us body
      → IsProc (word ∷ name ∷ opening ∷ ts ++ closing ∷ us) (record { name = name.bytes; params = params; body = body; site = name.site })

-- thread = "thread" name block
pub data IsThread : List Terminal → Thread → Type 0 where
  thread : {word name : Terminal} {ts : List Terminal} {body : List Stmt}
      → Is sort.Thread word → Is sort.Name name → IsBlock ts body
      → IsThread (word ∷ name ∷ ts) (record { name = name.bytes; body = body; site = name.site })

-- program = { class } [ shared ] { pred } { proc } { thread }
pub data Parses : List Terminal → Program → Type 0 where
  program : {ts us vs ws xs : List Terminal}
      {classes : List Class} {shared : List Field} {preds : List Pred} {procs : List Proc} {threads : List Thread}
      → AreMany IsClass ts classes → IsShared us shared → AreMany IsPred vs preds → AreMany IsProc ws procs → AreMany IsThread xs threads
      → Parses (ts ++ us ++ vs ++ ws ++ xs)
      (record { classes = classes; shared = shared; preds = preds; procs = procs; threads = threads })

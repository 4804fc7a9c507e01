-- What each node of an expression asks, and what it is: its place, its kind, and itself with numbers in the place of names.
use Rattle.std.specs.Prelude.{ℕ, ◌==◌, Bool, true, List, [], ◌∷◌, ◌++◌, map, length, slice_get, Option, Some, None, is_some, Ok, Err, if◌then◌else◌}
use Rattle.st_events.specs.declared.events.Site.{Site}
use Rattle.st_events.specs.declared.shapes.Kind.TheVariants as kinds
use Rattle.st_ast.specs.declared.declarations.Program.{Program}
use Rattle.st_ast.specs.declared.declarations.Param.{Param}
use Rattle.st_ast.specs.declared.declarations.Pred.{Pred}
use Rattle.st_ast.specs.declared.expressions.Expr.TheOpen.{Expr-F}
use Rattle.st_ast.specs.declared.operators.Op.{Op}
use Rattle.st_ast.specs.declared.operators.Op.TheVariants as op
use Rattle.st_resolved.specs.declared.expressions.Operator.TheVariants as operator
use Rattle.st_resolved.specs.Terms.{Term, a_number, a_truth, a_null, a_local, a_shared, a_field, a_not, a_minus, a_binary, a_both, an_either, a_cond, a_call}
use Rattle.st_resolved.specs.Views.{terms_of}
use Rattle.st_types.specs.declared.errors.TypeError.{TypeError}
use Rattle.st_types.specs.declared.errors.TypeError.TheVariants.{UnknownName, Mismatch, WrongCount, NotPure, NotHere}
use Rattle.st_types.specs.declared.errors.Wanted.TheVariants as wanted
use Rattle.st_types.specs.declared.kinds.Found.{Found}
use Rattle.st_types.specs.declared.kinds.Found.TheVariants.{Unknown, Null, Known}
use Rattle.st_types.specs.declared.names.Named.{Named}
use Rattle.st_types.specs.Checked.{Checked}
use Rattle.st_types.specs.Kinds.{asks, told_as}
use Rattle.st_types.specs.Names.{kind_of, fields_of, find_field, find_local, pred_number, proc_number, param_kinds, named_kind, named_number}
use Rattle.st_types.specs.Scopes.{ScopeView}

-- what is seen of an expression: its place, its kind where it is known, and the term that it is
pub record Seen : Type 0 where
  pub site : Site
  pub kind : Found
  pub term : Term

-- the kinds of conditions and numbers
abbrev pub a_bool : Found
a_bool = Known kinds.Bool

-- the kind of numbers
abbrev pub an_int : Found
an_int = Known kinds.Int

-- a name that stands for nothing
abbrev pub asks_name : Site → Option Named → List TypeError
asks_name site None = UnknownName site ∷ []
asks_name site (Some named) = []

-- the field of this name of an object of this kind, if there is one
abbrev pub field_of : Program → Found → List ℕ → Option Named
field_of p (Known (kinds.Ref class)) name = find_field p (fields_of p class) name
field_of p kind name = None

-- `object.name` asks for an object of a class, which has the field; where the class is unknown, for nothing
abbrev pub asks_field : Program → Seen → List ℕ → Site → List TypeError
asks_field p object name site = by_kind object.kind
  where
    by_kind : Found → List TypeError
    by_kind Unknown = []
    by_kind (Known (kinds.Ref class)) = asks_name site (find_field p (fields_of p class) name)
    by_kind kind = Mismatch object.site wanted.AnyRef (told_as kind) ∷ []

-- the class of an object whose field is named, if it is known
abbrev pub class_asked : Seen → Checked (Option ℕ)
class_asked object = by_kind object.kind
  where
    by_kind : Found → Checked (Option ℕ)
    by_kind Unknown = Ok None
    by_kind (Known (kinds.Ref class)) = Ok (Some class)
    by_kind kind = Err (Mismatch object.site wanted.AnyRef (told_as kind))

-- what is asked of a left operand
abbrev pub left_asked : Op → Found
left_asked op.Equal = Unknown
left_asked op.NotEqual = Unknown
left_asked op.Both = a_bool
left_asked op.Either = a_bool
left_asked other = an_int

-- what is asked of a right operand, beside a left one of this kind
abbrev pub right_asked : Op → Found → Found
right_asked op.Equal left = left
right_asked op.NotEqual left = left
right_asked other left = left_asked other

-- the kind that an operator gives
abbrev pub op_kind : Op → Found
op_kind op.Add = an_int
op_kind op.Sub = an_int
op_kind op.Mul = an_int
op_kind op.Div = an_int
op_kind op.Rem = an_int
op_kind other = a_bool

-- the kind of the branch that is not `null`
abbrev pub branch_kind : Found → Found → Found
branch_kind Null other = other
branch_kind kind other = kind

-- each argument goes with the kind of its parameter
abbrev pub asks_each : List Found → List Seen → List TypeError
asks_each [] args = []
asks_each (kind ∷ kinds) [] = []
asks_each (kind ∷ kinds) (arg ∷ args) = asks kind arg.site arg.kind ++ asks_each kinds args

-- as many arguments as parameters, each of its kind
abbrev pub asks_args : Program → List Param → List Seen → Site → List TypeError
asks_args p params args site = if length args == length params then asks_each (param_kinds p params) args else (WrongCount site ∷ [])

-- the name is no predicate: a procedure, or nothing
abbrev pub no_predicate : Program → List ℕ → Site → List TypeError
no_predicate p name site = if is_some (proc_number p name) then (NotPure site ∷ []) else (UnknownName site ∷ [])

-- a call in a predicate or a check: of the predicate at a place, if there is one
abbrev pub asks_call : Program → List ℕ → List Seen → Site → Option Pred → List TypeError
asks_call p name args site None = no_predicate p name site
asks_call p name args site (Some pred) = asks_args p pred.params args site

-- the predicate of this name
abbrev pub find_pred : Program → List ℕ → Option Pred
find_pred p name = at_number (pred_number p name)
  where
    at_number : Option ℕ → Option Pred
    at_number None = None
    at_number (Some n) = slice_get p.preds n

-- whether the name is that of a predicate or a procedure
abbrev pub is_callable : Program → List ℕ → Bool
is_callable p name = if is_some (pred_number p name) then true else is_some (proc_number p name)

-- a call in an expression of a thread or a procedure
abbrev pub refuses_call : Program → List ℕ → Site → List TypeError
refuses_call p name site = if is_callable p name then (NotHere site ∷ []) else (UnknownName site ∷ [])

-- the kind of the value of a predicate
abbrev pub result_kind : Program → Option Pred → Found
result_kind p None = Unknown
result_kind p (Some pred) = kind_of p pred.result

-- a number; where there is none, it means nothing
abbrev pub number_or_0 : Option ℕ → ℕ
number_or_0 None = 0
number_or_0 (Some n) = n

-- an operator of two terms
abbrev pub op_term : Op → Term → Term → Site → Term
op_term op.Add a b at = a_binary operator.Add a b at
op_term op.Sub a b at = a_binary operator.Sub a b at
op_term op.Mul a b at = a_binary operator.Mul a b at
op_term op.Div a b at = a_binary operator.Div a b at
op_term op.Rem a b at = a_binary operator.Rem a b at
op_term op.Less a b at = a_binary operator.Less a b at
op_term op.LessEq a b at = a_binary operator.LessEq a b at
op_term op.Greater a b at = a_binary operator.Greater a b at
op_term op.GreaterEq a b at = a_binary operator.GreaterEq a b at
op_term op.Equal a b at = a_binary operator.Equal a b at
op_term op.NotEqual a b at = a_binary operator.NotEqual a b at
op_term op.Both a b at = a_both a b
op_term op.Either a b at = an_either a b

-- what a node asks, once its operands are seen
abbrev pub rule : ScopeView → Expr-F Seen → List TypeError
rule s (Expr-F.Number value site) = []
rule s (Expr-F.Truth value site) = []
rule s (Expr-F.Null site) = []
rule s (Expr-F.Local name site) = asks_name site (find_local s.locals name)
rule s (Expr-F.Call name args site) =
    if s.may_call then asks_call s.program name args site (find_pred s.program name) else refuses_call s.program name site
rule s (Expr-F.Shared name site) = asks_name site (find_field s.program s.program.shared name)
rule s (Expr-F.Field object name site) = asks_field s.program object name site
rule s (Expr-F.Paren inner site) = []
rule s (Expr-F.Not inner site) = asks a_bool inner.site inner.kind
rule s (Expr-F.Minus inner site) = asks an_int inner.site inner.kind
rule s (Expr-F.Binary op left right site) = asks (left_asked op) left.site left.kind ++ asks (right_asked op left.kind) right.site right.kind
rule s (Expr-F.Cond test left right site) = asks a_bool test.site test.kind ++ asks left.kind right.site right.kind

-- what a node is, once its operands are seen
abbrev pub node : ScopeView → Expr-F Seen → Seen
node s (Expr-F.Number value site) = record { site = site; kind = an_int; term = a_number value }
node s (Expr-F.Truth value site) = record { site = site; kind = a_bool; term = a_truth value }
node s (Expr-F.Null site) = record { site = site; kind = Null; term = a_null }
node s (Expr-F.Local name site) = record { site = site; kind = named_kind (find_local s.locals name); term = a_local (named_number (find_local s.locals name)) }
node s (Expr-F.Call name args site) = record {
  site = site;
  kind = result_kind s.program (find_pred s.program name);
  term = a_call (number_or_0 (pred_number s.program name)) (terms_of (map (λ arg. arg.term) args));
}
node s (Expr-F.Shared name site) = record {
  site = site;
  kind = named_kind (find_field s.program s.program.shared name);
  term = a_shared (named_number (find_field s.program s.program.shared name));
}
node s (Expr-F.Field object name site) = record {
  site = site;
  kind = named_kind (field_of s.program object.kind name);
  term = a_field object.term (named_number (field_of s.program object.kind name)) site;
}
node s (Expr-F.Paren inner site) = record { site = site; kind = inner.kind; term = inner.term }
node s (Expr-F.Not inner site) = record { site = site; kind = a_bool; term = a_not inner.term }
node s (Expr-F.Minus inner site) = record { site = site; kind = an_int; term = a_minus inner.term site }
node s (Expr-F.Binary op left right site) = record { site = site; kind = op_kind op; term = op_term op left.term right.term site }
node s (Expr-F.Cond test left right site) = record { site = site; kind = branch_kind left.kind right.kind; term = a_cond test.term left.term right.term }

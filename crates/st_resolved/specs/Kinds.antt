-- The kinds of terms: which numbers exist, and which kinds stand where. `null` has the kind of every class.
use Rattle.std.specs.Prelude.{◌≡◌, ℕ, ◌≤◌, ◌<◌, List, [], ◌∷◌, length, Some, slice_get}
use Rattle.st_events.specs.declared.shapes.Kind.{Kind}
use Rattle.st_events.specs.declared.shapes.Kind.TheVariants.{Int, Bool, Ref}
use Rattle.st_events.specs.Shape.{ShapeLists, kinds_of}
use Rattle.st_resolved.specs.declared.expressions.Operator.{Operator}
use Rattle.st_resolved.specs.declared.expressions.Operator.TheVariants.{Add, Sub, Mul, Div, Rem, Equal, NotEqual}
use Rattle.st_resolved.specs.Terms.{Term, a_number, a_truth, a_null, a_local, a_shared, a_field, a_not, a_minus, a_binary, a_both, an_either, a_cond, a_call}
use Rattle.st_resolved.specs.Terms.{Terms, no_terms, term_then, Target, to_shared, to_field, Source, from_term, from_new, from_cas, Predicate}

-- what a term stands in: the program's shape, the predicates that it may call, and the kinds of its locals
pub record Setting : Type 0 where
  pub shape : ShapeLists
  pub preds : List Predicate
  pub locals : List Kind

-- the kind is that of a class
abbrev pub IsClassKind : Kind → Type 0
IsClassKind Int = ⊥
IsClassKind Bool = ⊥
IsClassKind (Ref class) = Unit {0}

-- the kind may be that of the operands: numbers, but for `==` and `!=`, which take two words of any one kind
abbrev pub TakesKind : Operator → Kind → Type 0
TakesKind Equal kind = Unit {0}
TakesKind NotEqual kind = Unit {0}
TakesKind operator kind = kind ≡ Int

-- the kind of what an operator gives
abbrev pub kind_given : Operator → Kind
kind_given Add = Int
kind_given Sub = Int
kind_given Mul = Int
kind_given Div = Int
kind_given Rem = Int
kind_given operator = Bool

-- a term has a kind, in its setting
abbrev mutual
  pub HasKind : Setting → Term → Kind → Type 0
  HasKind s (a_number value) kind = kind ≡ Int
  HasKind s (a_truth value) kind = kind ≡ Bool
  HasKind s a_null kind = IsClassKind kind
  HasKind s (a_local local) kind = slice_get s.locals local ≡ Some kind
  HasKind s (a_shared field) kind = slice_get (kinds_of s.shape 0) field ≡ Some kind
  HasKind s (a_field object field at) kind = (class : ℕ) × HasKind s object (Ref class) × (slice_get (kinds_of s.shape class) field ≡ Some kind)
  HasKind s (a_not inner) kind = HasKind s inner Bool × (kind ≡ Bool)
  HasKind s (a_minus inner at) kind = HasKind s inner Int × (kind ≡ Int)
  HasKind s (a_binary operator left right at) kind =
      (operand : Kind) × TakesKind operator operand × HasKind s left operand × HasKind s right operand × (kind ≡ kind_given operator)
  HasKind s (a_both left right) kind = HasKind s left Bool × HasKind s right Bool × (kind ≡ Bool)
  HasKind s (an_either left right) kind = HasKind s left Bool × HasKind s right Bool × (kind ≡ Bool)
  HasKind s (a_cond test left right) kind = HasKind s test Bool × HasKind s left kind × HasKind s right kind
  HasKind s (a_call pred args) kind = (p : Predicate) × (slice_get s.preds pred ≡ Some p) × HaveKinds s args p.params × (kind ≡ p.result)

  -- arguments are as many as the kinds, each of its kind
  pub HaveKinds : Setting → Terms → List Kind → Type 0
  HaveKinds s no_terms [] = Unit {0}
  HaveKinds s (term_then t ts) (kind ∷ kinds) = HasKind s t kind × HaveKinds s ts kinds
  HaveKinds s terms kinds = ⊥

-- what is stored at the target has this kind
abbrev pub StoresKind : Setting → Target → Kind → Type 0
StoresKind s (to_shared field) kind = slice_get (kinds_of s.shape 0) field ≡ Some kind
StoresKind s (to_field object field at) kind = (class : ℕ) × HasKind s object (Ref class) × (slice_get (kinds_of s.shape class) field ≡ Some kind)

-- what stands to the right of `=` has this kind
abbrev pub GivesKind : Setting → Source → Kind → Type 0
GivesKind s (from_term t) kind = HasKind s t kind
GivesKind s (from_new class at) kind = (1 ≤ class) × (class < length s.shape.classes) × (kind ≡ Ref class)
GivesKind s (from_cas target expect value) kind =
    (stored : Kind) × StoresKind s target stored × HasKind s expect stored × HasKind s value stored × (kind ≡ Bool)

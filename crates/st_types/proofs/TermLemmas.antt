-- A term of an expression that keeps the rules has the kind that is seen of it; where that is `null`, the kind of every class.
use Rattle.std.proofs.Common.{◌≡◌, ℕ, Bool, true, false, ◌==◌, List, [], ◌∷◌, ◌++◌, map, length, Option, Some, None, refl, ap, sym, ◌∙◌, subst}
use Rattle.std.specs.Prelude.{slice_get, is_some, if◌then◌else◌}
use Rattle.std.specs.List.{AllByRecursion}
use Rattle.std.proofs.lemmas.Bool.{eqb-true}
use Rattle.std.proofs.lemmas.List.{length-map}
use Rattle.st_ast.specs.declared.declarations.Param.{Param}
use Rattle.st_ast.specs.declared.declarations.Pred.{Pred}
use Rattle.st_ast.specs.declared.declarations.Program.{Program}
use Rattle.st_ast.specs.declared.expressions.Expr.{Expr}
use Rattle.st_ast.specs.declared.expressions.Expr.TheViews.{roll-Expr}
use Rattle.st_ast.specs.declared.expressions.Expr.TheFolds.{fold-roll-Expr, ind-Expr, map-Expr}
use Rattle.st_ast.specs.declared.expressions.Expr.TheOpen.{Expr-F}
use Rattle.st_ast.specs.declared.operators.Op.{Op}
use Rattle.st_ast.specs.declared.operators.Op.TheVariants as op
use Rattle.st_events.specs.declared.events.Site.{Site}
use Rattle.st_events.specs.declared.shapes.Kind.{Kind}
use Rattle.st_events.specs.declared.shapes.Kind.TheVariants as kinds
use Rattle.st_events.specs.Shape.{kinds_of}
use Rattle.st_resolved.specs.Kinds.{Setting, HasKind, HaveKinds}
use Rattle.st_resolved.specs.Terms.{Term, a_local, a_shared, a_field, a_call, a_cond, Predicate}
use Rattle.st_resolved.specs.Views.{terms_of}
use Rattle.st_types.specs.declared.errors.TypeError.{TypeError}
use Rattle.st_types.specs.declared.kinds.Found.{Found}
use Rattle.st_types.specs.declared.kinds.Found.TheVariants.{Unknown, Null, Known}
use Rattle.st_types.specs.declared.names.Named.{Named}
use Rattle.st_types.specs.Judged.{Judged, judged, judged_node, in_order}
use Rattle.st_types.specs.Kinds.{same_kind, goes_with, asks}
use Rattle.st_types.specs.Names.{kind_of, fields_of, find_field, find_local, param_kinds, pred_number, proc_number, named_kind, named_number}
use Rattle.st_types.specs.Nodes.{Seen, a_bool, asks_name, field_of, asks_field, left_asked, right_asked, op_kind, op_term, branch_kind, asks_each, asks_args}
use Rattle.st_types.specs.Nodes.{asks_call, find_pred, refuses_call, is_callable, result_kind, number_or_0}
use Rattle.st_types.specs.Scopes.{ScopeView}
use Rattle.st_types.proofs.ShapeLemmas.{none_left, none_right}

-- what is found of a kind may be: where it is `null`, the kind of every class may
abbrev pub Allows : (Kind → Type 0) → Found → Type 0
Allows P Unknown = ⊥
Allows P Null = (class : ℕ) → P (kinds.Ref class)
Allows P (Known kind) = P kind

-- a term has what is found of its kind
abbrev pub HasFound : Setting → Term → Found → Type 0
HasFound t term found = Allows (HasKind t term) found

-- the number of a name has a kind among these, and it is the one that is found
abbrev pub HasNamed : List Kind → Named → Type 0
HasNamed among named = (kind : Kind) × (named.kind ≡ Known kind) × (slice_get among named.number ≡ Some kind)

-- a predicate of the tree and one of a program have the same kinds
abbrev pub HasKindsOf : Program → Pred → Predicate → Type 0
HasKindsOf p pred q = (kind_of p pred.result ≡ Known q.result) × (param_kinds p pred.params ≡ map Known q.params)

-- the names of a scope stand for what its setting has
pub record IsSetting (s : ScopeView) (t : Setting) : Type 0 where
  pub locals : (name : List ℕ) (named : Named) → find_local s.locals name ≡ Some named → HasNamed t.locals named
  pub shared : (name : List ℕ) (named : Named) → find_field s.program s.program.shared name ≡ Some named → HasNamed (kinds_of t.shape 0) named
  pub fields : (class : ℕ) (name : List ℕ) (named : Named) → find_field s.program (fields_of s.program class) name ≡ Some named → HasNamed (kinds_of t.shape class) named
  pub preds :
      s.may_call ≡ true → (n : ℕ) (pred : Pred) → slice_get s.program.preds n ≡ Some pred
      → (q : Predicate) × (slice_get t.preds n ≡ Some q) × HasKindsOf s.program pred q

-- two kinds that are one
same_is : (a b : Kind) → same_kind a b ≡ true → a ≡ b
same_is kinds.Int kinds.Int h = refl
same_is kinds.Int kinds.Bool h = cc
same_is kinds.Int (kinds.Ref b) h = cc
same_is kinds.Bool kinds.Int h = cc
same_is kinds.Bool kinds.Bool h = refl
same_is kinds.Bool (kinds.Ref b) h = cc
same_is (kinds.Ref a) kinds.Int h = cc
same_is (kinds.Ref a) kinds.Bool h = cc
same_is (kinds.Ref a) (kinds.Ref b) h = ap kinds.Ref (eqb-true a b h)

-- nothing is told of what is asked
passed : (b : Bool) (fault : TypeError) → (if b then [] else (fault ∷ [])) ≡ [] → b ≡ true
passed true fault h = refl
passed false fault h = cc

-- where a question has no fault, the kinds go together
pub asked_goes : (asked found : Found) (at : Site) → asks asked at found ≡ [] → goes_with asked found ≡ true
asked_goes asked found at h = passed (goes_with asked found) _ h

-- what goes with a kind is of that kind
pub allowed_as : (P : Kind → Type 0) (kind : Kind) (found : Found) → goes_with (Known kind) found ≡ true → Allows P found → P kind
allowed_as P kind Unknown h k = elim k [ ]
allowed_as P kinds.Int Null h k = cc
allowed_as P kinds.Bool Null h k = cc
allowed_as P (kinds.Ref class) Null h k = k class
allowed_as P kind (Known other) h k = subst P (sym (same_is kind other h)) k

goes_as : (t : Setting) (term : Term) (kind : Kind) (found : Found) → goes_with (Known kind) found ≡ true → HasFound t term found → HasKind t term kind
goes_as t term kind found h k = allowed_as (HasKind t term) kind found h k

-- a term that is asked for a kind without a fault has this kind
pub asked_as_kind : (t : Setting) (term : Term) (kind : Kind) (found : Found) (at : Site) → asks (Known kind) at found ≡ [] → HasFound t term found → HasKind t term kind
asked_as_kind t term kind found at h k = goes_as t term kind found (asked_goes (Known kind) found at h) k

-- two operands of which one goes with the other have one kind
operand_of : (t : Setting) (a b : Term) (left right : Found) → goes_with left right ≡ true → HasFound t a left → HasFound t b right
    → (kind : Kind) × HasKind t a kind × HasKind t b kind
operand_of t a b Unknown right h x y = elim x [ ]
operand_of t a b Null Unknown h x y = elim y [ ]
operand_of t a b Null Null h x y = (kinds.Ref 1, x 1, y 1)
operand_of t a b Null (Known kinds.Int) h x y = cc
operand_of t a b Null (Known kinds.Bool) h x y = cc
operand_of t a b Null (Known (kinds.Ref class)) h x y = (kinds.Ref class, x class, y)
operand_of t a b (Known kind) right h x y = (kind, x, goes_as t b kind right h y)

binary_fits : (t : Setting) (o : Op) (a b : Term) (at : Site) (left right : Found) → goes_with (left_asked o) left ≡ true → goes_with (right_asked o left) right ≡ true
    → HasFound t a left → HasFound t b right → HasFound t (op_term o a b at) (op_kind o)
binary_fits t op.Add a b at left right h k x y = (kinds.Int, refl, goes_as t a kinds.Int left h x, goes_as t b kinds.Int right k y, refl)
binary_fits t op.Sub a b at left right h k x y = (kinds.Int, refl, goes_as t a kinds.Int left h x, goes_as t b kinds.Int right k y, refl)
binary_fits t op.Mul a b at left right h k x y = (kinds.Int, refl, goes_as t a kinds.Int left h x, goes_as t b kinds.Int right k y, refl)
binary_fits t op.Div a b at left right h k x y = (kinds.Int, refl, goes_as t a kinds.Int left h x, goes_as t b kinds.Int right k y, refl)
binary_fits t op.Rem a b at left right h k x y = (kinds.Int, refl, goes_as t a kinds.Int left h x, goes_as t b kinds.Int right k y, refl)
binary_fits t op.Less a b at left right h k x y = (kinds.Int, refl, goes_as t a kinds.Int left h x, goes_as t b kinds.Int right k y, refl)
binary_fits t op.LessEq a b at left right h k x y = (kinds.Int, refl, goes_as t a kinds.Int left h x, goes_as t b kinds.Int right k y, refl)
binary_fits t op.Greater a b at left right h k x y = (kinds.Int, refl, goes_as t a kinds.Int left h x, goes_as t b kinds.Int right k y, refl)
binary_fits t op.GreaterEq a b at left right h k x y = (kinds.Int, refl, goes_as t a kinds.Int left h x, goes_as t b kinds.Int right k y, refl)
binary_fits t op.Equal a b at left right h k x y = let same = operand_of t a b left right k x y in (same.0, tt, same.1, same.2, refl)
binary_fits t op.NotEqual a b at left right h k x y = let same = operand_of t a b left right k x y in (same.0, tt, same.1, same.2, refl)
binary_fits t op.Both a b at left right h k x y = (goes_as t a kinds.Bool left h x, goes_as t b kinds.Bool right k y, refl)
binary_fits t op.Either a b at left right h k x y = (goes_as t a kinds.Bool left h x, goes_as t b kinds.Bool right k y, refl)

-- the branches of a condition
branch_fits : (t : Setting) (test a b : Term) (left right : Found) → HasKind t test kinds.Bool → goes_with left right ≡ true → HasFound t a left → HasFound t b right
    → HasFound t (a_cond test a b) (branch_kind left right)
branch_fits t test a b Unknown right c h x y = elim x [ ]
branch_fits t test a b Null Unknown c h x y = elim y [ ]
branch_fits t test a b Null Null c h x y = λ class. (c, x class, y class)
branch_fits t test a b Null (Known kinds.Int) c h x y = cc
branch_fits t test a b Null (Known kinds.Bool) c h x y = cc
branch_fits t test a b Null (Known (kinds.Ref class)) c h x y = (c, x class, y)
branch_fits t test a b (Known kind) right c h x y = (c, x, goes_as t b kind right h y)

-- a name that stands for something
pub named_has : (among : List Kind) (site : Site) (o : Option Named) → asks_name site o ≡ [] → ((named : Named) → o ≡ Some named → HasNamed among named)
    → (kind : Kind) × (named_kind o ≡ Known kind) × (slice_get among (named_number o) ≡ Some kind)
named_has among site None h names = cc
named_has among site (Some named) h names = names named refl

-- a field of an object of this class
pub field_has : (t : Setting) (object : Term) (class : ℕ) (at site : Site) (o : Option Named) → HasKind t object (kinds.Ref class) → asks_name site o ≡ []
    → ((named : Named) → o ≡ Some named → HasNamed (kinds_of t.shape class) named)
    → (kind : Kind) × (named_kind o ≡ Known kind) × HasKind t (a_field object (named_number o) at) kind
field_has t object class at site None k h names = cc
field_has t object class at site (Some named) k h names = let has = names named refl in (has.0, has.1, (class, k, has.2))

-- a field that an object is asked for without a fault has a kind, and the term of the field has the same
pub field_fits : (s : ScopeView) (t : Setting) → IsSetting s t → (at : Site) (name : List ℕ) (object : Seen) (found : Found) → object.kind ≡ found
    → asks_field s.program (record object { kind = found }) name at ≡ [] → HasFound t object.term found
    → (kind : Kind) × (named_kind (field_of s.program found name) ≡ Known kind) × HasKind t (a_field object.term (named_number (field_of s.program found name)) at) kind
field_fits s t w at name object Unknown e h k = elim k [ ]
field_fits s t w at name object Null e h k = cc
field_fits s t w at name object (Known kinds.Int) e h k = cc
field_fits s t w at name object (Known kinds.Bool) e h k = cc
field_fits s t w at name object (Known (kinds.Ref class)) e h k =
    field_has t object.term class at at (find_field s.program (fields_of s.program class) name) k h (λ named same. w.fields class name named same)

-- arguments
abbrev pub IsJudgedIn : Setting → Judged → Type 0
IsJudgedIn t j = j.faults ≡ [] → HasFound t j.seen.term j.seen.kind

-- arguments without faults that are asked for these kinds, one each, have them as terms
pub args_fit : (t : Setting) (js : List Judged) (asked : List Kind) → AllByRecursion (IsJudgedIn t) js → length js ≡ length asked
    → in_order (map (λ j. j.faults) js) ≡ [] → asks_each (map Known asked) (map (λ j. j.seen) js) ≡ []
    → HaveKinds t (terms_of (map (λ arg. arg.term) (map (λ j. j.seen) js))) asked
args_fit t [] [] each long h k = tt
args_fit t [] (kind ∷ asked) each long h k = cc
args_fit t (j ∷ js) [] each long h k = cc
args_fit t (j ∷ js) (kind ∷ asked) each long h k =
    let more = in_order (map (λ j. j.faults) js) in
    let own = asks (Known kind) j.seen.site j.seen.kind in
    let others = asks_each (map Known asked) (map (λ j. j.seen) js) in
    let rest : length js ≡ length asked = cc in (
      asked_as_kind t j.seen.term kind j.seen.kind j.seen.site (none_left own others k) (each.0 (none_left j.faults more h)),
      args_fit t js asked each.1 rest (none_right j.faults more h) (none_right own others k),
    )

-- as many as parameters, each of its kind
counted : (given asked : ℕ) (each : List TypeError) (at : Site) (fault : TypeError) → (if given == asked then each else (fault ∷ [])) ≡ [] → (given ≡ asked) × (each ≡ [])
counted given asked each at fault h = by_test (given == asked) refl
  where
    by_test : (b : Bool) → (given == asked) ≡ b → (given ≡ asked) × (each ≡ [])
    by_test true e = (eqb-true given asked e, (let same : (if given == asked then each else (fault ∷ [])) ≡ each = rw e refl in sym same ∙ h))
    by_test false e = absurd (let same : (if given == asked then each else (fault ∷ [])) ≡ fault ∷ [] = rw e refl in cc)

-- the arguments of a call that is not refused have the kinds of the parameters
pub args_asked : (p : Program) (params : List Param) (asked : List Kind) (t : Setting) (js : List Judged) (site : Site) → param_kinds p params ≡ map Known asked
    → AllByRecursion (IsJudgedIn t) js → in_order (map (λ j. j.faults) js) ≡ [] → asks_args p params (map (λ j. j.seen) js) site ≡ []
    → HaveKinds t (terms_of (map (λ arg. arg.term) (map (λ j. j.seen) js))) asked
args_asked p params asked t js site same each h k =
    let both = counted _ _ _ site _ k in
    let long : length js ≡ length asked =
    sym (length-map js (λ (j : Judged). j.seen)) ∙ both.0 ∙ sym (length-map params (λ (param : Param). kind_of p param.kind)) ∙ ap length same ∙ length-map asked Known in
    args_fit t js asked each long h (subst (λ (fs : List Found). asks_each fs (map (λ (j : Judged). j.seen) js) ≡ []) same both.1)

-- the predicate of a name, by its number
found_pred : (p : Program) (name : List ℕ) (o : Option ℕ) → pred_number p name ≡ o → (pred : Pred) → find_pred p name ≡ Some pred
    → (n : ℕ) × (pred_number p name ≡ Some n) × (slice_get p.preds n ≡ Some pred)
found_pred p name None e pred h = absurd (let none : find_pred p name ≡ None = rw e refl in cc)
found_pred p name (Some n) e pred h = (n, e, (let same : find_pred p name ≡ slice_get p.preds n = rw e refl in sym same ∙ h))

-- one fault or the other
refused : (a b : TypeError) (c : Bool) → (if c then (a ∷ []) else (b ∷ [])) ≡ [] → ⊥
refused a b true h = cc
refused a b false h = cc

call_fits : (s : ScopeView) (t : Setting) → IsSetting s t → s.may_call ≡ true → (name : List ℕ) (js : List Judged) (site : Site) (o : Option Pred) → find_pred s.program name ≡ o
    → AllByRecursion (IsJudgedIn t) js → in_order (map (λ j. j.faults) js) ≡ [] → asks_call s.program name (map (λ j. j.seen) js) site o ≡ []
    → HasFound t (a_call (number_or_0 (pred_number s.program name)) (terms_of (map (λ arg. arg.term) (map (λ j. j.seen) js)))) (result_kind s.program o)
call_fits s t w may name js site None e each h k = absurd (refused _ _ (is_some (proc_number s.program name)) k)
call_fits s t w may name js site (Some pred) e each h k =
    let number = found_pred s.program name (pred_number s.program name) refl pred e in
    let found = w.preds may number.0 pred number.2 in
    let args = args_asked s.program pred.params found.0.params t js site found.2.1 each h k in
    subst (λ (o : Option ℕ). HasFound t (a_call (number_or_0 o) (terms_of (map (λ arg. arg.term) (map (λ (j : Judged). j.seen) js)))) (kind_of s.program pred.result)) (sym number.1)
    (subst (HasFound t (a_call number.0 (terms_of (map (λ arg. arg.term) (map (λ (j : Judged). j.seen) js))))) (sym found.2.0) (found.0, found.1, args, refl))

called_fits : (s : ScopeView) (t : Setting) → IsSetting s t → (may : Bool) → s.may_call ≡ may → (name : List ℕ) (js : List Judged) (site : Site)
    → AllByRecursion (IsJudgedIn t) js → in_order (map (λ j. j.faults) js) ≡ []
    → (if may then asks_call s.program name (map (λ j. j.seen) js) site (find_pred s.program name) else refuses_call s.program name site) ≡ []
    → HasFound t (a_call (number_or_0 (pred_number s.program name)) (terms_of (map (λ arg. arg.term) (map (λ j. j.seen) js)))) (result_kind s.program (find_pred s.program name))
called_fits s t w true e name js site each h k = call_fits s t w e name js site (find_pred s.program name) refl each h k
called_fits s t w false e name js site each h k = absurd (refused _ _ (is_callable s.program name) k)

abbrev IsFit : ScopeView → Setting → Expr → Type 0
IsFit s t e = IsJudgedIn t (judged s e)

abbrev bare : (s : ScopeView) (t : Setting) → Expr-F ((e : Expr) × IsFit s t e) → Expr-F Expr
bare s t y = map-Expr ((e : Expr) × IsFit s t e) Expr (λ e. e.0) y

each_fits : (s : ScopeView) (t : Setting) (es : List ((e : Expr) × IsFit s t e)) → AllByRecursion (IsJudgedIn t) (map (judged s) (map (λ e. e.0) es))
each_fits s t [] = tt
each_fits s t (e ∷ es) = (e.1, each_fits s t es)

layer_fits : (s : ScopeView) (t : Setting) → IsSetting s t → (y : Expr-F ((e : Expr) × IsFit s t e)) → IsJudgedIn t (judged_node s (map-Expr Expr Judged (judged s) (bare s t y)))
layer_fits s t w (Expr-F.Number value site) h = refl
layer_fits s t w (Expr-F.Truth value site) h = refl
layer_fits s t w (Expr-F.Null site) h = λ class. tt
layer_fits s t w (Expr-F.Local name site) h =
    let o = find_local s.locals name in
    let has = named_has t.locals site o h (w.locals name) in
    subst (HasFound t (a_local (named_number o))) (sym has.1) has.2
layer_fits s t w (Expr-F.Call name args site) h =
    let js = map (judged s) (map (λ e. e.0) args) in
    let fs = in_order (map (λ (j : Judged). j.faults) js) in
    called_fits s t w s.may_call refl name js site (each_fits s t args) (none_left fs _ h) (none_right fs _ h)
layer_fits s t w (Expr-F.Shared name site) h =
    let o = find_field s.program s.program.shared name in
    let has = named_has (kinds_of t.shape 0) site o h (w.shared name) in
    subst (HasFound t (a_shared (named_number o))) (sym has.1) has.2
layer_fits s t w (Expr-F.Field object name site) h =
    let j = judged s object.0 in
    let own = none_right (j.faults ++ []) _ h in
    let none = none_left j.faults [] (none_left (j.faults ++ []) _ h) in
    let has = field_fits s t w site name j.seen j.seen.kind refl own (object.1 none) in
    subst (HasFound t (a_field j.seen.term (named_number (field_of s.program j.seen.kind name)) site)) (sym has.1) has.2
layer_fits s t w (Expr-F.Paren inner site) h =
    let j = judged s inner.0 in
    inner.1 (none_left j.faults [] (none_left (j.faults ++ []) [] h))
layer_fits s t w (Expr-F.Not inner site) h =
    let j = judged s inner.0 in
    (asked_as_kind t j.seen.term kinds.Bool j.seen.kind j.seen.site (none_right (j.faults ++ []) _ h) (inner.1 (none_left j.faults [] (none_left (j.faults ++ []) _ h))), refl)
layer_fits s t w (Expr-F.Minus inner site) h =
    let j = judged s inner.0 in
    (asked_as_kind t j.seen.term kinds.Int j.seen.kind j.seen.site (none_right (j.faults ++ []) _ h) (inner.1 (none_left j.faults [] (none_left (j.faults ++ []) _ h))), refl)
layer_fits s t w (Expr-F.Binary o left right site) h =
    let a = judged s left.0 in
    let b = judged s right.0 in
    let parts = none_left (a.faults ++ (b.faults ++ [])) _ h in
    let own = none_right (a.faults ++ (b.faults ++ [])) _ h in
    let first = asks (left_asked o) a.seen.site a.seen.kind in
    binary_fits t o a.seen.term b.seen.term site a.seen.kind b.seen.kind
    (asked_goes (left_asked o) a.seen.kind a.seen.site (none_left first _ own)) (asked_goes (right_asked o a.seen.kind) b.seen.kind b.seen.site (none_right first _ own))
    (left.1 (none_left a.faults _ parts)) (right.1 (none_left b.faults [] (none_right a.faults _ parts)))
layer_fits s t w (Expr-F.Cond test left right site) h =
    let c = judged s test.0 in
    let a = judged s left.0 in
    let b = judged s right.0 in
    let parts = none_left (c.faults ++ (a.faults ++ (b.faults ++ []))) _ h in
    let own = none_right (c.faults ++ (a.faults ++ (b.faults ++ []))) _ h in
    let branches = none_right c.faults (a.faults ++ (b.faults ++ [])) parts in
    let first = asks a_bool c.seen.site c.seen.kind in
    branch_fits t c.seen.term a.seen.term b.seen.term a.seen.kind b.seen.kind
    (asked_as_kind t c.seen.term kinds.Bool c.seen.kind c.seen.site (none_left first _ own) (test.1 (none_left c.faults _ parts)))
    (asked_goes a.seen.kind b.seen.kind b.seen.site (none_right first _ own))
    (left.1 (none_left a.faults _ branches)) (right.1 (none_left b.faults [] (none_right a.faults _ branches)))

-- an expression without faults
pub expression_fits : (s : ScopeView) (t : Setting) → IsSetting s t → (e : Expr) → (judged s e).faults ≡ [] → HasFound t (judged s e).seen.term (judged s e).seen.kind
expression_fits s t w = ind-Expr (IsFit s t) (λ x y is.
    subst (λ z. IsFit s t (roll-Expr z)) is
    (subst (IsJudgedIn t) (sym (fold-roll-Expr Judged (judged_node s) (bare s t y))) (layer_fits s t w y)))

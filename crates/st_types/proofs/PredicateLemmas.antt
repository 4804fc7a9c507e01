-- A predicate, once its parameters and its body are seen.
use Rattle.std.proofs.Common.{◌≡◌, ℕ, ◌+◌, ◌<◌, List, [], ◌∷◌, ◌++◌, map, length, take, get_or, true, Ok, Err, refl, ap, sym, ◌∙◌}
use Rattle.std.proofs.lemmas.List.{take_more, map-append}
use Rattle.st_ast.specs.declared.declarations.Param.{Param}
use Rattle.st_ast.specs.declared.declarations.Pred.{Pred}
use Rattle.st_ast.specs.declared.declarations.Program.{Program}
use Rattle.st_events.specs.declared.shapes.Kind.{Kind}
use Rattle.st_resolved.specs.Terms.{Term}
use Rattle.st_types.specs.declared.errors.TypeError.{TypeError}
use Rattle.st_types.specs.declared.kinds.Found.{Found}
use Rattle.st_types.specs.declared.scopes.Local as code_local
use Rattle.st_types.specs.Checked.{verdict, Fails}
use Rattle.st_types.specs.Judged.{judged, typed}
use Rattle.st_types.specs.Kinds.{asks}
use Rattle.st_types.specs.Names.{Local, kind_of}
use Rattle.st_types.specs.Nodes.{Seen}
use Rattle.st_types.specs.Rules.{param_locals, pred_scope, pred_body_faults, predicate_at}
use Rattle.st_types.specs.Scopes.{ScopeView, local_view}
use Rattle.st_types.specs.Statements.{known_kind}
use Rattle.st_types.proofs.CheckedLemmas.{no_faults, value_is, fails_too, fails_so, first_of_more}
use Rattle.st_types.proofs.JudgedLemmas.{typed_is_first}
use Rattle.st_types.proofs.ScopeLemmas.{kinds_of_views}

-- one parameter more
pub params_go : (p : Program) (old new : List code_local.Local) (l : code_local.Local) (params : List Param) (i : ℕ) (d : Param) → i < length params → d ≡ get_or params i d
    → new ≡ old ++ l ∷ [] → local_view l ≡ record { name = d.name; kind = kind_of p d.kind; is_known = true }
    → map local_view old ≡ param_locals p (take i params) → map local_view new ≡ param_locals p (take (i + 1) params)
params_go p old new l params i d h is n v inv =
    let at = λ (q : Param). let m : Local = record { name = q.name; kind = kind_of p q.kind; is_known = true } in m in
    rw (n, map-append local_view old (l ∷ []), inv, take_more params i d h, map-append at (take i params) (get_or params i d ∷ []), ← is, v) refl

-- what the body stands in; `given` are the parameters, `at_hand` the locals that they are
pub pred_scope_is : (p : Program) (pred : Pred) (given : List Param) (locals at_hand : List code_local.Local) → given ≡ pred.params
    → map local_view locals ≡ param_locals p given → at_hand ≡ locals
    → (let s : ScopeView = record { program = p; locals = map local_view at_hand; may_call = true } in s) ≡ pred_scope p pred
pred_scope_is p pred given locals at_hand g l h =
    ap (λ ls. let s : ScopeView = record { program = p; locals = ls; may_call = true } in s) (ap (map local_view) h ∙ (l ∙ ap (param_locals p) g))

kinds_of_params : (p : Program) (params : List Param) → map (λ (l : Local). known_kind l.kind) (param_locals p params) ≡ map (λ param. known_kind (kind_of p param.kind)) params
kinds_of_params p [] = refl
kinds_of_params p (param ∷ params) = ap (λ ks. known_kind (kind_of p param.kind) ∷ ks) (kinds_of_params p params)

-- a predicate whose body keeps the rules and has the kind of its value comes to its parameters' kinds, this kind and the term of the body
pub pred_is : (p : Program) (pred : Pred) (s : ScopeView) (locals again : List code_local.Local) (seen : Seen) (found : Found) (kinds : List Kind) (result : Kind) (term : Term)
    → s ≡ pred_scope p pred → map local_view locals ≡ s.locals → typed s pred.body ≡ Ok seen → found ≡ kind_of p pred.result
    → Ok (tt {0}) ≡ verdict (asks found seen.site seen.kind) (tt {0}) → again ≡ locals → kinds ≡ map (λ l. known_kind l.kind) again
    → result ≡ known_kind found → term ≡ seen.term
    → verdict (pred_body_faults p pred) (predicate_at p pred) ≡ Ok (record { params = kinds; result = result; body = term })
pred_is p pred s locals again seen found kinds result term v l h f k a ks r t =
    let j = judged (pred_scope p pred) pred.body in
    let first : verdict j.faults j.seen ≡ Ok seen = sym (typed_is_first (pred_scope p pred) pred.body) ∙ (ap (λ x. typed x pred.body) (sym v) ∙ h) in
    let none : j.faults ≡ [] = no_faults j.faults j.seen seen first in
    let same : j.seen ≡ seen = value_is j.faults j.seen seen first in
    let asked : asks found seen.site seen.kind ≡ [] = no_faults (asks found seen.site seen.kind) (tt {0}) (tt {0}) (sym k) in
    let params : map (λ param. known_kind (kind_of p param.kind)) pred.params ≡ kinds =
    sym (kinds_of_params p pred.params) ∙ (ap (map (λ (x : Local). known_kind x.kind)) (sym (l ∙ ap (λ (x : ScopeView). x.locals) v))
    ∙ (kinds_of_views locals ∙ (ap (map (λ (x : code_local.Local). known_kind x.kind)) (sym a) ∙ sym ks))) in
    rw (none, same, ← f, asked, params, r, t) refl

-- a fault of the body of a predicate is the first of the predicate's
pub pred_body_fails : (p : Program) (pred : Pred) (s : ScopeView) (e : TypeError) → s ≡ pred_scope p pred → Fails e (typed s pred.body)
    → Fails e (verdict (pred_body_faults p pred) (predicate_at p pred))
pred_body_fails p pred s e v h =
    let j = judged (pred_scope p pred) pred.body in
    fails_too (typed s pred.body) (verdict (pred_body_faults p pred) (predicate_at p pred)) e h
    (λ k. first_of_more j.faults _ j.seen _ e (sym (typed_is_first (pred_scope p pred) pred.body) ∙ (ap (λ x. typed x pred.body) (sym v) ∙ k)))

only_second : {A : Type 0} (xs ys : List TypeError) (a : A) (e : TypeError) → xs ≡ [] → Err e ≡ verdict ys (tt {0}) → verdict (xs ++ ys) a ≡ Err e
only_second xs [] a e h k = cc
only_second xs (y ∷ ys) a e h k = let same : e ≡ y = cc in rw (h, same) refl

-- where the body has none, a kind that does not go with the value's is the first
pub pred_kind_fails : (p : Program) (pred : Pred) (s : ScopeView) (seen : Seen) (found : Found) (e : TypeError) → s ≡ pred_scope p pred → typed s pred.body ≡ Ok seen
    → found ≡ kind_of p pred.result → Err e ≡ verdict (asks found seen.site seen.kind) (tt {0})
    → Fails e (verdict (pred_body_faults p pred) (predicate_at p pred))
pred_kind_fails p pred s seen found e v h f k =
    let j = judged (pred_scope p pred) pred.body in
    let first : verdict j.faults j.seen ≡ Ok seen = sym (typed_is_first (pred_scope p pred) pred.body) ∙ (ap (λ x. typed x pred.body) (sym v) ∙ h) in
    let same : j.seen ≡ seen = value_is j.faults j.seen seen first in
    fails_so e _ (only_second j.faults (asks (kind_of p pred.result) j.seen.site j.seen.kind) (predicate_at p pred) e (no_faults j.faults j.seen seen first)
    (k ∙ ap (λ x. verdict (asks x seen.site seen.kind) (tt {0})) f ∙ ap (λ (x : Seen). verdict (asks (kind_of p pred.result) x.site x.kind) (tt {0})) (sym same)))

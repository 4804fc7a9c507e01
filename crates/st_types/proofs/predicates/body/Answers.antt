use Rattle.std.proofs.Common.{ap, sym, ◌∙◌, map}
use Rattle.st_resolved.specs.Views.{predicate_of, term_of}
use Rattle.st_types.specs.Scopes.{local_view}
use Rattle.st_types.specs.Typing.{seen_of}
use Rattle.st_types.proofs.CheckedLemmas.{gives_fault}
use Rattle.st_types.proofs.PredicateLemmas.{pred_is, pred_scope_is, pred_body_fails, pred_kind_fails}
use Rattle.st_types.proofs.predicates.body.Goals as goal

pub returns-in_err-body : goal.returns-in_err-body
returns-in_err-body c =
    gives_fault predicate_of c.from_residual-in_err-body.result _ c.in_err-body.field-0.0 c.from_residual-in_err-body.ensures.1
    (pred_body_fails c.args.program.now c.args.pred.now _ c.in_err-body.field-0.0
    (pred_scope_is c.args.program.now c.args.pred.now c.as_slice.result.now c.in_ok-locals.locals.items c.deref.result.now c.as_slice.ensures c.in_ok-locals.ensures c.deref.ensures.value)
    c.in_err-body.ensures)

pub returns-in_err-ask : goal.returns-in_err-ask
returns-in_err-ask c =
    gives_fault predicate_of c.from_residual-in_err-ask.result _ c.in_err-ask.field-0.0 c.from_residual-in_err-ask.ensures.1
    (pred_kind_fails c.args.program.now c.args.pred.now _ (seen_of c.in_ok-body.body) c.kind_of-result.result c.in_err-ask.field-0.0
    (pred_scope_is c.args.program.now c.args.pred.now c.as_slice.result.now c.in_ok-locals.locals.items c.deref.result.now c.as_slice.ensures c.in_ok-locals.ensures c.deref.ensures.value)
    c.in_ok-body.ensures c.kind_of-result.ensures c.in_err-ask.ensures)

pub returns : goal.returns
returns c =
    let scope_is = pred_scope_is c.args.program.now c.args.pred.now c.as_slice.result.now c.in_ok-locals.locals.items c.deref.result.now
    c.as_slice.ensures c.in_ok-locals.ensures c.deref.ensures.value in
    pred_is c.args.program.now c.args.pred.now _ c.in_ok-locals.locals.items c.deref-2.result.now (seen_of c.in_ok-body.body) c.kind_of-result.result
    c.from_vec.result c.known_kind.result (term_of c.into_inner.result)
    scope_is (ap (map local_view) (sym c.deref.ensures.value)) c.in_ok-body.ensures c.kind_of-result.ensures c.in_ok-ask.ensures c.deref-2.ensures.value
    (c.from_vec.ensures ∙ c.in_ok-kinds_of.ensures) c.known_kind.ensures (ap term_of c.into_inner.ensures)

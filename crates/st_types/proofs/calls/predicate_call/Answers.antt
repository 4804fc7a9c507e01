use Rattle.std.proofs.Common.{sym}
use Rattle.st_types.specs.Scopes.{scope_view}
use Rattle.st_types.proofs.CallLemmas.{call_outcome}
use Rattle.st_types.proofs.calls.predicate_call.Goals as goal

pub returns : goal.returns
returns c =
    let come_to = call_outcome (scope_view c.args.scope.now) c.args.name.now c.args.args.items c.deref.result.now
    c.args.site c.in-Some.number c.in-Some-get.pred.now c.as_slice.result.now c.kind_of-kind.result c.in_ok-exprs_of.field-0
    c.requires.may c.in-Some.ensures.value (sym c.in-Some-get.ensures.value) c.deref.ensures.value c.as_slice.ensures c.kind_of-kind.ensures c.in_ok-exprs_of.ensures c.in_ok-ask_args.ensures in
    rw come_to c.leaf.ensures

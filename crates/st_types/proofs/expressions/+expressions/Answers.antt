use Rattle.std.proofs.Common.{map}
use Rattle.st_types.specs.Judged.{each_of, typed}
use Rattle.st_types.specs.Scopes.{scope_view}
use Rattle.st_types.specs.Typing.{seen_of}
use Rattle.st_types.proofs.CheckedLemmas.{fails_next}
use Rattle.st_types.proofs.TypedEquations.{typed_call}
use Rattle.st_types.proofs.expressions.+expressions.Goals as goal

pub typed-returns-in_err-args-in-Call : goal.typed-returns-in_err-args-in-Call
typed-returns-in_err-args-in-Call t c =
    let args = rw c.as_slice-in-Call.ensures at c.in_err-args-in-Call.ensures in
    rw (c.in-Call.is, typed_call (scope_view c.args.scope.now) c.in-Call.name c.in-Call.args c.in-Call.site)
    (fails_next seen_of (each_of (map (typed (scope_view c.args.scope.now)) c.in-Call.args)) _ c.in_err-args-in-Call.field-0.0 c.from_residual.result args c.from_residual.ensures.1)

pub typed-returns-in_ok-args-in-Call : goal.typed-returns-in_ok-args-in-Call
typed-returns-in_ok-args-in-Call t c =
    let args = rw c.as_slice-in-Call.ensures at c.in_ok-args-in-Call.ensures in
    rw (c.in-Call.is, typed_call (scope_view c.args.scope.now) c.in-Call.name c.in-Call.args c.in-Call.site, args) (rw c.as_slice-in-Call-2.ensures at c.call.ensures)

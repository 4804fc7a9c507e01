use Rattle.std.proofs.Common.{◌≡◌, map, drop}
use Rattle.st_types.specs.Judged.{each_of, typed}
use Rattle.st_types.specs.Scopes.{scope_view}
use Rattle.st_types.specs.Typing.{seen_of}
use Rattle.st_types.proofs.EachLemmas.{with_front}
use Rattle.st_types.proofs.expressions.+expressions.Given as goal

abbrev pub invariant-typed_args-loop-arg : goal.invariant-typed_args-loop-arg
invariant-typed_args-loop-arg l =
    with_front (map seen_of l.seen.items) (each_of (map (typed (scope_view l.scope)) (drop l.arg-index l.args))) ≡ each_of (map (typed (scope_view l.scope)) l.args)

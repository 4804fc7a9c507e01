use Rattle.std.proofs.Common.{◌≡◌, ◌++◌, drop, slice_get}
use Rattle.std.specs.List.{flat_map}
use Rattle.st_types.specs.Statements.{if_any}
use Rattle.st_types.proofs.arguments.locals_at.Given as goal

abbrev pub invariant-loop-number : goal.invariant-loop-number
invariant-loop-number l =
    l.found.items ++ flat_map (λ n. if_any (slice_get l.locals n)) (drop l.number-index l.numbers) ≡ flat_map (λ n. if_any (slice_get l.locals n)) l.numbers

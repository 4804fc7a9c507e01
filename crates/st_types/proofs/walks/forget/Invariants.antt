use Rattle.std.proofs.Common.{◌≡◌, ◌++◌, map, take, drop}
use Rattle.st_types.specs.Scopes.{local_view}
use Rattle.st_types.specs.Statements.{forgotten}
use Rattle.st_types.proofs.walks.forget.Given as goal

abbrev pub invariant-loop-local : goal.invariant-loop-local
invariant-loop-local l =
    map local_view l.locals ≡ map forgotten (map local_view (take l.local-index l.fn.locals)) ++ map local_view (drop l.local-index l.fn.locals)

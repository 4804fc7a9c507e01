use Rattle.std.proofs.Common.{◌≡◌, map, take}
use Rattle.st_types.specs.Rules.{param_locals}
use Rattle.st_types.specs.Scopes.{local_view}
use Rattle.st_types.proofs.predicates.param_locals.Given as goal

abbrev pub invariant-loop-param : goal.invariant-loop-param
invariant-loop-param l = map local_view l.locals.items ≡ param_locals l.program (take l.param-index l.params)

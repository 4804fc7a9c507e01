use Rattle.std.proofs.Common.{◌≡◌, map, drop}
use Rattle.std.specs.List.{flat_map}
use Rattle.st_types.specs.Scopes.{local_view}
use Rattle.st_types.specs.Statements.{mentions, numbers_of}
use Rattle.st_types.proofs.arguments.+mentions.Given as goal

abbrev pub invariant-add_all-loop-e : goal.invariant-add_all-loop-e
invariant-add_all-loop-e l =
    numbers_of (map local_view l.locals) (flat_map mentions (drop l.e-index l.es)) l.numbers.items ≡ numbers_of (map local_view l.locals) (flat_map mentions l.es) l.fn.numbers.items

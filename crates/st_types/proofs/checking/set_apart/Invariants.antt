use Rattle.std.proofs.Common.{◌≡◌, map}
use Rattle.st_resolved.specs.Views.{check_of}
use Rattle.st_types.specs.Walks.{launched_of}
use Rattle.st_types.proofs.checking.set_apart.Given as goal

abbrev pub invariant-loop-one : goal.invariant-loop-one
invariant-loop-one l = record {
  checks : map check_of l.checks.items ≡ map (λ l. l.check) (map launched_of l.yielded);
  kinds : map (λ kinds. kinds.items) l.kinds.items ≡ map (λ l. l.kinds) (map launched_of l.yielded);
}

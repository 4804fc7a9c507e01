use Rattle.std.proofs.Common.{◌≡◌, []}
use Rattle.st_barrier.specs.Keeping.{lanes_in}
use Rattle.st_barrier.proofs.needs.is_any_needed.Given as goal

-- none of the lanes so far needs it
abbrev pub invariant-loop-lane : goal.invariant-loop-lane
invariant-loop-lane l = record { none : lanes_in l.checks l.lane ≡ [] }

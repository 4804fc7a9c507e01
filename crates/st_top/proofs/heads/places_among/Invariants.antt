use Rattle.std.proofs.Common.{◌≡◌, map, take}
use Rattle.st_top.proofs.heads.places_among.Given as goal

-- the places of the check statements so far
abbrev pub invariant-loop-check : goal.invariant-loop-check
invariant-loop-check l = l.places.items ≡ map (λ check. check.at) (take l.check-index l.checks)

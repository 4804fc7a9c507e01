use Rattle.std.proofs.Common.{◌≡◌, take}
use Rattle.st_snap.specs.Lanes.{newest_of}
use Rattle.st_snap.proofs.lanes.find_newest.Given as goal

abbrev pub invariant-loop-lane : goal.invariant-loop-lane
invariant-loop-lane l = l.newest ≡ newest_of (take l.lane-index l.lanes)

use Rattle.std.proofs.Common.{◌≡◌, take}
use Rattle.st_snap.specs.Headers.{forward_all}
use Rattle.st_snap.proofs.headers.Header.forward_to.Given as goal

abbrev pub invariant-loop-index : goal.invariant-loop-index
invariant-loop-index l =
    record { stamp : l.self.stamp ≡ l.initial.self.stamp; forward : l.self.forward ≡ forward_all l.initial.self.stamp l.target (take l.index l.lanes) l.initial.self.forward }

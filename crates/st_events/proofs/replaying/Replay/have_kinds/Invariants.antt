use Rattle.std.proofs.Common.{◌≡◌, drop}
use Rattle.st_events.specs.Terms.{heap_of}
use Rattle.st_events.specs.Legal.{have_kinds}
use Rattle.st_events.proofs.replaying.Replay.have_kinds.Given as goal

abbrev pub invariant-loop-place : goal.invariant-loop-place
invariant-loop-place l = have_kinds (heap_of l.self.heap) l.kinds l.words ≡ have_kinds (heap_of l.self.heap) (drop l.place l.kinds) (drop l.place l.words)

use Rattle.std.proofs.Common.{◌≡◌}
use Rattle.st_mutator.specs.Standing.{IsStanding, deed_of, deed_when_told, work_of}
use Rattle.st_mutator.proofs.machines.Machine.resume.Given as goal

-- the machine stands, and does what it does once it has the reply
abbrev pub invariant-loop-asked : goal.invariant-loop-asked
invariant-loop-asked l = record {
  standing : IsStanding l.self;
  same : deed_of l.self ≡ deed_when_told l.fn.self l.fn.reply;
}

abbrev pub decreases-loop-asked : goal.decreases-loop-asked
decreases-loop-asked l = work_of l.self

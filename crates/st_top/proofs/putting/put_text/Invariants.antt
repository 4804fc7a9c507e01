use Rattle.std.proofs.Common.{◌≤◌, length}
use Rattle.st_top.proofs.PuttingLemmas.{HasPut}
use Rattle.st_top.proofs.putting.put_text.Given as goal

-- all but the rest was put
abbrev pub invariant-loop-rest : goal.invariant-loop-rest
invariant-loop-rest g l = record {
  put : HasPut (g.S.Sink.state l.fn.out).written l.text l.rest (g.S.Sink.state l.out).written;
  faults : (g.S.Sink.state l.fn.out).faults ≤ (g.S.Sink.state l.out).faults;
}

abbrev pub decreases-loop-rest : goal.decreases-loop-rest
decreases-loop-rest g l = length l.rest

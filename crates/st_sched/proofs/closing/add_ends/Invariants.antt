use Rattle.std.proofs.Common.{◌≡◌, ◌+◌, ◌++◌, map, take, vec_len, vec_capacity}
use Rattle.st_run_meaning.specs.Runs.{end_of}
use Rattle.st_mutator.specs.Mutators.{turn_of_want}
use Rattle.st_sched.proofs.closing.add_ends.Given as goal

-- the ends of those before the index are added
abbrev pub invariant-loop-seat : goal.invariant-loop-seat
invariant-loop-seat l = record {
  added : l.ends.items ≡ l.fn.ends.items ++ map (λ seat. end_of (turn_of_want seat.want)) (take l.seat-index l.seats);
  few : vec_len l.ends ≡ vec_len l.fn.ends + l.seat-index;
  capacity : vec_capacity l.ends ≡ vec_capacity l.fn.ends;
}

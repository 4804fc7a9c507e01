use Rattle.std.proofs.Common.{◌≡◌, ◌+◌, ◌≤◌, ◌++◌, drop, vec_len, vec_capacity}
use Rattle.st_sched.specs.Choosing.{ready_seats}
use Rattle.st_sched.proofs.agents.add_mutators.Given as goal

-- those before the index are added, if they can take a turn
abbrev pub invariant-loop-m : goal.invariant-loop-m
invariant-loop-m l = record {
  added : l.ready.items ++ ready_seats l.m l.room (drop l.m l.seats) ≡ l.fn.ready.items ++ ready_seats 0 l.room l.seats;
  few : vec_len l.ready ≤ vec_len l.fn.ready + l.m;
  capacity : vec_capacity l.ready ≡ vec_capacity l.fn.ready;
}

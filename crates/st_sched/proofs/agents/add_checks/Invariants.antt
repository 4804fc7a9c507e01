use Rattle.std.proofs.Common.{◌≡◌, ◌+◌, ◌≤◌, ◌++◌, drop, vec_len, vec_capacity}
use Rattle.st_sched.specs.Choosing.{ready_checks}
use Rattle.st_sched.proofs.agents.add_checks.Given as goal

-- those before the index are added, unless they have finished
abbrev pub invariant-loop-index : goal.invariant-loop-index
invariant-loop-index l = record {
  added : l.ready.items ++ ready_checks l.index (drop l.index l.checks) ≡ l.fn.ready.items ++ ready_checks 0 l.checks;
  few : vec_len l.ready ≤ vec_len l.fn.ready + l.index;
  capacity : vec_capacity l.ready ≡ vec_capacity l.fn.ready;
}

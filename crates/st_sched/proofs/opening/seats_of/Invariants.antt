use Rattle.std.proofs.Common.{◌≡◌, ◌≤◌, ℕ, [], Some, slice_get, vec_len, vec_capacity}
use Rattle.st_resolved.specs.Views.{program_of}
use Rattle.st_sched.specs.declared.seats.Seat.{Seat}
use Rattle.st_sched.specs.Seats.{HasReplies}
use Rattle.st_sched.proofs.opening.seats_of.Given as goal

-- the threads so far stand at their numbers
abbrev pub invariant-loop-m : goal.invariant-loop-m
invariant-loop-m l = record {
  each : (k : ℕ) (seat : Seat) → slice_get l.seats.items k ≡ Some seat → HasReplies (program_of l.program) l.sizes k [] seat;
  len : vec_len l.seats ≡ l.m;
  capacity : l.sizes.mutators ≤ vec_capacity l.seats;
}

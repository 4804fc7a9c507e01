use Rattle.std.proofs.Common.{◌≡◌, ◌<◌, ℕ, length, take}
use Rattle.st_events.specs.Heap.{heap_of}
use Rattle.st_events.specs.Terms.{heap_after, epoch_of}
use Rattle.st_resolved.specs.Views.{program_of}
use Rattle.st_eval.specs.Evaluations.{IsMadeFor, budget}
use Rattle.st_audit.specs.Findings.{IsRightAt}
use Rattle.st_audit.proofs.RoomLemmas.{room}
use Rattle.st_audit.proofs.verdicts.first_wrong.Given as goal

-- the heap is that after the events so far, and the verdicts of the checks that they launch are right
abbrev pub invariant-loop-event : goal.invariant-loop-event
invariant-loop-event l = record {
  heap_is : heap_of l.heap ≡ heap_after l.shape l.sizes (take l.event-index l.events);
  room_is : length l.heap ≡ room l.sizes;
  made : IsMadeFor (program_of l.program) l.eval;
  budget_is : budget l.eval ≡ l.sizes.calls;
  right : (n : ℕ) → n < epoch_of l.shape l.sizes (take l.event-index l.events) → IsRightAt l.shape (program_of l.program) l.sizes l.events l.verdicts n;
}

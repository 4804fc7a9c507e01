use Rattle.std.proofs.Common.{◌≡◌, length}
use Rattle.st_events.specs.Heap.{heap_of}
use Rattle.st_resolved.specs.Views.{program_of}
use Rattle.st_thread_meaning.specs.Right.{words_of}
use Rattle.st_eval.specs.Evaluations.{IsMadeFor, budget}
use Rattle.st_audit.proofs.EvaluationLemmas.{left_of, IsEvaluating}
use Rattle.st_audit.proofs.evaluations.evaluate.Given as goal

-- the evaluation is under way
abbrev pub invariant-loop-obj : goal.invariant-loop-obj
invariant-loop-obj l = record {
  made : IsMadeFor (program_of l.program) l.eval;
  budget_is : budget l.eval ≡ budget l.fn.eval;
  on : IsEvaluating (program_of l.program) (heap_of l.heap) l.site (words_of l.fn.args) (budget l.fn.eval) l.about l.eval l.reply l.reads;
}

-- the cells that are left to read
abbrev pub decreases-loop-obj : goal.decreases-loop-obj
decreases-loop-obj l = length (left_of (program_of l.program) (heap_of l.heap) l.eval l.reply).cells

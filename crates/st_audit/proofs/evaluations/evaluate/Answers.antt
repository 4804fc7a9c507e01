use Rattle.std.proofs.Common.{◌∙◌}
use Rattle.st_events.specs.Heap.{heap_of}
use Rattle.st_resolved.specs.Views.{program_of}
use Rattle.st_thread_meaning.specs.Right.{words_of}
use Rattle.st_eval.specs.Evaluations.{budget}
use Rattle.st_audit.proofs.EvaluationLemmas.{evaluation_begins, evaluation_reads, evaluation_ends}
use Rattle.st_audit.proofs.evaluations.evaluate.Goals as goal

pub loop-obj-init : goal.loop-obj-init
loop-obj-init c = record {
  made = c.start.ensures.made;
  budget_is = c.start.ensures.budget;
  on = evaluation_begins (program_of c.args.program.now) (heap_of c.args.heap.now) c.args.site (words_of c.args.args) (budget c.args.eval.now) c.args.about c.start.new.self
      c.start.ensures.turn c.requires.small;
}

pub loop-obj-smaller : goal.loop-obj-smaller
loop-obj-smaller c =
    let step = evaluation_reads (program_of c.args.program.now) (heap_of c.args.heap.now) c.args.site (words_of c.args.args) (budget c.args.eval.now) c.args.about c.loop-obj.eval
    c.next.new.self c.loop-obj.reply c.in-Read.obj c.in-Read.field c.loop-obj.reads c.loop-obj.invariant.on c.in-Read.ensures.turn in
    rw c.word_found-reply.ensures step.fewer

pub loop-obj-preserved : goal.loop-obj-preserved
loop-obj-preserved c =
    let step = evaluation_reads (program_of c.args.program.now) (heap_of c.args.heap.now) c.args.site (words_of c.args.args) (budget c.args.eval.now) c.args.about c.loop-obj.eval
    c.next.new.self c.loop-obj.reply c.in-Read.obj c.in-Read.field c.loop-obj.reads c.loop-obj.invariant.on c.in-Read.ensures.turn in
    record {
      made = c.next.ensures.made;
      budget_is = c.next.ensures.budget ∙ c.loop-obj.invariant.budget_is;
      on = rw (c.word_found-reply.ensures, c.either-reads.ensures) step.on;
    }

pub returns-in-Done-clause-plain : goal.returns-in-Done-clause-plain
returns-in-Done-clause-plain c =
    (evaluation_ends (program_of c.args.program.now) (heap_of c.args.heap.now) c.args.site (words_of c.args.args) (budget c.args.eval.now) c.args.about c.loop-obj.eval
    c.next.new.self c.loop-obj.reply c.in-Done.plain c.loop-obj.reads c.loop-obj.invariant.on c.in-Done.ensures.turn).0

pub returns-in-Done-clause-reads : goal.returns-in-Done-clause-reads
returns-in-Done-clause-reads c =
    (evaluation_ends (program_of c.args.program.now) (heap_of c.args.heap.now) c.args.site (words_of c.args.args) (budget c.args.eval.now) c.args.about c.loop-obj.eval
    c.next.new.self c.loop-obj.reply c.in-Done.plain c.loop-obj.reads c.loop-obj.invariant.on c.in-Done.ensures.turn).1

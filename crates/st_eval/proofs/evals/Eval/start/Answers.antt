use Rattle.std.proofs.Common.{◌≡◌}
use Rattle.st_resolved.specs.Views.{program_of}
use Rattle.st_eval.specs.Evaluations.{words_of, begun, budget}
use Rattle.st_eval.specs.Steps.{span_of}
use Rattle.st_eval.proofs.EvalLemmas.{started, start_keeps, start_budget, start_turns, start_order}
use Rattle.st_eval.proofs.evals.Eval.start.Goals as goal

-- the evaluator where the check begins
here : (c : goal.After-begin) → c.begin.new.self ≡ begun (span_of c.args.self.now.code.checks c.args.site) (words_of c.args.args) c.args.self.now
here c =
    started c.args.self.now c.begin.new.self c.args.site c.args.args c.as_slice.result.now c.from.result c.from-2.result
    c.span_of-span.result c.as_slice.ensures c.from.ensures c.from-2.ensures c.span_of-span.ensures c.begin.ensures

pub returns-clause-made : goal.returns-clause-made
returns-clause-made c =
    start_keeps (program_of c.args.program.now) c.args.self.now c.begin.new.self c.args.site c.args.args c.requires.made c.requires.few (here c)

pub returns-clause-budget : goal.returns-clause-budget
returns-clause-budget c = start_budget c.args.self.now c.begin.new.self _ _ (here c)

pub returns-clause-turn : goal.returns-clause-turn
returns-clause-turn c =
    start_turns (program_of c.args.program.now) c.args.self.now c.begin.new.self c.args.site c.args.args c.requires.made (here c)

pub returns-clause-order : goal.returns-clause-order
returns-clause-order c = λ heap.
    start_order (program_of c.args.program.now) heap c.args.site (words_of c.args.args) (budget c.args.self.now) c.begin.new.self
    (start_turns (program_of c.args.program.now) c.args.self.now c.begin.new.self c.args.site c.args.args c.requires.made (here c))

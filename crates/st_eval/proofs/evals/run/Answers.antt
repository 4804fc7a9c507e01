use Rattle.std.proofs.Common.{Some, None}
use Rattle.st_resolved.specs.Views.{program_of}
use Rattle.st_eval.specs.Runs.{turn_at}
use Rattle.st_eval.proofs.RunLemmas.{IsOn, IsAnswer, run_needs, tells, run_on, run_answers}
use Rattle.st_eval.specs.Weights.{weight}
use Rattle.st_eval.proofs.evals.run.Goals as goal

pub step-requires : goal.step-requires
step-requires c =
    run_needs (program_of c.args.program.now) c.args.code.now
    (turn_at (program_of c.args.program.now) c.args.code.now c.args.stack.now c.args.units.now)
    c.steps.stack c.steps.units c.as_slice.result.now c.steps.invariant c.as_slice.ensures

-- the answer that ends the loop
answer : (c : goal.In-Some)
    → IsAnswer (program_of c.args.program.now) c.args.code.now
    (turn_at (program_of c.args.program.now) c.args.code.now c.args.stack.now c.args.units.now) c.in-Some.ask c.step.new.stack c.step.new.units
answer c =
    run_answers (program_of c.args.program.now) c.args.code.now
    (turn_at (program_of c.args.program.now) c.args.code.now c.args.stack.now c.args.units.now)
    c.steps.stack c.steps.units c.in-Some.ask c.step.new.stack c.step.new.units c.requires.code c.steps.invariant
    (tells c.args.code.now c.steps.stack c.steps.units c.as_slice.result.now c.as_slice-in-steps.result.now c.step.result (Some c.in-Some.ask)
    c.step.new.stack c.step.new.units c.as_slice.ensures c.as_slice-in-steps.ensures c.step.ensures c.in-Some.is)

pub returns-in-Some-clause-turn : goal.returns-in-Some-clause-turn
returns-in-Some-clause-turn c = (answer c).turns

pub returns-in-Some-clause-left : goal.returns-in-Some-clause-left
returns-in-Some-clause-left c = (answer c).leaves

-- without an answer the loop goes on
on : (c : goal.In-None)
    → IsOn (program_of c.args.program.now) c.args.code.now
    (turn_at (program_of c.args.program.now) c.args.code.now c.args.stack.now c.args.units.now)
    (weight c.args.code.now.instructions c.steps.stack c.steps.units) c.step.new.stack c.step.new.units
on c =
    run_on (program_of c.args.program.now) c.args.code.now
    (turn_at (program_of c.args.program.now) c.args.code.now c.args.stack.now c.args.units.now)
    c.steps.stack c.steps.units c.step.new.stack c.step.new.units c.requires.code c.steps.invariant
    (tells c.args.code.now c.steps.stack c.steps.units c.as_slice.result.now c.as_slice-in-steps.result.now c.step.result None
    c.step.new.stack c.step.new.units c.as_slice.ensures c.as_slice-in-steps.ensures c.step.ensures c.in-None.is)

pub steps-smaller : goal.steps-smaller
steps-smaller c = (on c).less

pub steps-preserved : goal.steps-preserved
steps-preserved c = (on c).before

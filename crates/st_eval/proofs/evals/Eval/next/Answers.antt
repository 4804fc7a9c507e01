use Rattle.std.proofs.Common.{refl}
use Rattle.st_resolved.specs.Views.{program_of}
use Rattle.st_eval.specs.Evaluations.{budget}
use Rattle.st_eval.proofs.EvalLemmas.{paused_room, next_turns, end_turns, answers_in_order}
use Rattle.st_eval.proofs.evals.Eval.next.Goals as goal

pub push-requires : goal.push-requires
push-requires c = paused_room c.args.self.now.code.instructions c.args.self.now.code.most_words c.args.self.now.stack c.requires.room

pub returns-in-Done-clause-budget : goal.returns-in-Done-clause-budget
unfolding budget
returns-in-Done-clause-budget c = refl

pub returns-in-Done-clause-turn : goal.returns-in-Done-clause-turn
returns-in-Done-clause-turn c =
    end_turns (program_of c.args.program.now) c.args.self.now _ _ c.args.reply c.run-answer.result c.in-Done.field-0 c.in-Done.is
    (next_turns (program_of c.args.program.now) c.args.self.now c.args.reply c.push.new.self c.run-answer.new.stack c.run-answer.new.units c.run-answer.result
    c.push.ensures c.run-answer.ensures.turn)

pub returns-in-Done-clause-order : goal.returns-in-Done-clause-order
returns-in-Done-clause-order c = λ heap site args calls k h.
    answers_in_order (program_of c.args.program.now) heap site args calls k c.args.self.now c.args.reply c.run-answer.result _ (returns-in-Done-clause-turn c) h

pub returns-in_default-clause-budget : goal.returns-in_default-clause-budget
unfolding budget
returns-in_default-clause-budget c = refl

pub returns-in_default-clause-turn : goal.returns-in_default-clause-turn
returns-in_default-clause-turn c =
    next_turns (program_of c.args.program.now) c.args.self.now c.args.reply c.push.new.self c.run-answer.new.stack c.run-answer.new.units c.run-answer.result
    c.push.ensures c.run-answer.ensures.turn

pub returns-in_default-clause-order : goal.returns-in_default-clause-order
returns-in_default-clause-order c = λ heap site args calls k h.
    answers_in_order (program_of c.args.program.now) heap site args calls k c.args.self.now c.args.reply c.run-answer.result _ (returns-in_default-clause-turn c) h

use Rattle.std.proofs.Common.{sym, subst, List, map, take}
use Rattle.st_resolved.specs.Terms.{Term}
use Rattle.st_resolved.specs.Views.{term_of, predicate_of}
use Rattle.st_eval.specs.Bodies.{LaysBodies, predicate_bodies}
use Rattle.st_eval.proofs.BodyLemmas.{laid, preds_further}
use Rattle.st_eval.proofs.program_codes.lay_preds.Goals as goal

pub loop-pred-preserved : goal.loop-pred-preserved
loop-pred-preserved c =
    subst (λ (ts : List Term). LaysBodies c.args.code.now c.lay.new.code c.args.most.now c.lay.new.most c.lay.new.spans ts)
    (sym (preds_further c.args.preds.now c.loop-pred.pred-index c.pred-item.result c.loop-pred-test.true c.pred-item.is))
    (laid c.args.code.now c.loop-pred.code c.lay.new.code c.args.most.now c.loop-pred.most c.lay.new.most c.loop-pred.spans c.lay.new.spans
    (predicate_bodies (map predicate_of (take c.loop-pred.pred-index c.args.preds.now))) (term_of c.pred-item.result.body)
    c.loop-pred.invariant c.in_ok-lay.ensures.code c.in_ok-lay.ensures.spans c.in_ok-lay.ensures.most c.in_ok-lay.ensures.room)

use Rattle.std.proofs.Common.{sym, subst, List, map, take}
use Rattle.st_resolved.specs.Terms.{Term}
use Rattle.st_resolved.specs.Views.{term_of, check_of}
use Rattle.st_eval.specs.Bodies.{LaysBodies, check_bodies}
use Rattle.st_eval.proofs.BodyLemmas.{laid, checks_further}
use Rattle.st_eval.proofs.program_codes.lay_checks.Goals as goal

pub loop-check-preserved : goal.loop-check-preserved
loop-check-preserved c =
    subst (λ (ts : List Term). LaysBodies c.args.code.now c.lay.new.code c.args.most.now c.lay.new.most c.lay.new.spans ts)
    (sym (checks_further c.args.checks.now c.loop-check.check-index c.check-item.result c.loop-check-test.true c.check-item.is))
    (laid c.args.code.now c.loop-check.code c.lay.new.code c.args.most.now c.loop-check.most c.lay.new.most c.loop-check.spans c.lay.new.spans
    (check_bodies (map check_of (take c.loop-check.check-index c.args.checks.now))) (term_of c.check-item.result.body)
    c.loop-check.invariant c.in_ok-lay.ensures.code c.in_ok-lay.ensures.spans c.in_ok-lay.ensures.most c.in_ok-lay.ensures.room)

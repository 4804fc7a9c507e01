use Rattle.std.proofs.Common.{true}
use Rattle.st_types.proofs.PredicateLemmas.{params_go}
use Rattle.st_types.proofs.predicates.param_locals.Goals as goal

pub loop-param-preserved : goal.loop-param-preserved
loop-param-preserved c =
    params_go c.args.program.now c.loop-param.locals.items c.push.new.self.items (record { name = c.as_slice.result; kind = c.kind_of.result; is_known = true })
    c.args.params.now c.loop-param.param-index c.param-item.result c.loop-param-test.true c.param-item.is c.in_ok-push.ensures.items (cc) c.loop-param.invariant

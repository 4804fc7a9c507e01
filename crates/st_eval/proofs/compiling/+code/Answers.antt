use Rattle.st_eval.proofs.CompilingLemmas.{codes_further}
use Rattle.st_eval.proofs.compiling.+code.Goals as goal

pub add_codes-loop-arg-preserved : goal.add_codes-loop-arg-preserved
add_codes-loop-arg-preserved t c =
    codes_further _ _ _ _ _ c.arg-item.result c.loop-arg-test.true c.arg-item.is c.in_ok-add_code.ensures c.loop-arg.invariant

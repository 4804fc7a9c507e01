use Rattle.std.proofs.Common.{◌<◌, length, add-one, arith}
use Rattle.st_types.proofs.ForgetLemmas.{forget_one}
use Rattle.st_types.proofs.walks.forget.Goals as goal

pub loop-local-preserved : goal.loop-local-preserved
loop-local-preserved c =
    let within : c.loop-local.local-index < length c.loop-local.locals = omega arith in
    rw add-one (forget_one c.args.locals.now c.loop-local.locals c.loop-local.local-index _ within c.loop-local.invariant)

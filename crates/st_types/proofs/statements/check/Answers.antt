use Rattle.st_resolved.specs.Views.{term_of}
use Rattle.std.proofs.Common.{ap}
use Rattle.st_types.specs.Typing.{seen_of}
use Rattle.st_types.specs.Walks.{stepped_at}
use Rattle.st_types.proofs.StepEquations.{check_is}
use Rattle.st_types.proofs.statements.check.Goals as goal

pub returns : goal.returns
returns c =
    check_is c.args.program.now c.args.walk.now c.args.body.now c.args.at c.deref.result.now c.in_ok-taken.taken.locals.items c.deref-2.result.now c.deref-3.result.now
    c.in_ok-taken.taken.args.items c.from_vec.result (seen_of c.in_ok-seen.seen) (term_of c.into_inner.result) c.in_ok-kinds.kinds.items
    (stepped_at c.launch.new.walk c.in_ok-launch.field-0)
    c.deref.ensures.value c.in_ok-taken.ensures.locals c.in_ok-taken.ensures.args c.from_vec.ensures c.deref-2.ensures.value c.deref-3.ensures.value
    c.in_ok-seen.ensures (ap term_of c.into_inner.ensures) c.in_ok-kinds.ensures c.in_ok-launch.ensures

use Rattle.std.proofs.Common.{slice_get, ◌∙◌}
use Rattle.st_types.specs.Statements.{if_any}
use Rattle.st_types.proofs.ArgumentLemmas.{found_goes}
use Rattle.st_types.proofs.arguments.locals_at.Goals as goal

pub loop-number-preserved : goal.loop-number-preserved
loop-number-preserved c =
    rw c.in_ok-add_found.ensures
    (found_goes (λ n. if_any (slice_get c.args.locals.now n)) c.loop-number.found.items c.args.numbers.now c.loop-number.number-index 0 c.loop-number-test.true ∙ c.loop-number.invariant)

use Rattle.std.proofs.Common.{ap}
use Rattle.st_events.specs.declared.limits.Sizes.{Sizes}
use Rattle.st_top.specs.Orders.{run_order}
use Rattle.st_top.proofs.DoingLemmas.{run_is_as_ordered}
use Rattle.st_top.proofs.runs.run_as_asked.Goals as goal

pub run_program-requires-clause-threads : goal.run_program-requires-clause-threads
run_program-requires-clause-threads c = ap (λ (s : Sizes). s.mutators) c.choose_sizes-sizes.ensures.asked

pub returns : goal.returns
returns c = λ source accepted.
    let by_seed = rw c.choose_seed-seed.ensures at c.in_ok-ran.ensures.by_seed in
    run_is_as_ordered (run_order source c.args.call.now) c.args.typed.now.program c.choose_sizes-sizes.result c.in_ok-ran.ran _ _
    c.choose_sizes-sizes.ensures.asked by_seed c.in_ok-ran.ensures.right c.in_ok-output.ensures c.run_status-status.ensures accepted

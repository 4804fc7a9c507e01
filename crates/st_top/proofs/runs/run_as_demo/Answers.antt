use Rattle.std.proofs.Common.{ap, ◌∙◌}
use Rattle.st_events.specs.declared.limits.Sizes.{Sizes}
use Rattle.st_events.specs.Terms.{RanLists}
use Rattle.st_report.specs.Report.{count_line}
use Rattle.st_top.specs.Orders.{demo_order}
use Rattle.st_top.proofs.DoingLemmas.{run_is_as_ordered}
use Rattle.st_top.proofs.runs.run_as_demo.Goals as goal

pub run_program-requires-clause-threads : goal.run_program-requires-clause-threads
run_program-requires-clause-threads c = ap (λ (s : Sizes). s.mutators) c.choose_demo_sizes-sizes.ensures.asked

pub returns : goal.returns
returns c = λ n accepted.
    run_is_as_ordered (demo_order n) c.args.typed.now.program c.choose_demo_sizes-sizes.result c.in_ok-ran.ran _ _
    c.choose_demo_sizes-sizes.ensures.asked c.in_ok-ran.ensures.by_seed c.in_ok-ran.ensures.right
    ((rw c.deref.ensures.value at c.in_ok-output.ensures) ∙ ap (λ (r : RanLists). count_line r.verdicts) c.ran.view_is) c.run_status-status.ensures accepted

use Rattle.std.proofs.Common.{◌≡◌, sym, ◌∙◌}
use Rattle.st_events.specs.Terms.{ShapeLists}
use Rattle.st_resolved.specs.Terms.{Program as Numbers}
use Rattle.st_resolved.specs.Views.{program_of}
use Rattle.st_run_meaning.specs.Runs.{scheduled_run}
use Rattle.st_thread_meaning.specs.Right.{IsRightRun}
use Rattle.st_top.proofs.DoingLemmas.{holds_of_tree, run_has_used_args, run_is_short}
use Rattle.st_top.proofs.ProgramLemmas.{numbers_have_the_threads}
use Rattle.st_top.proofs.ReadingLemmas.{each_ok}
use Rattle.st_top.proofs.runs.run_program.Goals as goal

pub run_scheduled-requires-clause-threads : goal.run_scheduled-requires-clause-threads
run_scheduled-requires-clause-threads c =
    c.requires.threads ∙ sym (numbers_have_the_threads c.args.typed.now.program c.args.typed.now.resolved c.resolved-numbers.ensures.of_tree)

pub returns-clause-by_seed : goal.returns-clause-by_seed
returns-clause-by_seed c = each_ok c.run_scheduled.result _ _
    (λ ran is. holds_of_tree c.args.typed.now.program _ _ (λ (s : ShapeLists) (p : Numbers). ran ≡ scheduled_run s p c.args.sizes.now c.args.seed)
    c.shape-shape.ensures.of_tree c.resolved-numbers.ensures.of_tree is) c.run_scheduled.ensures.run

pub returns-clause-right : goal.returns-clause-right
returns-clause-right c = each_ok c.run_scheduled.result _ _
    (λ ran is. holds_of_tree c.args.typed.now.program _ _ (λ (s : ShapeLists) (p : Numbers). IsRightRun s p c.args.sizes.now ran)
    c.shape-shape.ensures.of_tree c.resolved-numbers.ensures.of_tree is) c.run_scheduled.ensures.right

pub returns-clause-args : goal.returns-clause-args
returns-clause-args c = each_ok c.run_scheduled.result _ _
    (λ ran right. run_has_used_args c.args.typed.now.shape (program_of c.args.typed.now.resolved) c.args.sizes.now ran c.shape-shape.ensures.fits right)
    c.run_scheduled.ensures.right

pub returns-clause-few_events : goal.returns-clause-few_events
returns-clause-few_events c = each_ok c.run_scheduled.result _ _
    (λ ran is. (run_is_short c.args.typed.now.shape (program_of c.args.typed.now.resolved) c.args.sizes.now c.args.seed ran
    c.resolved-numbers.ensures.well_formed c.requires.sizes is).events) c.run_scheduled.ensures.run

pub returns-clause-few_verdicts : goal.returns-clause-few_verdicts
returns-clause-few_verdicts c = each_ok c.run_scheduled.result _ _
    (λ ran is. (run_is_short c.args.typed.now.shape (program_of c.args.typed.now.resolved) c.args.sizes.now c.args.seed ran
    c.resolved-numbers.ensures.well_formed c.requires.sizes is).verdicts) c.run_scheduled.ensures.run

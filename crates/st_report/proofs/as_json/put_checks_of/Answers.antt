use Rattle.std.proofs.Common.{◌∙◌, ap, ◌++◌, List, ℕ}
use Rattle.st_report.specs.Json.{before_comma, check_json}
use Rattle.st_report.specs.declared.checks.LaunchedCheck.{LaunchedCheck}
use Rattle.st_report.proofs.PieceLemmas.{next_piece}
use Rattle.st_report.proofs.as_json.put_checks_of.Goals as goal

pub loop-check-preserved : goal.loop-check-preserved
loop-check-preserved c =
    next_piece (λ (check : LaunchedCheck). before_comma (check_json c.args.thread.now check)) c.args.checks.now c.loop-check.check-index _
    c.args.list.now.items c.loop-check.list.items c.put_item.new.list.items c.loop-check-test.true c.loop-check.invariant
    (c.in_ok-put_item.ensures ∙ ap (λ (t : List ℕ). c.loop-check.list.items ++ before_comma t) (c.deref.ensures.value ∙ c.in_ok-text.ensures))

use Rattle.std.proofs.Common.{◌+◌, ◌∙◌, sym, ap, ℕ, arith}
use Rattle.st_report.proofs.CheckLemmas.{a_check_is_added, no_check_is_added, an_own_one_counts, another_adds_no_check, another_counts_nothing}
use Rattle.st_report.proofs.checks.collect_checks.Goals.{then-is_own+in-Some+in_ok-push-in-Some, then-is_own+in-None, else-is_own}
use Rattle.st_report.proofs.checks.collect_checks.Goals as goal

pub loop-event-preserved : goal.loop-event-preserved
loop-event-preserved c =
    let within = c.loop-event-test.true in
    let before = c.loop-event.invariant in
    elim c.if-is_own.branch [
      | then-is_own+in-Some+in_ok-push-in-Some w ↦
          let mine = sym c.is_own.ensures ∙ w.if-is_own.true in
          let counted = ap (λ (n : ℕ). n + 1) before.0 in
          rw (w.own-is, w.checks-is) (
            an_own_one_counts _ _ _ _ _ within mine before.0,
            a_check_is_added _ _ _ _ _ _ _ _ _ _ within mine counted (sym w.find_check.ensures ∙ w.in-Some.is) before.1 w.in_ok-push-in-Some.ensures.items,
            omega (arith, before.2),
          )
      | then-is_own+in-None w ↦
          let mine = sym c.is_own.ensures ∙ w.if-is_own.true in
          let counted = ap (λ (n : ℕ). n + 1) before.0 in
          rw (w.own-is, w.checks-is) (
            an_own_one_counts _ _ _ _ _ within mine before.0,
            no_check_is_added _ _ _ _ _ _ _ _ within mine counted (sym w.find_check.ensures ∙ w.in-None.is) before.1,
            omega (arith, before.2),
          )
      | else-is_own w ↦
          let other = sym c.is_own.ensures ∙ w.if-is_own.false in
          rw (w.own-is, w.checks-is) (
            another_counts_nothing _ _ _ _ _ within other before.0,
            another_adds_no_check _ _ _ _ _ _ _ within other before.1,
            omega (arith, before.2),
          )
    ]

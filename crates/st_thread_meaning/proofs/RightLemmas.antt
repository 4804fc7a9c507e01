-- The right verdicts of a program make a judge
use Rattle.std.proofs.Common.{◌≡◌, ℕ, true, List, [], Option, Some, None, subst}
use Rattle.st_events.specs.declared.limits.Sizes.{Sizes}
use Rattle.st_events.specs.declared.verdicts.Verdict.{Verdict}
use Rattle.st_events.specs.declared.verdicts.Verdict.TheVariants.{Plain as Value, Abandoned}
use Rattle.st_events.specs.History.{launch_of, lost_pairs}
use Rattle.st_events.specs.Judge.{AllowsMoreLost, IsRightOfLaunch}
use Rattle.st_events.specs.World.{Launched, Pair, is_lost}
use Rattle.st_events.proofs.JudgeLemmas.{judged_by_launch}
use Rattle.st_events.proofs.PoolLemmas.{large_pool_loses_nothing}
use Rattle.st_resolved.specs.Terms.{Program}
use Rattle.st_thread_meaning.specs.Laws.{JudgeByHeaps, AbandonNothingWithCopies}
use Rattle.st_thread_meaning.specs.Right.{IsRightOf, IsRightVerdict, IsPlain}

-- what is right stays so where more versions are lost
more_may_be_lost : (p : Program) → AllowsMoreLost (IsRightOf p)
more_may_be_lost p sizes launch lost more (Value plain) h right = right
more_may_be_lost p sizes launch lost more (Abandoned obj) h right = (h obj right.0, right.1)

-- a right verdict is judged by the launch and by what is lost, and more loss allows no less
pub verdicts_make_a_judge : JudgeByHeaps
unfolding IsRightVerdict
verdicts_make_a_judge shape p limits = judged_by_launch (IsRightOf p) (more_may_be_lost p) shape limits

-- where nothing is lost for a check, a right verdict of it is plain
plain_without_loss :
    (p : Program) (sizes : Sizes) (o : Option Launched) (pairs : List Pair) (number : ℕ) (verdict : Verdict)
    → pairs ≡ []
    → IsRightOfLaunch (IsRightOf p sizes) o (λ obj. is_lost pairs obj number) verdict
    → IsPlain verdict
plain_without_loss p sizes None pairs number verdict e right = absurd right
plain_without_loss p sizes (Some launch) pairs number (Value plain) e right = tt
plain_without_loss p sizes (Some launch) pairs number (Abandoned obj) e right =
    let none : is_lost [] obj number ≡ true = subst (λ (ps : List Pair). is_lost ps obj number ≡ true) e right.0 in cc

-- so large a pool loses nothing, so no right verdict says that a check was abandoned
pub copies_abandon_nothing : AbandonNothingWithCopies
unfolding IsRightVerdict
copies_abandon_nothing shape p sizes limits es number verdict legal enough right =
    plain_without_loss p sizes (launch_of shape sizes es number) (lost_pairs shape sizes es) number verdict (large_pool_loses_nothing shape sizes limits es legal enough) right

-- A relation that looks at a check's launch and at what is lost for it alone is a judge's
use Rattle.std.proofs.Common.{◌≡◌, ℕ, ◌==◌, Bool, true, List, [], ◌∷◌, ◌++◌, Option, Some, None, refl, sym, subst}
use Rattle.st_events.specs.Terms.{Args, Event, Launch, Sizes, Verdict, ShapeLists, IsWithinLimits, Launched, is_lost, IsLegal, has_launch, launch_of}
use Rattle.st_events.specs.Terms.{lost_pairs}
use Rattle.st_events.specs.History.{is_launch_of}
use Rattle.st_events.specs.Judge.{IsJudge, IsRightOfLaunch, IsRightByLaunch, AllowsMoreLost}
use Rattle.st_events.proofs.AmongLemmas.{or_first, or_second, same_number}
use Rattle.st_events.proofs.ExtendsLemmas.{launch_stays, lost_stays}
use Rattle.st_events.proofs.LaunchLemmas.{launch_is_found}

-- a journal with this Launch in it has a Launch of the check
has_launch_within : (before rest : List Event) (m site n : ℕ) (args : Args) → has_launch n (before ++ Launch m site n args ∷ rest) ≡ true
has_launch_within [] rest m site n args = or_first (n == n) (has_launch n rest) (same_number n)
has_launch_within (e ∷ before) rest m site n args =
    or_second (is_launch_of n e) (has_launch n (before ++ Launch m site n args ∷ rest)) (has_launch_within before rest m site n args)

-- a check of which a launch is known has a Launch
pub known_launch_is_there :
    (shape : ShapeLists) (sizes : Sizes) (es : List Event) (n : ℕ) (launch : Launched)
    → launch_of shape sizes es n ≡ Some launch
    → has_launch n es ≡ true
known_launch_is_there shape sizes es n launch h =
    let here = launch_is_found shape sizes es n launch h in
    subst (λ (ds : List Event). has_launch n ds ≡ true) (sym here.split) (has_launch_within here.before here.rest launch.thread launch.site n launch.args)

-- what is right for a legal journal by such a relation is right for every legal journal that has it as a prefix, and only a
-- launched check has a right verdict
pub judged_by_launch :
    (rel : Sizes → Launched → (ℕ → Bool) → Verdict → Type 0)
    → AllowsMoreLost rel
    → (shape : ShapeLists) → IsWithinLimits shape
    → IsJudge shape (IsRightByLaunch rel shape)
judged_by_launch rel allows shape limits = record {
  launched = λ sizes es n verdict right. found sizes es n verdict (launch_of shape sizes es n) refl right;
  stays = λ sizes es fs n verdict legal right. kept sizes es fs n verdict legal (launch_of shape sizes es n) refl right;
}
  where
    found :
        (sizes : Sizes) (es : List Event) (n : ℕ) (verdict : Verdict) (o : Option Launched)
        → launch_of shape sizes es n ≡ o
        → IsRightOfLaunch (rel sizes) o (λ obj. is_lost (lost_pairs shape sizes es) obj n) verdict
        → has_launch n es ≡ true
    found sizes es n verdict None e right = absurd right
    found sizes es n verdict (Some launch) e right = known_launch_is_there shape sizes es n launch e

    kept :
        (sizes : Sizes) (es fs : List Event) (n : ℕ) (verdict : Verdict)
        → IsLegal shape sizes (es ++ fs)
        → (o : Option Launched)
        → launch_of shape sizes es n ≡ o
        → IsRightOfLaunch (rel sizes) o (λ obj. is_lost (lost_pairs shape sizes es) obj n) verdict
        → IsRightByLaunch rel shape sizes (es ++ fs) n verdict
    kept sizes es fs n verdict legal None e right = absurd right
    kept sizes es fs n verdict legal (Some launch) e right =
        let more = λ (obj : ℕ). is_lost (lost_pairs shape sizes (es ++ fs)) obj n in
        subst (λ (o : Option Launched). IsRightOfLaunch (rel sizes) o more verdict) (sym (launch_stays shape sizes limits es fs n launch legal e))
        (allows sizes launch (λ obj. is_lost (lost_pairs shape sizes es) obj n) more verdict (λ obj h. lost_stays shape sizes es fs obj n h) right)

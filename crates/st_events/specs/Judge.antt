-- What a judge of checks means: a shape, and a relation that says which verdicts are right.
use Rattle.std.specs.Prelude.{◌≡◌, ℕ, Bool, true, List, ◌++◌, Option, Some, None}
use Rattle.st_events.specs.declared.events.Event.{Event}
use Rattle.st_events.specs.declared.limits.Sizes.{Sizes}
use Rattle.st_events.specs.declared.verdicts.Verdict.{Verdict}
use Rattle.st_events.specs.Shape.{ShapeLists}
use Rattle.st_events.specs.Legal.{IsLegal}
use Rattle.st_events.specs.World.{Launched, is_lost}
use Rattle.st_events.specs.History.{has_launch, launch_of, lost_pairs}

-- where the events have no Launch of a check, no verdict of it is right; and what is right for a legal journal is right for every
-- legal journal that has it as a prefix
pub record IsJudge (shape : ShapeLists) (right : Sizes → List Event → ℕ → Verdict → Type 0) : Type 0 where
  pub launched :
      (sizes : Sizes) (es : List Event) (number : ℕ) (verdict : Verdict)
      → right sizes es number verdict
      → has_launch number es ≡ true
  pub stays :
      (sizes : Sizes) (es fs : List Event) (number : ℕ) (verdict : Verdict)
      → IsLegal shape sizes (es ++ fs)
      → right sizes es number verdict
      → right sizes (es ++ fs) number verdict

-- the relation says of a launch with a verdict whether it is right; it knows of the check its launch, and the objects whose version is
-- lost for it
abbrev pub IsRightOfLaunch : (Launched → (ℕ → Bool) → Verdict → Type 0) → Option Launched → (ℕ → Bool) → Verdict → Type 0
IsRightOfLaunch rel None lost verdict = ⊥
IsRightOfLaunch rel (Some launch) lost verdict = rel launch lost verdict

-- the check was launched, and the relation says so of its launch, of what is lost for it, and of the verdict
abbrev pub IsRightByLaunch :
    (Sizes → Launched → (ℕ → Bool) → Verdict → Type 0)
    → ShapeLists → Sizes → List Event → ℕ → Verdict → Type 0
IsRightByLaunch rel shape sizes es number verdict =
    IsRightOfLaunch (rel sizes) (launch_of shape sizes es number) (λ obj. is_lost (lost_pairs shape sizes es) obj number) verdict

-- what is right stays so where more versions are lost
abbrev pub AllowsMoreLost : (Sizes → Launched → (ℕ → Bool) → Verdict → Type 0) → Type 0
AllowsMoreLost rel =
    (sizes : Sizes) (launch : Launched) (lost more : ℕ → Bool) (verdict : Verdict)
    → ((obj : ℕ) → lost obj ≡ true → more obj ≡ true)
    → rel sizes launch lost verdict
    → rel sizes launch more verdict

-- What is found at one event: a launched check whose verdict is wrong.
use Rattle.std.specs.Prelude.{◌≡◌, ℕ, ◌-◌, ◌≤◌, false, List, Option, Some, None, get_or, slice_get, Bool}
use Rattle.st_events.specs.declared.events.Args.{Args}
use Rattle.st_events.specs.declared.events.Event.{Event}
use Rattle.st_events.specs.declared.events.Event.TheVariants.{New, Load, Store, Cas, Launch, Retire}
use Rattle.st_events.specs.declared.shapes.TheConstants.{MOST_ARGS}
use Rattle.st_events.specs.declared.verdicts.Verdict.{Verdict}
use Rattle.st_events.specs.Terms.{Heap}
use Rattle.st_resolved.specs.Terms.{Program}
use Rattle.st_check_meaning.specs.Plain.{cells_read}
use Rattle.st_thread_meaning.specs.Right.{words_of}
use Rattle.st_audit.specs.declared.verdicts.Wrong.{Wrong}
use Rattle.st_audit.specs.Evaluations.{AreSmall, IsRightOn, IsWrongOn}

-- a launch can be judged: its check has a number from 1 on and few arguments, and reads cells of objects with numbers of 32 bits
pub record CanJudgeLaunch (p : Program) (heap : Heap) (calls number site : ℕ) (args : Args) : Type 0 where
  pub from_one : 1 ≤ number
  pub few : args.count ≤ MOST_ARGS
  pub small : AreSmall (cells_read p heap site (words_of args) calls)

-- an event can be judged: a launch as just said, any other at once
abbrev pub CanJudge : Program → Heap → ℕ → Event → Type 0
CanJudge p heap calls (New m obj class) = Unit {0}
CanJudge p heap calls (Load m obj field value) = Unit {0}
CanJudge p heap calls (Store m obj field value) = Unit {0}
CanJudge p heap calls (Cas m obj field expect value done) = Unit {0}
CanJudge p heap calls (Launch m site number args) = CanJudgeLaunch p heap calls number site args
CanJudge p heap calls (Retire m number) = Unit {0}

-- the launched check has a verdict, which is wrong
pub record IsWrongLaunch (p : Program) (heap : Heap) (calls : ℕ) (verdicts : List Verdict) (marks : List Bool) (number site : ℕ) (args : Args) (wrong : Wrong) : Type 0 where
  pub number_is : wrong.number ≡ number
  pub verdict : Verdict
  pub its_verdict : slice_get verdicts (number - 1) ≡ Some verdict
  pub is_wrong : IsWrongOn p heap site args calls (get_or marks (number - 1) false) verdict wrong.plain

-- what is found of a launch: that its verdict, if it has one, is right; or that it is wrong
abbrev pub IsJudgedLaunch : Program → Heap → ℕ → List Verdict → List Bool → ℕ → ℕ → Args → Option Wrong → Type 0
IsJudgedLaunch p heap calls verdicts marks number site args None =
    (verdict : Verdict) → slice_get verdicts (number - 1) ≡ Some verdict → IsRightOn p heap site args calls (get_or marks (number - 1) false) verdict
IsJudgedLaunch p heap calls verdicts marks number site args (Some wrong) = IsWrongLaunch p heap calls verdicts marks number site args wrong

-- of another event nothing is found
abbrev pub IsJudgedEvent : Program → Heap → ℕ → List Verdict → List Bool → Event → Option Wrong → Type 0
IsJudgedEvent p heap calls verdicts marks (New m obj class) found = found ≡ None
IsJudgedEvent p heap calls verdicts marks (Load m obj field value) found = found ≡ None
IsJudgedEvent p heap calls verdicts marks (Store m obj field value) found = found ≡ None
IsJudgedEvent p heap calls verdicts marks (Cas m obj field expect value done) found = found ≡ None
IsJudgedEvent p heap calls verdicts marks (Launch m site number args) found = IsJudgedLaunch p heap calls verdicts marks number site args found
IsJudgedEvent p heap calls verdicts marks (Retire m number) found = found ≡ None

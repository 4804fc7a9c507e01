-- The status of a run.
use Rattle.std.specs.Prelude.{ℕ, Bool, true, false, if◌then◌else◌}
use Rattle.std.specs.List.{list_any}
use Rattle.st_events.specs.declared.verdicts.End.{End}
use Rattle.st_events.specs.declared.verdicts.End.TheVariants.{Finished}
use Rattle.st_events.specs.declared.verdicts.Plain.TheVariants.{Fails, Null, Divide, Overflow, Spent, Deep}
use Rattle.st_events.specs.declared.verdicts.Verdict.{Verdict}
use Rattle.st_events.specs.declared.verdicts.Verdict.TheVariants.{Plain, Abandoned}
use Rattle.st_events.specs.Ran.{RanLists}
use Rattle.st_report.specs.declared.statuses.TheConstants.{STATUS_HOLDS, STATUS_CHECK_FAILS, STATUS_UNFINISHED, STATUS_UNDECIDED}

-- a thread that does not come to its end
abbrev pub is_unfinished : End → Bool
is_unfinished Finished = false
is_unfinished _ = true

-- a check that fails, or whose evaluation met a null, a division by 0, or a number that does not fit
abbrev pub is_fault : Verdict → Bool
is_fault (Plain Fails) = true
is_fault (Plain (Null place)) = true
is_fault (Plain (Divide place)) = true
is_fault (Plain (Overflow place)) = true
is_fault _ = false

-- a check without an answer: its evaluation was cut off, or needed a version that was lost
abbrev pub is_undecided : Verdict → Bool
is_undecided (Plain Spent) = true
is_undecided (Plain Deep) = true
is_undecided (Abandoned obj) = true
is_undecided _ = false

-- the status of a run: the first that applies of a thread that does not come to its end, a check at fault, and a check
-- without an answer
unfoldable pub run_status : RanLists → ℕ
run_status ran =
    if list_any is_unfinished ran.ends then STATUS_UNFINISHED
    else (if list_any is_fault ran.verdicts then STATUS_CHECK_FAILS
    else (if list_any is_undecided ran.verdicts then STATUS_UNDECIDED else STATUS_HOLDS))

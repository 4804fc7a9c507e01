-- How many checks hold, fail, or have another verdict.
use Rattle.std.specs.Prelude.{Bool, true, false, ◌&&◌, not}
use Rattle.st_events.specs.declared.verdicts.Plain.TheVariants.{Holds, Fails}
use Rattle.st_events.specs.declared.verdicts.Verdict.{Verdict}
use Rattle.st_events.specs.declared.verdicts.Verdict.TheVariants.{Plain}

-- the check holds
abbrev pub is_holds : Verdict → Bool
is_holds (Plain Holds) = true
is_holds _ = false

-- the check fails
abbrev pub is_fails : Verdict → Bool
is_fails (Plain Fails) = true
is_fails _ = false

-- neither of these
abbrev pub is_other_verdict : Verdict → Bool
is_other_verdict verdict = not (is_holds verdict) && not (is_fails verdict)

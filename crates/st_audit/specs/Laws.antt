-- Laws of findings.
use Rattle.std.specs.Prelude.{◌≡◌, List}
use Rattle.st_events.specs.declared.events.Event.{Event}
use Rattle.st_events.specs.declared.limits.Sizes.{Sizes}
use Rattle.st_events.specs.declared.verdicts.Verdict.{Verdict}
use Rattle.st_events.specs.Terms.{ShapeLists}
use Rattle.st_resolved.specs.Terms.{Program}
use Rattle.st_audit.specs.declared.findings.Finding.{Finding}
use Rattle.st_audit.specs.declared.findings.Finding.TheVariants.{Memory}
use Rattle.st_audit.specs.Findings.{IsRightJournal, IsFinding}

-- a right journal has no finding but want of memory
abbrev pub HaveNoneWhereRight : Type 0
HaveNoneWhereRight =
    (shape : ShapeLists) (p : Program) (sizes : Sizes) (es : List Event) (verdicts : List Verdict) (f : Finding)
    → IsRightJournal shape p sizes es verdicts
    → IsFinding shape p sizes es verdicts f
    → f ≡ Memory

-- a journal has one finding at most, memory aside
abbrev pub HaveOneAtMost : Type 0
HaveOneAtMost =
    (shape : ShapeLists) (p : Program) (sizes : Sizes) (es : List Event) (verdicts : List Verdict) (f g : Finding)
    → ¬ (f ≡ Memory)
    → ¬ (g ≡ Memory)
    → IsFinding shape p sizes es verdicts f
    → IsFinding shape p sizes es verdicts g
    → f ≡ g

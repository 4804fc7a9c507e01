-- What the evaluation of a check is asked for, and what is said of its verdict.
use Rattle.std.specs.Prelude.{◌≡◌, ℕ, ◌<◌, ◌^◌, Bool, true, List, All, Option, Some, None}
use Rattle.st_events.specs.declared.events.Args.{Args}
use Rattle.st_events.specs.declared.verdicts.Verdict.{Verdict}
use Rattle.st_events.specs.Terms.{Heap}
use Rattle.st_events.specs.declared.verdicts.Plain.{Plain}
use Rattle.st_events.specs.declared.verdicts.Verdict.TheVariants.{Plain as Value, Abandoned}
use Rattle.st_resolved.specs.Terms.{Program}
use Rattle.st_check_meaning.specs.Plain.{Cell, plain_value, cells_read}
use Rattle.st_thread_meaning.specs.Right.{words_of, has_cell_of}

-- the objects of the cells have numbers of 32 bits
abbrev pub AreSmall : List Cell → Type 0
AreSmall cells = All (λ cell. cell.obj < 2 ^ 32) cells

-- the verdict of a check on the heap just before its launch is right, where it is known whether the version that it names is lost
abbrev pub IsRightOn : Program → Heap → ℕ → Args → ℕ → Bool → Verdict → Type 0
IsRightOn p heap site args calls lost (Value plain) = plain ≡ plain_value p heap site (words_of args) calls
IsRightOn p heap site args calls lost (Abandoned obj) = (lost ≡ true) × (has_cell_of obj (cells_read p heap site (words_of args) calls) ≡ true)

-- the verdict is wrong, and this is the plain value
pub record IsWrongOn (p : Program) (heap : Heap) (site : ℕ) (args : Args) (calls : ℕ) (lost : Bool) (verdict : Verdict) (plain : Plain) : Type 0 where
  pub wrong : ¬ IsRightOn p heap site args calls lost verdict
  pub value : plain ≡ plain_value p heap site (words_of args) calls

-- what is found of a verdict: that it is right, or the plain value that it should be
abbrev pub IsJudged : Program → Heap → ℕ → Args → ℕ → Bool → Verdict → Option Plain → Type 0
IsJudged p heap site args calls lost verdict None = IsRightOn p heap site args calls lost verdict
IsJudged p heap site args calls lost verdict (Some plain) = IsWrongOn p heap site args calls lost verdict plain

-- A right run: one legal history, whole, with a right verdict for each check.
use Rattle.std.specs.Prelude.{◌≡◌, ℕ, ◌+◌, ◌*◌, ◌≤◌, ◌==◌, Bool, true, List, [], length, take, All, Some, slice_get}
use Rattle.std.specs.List.{list_any}
use Rattle.st_events.specs.declared.events.Args.{Args}
use Rattle.st_events.specs.declared.events.Event.{Event}
use Rattle.st_events.specs.declared.limits.Sizes.{Sizes}
use Rattle.st_events.specs.declared.verdicts.End.{End}
use Rattle.st_events.specs.declared.verdicts.Verdict.{Verdict}
use Rattle.st_events.specs.declared.verdicts.Verdict.TheVariants.{Plain as Value, Abandoned}
use Rattle.st_events.specs.World.{Launched}
use Rattle.st_events.specs.History.{epoch_of, active_checks, own_events, objects_of}
use Rattle.st_events.specs.Judge.{IsRightByLaunch}
use Rattle.st_events.specs.Legal.{IsLegal}
use Rattle.st_events.specs.Ran.{RanLists}
use Rattle.st_events.specs.Shape.{ShapeLists}
use Rattle.st_resolved.specs.Terms.{Program}
use Rattle.st_check_meaning.specs.Plain.{Cell, plain_value, cells_read}
use Rattle.st_thread_meaning.specs.Threads.{Follows}

-- the words of the arguments that are used
abbrev pub words_of : Args → List ℕ
words_of args = take args.count args.words

-- whether one of the cells is the object's
abbrev pub has_cell_of : ℕ → List Cell → Bool
has_cell_of obj cells = list_any (λ cell. cell.obj == obj) cells

-- The verdict of a launched check is right: it is the plain value of the check on the heap just before its launch; or the check is
-- abandoned at an object whose version is lost for it, and of which it reads a cell on that heap.
abbrev pub IsRightOf : Program → Sizes → Launched → (ℕ → Bool) → Verdict → Type 0
IsRightOf p sizes launch lost (Value plain) = plain ≡ plain_value p launch.past launch.site (words_of launch.args) sizes.calls
IsRightOf p sizes launch lost (Abandoned obj) =
    (lost obj ≡ true) × (has_cell_of obj (cells_read p launch.past launch.site (words_of launch.args) sizes.calls) ≡ true)

-- The verdict of the check with this number is right in a journal; of a check that was not launched none is. What is lost for the check
-- are the pairs of the journal.
unfoldable pub IsRightVerdict : ShapeLists → Program → Sizes → List Event → ℕ → Verdict → Type 0
IsRightVerdict shape p sizes es number verdict = IsRightByLaunch (IsRightOf p) shape sizes es number verdict

-- the verdict is no loss of a version
abbrev pub IsPlain : Verdict → Type 0
IsPlain (Value plain) = Unit {0}
IsPlain (Abandoned obj) = ⊥

-- What a run leaves is right: the journal is legal; each thread has one end, and its own events follow its code to that end; each
-- launched check has one verdict, which is right; no check is active at the end, and every copy is free; and a pool with a copy of each
-- object and one more, for each lane, loses no version.
pub record IsRightRun (shape : ShapeLists) (p : Program) (sizes : Sizes) (ran : RanLists) : Type 0 where
  pub legal : IsLegal shape sizes ran.journal
  pub one_end_each : length ran.ends ≡ length p.threads
  pub to_its_end :
      (thread : ℕ) (end : End)
      → slice_get ran.ends thread ≡ Some end
      → Follows p sizes thread (own_events thread ran.journal) end
  pub one_verdict_each : length ran.verdicts ≡ epoch_of shape sizes ran.journal
  pub right_verdicts :
      (n : ℕ) (verdict : Verdict)
      → slice_get ran.verdicts n ≡ Some verdict
      → IsRightVerdict shape p sizes ran.journal (n + 1) verdict
  pub none_active : active_checks shape sizes ran.journal ≡ []
  pub all_free : ran.free ≡ sizes.copies
  pub none_abandoned : sizes.lanes * (objects_of ran.journal + 1) ≤ sizes.copies → All IsPlain ran.verdicts

-- What was put into the sink.
use Rattle.std.specs.Prelude.{◌≡◌, ℕ, ◌⊎◌, List, None}
use Rattle.st_io.specs.Counts.{RoseBy}
use Rattle.st_io.specs.Growth.{Grows, GrowsByFront}
use Rattle.st_io.specs.States.{SinkState}
use Rattle.st_top.specs.declared.statuses.TheConstants.{STATUS_WRITE_FAULT}

-- the whole text was put, and the status is its own
pub record IsWhole (own : ℕ) (text : List ℕ) (status : ℕ) (before now : SinkState) : Type 0 where
  pub as_own : status ≡ own
  pub written : Grows before.written text now.written

-- a write failed, and a front of the text was put
pub record IsCutOff (text : List ℕ) (status : ℕ) (before now : SinkState) : Type 0 where
  pub as_fault : status ≡ STATUS_WRITE_FAULT
  pub written : GrowsByFront before.written text now.written
  pub faults : RoseBy 1 before.faults now.faults

-- a text with a status of its own was put, whole or cut off
abbrev pub IsWritten : ℕ → List ℕ → ℕ → SinkState → SinkState → Type 0
IsWritten own text status before now = IsWhole own text status before now ⊎ IsCutOff text status before now

-- a front of a line was put, and the whole line where the count of faults did not rise
pub record IsLinePut (line : List ℕ) (before now : SinkState) : Type 0 where
  pub part : GrowsByFront before.written line now.written
  pub whole : ¬ RoseBy 1 before.faults now.faults → Grows before.written line now.written

-- a sink that takes all, and tells nothing
abbrev pub untold_sink : SinkState
untold_sink = record { written = None; faults = 0 }

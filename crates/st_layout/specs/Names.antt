-- The words of a table by name: what each is for, and which of them a plan has.
use Rattle.std.specs.Prelude.{ℕ, ◌+◌, ◌*◌, ◌<◌, ◌≤◌}
use Rattle.st_layout.specs.declared.plans.Plan.{Plan}
use Rattle.st_layout.specs.declared.limits.TheConstants.{MOST_FIELDS}
use Rattle.st_layout.specs.declared.words.TheConstants.{FIXED_CELLS, ROW_WORDS}

-- what a word of the table is for
pub data WordName : Type 0 where
  -- who closes the gate
  ClosingWord : WordName
  -- tickets and copies drawn
  ClockWord : WordName
  -- launches so far
  EpochWord : WordName
  -- the length of the free list
  AvailableWord : WordName
  -- whether a number is in the gate: a mutator's, or main's after them
  FlagWord : (number : ℕ) → WordName
  -- the check that has a lane
  LaneWord : (lane : ℕ) → WordName
  -- the class number of an object
  ClassWord : (object : ℕ) → WordName
  -- the stamp of an object and who holds it
  HeaderWord : (object : ℕ) → WordName
  -- which copy of an object a lane reads
  ForwardWord : (object lane : ℕ) → WordName
  -- a field of an object
  FieldWord : (object field : ℕ) → WordName
  -- the object's number at 0, and then its old fields
  CopyWord : (copy index : ℕ) → WordName
  -- an entry of the free list
  FreeWord : (index : ℕ) → WordName
  -- what is told of a check
  RowWord : (check index : ℕ) → WordName

-- how many cells there are: the fixed ones, and those of each mutator's objects
abbrev pub cells_of : Plan → ℕ
cells_of plan = FIXED_CELLS + plan.mutators * plan.objects

-- the plan has a word of this name: its numbers are within the plan
abbrev pub HasWord : Plan → WordName → Type 0
HasWord plan ClosingWord = Unit {0}
HasWord plan ClockWord = Unit {0}
HasWord plan EpochWord = Unit {0}
HasWord plan AvailableWord = Unit {0}
HasWord plan (FlagWord number) = number ≤ plan.mutators
HasWord plan (LaneWord lane) = lane < plan.lanes
HasWord plan (ClassWord object) = object < cells_of plan
HasWord plan (HeaderWord object) = object < cells_of plan
HasWord plan (ForwardWord object lane) = (object < cells_of plan) × (lane < plan.lanes)
HasWord plan (FieldWord object field) = (object < cells_of plan) × (field < MOST_FIELDS)
HasWord plan (CopyWord copy index) = (copy < plan.copies) × (index ≤ MOST_FIELDS)
HasWord plan (FreeWord index) = index < plan.copies
HasWord plan (RowWord check index) = (1 ≤ check) × (check ≤ plan.rows) × (index < ROW_WORDS)

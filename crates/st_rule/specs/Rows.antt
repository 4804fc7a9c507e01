-- Check rows: what the table tells of each check once it is retired.
use Rattle.std.specs.Prelude.{◌≡◌, ℕ, ◌+◌, ◌-◌, ◌*◌, List, drop, slice_index}
use Rattle.st_layout.specs.declared.plans.Plan.{Plan}
use Rattle.st_layout.specs.declared.words.TheConstants.{ROW_WORDS}
use Rattle.st_layout.specs.Layout.{first_row}
use Rattle.st_events.specs.declared.events.Event.{Event}
use Rattle.st_events.specs.History.{IsRetireIn}

-- no event of the journal retires the check
abbrev pub IsUnretired : List Event → (check : ℕ) → Type 0
IsUnretired journal check = (thread : ℕ) → IsRetireIn journal check thread → ⊥

-- the part on check rows, so far: the row of a check that was not retired is all 0
pub record RowPart (journal : List Event) (row : ℕ → ℕ → ℕ) : Type 0 where
  pub unwritten : (check k : ℕ) → IsUnretired journal check → row check k ≡ 0

-- the words of the check rows, one row behind the other: the table ends with them
abbrev pub rows_told : Plan → (words : List ℕ) → List ℕ
rows_told plan words = drop (first_row plan) words

-- word k of a check's row
abbrev pub row_word : (rows : List ℕ) → (check k : ℕ) → ℕ
row_word rows check k = slice_index rows ((check - 1) * ROW_WORDS + k)

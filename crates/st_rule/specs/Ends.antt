-- What is left of a table at its close.
use Rattle.std.specs.Prelude.{◌≡◌, ℕ, ◌+◌, List, [], length, All}
use Rattle.st_layout.specs.Names.{RowWord, HasWord}
use Rattle.st_events.specs.declared.events.Event.{Event}
use Rattle.st_events.specs.History.{epoch_of, active_checks, kept_rows}
use Rattle.st_rule.specs.declared.views.JoinedView.{JoinedView}
use Rattle.st_rule.specs.declared.views.Terms.{Terms}
use Rattle.st_rule.specs.declared.views.View.{View}
use Rattle.st_rule.specs.Board.{plan_of}
use Rattle.st_rule.specs.Entries.{own_entries}
use Rattle.st_rule.specs.Rows.{IsUnretired, row_word}
use Rattle.st_rule.specs.Rule.{Told, Moment, HoldsAt}

-- the journal of the table, the words of the check rows, and how many copies were free
pub record ClosedValue : Type 0 where
  pub history : List Event
  pub rows : List ℕ
  pub free : ℕ

-- at some moment at which the rule held the journal was this list
pub record IsHistoryOf (told : Told) (history : List Event) : Type 0 where
  pub moment : Moment
  pub words : List ℕ
  pub views : List View
  pub holds : HoldsAt told moment words views
  pub journal_is : moment.journal ≡ history

-- what was joined of each seat are the own events of its number in the history, each with its ticket
abbrev pub HasLogs : List Event → List JoinedView → Type 0
HasLogs history joined = All (λ j. own_entries j.number 0 history ≡ j.entries) joined

-- the free copies and the rows kept at the end number all copies
abbrev pub HasEachCopy : Terms → ClosedValue → Type 0
HasEachCopy terms closed = closed.free + length (kept_rows terms.shape terms.sizes closed.history) ≡ terms.sizes.copies

-- where no check is active at the end every copy is free
abbrev pub HasAllFree : Terms → ClosedValue → Type 0
HasAllFree terms closed = active_checks terms.shape terms.sizes closed.history ≡ [] → closed.free ≡ terms.sizes.copies

-- the row of each check without a Retire in the history is all 0
abbrev pub HasUnwrittenRows : Terms → ClosedValue → Type 0
HasUnwrittenRows terms closed =
    (check k : ℕ) → HasWord (plan_of terms.sizes) (RowWord check k) → IsUnretired closed.history check → row_word closed.rows check k ≡ 0

-- where no check was launched the check rows are all 0
abbrev pub HasNoRows : Terms → ClosedValue → Type 0
HasNoRows terms closed =
    epoch_of terms.shape terms.sizes closed.history ≡ 0
    → (check k : ℕ) → HasWord (plan_of terms.sizes) (RowWord check k) → row_word closed.rows check k ≡ 0

-- What an audit keeps to know which versions the pool loses: stamps, active checks, and the rows of copies as spans of launches.
use Rattle.std.specs.Prelude.{ℕ, ◌+◌, ◌-◌, nat_lt, nat_le, Bool, not, ◌&&◌, if◌then◌else◌, List, [], ◌∷◌, ◌++◌, length, filter, drop, get_or, slice_set, Option, Some, None}
use Rattle.std.specs.List.{list_any}
use Rattle.st_events.specs.declared.events.Event.{Event}
use Rattle.st_events.specs.declared.events.Event.TheVariants.{New, Load, Store, Cas, Launch, Retire}
use Rattle.st_events.specs.Terms.{without}
use Rattle.st_audit.specs.declared.rows.Row.{Row}

-- the active check is one of those that a row's version is kept for: it was launched after the version began, and before it was changed
abbrev pub needs : Row → ℕ → Bool
needs row number = nat_lt row.after number && nat_le number row.up_to

-- some active check needs the row
abbrev pub is_needed : List ℕ → Row → Bool
is_needed active row = list_any (needs row) active

-- how many of the rows some active check needs
abbrev pub count_needed : List ℕ → List Row → ℕ
count_needed active rows = length (filter (is_needed active) rows)

-- what the ledger holds: how many copies there are, the launches so far, of each object its stamp, the active checks, each row that was ever kept,
-- how many rows there were before each launch, and how many rows are needed now
pub record Books : Type 0 where
  pub copies : ℕ
  pub epoch : ℕ
  pub stamps : List ℕ
  pub active : List ℕ
  pub rows : List Row
  pub before : List ℕ
  pub kept : ℕ

-- the stamp of an object
abbrev pub stamp_in : Books → ℕ → ℕ
stamp_in b obj = get_or b.stamps obj 0

-- whether no copy is left
abbrev pub is_full_in : Books → Bool
is_full_in b = not (nat_lt b.kept b.copies)

-- after the New or a change of the object its stamp is the epoch
abbrev pub stamped : ℕ → Books → Books
stamped obj b = record b { stamps = slice_set b.stamps obj b.epoch }

-- the row of the version that a change of the object ends
abbrev pub row_of : ℕ → Books → Row
row_of obj b = record { after = stamp_in b obj; up_to = b.epoch }

-- one row more
abbrev pub with_row : Row → Books → Books
with_row row b = record b { rows = b.rows ++ row ∷ []; kept = b.kept + 1 }

-- a row is kept of the version that a change of the object ends, where some check needs it
abbrev pub copied_if_needed : ℕ → Books → Books
copied_if_needed obj b = if is_needed b.active (row_of obj b) then with_row (row_of obj b) b else b

-- and a copy is left
abbrev pub copied : ℕ → Books → Books
copied obj b = if is_full_in b then b else copied_if_needed obj b

-- after a launch
abbrev pub launched : ℕ → Books → Books
launched number b = record b { epoch = b.epoch + 1; active = b.active ++ number ∷ []; before = b.before ++ length b.rows ∷ [] }

-- the rows that were kept since the launch of a check
abbrev pub rows_since : ℕ → Books → List Row
rows_since number b = drop (get_or b.before (number - 1) 0) b.rows

-- after a Retire: only a row that was kept since the check's launch can be needed no more
abbrev pub retired : ℕ → Books → Books
retired number b = record b {
  active = without number b.active;
  kept = b.kept - count_needed b.active (rows_since number b) + count_needed (without number b.active) (rows_since number b);
}

-- after an event
abbrev pub noted : Event → Books → Books
noted (New m obj class) b = stamped obj b
noted (Load m obj field value) b = b
noted (Store m obj field value) b = stamped obj (copied obj b)
noted (Cas m obj field expect value done) b = if done then stamped obj (copied obj b) else b
noted (Launch m site number args) b = launched number b
noted (Retire m number) b = retired number b

-- the object that an event changes, if it changes one
abbrev pub changed_by : Event → Option ℕ
changed_by (New m obj class) = None
changed_by (Load m obj field value) = None
changed_by (Store m obj field value) = Some obj
changed_by (Cas m obj field expect value done) = if done then Some obj else None
changed_by (Launch m site number args) = None
changed_by (Retire m number) = None

-- When a ledger is right in itself, and what it says of a world.
use Rattle.std.specs.Prelude.{◌≡◌, ℕ, ◌+◌, ◌*◌, ◌<◌, ◌≤◌, ◌^◌, true, List, [], ◌∷◌, length, map, filter, take, get_or, replicate, All, ◌++◌}
use Rattle.st_events.specs.declared.heaps.TheConstants.{FIRST_OF_REGIONS}
use Rattle.st_events.specs.declared.events.Event.{Event}
use Rattle.st_events.specs.declared.limits.Sizes.{Sizes}
use Rattle.st_events.specs.declared.events.Event.TheVariants.{New, Load, Store, Cas, Launch, Retire}
use Rattle.st_events.specs.Terms.{World, is_among}
use Rattle.st_audit.specs.declared.rows.Row.{Row}
use Rattle.st_audit.specs.Ledgers.{Books, needs, count_needed, stamp_in}

-- before the first event
abbrev pub first_books : Sizes → Books
first_books sizes = record {
  copies = sizes.copies;
  epoch = 0;
  stamps = replicate (FIRST_OF_REGIONS + sizes.mutators * sizes.objects) 0;
  active = [];
  rows = [];
  before = [];
  kept = 0;
}

-- there is a place for the stamp, and for one launch more; and a check that is retired was launched
abbrev pub CanNote : Event → Books → Type 0
CanNote (New m obj class) b = obj < length b.stamps
CanNote (Load m obj field value) b = Unit {0}
CanNote (Store m obj field value) b = obj < length b.stamps
CanNote (Cas m obj field expect value done) b = obj < length b.stamps
CanNote (Launch m site number args) b = b.epoch + 1 < 2 ^ 32
CanNote (Retire m number) b = (1 ≤ number) × (number ≤ b.epoch) × (length b.rows < 2 ^ 32)

-- the row was kept before the check with the next number after n was launched
abbrev pub IsKeptBy : ℕ → Row → Type 0
IsKeptBy n row = row.up_to ≤ n

-- the rows that are needed are counted; all rows were kept by now, and the first so many by each launch; active checks are launched
pub record IsBalanced (b : Books) : Type 0 where
  pub kept : b.kept ≡ count_needed b.active b.rows
  pub rows : All (IsKeptBy b.epoch) b.rows
  pub active : (n : ℕ) → is_among b.active n ≡ true → n ≤ b.epoch
  pub launches : length b.before ≡ b.epoch
  pub before : (n : ℕ) → n < b.epoch → All (IsKeptBy n) (take (get_or b.before n 0) b.rows)
  pub places : (n : ℕ) → n < b.epoch → get_or b.before n 0 ≤ length b.rows

-- the checks of a list that is not empty
abbrev pub if_any : List ℕ → List (List ℕ)
if_any [] = []
if_any (n ∷ ns) = (n ∷ ns) ∷ []

-- of each row that is needed the active checks that need it
abbrev pub checks_left : List ℕ → List Row → List (List ℕ)
checks_left active [] = []
checks_left active (row ∷ rows) = if_any (filter (needs row) active) ++ checks_left active rows

-- the ledger says of a world what it keeps: the epoch, stamps and active checks, and of each row the checks that still need it
pub record Tells (b : Books) (w : World) : Type 0 where
  pub epoch : b.epoch ≡ w.epoch
  pub stamps : (obj : ℕ) → stamp_in b obj ≡ w.stamp obj
  pub active : b.active ≡ w.active
  pub rows : checks_left b.active b.rows ≡ map (λ row. row.checks) w.kept

-- a ledger that is balanced, says what it keeps of a world, and has so many copies and stamps
pub record IsLedgerOf (sizes : Sizes) (b : Books) (w : World) (objects : ℕ) : Type 0 where
  pub copies : b.copies ≡ sizes.copies
  pub objects_are : length b.stamps ≡ objects
  pub balance : IsBalanced b
  pub tells : Tells b w

-- What contracts see of a table and its seats.
use Rattle.std.specs.Prelude.{◌≡◌, ℕ, ◌<◌, true, List, map, None}
use Rattle.st_layout.specs.Names.{ClockWord}
use Rattle.atomic_table.specs.Seated.{TableId}
use Rattle.st_events.specs.declared.events.Event.{Event}
use Rattle.st_events.specs.declared.limits.Sizes.{Sizes}
use Rattle.st_events.specs.declared.verdicts.Verdict.{Verdict}
use Rattle.st_events.specs.Shape.{ShapeLists}
use Rattle.st_events.specs.World.{is_among}
use Rattle.st_rule.specs.declared.tables.Shared.{Shared}
use Rattle.st_rule.specs.declared.views.Terms.{Terms}
use Rattle.st_rule.specs.declared.views.MutView.{MutView}
use Rattle.st_rule.specs.declared.views.View.{View}
use Rattle.st_rule.specs.declared.views.View.TheVariants.{Mut}
use Rattle.st_rule.specs.Keys.{terms_by, told_by}
use Rattle.st_rule.specs.Parts.{Sits}
use Rattle.st_rule.specs.Rule.{Told, Moment, HoldsAt}
use Rattle.st_rule.specs.SeatValue.{SeatValue, IsFairView}

-- which table it is
abbrev pub table_of : {J : Type 0} → Shared J → TableId
table_of shared = shared.table.shared.table_id

-- the shape of the table's judge, by what a judge means, and the sizes of its run
abbrev pub terms_of : {J : Type 0} → (J → ShapeLists) → Shared J → Terms
terms_of meant shared = terms_by meant shared.table.shared.key

-- the seat is of this table, and was told its terms
pub record IsSeatOf {J : Type 0} (meant : J → ShapeLists) (shared : Shared J) (seat : SeatValue) : Type 0 where
  pub table : seat.table ≡ table_of shared
  pub terms : seat.view.terms ≡ terms_of meant shared

-- it is the same seat, of the same table
pub record IsSameSeat (before after : SeatValue) : Type 0 where
  pub table : after.table ≡ before.table
  pub id : after.id ≡ before.id

-- what the seat has seen of the journal is legal, its own events there are its entries, in order, and its terms are within the limits
abbrev pub IsFair : SeatValue → Type 0
IsFair seat = IsFairView seat.view

-- the seat holds no object
abbrev pub HoldsNothing : SeatValue → Type 0
HoldsNothing seat = seat.view.held ≡ None

-- the judge of the table's checks
abbrev pub judge_of : {J : Type 0} → Shared J → J
judge_of shared = shared.table.shared.key.judge.value

-- the sizes of the table's run
abbrev pub sizes_of : {J : Type 0} → Shared J → Sizes
sizes_of shared = shared.table.shared.key.sizes

-- the seat is the main thread's
abbrev pub IsMain : SeatValue → Type 0
IsMain seat = seat.view.gate.number ≡ seat.view.terms.sizes.mutators

-- the seat is a mutator's
abbrev pub IsMutator : SeatValue → Type 0
IsMutator seat = seat.view.gate.number < seat.view.terms.sizes.mutators

-- each seat that the main thread split off was joined
abbrev pub HasJoinedAll : MutView → Type 0
HasJoinedAll v = (n : ℕ) → n < v.gate.split → is_among (map (λ j. j.number) v.hands.joined) n ≡ true

-- what the table was told, by what its judge means
abbrev pub told_of : {J : Type 0} → (J → ShapeLists) → (J → Sizes → List Event → ℕ → Verdict → Type 0) → Shared J → Told
told_of meant right shared = told_by meant right shared.table.shared.key

-- at each moment at which the rule holds, the seat has this view and the clock has this word, the seat has seen the whole journal
abbrev pub HasSeenAll : Told → SeatValue → (clock : ℕ) → Type 0
HasSeenAll told seat clock =
    (m : Moment) (words : List ℕ) (views : List View)
    → HoldsAt told m words views
    → Sits views seat.id (Mut seat.view)
    → m.board ClockWord ≡ clock
    → m.journal ≡ seat.view.journal.seen

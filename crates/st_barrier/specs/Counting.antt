-- What the threads of the tests keep of their seats between two calls.
use Rattle.std.specs.Prelude.{◌≡◌, [], ◌∷◌}
use Rattle.st_events.specs.declared.shapes.Kind.TheVariants.{Int}
use Rattle.st_events.specs.Shape.{ShapeLists, kinds_of}
use Rattle.st_gate.specs.Phases.{IsOutside}
use Rattle.st_rule.specs.declared.tables.Shared.{Shared}
use Rattle.st_rule.specs.Seats.{IsSeatOf, IsMutator, IsFair}
use Rattle.st_rule.specs.SeatValue.{SeatValue}

-- the shared object, and each object of class 1, has one number
pub record HasNumbers (shape : ShapeLists) : Type 0 where
  pub shared : kinds_of shape 0 ≡ Int ∷ []
  pub first : kinds_of shape 1 ≡ Int ∷ []

-- a mutator's seat of the table, of a program with such numbers
pub record MayCount {J : Type 0} (meant : J → ShapeLists) (shared : Shared J) (seat : SeatValue) : Type 0 where
  pub table : IsSeatOf meant shared seat
  pub fair : IsFair seat
  pub mutator : IsMutator seat
  pub numbers : HasNumbers seat.view.terms.shape

-- the seat may count, and is outside
abbrev pub MayWork : {J : Type 0} → (J → ShapeLists) → Shared J → SeatValue → Type 0
MayWork meant shared seat = MayCount meant shared seat × IsOutside seat

-- the seat may count still, with its number
abbrev pub HasWorked : {J : Type 0} → (J → ShapeLists) → Shared J → (before after : SeatValue) → Type 0
HasWorked meant shared before after = MayCount meant shared after × (after.view.gate.number ≡ before.view.gate.number)

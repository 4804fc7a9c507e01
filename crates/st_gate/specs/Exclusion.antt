-- Who is alone.
use Rattle.std.specs.Prelude.{◌≢◌, ℕ, List}
use Rattle.st_rule.specs.declared.views.Phase.TheVariants.{Inside, Alone}
use Rattle.st_rule.specs.declared.views.MutView.{MutView}
use Rattle.st_rule.specs.declared.views.View.{View}
use Rattle.st_rule.specs.declared.views.View.TheVariants.{Mut}
use Rattle.st_rule.specs.Parts.{Sits}
use Rattle.st_rule.specs.Rule.{Told, Moment, HoldsAt}
use Rattle.st_rule.specs.SeatValue.{SeatValue}

-- at every moment at which the rule holds of the words and the views, and at which the seat has this view, no other seat is Inside
-- or Alone
abbrev pub ExcludesOthers : Told → SeatValue → Type 0
ExcludesOthers told seat =
    (m : Moment) (words : List ℕ) (views : List View)
    → HoldsAt told m words views
    → Sits views seat.id (Mut seat.view)
    → (other : ℕ) (view : MutView) → other ≢ seat.id
    → Sits views other (Mut view)
    → (view.gate.phase ≢ Inside) × (view.gate.phase ≢ Alone)

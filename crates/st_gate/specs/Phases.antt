-- Where a seat stands to the gate.
use Rattle.std.specs.Prelude.{◌≡◌}
use Rattle.st_rule.specs.declared.views.Phase.TheVariants.{Outside, Inside, Closing, Alone}
use Rattle.st_rule.specs.SeatValue.{SeatValue}

-- the seat is outside the gate
abbrev pub IsOutside : SeatValue → Type 0
IsOutside seat = seat.view.gate.phase ≡ Outside

-- it is inside
abbrev pub IsInside : SeatValue → Type 0
IsInside seat = seat.view.gate.phase ≡ Inside

-- it has the closing word, and some flag is left to be seen
abbrev pub IsClosing : SeatValue → Type 0
IsClosing seat = seat.view.gate.phase ≡ Closing

-- it has the closing word, and saw every other flag clear
abbrev pub IsAlone : SeatValue → Type 0
IsAlone seat = seat.view.gate.phase ≡ Alone

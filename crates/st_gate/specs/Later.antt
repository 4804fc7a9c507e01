-- What a call of the gate leaves of a seat.
use Rattle.std.specs.Prelude.{◌≡◌}
use mathlib.Core.List.{IsPrefix}
use Rattle.st_rule.specs.SeatValue.{SeatValue}

-- It is the same seat of the same table, with its number, its terms and its own events, and it handed out and took in no other.
-- So what is left of its charge and of its room is as before, too. It has seen no less of the journal, and that is legal
pub record IsLater (before after : SeatValue) : Type 0 where
  pub table : after.table ≡ before.table
  pub id : after.id ≡ before.id
  pub terms : after.view.terms ≡ before.view.terms
  pub number : after.view.gate.number ≡ before.view.gate.number
  pub split : after.view.gate.split ≡ before.view.gate.split
  pub hands : after.view.hands ≡ before.view.hands
  pub entries : after.view.journal.entries ≡ before.view.journal.entries
  pub goes_on : IsPrefix before.view.journal.seen after.view.journal.seen

-- A call of the gate after another.
use Rattle.std.proofs.Common.{refl, ◌∙◌}
use Rattle.st_rule.specs.SeatValue.{SeatValue}
use Rattle.st_rule.proofs.PrefixLemmas.{prefix_self, prefix_trans}
use Rattle.st_gate.specs.Later.{IsLater}

-- nothing was called yet
pub later_self : (seat : SeatValue) → IsLater seat seat
later_self seat = record {
  table = refl;
  id = refl;
  terms = refl;
  number = refl;
  split = refl;
  hands = refl;
  entries = refl;
  goes_on = prefix_self seat.view.journal.seen;
}

-- one call after another
pub later_then : (a b c : SeatValue) → IsLater a b → IsLater b c → IsLater a c
later_then a b c p q = record {
  table = q.table ∙ p.table;
  id = q.id ∙ p.id;
  terms = q.terms ∙ p.terms;
  number = q.number ∙ p.number;
  split = q.split ∙ p.split;
  hands = q.hands ∙ p.hands;
  entries = q.entries ∙ p.entries;
  goes_on = prefix_trans a.view.journal.seen b.view.journal.seen c.view.journal.seen p.goes_on q.goes_on;
}

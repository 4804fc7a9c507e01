-- A seat is of the named table exactly where it is of the table that has the name.
use Rattle.std.proofs.Common.{◌≡◌, ◌∙◌, Option, Some, ap, sym}
use Rattle.atomic_table.specs.Seated.{TableId}
use Rattle.st_events.specs.declared.limits.Sizes.{Sizes}
use Rattle.st_events.specs.Shape.{ShapeLists}
use Rattle.st_rule.specs.declared.tables.Shared.{Shared}
use Rattle.st_rule.specs.declared.views.Terms.{Terms}
use Rattle.st_rule.specs.Named.{IsNamedTable, IsNamedSeat, terms_named}
use Rattle.st_rule.specs.Seats.{IsSeatOf, IsSameSeat, terms_of, judge_of}
use Rattle.st_rule.specs.SeatValue.{SeatValue}

terms_is : (a b : Terms) → Some a ≡ Some b → a ≡ b
terms_is a b e = cc

module _ {J : Type 0} (meant : J → ShapeLists) (table : TableId) (judge : Option J) (sizes : Sizes) (shared : Shared J) (named : IsNamedTable table judge sizes shared) where
  its_terms : terms_named meant judge sizes ≡ Some (terms_of meant shared)
  its_terms =
      ap (λ j. terms_named meant j sizes) named.judge_is
      ∙ ap (λ (s : Sizes). Some (record { shape = meant (judge_of shared); sizes = s })) (sym named.sizes_are)

  pub seat_of_named : (seat : SeatValue) → IsNamedSeat meant table judge sizes seat → IsSeatOf meant shared seat
  seat_of_named seat s = record {
    table = s.table_is ∙ sym named.table_is;
    terms = sym (terms_is (terms_of meant shared) seat.view.terms (sym its_terms ∙ s.terms_are));
  }

  pub named_of_seat : (seat : SeatValue) → IsSeatOf meant shared seat → IsNamedSeat meant table judge sizes seat
  named_of_seat seat s = record { table_is = s.table ∙ named.table_is; terms_are = its_terms ∙ ap Some (sym s.terms) }

-- it stays the named table's
pub named_stays :
    {J : Type 0} (meant : J → ShapeLists) (table : TableId) (judge : Option J) (sizes : Sizes) (before after : SeatValue)
    → IsSameSeat before after → after.view.terms ≡ before.view.terms → IsNamedSeat meant table judge sizes before → IsNamedSeat meant table judge sizes after
named_stays meant table judge sizes before after same terms s = record { table_is = same.table ∙ s.table_is; terms_are = s.terms_are ∙ ap Some (sym terms) }

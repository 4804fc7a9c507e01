-- Tables by name.
use Rattle.std.specs.Prelude.{◌≡◌, [], Option, Some, option_map}
use Rattle.atomic_table.specs.Seated.{TableId}
use Rattle.st_events.specs.declared.limits.Sizes.{Sizes}
use Rattle.st_events.specs.Shape.{ShapeLists}
use Rattle.st_rule.specs.declared.tables.Shared.{Shared}
use Rattle.st_rule.specs.declared.views.Terms.{Terms}
use Rattle.st_rule.specs.Seats.{table_of, judge_of, sizes_of}
use Rattle.st_rule.specs.SeatValue.{SeatValue}

-- what stands for no table, and the sizes of no run
abbrev pub no_table : TableId
no_table = record { words = 0; slots = 0; views_name = 0; atom = 0; block = 0; offset = 0; slot_names = [] }

-- sizes with which nothing can be run
abbrev pub no_sizes : Sizes
no_sizes = record { mutators = 0; lanes = 0; objects = 0; copies = 0; events = 0; calls = 0 }

-- the table is the named one, with its judge and its sizes
pub record IsNamedTable {J : Type 0} (table : TableId) (judge : Option J) (sizes : Sizes) (shared : Shared J) : Type 0 where
  pub table_is : table_of shared ≡ table
  pub judge_is : judge ≡ Some (judge_of shared)
  pub sizes_are : sizes_of shared ≡ sizes

-- what a judge means, and the sizes
abbrev pub terms_named : {J : Type 0} → (J → ShapeLists) → Option J → Sizes → Option Terms
terms_named meant judge sizes = option_map (λ j. record { shape = meant j; sizes = sizes }) judge

-- the seat is of the named table, and was told what its judge means and its sizes
pub record IsNamedSeat {J : Type 0} (meant : J → ShapeLists) (table : TableId) (judge : Option J) (sizes : Sizes) (seat : SeatValue) : Type 0 where
  pub table_is : seat.table ≡ table
  pub terms_are : terms_named meant judge sizes ≡ Some seat.view.terms

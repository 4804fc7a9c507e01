-- What a place of the vector of cells stands for.
use Rattle.std.specs.Prelude.{◌≡◌, ℕ, ◌≤◌, List, length, take, All, Option, Some, None}
use Rattle.st_events.specs.declared.heaps.Cell.{Cell}
use Rattle.st_events.specs.declared.shapes.TheConstants.{MOST_FIELDS}
use Rattle.st_events.specs.Heap.{Object}

-- the object of this class, if there is one, whose words are the first so many
abbrev pub object_with : Option ℕ → List ℕ → Option Object
object_with None words = None
object_with (Some class) words = Some (record { class = class; words = words })

-- the object that a place of the vector holds, if one was made
abbrev pub object_of : Cell → Option Object
object_of cell = object_with cell.class (take cell.fields cell.words)

-- the fields of the object are among the words
pub record IsCell (cell : Cell) : Type 0 where
  pub fields : cell.fields ≤ MOST_FIELDS
  pub words : length cell.words ≡ MOST_FIELDS

-- each is such a cell
abbrev pub AreCells : List Cell → Type 0
AreCells cells = All IsCell cells

use Rattle.std.proofs.Common.{map, arith}
use Rattle.std.proofs.lemmas.List.{length-map}
use Rattle.st_events.specs.HeapCell.{object_of}
use Rattle.st_events.proofs.HeapLemmas.{word_is_within}
use Rattle.st_events.proofs.CellLemmas.{cells_with_word}
use Rattle.st_events.proofs.heaps.HeapMap.set.Goals as goal

pub returns-clause-set : goal.returns-clause-set
returns-clause-set c =
    rw (← c.self.view_is)
    (cells_with_word c.self.inside.cells.items c.args.obj c.args.field c.args.value c.index_mut-cell.result.now
    (omega (
      arith,
      length-map c.self.inside.cells.items object_of,
      word_is_within (map object_of c.self.inside.cells.items) c.args.obj c.args.field (rw c.self.view_is c.requires),
    )) c.index_mut-cell.ensures.value)

use Rattle.st_events.specs.Terms.{fresh}
use Rattle.st_events.proofs.CellLemmas.{cells_with_object}
use Rattle.st_events.proofs.heaps.HeapMap.put_new.Goals as goal

pub returns-clause-put : goal.returns-clause-put
returns-clause-put c =
    rw (← c.self.view_is)
    (cells_with_object c.self.inside.cells.items c.args.obj c.fresh.result (fresh c.args.shape.now c.args.class) (rw c.self.view_is c.requires.room) c.fresh.ensures.object)

use Rattle.std.proofs.Common.{refl, arith, ◌+◌, ◌*◌, rules, replicate}
use Rattle.st_events.specs.declared.heaps.TheConstants.{FIRST_OF_REGIONS}
use Rattle.st_events.specs.declared.shapes.TheConstants.{MOST_FIELDS}
use Rattle.std.specs.Prelude.{None}
use Rattle.st_events.proofs.CellLemmas.{first_cells}
use Rattle.st_events.proofs.heaps.HeapMap.make.Goals as goal

pub returns-clause-first : goal.returns-clause-first
returns-clause-first c =
    first_cells c.args.shape.now c.in_ok-cells.cells.items (FIRST_OF_REGIONS + c.args.sizes.now.mutators * c.args.sizes.now.objects)
    (record { class = None; fields = 0; words = replicate MOST_FIELDS 0 }) c.fresh.result (search rules) refl (omega arith) c.fresh.ensures.object

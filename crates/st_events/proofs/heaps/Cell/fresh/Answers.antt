use Rattle.std.proofs.Common.{refl, ap, Some, List, ℕ}
use Rattle.st_events.specs.declared.shapes.TheConstants.{MOST_FIELDS}
use Rattle.st_events.specs.Terms.{kinds_of}
use Rattle.st_events.proofs.HeapLemmas.{kinds_are_few, zeros_taken}
use Rattle.st_events.proofs.heaps.Cell.fresh.Goals as goal

pub returns-clause-object : goal.returns-clause-object
returns-clause-object c =
    let words = zeros_taken (kinds_of c.args.shape.now c.args.class) MOST_FIELDS (kinds_are_few c.args.shape.now c.requires c.args.class) in
    rw c.fields.ensures (ap (λ (ws : List ℕ). Some (record { class = c.args.class; words = ws })) words)

pub returns-clause-cell : goal.returns-clause-cell
returns-clause-cell c = record { fields = rw c.fields.ensures (kinds_are_few c.args.shape.now c.requires c.args.class); words = refl }

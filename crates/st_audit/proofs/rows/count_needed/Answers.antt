use Rattle.std.proofs.Common.{take, arith, length-take}
use Rattle.st_audit.proofs.BooksLemmas.{counted_are_few}
use Rattle.st_audit.proofs.rows.count_needed.Goals as goal

pub overflow_add-count : goal.overflow_add-count
overflow_add-count c =
    let few = counted_are_few c.args.active.now (take c.loop-row.row-index c.args.rows.now) in
    omega (arith, few, length-take c.loop-row.row-index c.args.rows.now, c.loop-row.invariant, c.one_if-count.ensures.few, c.loop-row-test.true)

use Rattle.st_barrier.proofs.CountingLemmas.{made_cell, made_fits, numbers_stay}
use Rattle.tests_table.proofs.tests.counting.make_one.Goals as goal

pub store-requires-clause-cell : goal.store-requires-clause-cell
store-requires-clause-cell g c =
    let made = c.new-obj in
    let before = c.args.inside.now.seat in
    made_cell before.view.gate.number made.result before made.new.inside.seat made.ensures.new made.ensures.fair
    (numbers_stay before made.new.inside.seat made.ensures.new.terms c.requires.numbers)

pub store-requires-clause-kind : goal.store-requires-clause-kind
store-requires-clause-kind g c =
    let made = c.new-obj in
    let before = c.args.inside.now.seat in
    made_fits before.view.gate.number made.result before made.new.inside.seat made.ensures.new made.ensures.fair
    (numbers_stay before made.new.inside.seat made.ensures.new.terms c.requires.numbers) c.args.value

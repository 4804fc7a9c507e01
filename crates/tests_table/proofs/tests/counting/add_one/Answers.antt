use Rattle.std.proofs.Common.{◌+◌, ◌%◌, ◌^◌}
use Rattle.st_barrier.proofs.CountingLemmas.{shared_cell, shared_fits, numbers_stay}
use Rattle.tests_table.proofs.tests.counting.add_one.Goals as goal

pub load-found-requires-clause-cell : goal.load-found-requires-clause-cell
load-found-requires-clause-cell g c = shared_cell c.args.inside.now.seat c.requires.may.fair c.requires.may.numbers

pub cas-requires-clause-cell : goal.cas-requires-clause-cell
cas-requires-clause-cell g c =
    let loaded = c.load-found in
    shared_cell loaded.new.inside.seat loaded.ensures.fair
    (numbers_stay c.args.inside.now.seat loaded.new.inside.seat loaded.ensures.load.made.terms c.requires.may.numbers)

pub cas-requires-clause-expected : goal.cas-requires-clause-expected
cas-requires-clause-expected g c =
    let loaded = c.load-found in
    shared_fits loaded.new.inside.seat loaded.ensures.fair
    (numbers_stay c.args.inside.now.seat loaded.new.inside.seat loaded.ensures.load.made.terms c.requires.may.numbers) loaded.result

pub cas-requires-clause-kind : goal.cas-requires-clause-kind
cas-requires-clause-kind g c =
    let loaded = c.load-found in
    shared_fits loaded.new.inside.seat loaded.ensures.fair
    (numbers_stay c.args.inside.now.seat loaded.new.inside.seat loaded.ensures.load.made.terms c.requires.may.numbers) ((loaded.result + 1) % 2 ^ 64)

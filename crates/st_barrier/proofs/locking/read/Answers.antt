use Rattle.std.proofs.Common.{[]}
use Rattle.st_barrier.proofs.HandLemmas.{in_hand, read_stays, read_hand}
use Rattle.st_barrier.proofs.locking.read.Goals as goal

pub field_load-requires-clause-hand : goal.field_load-requires-clause-hand
field_load-requires-clause-hand g c = in_hand c.args.obj c.args.stamp [] c.args.seat.now c.requires.hand

pub returns-clause-stays : goal.returns-clause-stays
returns-clause-stays g c = read_stays c.args.seat.now c.field_load.new.seat c.field_load.ensures.seat c.args.field c.field_load.ensures.view

pub returns-clause-hand : goal.returns-clause-hand
returns-clause-hand g c =
    read_hand c.args.seat.now c.field_load.new.seat c.args.field c.args.obj c.args.stamp [] c.field_load.ensures.view c.field_load.result c.field_load.ensures.found c.requires.hand

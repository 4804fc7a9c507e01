use Rattle.st_barrier.proofs.KeepLemmas.{field_more, field_keeps}
use Rattle.st_barrier.proofs.versions.load_field.Goals as goal

pub returns-clause-board : goal.returns-clause-board
returns-clause-board g c = field_keeps c.args.seat.now c.field_load.new.seat c.field_load.ensures.seat c.args.place c.field_load.ensures.view

pub returns-clause-field : goal.returns-clause-field
returns-clause-field g c =
    let x = c.args.change in
    λ loaded held found_is.
    field_more c.args.seat.now c.field_load.new.seat c.field_load.ensures.seat c.args.place c.field_load.result c.field_load.ensures.view c.field_load.ensures.found
    x.obj x.stamp x.field c.args.found c.requires.apart loaded held found_is

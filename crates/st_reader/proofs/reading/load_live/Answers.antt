use Rattle.st_reader.proofs.ReadLemmas.{field_few, has_live}
use Rattle.st_reader.proofs.reading.load_live.Goals as goal

pub check_field-requires-clause-field : goal.check_field-requires-clause-field
check_field-requires-clause-field g c = field_few c.args.lane.now.view c.args.obj c.args.field c.is_fair.ensures c.requires.cell

pub returns-clause-half : goal.returns-clause-half
returns-clause-half g c =
    has_live c.args.lane.now c.check_field.new.seat c.args.obj c.args.field c.check_field.result c.requires.cell
    (record { same = c.check_field.ensures.seat; finds = c.check_field.ensures.view; found = c.check_field.ensures.found })

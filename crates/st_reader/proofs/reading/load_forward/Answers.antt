use Rattle.st_reader.proofs.ReadLemmas.{object_stood}
use Rattle.st_reader.proofs.reading.load_forward.Goals as goal

pub check_forward-requires-clause-object : goal.check_forward-requires-clause-object
check_forward-requires-clause-object g c = object_stood c.args.lane.now.view c.args.obj c.args.field c.requires.half.cell

use Rattle.std.proofs.Common.{sym, append-nil}
use Rattle.std.proofs.lemmas.Option.{slice_get_past}
use Rattle.st_types.proofs.arguments.add_found.Goals as goal

pub returns-in-None : goal.returns-in-None
returns-in-None c = rw (slice_get_past c.args.locals.now c.args.number c.in-None.ensures.lookup.3) (sym (append-nil c.args.found.now.items))

use Rattle.st_top.proofs.DoingLemmas.{source_is_generated}
use Rattle.st_top.proofs.commands.make_source.Goals as goal

pub returns-clause-done : goal.returns-clause-done
returns-clause-done c = source_is_generated c.args.n _ c.in_ok-generate.ensures

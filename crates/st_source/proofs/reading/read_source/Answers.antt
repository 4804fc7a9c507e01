use Rattle.st_source.proofs.StageLemmas.{not_accepted}
use Rattle.st_source.proofs.reading.read_source.Goals as goal

pub returns-clause-not_accepted : goal.returns-clause-not_accepted
returns-clause-not_accepted c = not_accepted c.args.text.now c.typed_source.result c.typed_source.ensures.refused

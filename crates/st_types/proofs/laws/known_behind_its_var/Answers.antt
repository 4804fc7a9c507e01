use Rattle.st_types.proofs.KnownLemmas.{known_to_the_end, known_no_further}
use Rattle.st_types.proofs.laws.known_behind_its_var.Goals as goal

pub returns : goal.returns
returns c = record { to_the_end = known_to_the_end; no_further = known_no_further }

use Rattle.st_limit_laws.proofs.FewLemmas.{few_of_each}
use Rattle.st_limit_laws.proofs.laws.few_of_each.Goals as goal

pub returns : goal.returns
returns c = few_of_each

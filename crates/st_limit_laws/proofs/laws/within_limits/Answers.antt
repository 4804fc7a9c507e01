use Rattle.st_limit_laws.proofs.WithinLemmas.{within_limits}
use Rattle.st_limit_laws.proofs.laws.within_limits.Goals as goal

pub returns : goal.returns
returns c = within_limits

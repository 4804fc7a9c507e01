use Rattle.std.proofs.Common.{sym}
use Rattle.st_mutator.proofs.CountLemmas.{count_of_args}
use Rattle.st_mutator.proofs.laying.count_args.Goals as goal

pub returns : goal.returns
returns c = sym (count_of_args c.args.args.now)

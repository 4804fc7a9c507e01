use Rattle.std.proofs.Common.{take, ◌∙◌, ap}
use Rattle.st_resolved.specs.declared.limits.TheConstants.{MOST_LOCALS}
use Rattle.st_mutator.proofs.LocalsLemmas.{first_of_filled}
use Rattle.st_mutator.proofs.locals.Locals.begin.Goals as goal

pub returns : goal.returns
returns c = ap (take c.args.count) c.filled.ensures ∙ first_of_filled c.args.words.now c.args.count MOST_LOCALS c.requires

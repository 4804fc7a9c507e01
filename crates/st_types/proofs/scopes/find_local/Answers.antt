use Rattle.std.proofs.Common.{◌∙◌}
use Rattle.st_types.proofs.ScopeLemmas.{found_by_index, not_found}
use Rattle.st_types.proofs.scopes.find_local.Goals as goal

pub returns : goal.returns
returns c = found_by_index c.args.locals.now c.args.name.now c.in_ok-index.index c.in_ok-local.local.now c.in_ok-index.ensures.value c.in_ok-index.ensures.bound c.in_ok-local.ensures.lookup.1

pub returns-in_err-index : goal.returns-in_err-index
returns-in_err-index c = c.from_residual.ensures ∙ not_found c.args.locals.now c.args.name.now c.in_err-index.ensures.value

use Rattle.st_resolved.specs.Views.{command_of}
use Rattle.st_types.proofs.CheckedLemmas.{handed_on}
use Rattle.st_types.proofs.assignments.store.Goals as goal

pub returns-in_err-ask : goal.returns-in_err-ask
returns-in_err-ask c = rw (c.in_ok-place.ensures, c.in_ok-value.ensures) (handed_on command_of _ _
    c.in_err-ask.field-0.0 c.from_residual-in_err-ask.result c.in_err-ask.ensures c.from_residual-in_err-ask.ensures.1)

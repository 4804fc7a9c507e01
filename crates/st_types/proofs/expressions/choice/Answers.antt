use Rattle.st_types.specs.Typing.{seen_of}
use Rattle.st_types.proofs.CheckedLemmas.{handed_on}
use Rattle.st_types.proofs.expressions.choice.Goals as goal

pub returns-in_err-ask_both : goal.returns-in_err-ask_both
returns-in_err-ask_both c = handed_on seen_of _ _ c.in_err-ask_both.field-0.0 c.from_residual.result c.in_err-ask_both.ensures c.from_residual.ensures.1

use Rattle.st_types.proofs.JudgedLemmas.{typed_is_first}
use Rattle.st_types.proofs.laws.first_fault_of_expressions.Goals as goal

pub returns : goal.returns
returns c = typed_is_first

use Rattle.st_source.proofs.VerdictLemmas.{some_verdict, one_program, one_refusal, not_both}
use Rattle.st_source.proofs.laws.one_verdict.Goals as goal

pub returns : goal.returns
returns c = record { some = some_verdict; one_program = one_program; one_refusal = one_refusal; not_both = not_both }

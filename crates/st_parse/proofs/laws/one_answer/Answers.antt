use Rattle.st_parse.proofs.FaultLemmas.{one_parse_fault, no_program, no_memory_fault}
use Rattle.st_parse.proofs.laws.one_answer.Goals as goal

pub returns : goal.returns
returns c = record { one_fault = one_parse_fault; not_both = no_program; no_memory_fault = no_memory_fault }

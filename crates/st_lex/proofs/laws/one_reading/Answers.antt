use Rattle.st_lex.proofs.Exact.{some_reading, one_list, one_stop, not_both}
use Rattle.st_lex.proofs.laws.one_reading.Goals as goal

pub returns : goal.returns
returns c = record { some = some_reading; one_list = one_list; one_fault = one_stop; not_both = not_both }

use Rattle.st_top.proofs.CallLemmas.{headline_of_call, run_of_call, done_of_call, refusal_of_call, input_of_call, complete_of_call}
use Rattle.st_top.proofs.CallLemmas.{words_of_call, read_fault_of_call, write_fault_of_call, run_status_of_call}
use Rattle.st_top.proofs.calls.strobe.Goals as goal

pub returns-clause-headline : goal.returns-clause-headline
returns-clause-headline g c = headline_of_call _ _ _ _ _ _ c.answer.ensures.ended

pub returns-clause-ran : goal.returns-clause-ran
returns-clause-ran g c = run_of_call _ _ _ _ _ _ c.answer.ensures.ended

pub returns-clause-done : goal.returns-clause-done
returns-clause-done g c = done_of_call _ _ _ _ _ _ c.answer.ensures.ended

pub returns-clause-refused : goal.returns-clause-refused
returns-clause-refused g c = refusal_of_call _ _ _ _ _ _ c.answer.ensures.ended

pub returns-clause-input : goal.returns-clause-input
returns-clause-input g c = input_of_call _ _ _ _ _ _ c.answer.ensures.ended

pub returns-clause-complete : goal.returns-clause-complete
returns-clause-complete g c = complete_of_call _ _ _ _ _ _ c.answer.ensures.ended

pub returns-clause-words : goal.returns-clause-words
returns-clause-words g c = words_of_call _ _ _ _ _ _ c.answer.ensures.ended

pub returns-clause-read_fault : goal.returns-clause-read_fault
returns-clause-read_fault g c = read_fault_of_call _ _ _ _ _ _ c.answer.ensures.ended c.answer.ensures.words_refused

pub returns-clause-write_fault : goal.returns-clause-write_fault
returns-clause-write_fault g c = write_fault_of_call _ _ _ _ _ _ c.answer.ensures.ended c.answer.ensures.words_refused

pub returns-clause-run_status : goal.returns-clause-run_status
returns-clause-run_status g c = run_status_of_call _ _ _ _ _ _ c.answer.ensures.ended c.answer.ensures.words_refused

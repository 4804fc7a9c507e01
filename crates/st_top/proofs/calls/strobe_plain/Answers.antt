use Rattle.st_top.proofs.DoneLemmas.{headline_is_shown}
use Rattle.st_top.proofs.EndingLemmas.{ended_call_has_headline, ended_call_has_its_run, done_status_tells_done, refusal_status_tells_refused, accepted_words_are_not_refused}
use Rattle.st_top.proofs.EndingLemmas.{read_fault_comes_by_count, write_fault_comes_by_count, input_is_refused_exactly, written_run_has_its_status, call_is_complete}
use Rattle.st_top.proofs.calls.strobe_plain.Goals as goal

pub returns-clause-headline : goal.returns-clause-headline
returns-clause-headline g c = headline_is_shown _ _ _ _ _ _ (ended_call_has_headline _ _ _ _ _ _ c.do_words.ensures.ended)

pub returns-clause-ran : goal.returns-clause-ran
returns-clause-ran g c = ended_call_has_its_run _ _ _ _ _ _ c.do_words.ensures.ended

pub returns-clause-done : goal.returns-clause-done
returns-clause-done g c = done_status_tells_done _ _ _ _ _ _ c.do_words.ensures.ended

pub returns-clause-refused : goal.returns-clause-refused
returns-clause-refused g c = refusal_status_tells_refused _ _ _ _ _ _ c.do_words.ensures.ended

pub returns-clause-words : goal.returns-clause-words
returns-clause-words g c = accepted_words_are_not_refused _ _ _ _ _ _ c.do_words.ensures.ended

pub returns-clause-read_fault : goal.returns-clause-read_fault
returns-clause-read_fault g c = read_fault_comes_by_count _ _ _ _ _ _ c.do_words.ensures.ended

pub returns-clause-write_fault : goal.returns-clause-write_fault
returns-clause-write_fault g c = write_fault_comes_by_count _ _ _ _ _ _ c.do_words.ensures.ended

pub returns-clause-input : goal.returns-clause-input
returns-clause-input g c = input_is_refused_exactly _ _ _ _ _ _ c.do_words.ensures.ended

pub returns-clause-run_status : goal.returns-clause-run_status
returns-clause-run_status g c = written_run_has_its_status _ _ _ _ _ _ (ended_call_has_headline _ _ _ _ _ _ c.do_words.ensures.ended)

pub returns-clause-complete : goal.returns-clause-complete
returns-clause-complete g c = call_is_complete _ _ _ _ _ _ c.do_words.ensures.ended

use Rattle.std.proofs.Common.{inl}
use Rattle.st_top.proofs.EndingLemmas.{told_refusal_ends_the_call}
use Rattle.st_top.proofs.calls.do_words.Goals as goal

pub returns-in-Ok-clause-ended : goal.returns-in-Ok-clause-ended
returns-in-Ok-clause-ended g c = inl (record { left = c.in-Ok.left; done = c.in-Ok.ensures.done; ran = c.publish.ensures.ran; written = c.publish.ensures.written })

pub returns-in-Err-clause-ended : goal.returns-in-Err-clause-ended
returns-in-Err-clause-ended g c = told_refusal_ends_the_call _ _ _ _ _ _ c.in-Err.refusal c.in-Err.ensures.cause c.refuse.ensures.told

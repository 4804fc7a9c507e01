use Rattle.std.proofs.Common.{◌∙◌, inl, inr}
use Rattle.st_top.proofs.writing.refuse.Goals as goal

pub returns-in-Ok-clause-told : goal.returns-in-Ok-clause-told
returns-in-Ok-clause-told g c = inl (record {
  ran = c.put_line.ensures.ran;
  status = c.put_line.ensures.status ∙ c.status.ensures;
  line = rw (c.deref.ensures.value ∙ c.in-Ok.ensures) at c.put_line.ensures.line;
})

pub returns-in-Err-clause-told : goal.returns-in-Err-clause-told
returns-in-Err-clause-told g c = inr c.refuse_without_memory.ensures.told

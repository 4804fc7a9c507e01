use Rattle.st_top.proofs.writing.refuse_without_memory.Goals as goal

pub returns-clause-told : goal.returns-clause-told
returns-clause-told g c = record { ran = c.put_line.ensures.ran; status = c.put_line.ensures.status; line = c.put_line.ensures.line }

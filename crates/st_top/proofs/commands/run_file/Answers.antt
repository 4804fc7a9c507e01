use Rattle.st_top.proofs.commands.run_file.Goals as goal

pub returns-in_ok-run_as_asked-in-Ok-clause-done : goal.returns-in_ok-run_as_asked-in-Ok-clause-done
returns-in_ok-run_as_asked-in-Ok-clause-done g c = c.in_ok-run_as_asked-in-Ok.ensures _ (rw c.as_str.ensures at c.in-Ok.ensures.accepted)

pub returns-in-Err-clause-cause : goal.returns-in-Err-clause-cause
returns-in-Err-clause-cause g c = rw c.as_str.ensures at c.in-Err.ensures.cause

use Rattle.st_top.proofs.DoingLemmas.{source_is_checked}
use Rattle.st_top.proofs.commands.check_file.Goals as goal

pub returns-in_ok-make_accepted_line-in-Ok-clause-done : goal.returns-in_ok-make_accepted_line-in-Ok-clause-done
returns-in_ok-make_accepted_line-in-Ok-clause-done g c =
    source_is_checked _ c.in-Ok.typed.program _ c.in_ok-make_accepted_line-in-Ok.ensures (rw c.as_str.ensures at c.in-Ok.ensures.accepted)

pub returns-in-Err-clause-cause : goal.returns-in-Err-clause-cause
returns-in-Err-clause-cause g c = rw c.as_str.ensures at c.in-Err.ensures.cause

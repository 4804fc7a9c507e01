use Rattle.st_top.proofs.PuttingLemmas.{put_line_is_put}
use Rattle.st_top.proofs.writing.put_line.Goals as goal

pub returns-clause-line : goal.returns-clause-line
returns-clause-line g c = put_line_is_put c.put-unheard.result _ _ _ c.put-unheard.ensures.appended c.put-unheard.ensures.cut c.put-unheard.ensures.failed

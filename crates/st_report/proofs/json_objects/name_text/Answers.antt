use Rattle.std.proofs.Common.{◌∙◌}
use Rattle.st_report.proofs.JsonLemmas.{name_is_text, name_is_no_text}
use Rattle.st_report.proofs.json_objects.name_text.Goals as goal

pub returns-in-Ok : goal.returns-in-Ok
returns-in-Ok c = c.in-Ok.ensures.cases.0 ∙ name_is_text c.args.name.now c.in-Ok.ensures.cases.1

pub returns-in-Err : goal.returns-in-Err
returns-in-Err c = name_is_no_text c.args.name.now c.in-Err.ensures.cases.0

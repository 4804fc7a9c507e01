use Rattle.std.proofs.Common.{◌∙◌}
use Rattle.st_report.proofs.JsonLemmas.{line_is}
use Rattle.st_report.proofs.as_json.line_of_parts.Goals as goal

pub returns : goal.returns
returns c =
    line_is _ _ _ _ _ _ _ c.in_ok-line.ensures (c.deref.ensures.value ∙ c.in_ok-checks.ensures) (c.deref-2.ensures.value ∙ c.in_ok-counts.ensures)
    (c.deref-3.ensures.value ∙ c.in_ok-ends.ensures)

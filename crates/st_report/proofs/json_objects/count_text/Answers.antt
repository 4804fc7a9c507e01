use Rattle.std.proofs.Common.{◌≡◌, ◌∙◌, ap, rules}
use Rattle.serde_json.specs.View.{view}
use Rattle.serde_json.specs.Written.{compact_text, has_float}
use Rattle.serde_json.proofs.OnLiterals.{serde_json_on_literals}
use Rattle.st_report.specs.Json.{count_object}
use Rattle.st_report.proofs.JsonLemmas.{count_text}
use Rattle.std.specs.Prelude.{length, count_by}
use Rattle.st_report.specs.Counts.{is_holds, is_fails, is_other_verdict}
use Rattle.st_report.proofs.json_objects.count_text.Goals as goal

pub returns : goal.returns
unfolding serde_json_on_literals
returns c =
    let built : view c.in_ok-value.value
    ≡ count_object (length c.args.verdicts.now) (count_by is_fails c.args.verdicts.now) (count_by is_holds c.args.verdicts.now) (count_by is_other_verdict c.args.verdicts.now) =
    search rules in
    c.in_ok-to_vec.ensures.text (ap has_float built) ∙ ap compact_text built ∙ count_text c.args.verdicts.now

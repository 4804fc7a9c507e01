use Rattle.std.proofs.Common.{◌≡◌, ◌∙◌, ap, rules}
use Rattle.serde_json.specs.View.{view}
use Rattle.serde_json.specs.Written.{compact_text, has_float}
use Rattle.serde_json.proofs.OnLiterals.{serde_json_on_literals}
use Rattle.st_report.specs.Json.{name_text, check_object}
use Rattle.st_texts.specs.Texts.{verdict_text}
use Rattle.st_report.proofs.JsonLemmas.{check_text}
use Rattle.st_report.proofs.json_objects.check_text.Goals as goal

pub returns : goal.returns
unfolding serde_json_on_literals
returns c =
    let built : view c.in_ok-value.value ≡ check_object c.args.check.event c.args.check.place (name_text c.args.thread.now) (verdict_text c.args.check.verdict) = search rules in
    c.in_ok-to_vec.ensures.text (ap has_float built) ∙ ap compact_text built ∙ check_text c.args.thread.now c.args.check

use Rattle.std.proofs.Common.{◌≡◌, ◌∙◌, ap, rules}
use Rattle.serde_json.specs.View.{view}
use Rattle.serde_json.specs.Written.{compact_text, has_float}
use Rattle.serde_json.proofs.OnLiterals.{serde_json_on_literals}
use Rattle.st_report.specs.Json.{name_text, thread_object}
use Rattle.st_texts.specs.Texts.{end_text}
use Rattle.st_report.proofs.JsonLemmas.{thread_text}
use Rattle.st_report.proofs.json_objects.thread_text.Goals as goal

pub returns : goal.returns
unfolding serde_json_on_literals
returns c =
    let built : view c.in_ok-value.value ≡ thread_object (end_text c.args.end) (name_text c.args.thread.now) = search rules in
    c.in_ok-to_vec.ensures.text (ap has_float built) ∙ ap compact_text built ∙ thread_text c.args.thread.now c.args.end

use Rattle.std.proofs.Common.{◌≡◌, arith, length, map, sym}
use Rattle.std.specs.Prelude.{vec_len}
use Rattle.std.specs.List.{zip}
use Rattle.std.proofs.lemmas.List.Folds.{flat_map-map}
use Rattle.st_report.specs.Json.{before_comma, thread_json}
use Rattle.st_report.proofs.JsonLemmas.{list_closed}
use Rattle.st_report.proofs.as_json.end_list.Goals as goal

pub returns : goal.returns
returns c =
    let long : vec_len c.put_ends.new.list ≡ length c.put_ends.new.list.items = omega (arith, c.put_ends.new.list.ok.0) in
    list_closed _ _ _ _ _ _ c.new-list.ensures.items c.in_ok-put_ends.ensures
    (sym (flat_map-map before_comma thread_json (zip (map (λ name. name.now) c.args.threads.now) c.args.ends.now))) long c.pop.ensures.rest

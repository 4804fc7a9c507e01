use Rattle.std.proofs.Common.{◌≡◌, arith, length, map}
use Rattle.std.specs.Prelude.{vec_len}
use Rattle.st_report.proofs.JsonLemmas.{checks_with_commas, list_closed}
use Rattle.st_report.proofs.as_json.check_list.Goals as goal

pub returns : goal.returns
returns c =
    let long : vec_len c.put_checks.new.list ≡ length c.put_checks.new.list.items = omega (arith, c.put_checks.new.list.ok.0) in
    list_closed _ _ _ _ _ _ c.new-list.ensures.items c.in_ok-put_checks.ensures
    (checks_with_commas (map (λ name. name.now) c.args.threads.now) c.args.places.now c.args.verdicts.now c.args.journal.now) long c.pop.ensures.rest

use Rattle.std.proofs.Common.{◌≡◌, ◌==◌, ◌∙◌, ap, rules}
use Rattle.std.specs.List.{list_all}
use Rattle.st_events.proofs.ReplayLemmas.{rest_of_slice}
use Rattle.st_events.proofs.replaying.fitting.rest_is_zero.Goals as goal

pub returns-in-Some : goal.returns-in-Some
returns-in-Some c =
    let all : c.all_zero.result ≡ list_all (λ word. word == 0) c.in-Some.rest.now = search rules in
    all ∙ ap (list_all (λ word. word == 0)) (c.in-Some.ensures.lookup.0.2 ∙ rest_of_slice c.args.words.now c.args.from)

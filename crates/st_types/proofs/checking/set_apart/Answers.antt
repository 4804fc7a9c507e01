use Rattle.std.proofs.Common.{refl, ap, ◌∙◌, map}
use Rattle.std.proofs.IntoIterSteps.{All-taken}
use Rattle.st_resolved.specs.Views.{check_of}
use Rattle.st_types.specs.Statements.{Launched}
use Rattle.st_types.specs.Walks.{launched_of}
use Rattle.st_types.proofs.OutcomeLemmas.{told_goes}
use Rattle.st_types.proofs.checking.set_apart.Goals as goal

pub loop-one-preserved : goal.loop-one-preserved
loop-one-preserved c = record {
  checks = told_goes check_of (λ l. l.check) c.loop-one.checks.items c.push.new.self.items c.in-Some.one.check c.loop-one.yielded c.in-Some.one
      c.in_ok-push.ensures.items refl c.loop-one.invariant.checks;
  kinds = told_goes (λ kinds. kinds.items) (λ l. l.kinds) c.loop-one.kinds.items c.push-in-loop-one.new.self.items c.in-Some.one.kinds c.loop-one.yielded c.in-Some.one
      c.in_ok-push-2.ensures.items refl c.loop-one.invariant.kinds;
}

pub returns : goal.returns
returns c =
    let taken = All-taken c.into_iter-one-iterator.result c.loop-one.yielded (c.next.new.self, (c.loop-one.one-iterator, c.loop-one.yielded_by, c.in-None.ensures.steps)) in
    let all = taken ∙ c.into_iter-one-iterator.ensures.into_iter_gives.0 in
    record {
      checks = c.loop-one.invariant.checks ∙ ap (λ ls. map (λ (l : Launched). l.check) (map launched_of ls)) all;
      kinds = c.loop-one.invariant.kinds ∙ ap (λ ls. map (λ (l : Launched). l.kinds) (map launched_of ls)) all;
    }

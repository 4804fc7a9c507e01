use Rattle.std.proofs.Common.{◌∷◌, Some, None, sym, ◌∙◌, ap, subst, ◌≡◌}
use Rattle.st_events.specs.declared.verdicts.End.TheVariants.{EventsSpent}
use Rattle.st_mutator.specs.declared.asking.Asked.TheVariants as asked
use Rattle.st_mutator.specs.declared.machines.Machine.{Machine}
use Rattle.st_mutator.specs.declared.nodes.Frame.{Frame}
use Rattle.st_mutator.specs.declared.nodes.Frame.TheVariants.{Test}
use Rattle.st_mutator.specs.declared.nodes.Node.TheVariants.{While}
use Rattle.st_mutator.specs.Stacked.{Stacked}
use Rattle.st_mutator.specs.Standing.{IsStep, work_of, node_deed, fresh_at}
use Rattle.st_mutator.proofs.CallLemmas.{turned, turn_step, turn_spent}
use Rattle.st_mutator.proofs.machines.Machine.begin_turn.Goals as goal

pub returns : goal.returns
returns c =
    let m = c.args.self.now in
    let there : c.go_to.new.self ≡ turned c.args.index c.args.test c.args.body c.args.next m =
    c.go_to.ensures
    ∙ ap (λ (fs : Stacked Frame). fresh_at c.args.test (record c.pay_for_turn.new.self { frames = fs })) c.push.ensures
    ∙ ap (λ (x : Machine).
    fresh_at c.args.test (record x { frames = record { items = Test c.args.body c.args.next c.args.index ∷ x.frames.items; room = x.frames.room } }))
    c.if-not-pay_for_turn.ensures.1 in
    subst (λ (x : Machine). IsStep None x m.nodes m.entries (work_of m) (node_deed m (While c.args.test c.args.body c.args.next))) (sym there)
    (turn_step m c.args.index c.args.test c.args.body c.args.next c.requires.standing c.requires.at c.requires.here c.if-not-pay_for_turn.ensures.0)

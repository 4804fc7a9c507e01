use Rattle.std.proofs.Common.{ℕ, ◌<◌, ◌≡◌, length, Some, None, sym, ◌∙◌, ap, subst, arith}
use Rattle.st_thread_meaning.specs.Deeds.{Deed}
use Rattle.st_mutator.specs.declared.nodes.Next.{Next}
use Rattle.st_mutator.specs.Standing.{IsStep, work_of, rank}
use Rattle.st_mutator.proofs.CallLemmas.{deed_at, node_is_there}
use Rattle.st_mutator.proofs.machines.Machine.step.Goals as goal

pub returns-in-Some : goal.returns-in-Some
returns-in-Some c =
    let m = c.args.self.now in
    subst (λ (d : Deed). IsStep c.run.result c.run.new.self m.nodes m.entries (work_of m) d)
    (deed_at m c.in-At.index c.in-Some.node.now c.requires c.in-At.is (sym c.in-Some.ensures.value)) c.run.ensures

pub returns-in-None : goal.returns-in-None
returns-in-None c =
    let m = c.args.self.now in
    let within : c.in-At.index < length m.nodes = omega (arith, c.requires.operands, ap rank c.in-At.is) in
    absurd (node_is_there m.nodes c.in-At.index within (sym c.in-None.ensures.value))

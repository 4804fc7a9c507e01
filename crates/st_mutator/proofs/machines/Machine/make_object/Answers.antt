use Rattle.std.proofs.Common.{true, refl, subst}
use Rattle.st_thread_meaning.specs.Deeds.{make, Deed}
use Rattle.st_mutator.specs.Standing.{IsStep, means_of, going_in, rest_of, told_operands, work_of}
use Rattle.st_mutator.proofs.EventLemmas.{new_known}
use Rattle.st_mutator.proofs.machines.Machine.make_object.Goals as goal

pub returns : goal.returns
returns c =
    let m = c.args.self.now in
    subst (λ (d : Deed). IsStep c.ask.result c.ask.new.self m.nodes m.entries (work_of m) d)
    (new_known c.args.class c.args.at (means_of m)
    (λ reply left. going_in m c.args.next (told_operands true reply m.operands.items) m.locals left (rest_of m)) c.if-self-eq0.false)
    (c.ask.ensures (make c.args.class) refl)

use Rattle.std.proofs.Common.{List, ◌∷◌, Some, sym, ◌∙◌, ap, subst}
use Rattle.st_events.specs.declared.verdicts.End.TheVariants.{Finished}
use Rattle.st_mutator.specs.declared.asking.Asked.TheVariants as asked
use Rattle.st_mutator.specs.declared.nodes.Frame.{Frame}
use Rattle.st_mutator.specs.declared.nodes.Frame.TheVariants.{Test, Body, Return}
use Rattle.st_mutator.specs.Stacked.{Stacked}
use Rattle.st_mutator.specs.Standing.{IsStep, work_of, deed_of}
use Rattle.st_mutator.proofs.StepLemmas.{framed_step, finished_step}
use Rattle.st_mutator.proofs.machines.Machine.leave.Goals as goal

pub returns-in-None : goal.returns-in-None
returns-in-None c =
    let m = c.args.self.now in
    subst (λ (fs : Stacked Frame). IsStep (Some (asked.End Finished)) (record m { frames = fs }) m.nodes m.entries (work_of m) (deed_of m))
    (sym c.in-None.ensures.1) (finished_step m c.requires.standing c.in-None.ensures.0 c.requires.ended)

pub returns-in-Some-Test : goal.returns-in-Some-Test
returns-in-Some-Test c =
    framed_step c.args.self.now (Test c.in-Some-Test.body c.in-Some-Test.next c.in-Some-Test.again) c.pop.new.self c.after_test.result c.after_test.new.self
    (c.in-Some-Test.ensures ∙ ap (λ (f : Frame). record { items = f ∷ c.pop.new.self.items; room = c.pop.new.self.room }) c.in-Some-Test.field-0-is)
    c.requires.ended c.after_test.ensures

pub returns-in-Some-Body : goal.returns-in-Some-Body
returns-in-Some-Body c =
    framed_step c.args.self.now (Body c.in-Some-Body.again) c.pop.new.self c.loop_again.result c.loop_again.new.self
    (c.in-Some-Body.ensures ∙ ap (λ (f : Frame). record { items = f ∷ c.pop.new.self.items; room = c.pop.new.self.room }) c.in-Some-Body.field-0-is)
    c.requires.ended c.loop_again.ensures

pub returns-in-Some-Return : goal.returns-in-Some-Return
returns-in-Some-Return c =
    framed_step c.args.self.now (Return c.in-Some-Return.next) c.pop.new.self c.return_to.result c.return_to.new.self
    (c.in-Some-Return.ensures ∙ ap (λ (f : Frame). record { items = f ∷ c.pop.new.self.items; room = c.pop.new.self.room }) c.in-Some-Return.field-0-is)
    c.requires.ended c.return_to.ensures

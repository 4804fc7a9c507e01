use Rattle.std.proofs.Common.{ℕ, Some, refl, sym, ◌∙◌, ap, subst, arith}
use Rattle.std.specs.List.{All}
use Rattle.std.proofs.lemmas.List.Elements.{All-pop}
use Rattle.st_resolved.specs.Views.{program_of}
use Rattle.st_events.specs.declared.events.Event.TheVariants.{Launch}
use Rattle.st_snap.specs.declared.lanes.Lane.{Lane}
use Rattle.st_snap.specs.Snapshots.{IsLaneOf, with_event}
use Rattle.st_sched.specs.Standing.{IsIdleEval}
use Rattle.st_sched.proofs.BeginLemmas.{launch_fits, launch_has_room, launch_stands}
use Rattle.st_sched.proofs.running.Running.begin_check.Goals as goal

pub launch-requires-clause-thread : goal.launch-requires-clause-thread
launch-requires-clause-thread c = (launch_fits _ c.args.m c.args.site c.args.args c.args.self.now c.requires.launch).thread

pub launch-requires-clause-site : goal.launch-requires-clause-site
launch-requires-clause-site c = (launch_fits _ c.args.m c.args.site c.args.args c.args.self.now c.requires.launch).statement

pub launch-requires-clause-args : goal.launch-requires-clause-args
launch-requires-clause-args c = (launch_fits _ c.args.m c.args.site c.args.args c.args.self.now c.requires.launch).arguments

pub unreachable-requires : goal.unreachable-requires
unreachable-requires c =
    let fits = launch_fits _ c.args.m c.args.site c.args.args c.args.self.now c.requires.launch in
    let none = c.in-Err.ensures.no_lane.0 refl in
    omega (arith, none, fits.lane)

pub begin-requires-clause-made : goal.begin-requires-clause-made
begin-requires-clause-made c =
    let run = c.requires.launch.run in
    let evals : All (IsIdleEval (program_of c.args.program.now) run.sizes) c.pop.new.self.items × IsIdleEval (program_of c.args.program.now) run.sizes c.in-Some.eval =
    All-pop (IsIdleEval (program_of c.args.program.now) run.sizes) c.args.self.now.idle.items c.pop.new.self.items (Some c.in-Some.eval) c.in-Some.ensures.items run.stands.idle in
    evals.1.made

pub begin-requires-clause-few : goal.begin-requires-clause-few
begin-requires-clause-few c = (launch_has_room _ c.args.m c.args.site c.args.args c.args.self.now c.requires.launch).few

pub returns-clause-stands : goal.returns-clause-stands
returns-clause-stands c = λ t fresh.
    launch_stands (program_of c.args.program.now) c.args.self.now _ c.args.m c.args.site c.args.args c.in-Some.eval c.begin.result _ t fresh
    (ap (λ (l : Lane). l.number) c.begin.ensures.lane ∙ c.in-Ok.ensures.number)
    (c.in-Ok.ensures.event ∙ ap (λ (n : ℕ). with_event c.args.self.now.heap (Launch c.args.m c.args.site n c.args.args)) (sym (ap (λ (l : Lane). l.number) c.begin.ensures.lane)))
    c.in-Ok.ensures.legal c.in-Ok.ensures.others
    (subst (λ (l : Lane). IsLaneOf c.launch.new.self l) (sym c.begin.ensures.lane) c.in-Ok.ensures.lane)
    c.in-Some.ensures.items c.begin.ensures.made c.begin.ensures.budget c.begin.ensures.turn c.push_reserved-2.ensures.items c.push_reserved.ensures.items
    (record { checks = c.push_reserved-2.ensures.capacity; idle = c.pop.ensures.capacity; verdicts = c.push_reserved.ensures.capacity; ready = refl; ends = refl; items = refl })

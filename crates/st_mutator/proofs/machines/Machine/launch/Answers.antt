use Rattle.std.proofs.Common.{false, [], refl, ap, reverse, take}
use Rattle.st_events.specs.declared.events.Args.{Args}
use Rattle.st_thread_meaning.specs.Deeds.{launch}
use Rattle.st_thread_meaning.specs.Statements.{args_of}
use Rattle.st_mutator.specs.Stacked.{Stacked}
use Rattle.std.proofs.Common.{ℕ}
use Rattle.st_mutator.proofs.EventLemmas.{event_step}
use Rattle.st_mutator.proofs.machines.Machine.launch.Goals as goal

pub returns : goal.returns
returns c =
    let m = c.args.self.now in
    let args = c.last_args-args.result in
    event_step m (record m { operands = c.clear.new.self }) [] false c.args.next c.ask.result c.ask.new.self
    (launch c.args.site args) (launch c.args.site (args_of (reverse (take c.args.count m.operands.items)))) _
    (ap (λ (s : Stacked ℕ). record m { operands = s }) c.clear.ensures)
    (ap (λ (a : Args). launch c.args.site a) c.last_args-args.ensures)
    refl
    (c.ask.ensures (launch c.args.site args) refl)

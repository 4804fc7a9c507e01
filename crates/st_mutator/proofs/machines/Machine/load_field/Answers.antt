use Rattle.std.proofs.Common.{ℕ, true, refl, ap}
use Rattle.st_thread_meaning.specs.Deeds.{load}
use Rattle.st_mutator.specs.Stacked.{top, below}
use Rattle.st_mutator.specs.Standing.{means_of, going_in, rest_of, told_operands}
use Rattle.st_mutator.proofs.EventLemmas.{field_event_step, field_known}
use Rattle.st_mutator.proofs.machines.Machine.load_field.Goals as goal

pub returns : goal.returns
returns c =
    let m = c.args.self.now in
    let obj = c.take-obj.result in
    field_event_step m c.take-obj.new.self (below m.operands.items) true c.args.next c.ask_of.result c.ask_of.new.self c.args.at
    obj (top m.operands.items) (load obj c.args.field) (load (top m.operands.items) c.args.field) _
    c.take-obj.ensures.rest c.take-obj.ensures.word (ap (λ (o : ℕ). load o c.args.field) c.take-obj.ensures.word)
    (field_known (top m.operands.items) c.args.field c.args.at (means_of m)
    (λ reply left. going_in m c.args.next (told_operands true reply (below m.operands.items)) m.locals left (rest_of m)))
    (c.ask_of.ensures (load obj c.args.field) refl)

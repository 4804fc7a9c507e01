use Rattle.std.proofs.Common.{ℕ, false, refl, ◌∙◌, ap, ◌≡◌}
use Rattle.st_thread_meaning.specs.Deeds.{store}
use Rattle.st_mutator.specs.declared.machines.Machine.{Machine}
use Rattle.st_mutator.specs.Stacked.{top, below}
use Rattle.st_mutator.specs.Standing.{means_of, going_in, rest_of, told_operands, with_operands}
use Rattle.st_mutator.proofs.EventLemmas.{field_event_step}
use Rattle.st_mutator.proofs.machines.Machine.store_field.Goals as goal

pub returns : goal.returns
returns c =
    let m = c.args.self.now in
    let value = c.take-value.result in
    let obj = c.take-obj.result in
    let obj_is : obj ≡ top (below m.operands.items) = c.take-obj.ensures.word ∙ ap (λ (x : Machine). top x.operands.items) c.take-value.ensures.rest in
    field_event_step m c.take-obj.new.self (below (below m.operands.items)) false c.args.next c.ask_of.result c.ask_of.new.self c.args.at
    obj (top (below m.operands.items))
    (store obj c.args.field value) (store (top (below m.operands.items)) c.args.field (top m.operands.items)) _
    (c.take-obj.ensures.rest ∙ ap (λ (x : Machine). with_operands (below x.operands.items) x) c.take-value.ensures.rest)
    obj_is
    (ap (λ (o : ℕ). store o c.args.field value) obj_is ∙ ap (λ (v : ℕ). store (top (below m.operands.items)) c.args.field v) c.take-value.ensures.word)
    refl
    (c.ask_of.ensures (store obj c.args.field value) refl)

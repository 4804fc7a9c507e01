use Rattle.std.proofs.Common.{ℕ, true, refl, ◌∙◌, ap, ◌≡◌}
use Rattle.st_thread_meaning.specs.Deeds.{cas}
use Rattle.st_mutator.specs.declared.machines.Machine.{Machine}
use Rattle.st_mutator.specs.Stacked.{top, below}
use Rattle.st_mutator.specs.Standing.{means_of, going_in, rest_of, told_operands, with_operands}
use Rattle.st_mutator.proofs.EventLemmas.{field_event_step}
use Rattle.st_mutator.proofs.machines.Machine.exchange_field.Goals as goal

pub returns : goal.returns
returns c =
    let m = c.args.self.now in
    let ops = m.operands.items in
    let value = c.take-value.result in
    let expect = c.take-expect.result in
    let obj = c.take-obj.result in
    let one_less : c.take-value.new.self ≡ with_operands (below ops) m = c.take-value.ensures.rest in
    let two_less : c.take-expect.new.self ≡ with_operands (below (below ops)) m =
    c.take-expect.ensures.rest ∙ ap (λ (x : Machine). with_operands (below x.operands.items) x) one_less in
    let three_less : c.take-obj.new.self ≡ with_operands (below (below (below ops))) m =
    c.take-obj.ensures.rest ∙ ap (λ (x : Machine). with_operands (below x.operands.items) x) two_less in
    let expect_is : expect ≡ top (below ops) = c.take-expect.ensures.word ∙ ap (λ (x : Machine). top x.operands.items) one_less in
    let obj_is : obj ≡ top (below (below ops)) = c.take-obj.ensures.word ∙ ap (λ (x : Machine). top x.operands.items) two_less in
    field_event_step m c.take-obj.new.self (below (below (below ops))) true c.args.next c.ask_for_exchange.result c.ask_for_exchange.new.self c.args.at
    obj (top (below (below ops)))
    (cas obj c.args.field expect value) (cas (top (below (below ops))) c.args.field (top (below ops)) (top ops)) _
    three_less obj_is
    (ap (λ (o : ℕ). cas o c.args.field expect value) obj_is
    ∙ ap (λ (e : ℕ). cas (top (below (below ops))) c.args.field e value) expect_is
    ∙ ap (λ (v : ℕ). cas (top (below (below ops))) c.args.field (top (below ops)) v) c.take-value.ensures.word)
    refl
    (c.ask_for_exchange.ensures (cas obj c.args.field expect value) refl)

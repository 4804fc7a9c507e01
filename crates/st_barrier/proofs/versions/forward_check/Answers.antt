use Rattle.std.proofs.Common.{◌<◌, ◌∙◌, subst}
use Rattle.st_layout.specs.Packed.{packed}
use Rattle.st_barrier.proofs.KeepLemmas.{may_forward, forward_keeps, forward_kept, forward_awaits}
use Rattle.st_barrier.proofs.versions.forward_check.Goals as goal

pub forward_store-requires-clause-flight : goal.forward_store-requires-clause-flight
forward_store-requires-clause-flight g c =
    let x = c.args.change in
    may_forward c.args.seat.now x.obj x.field x.value c.args.target c.requires.kept c.args.checks.now c.args.lane c.args.check c.requires.lane
    (subst (λ k. 0 < k) c.requires.check c.requires.some) c.requires.check c.requires.known c.requires.awaiting c.pack.result
    (c.pack.ensures.word ∙ (λ i. packed (c.from-check_half.ensures i) (c.from-target_half.ensures i)))

pub returns-clause-board : goal.returns-clause-board
returns-clause-board g c =
    let x = c.args.change in
    forward_keeps c.args.seat.now x.obj x.field x.value c.args.target c.requires.kept c.args.lane c.forward_store.new.seat c.forward_store.ensures.seat c.forward_store.ensures.view

pub returns-clause-kept : goal.returns-clause-kept
returns-clause-kept g c =
    let x = c.args.change in
    forward_kept c.args.seat.now x.obj x.field x.value c.args.target c.requires.kept c.args.lane c.forward_store.new.seat c.forward_store.ensures.seat c.forward_store.ensures.view

pub returns-clause-awaiting : goal.returns-clause-awaiting
returns-clause-awaiting g c =
    let x = c.args.change in
    forward_awaits c.args.seat.now x.obj x.field x.value c.args.target c.requires.kept c.args.lane c.forward_store.new.seat c.forward_store.ensures.seat c.forward_store.ensures.view
    c.args.checks.now (subst (λ k. 0 < k) c.requires.check c.requires.some) c.requires.awaiting

use Rattle.std.proofs.Common.{◌+◌, ◌≤◌, length, take, get_or, sym, subst, arith}
use Rattle.st_events.specs.declared.events.Event.TheVariants.{New}
use Rattle.st_events.specs.Terms.{World, next, world_after}
use Rattle.st_audit.specs.Ledgers.{Books}
use Rattle.st_audit.specs.Balance.{IsLedgerOf}
use Rattle.st_audit.specs.Marks.{AreMarks}
use Rattle.st_audit.proofs.BooksLemmas.{noted_is_ledger, noted_adds_one}
use Rattle.st_audit.proofs.RoomLemmas.{room, legal_at, event_can_be_noted}
use Rattle.st_audit.proofs.losses.marks_of.Goals as goal

pub note-requires-clause-can : goal.note-requires-clause-can
note-requires-clause-can c =
    let i = c.loop-event.invariant in
    let at = legal_at c.args.shape.now c.args.sizes.now c.args.events.now c.loop-event.event-index (New 0 0 0) c.loop-event-test.true c.requires.legal in
    event_can_be_noted c.args.shape.now c.args.sizes.now c.requires.shape (take c.loop-event.event-index c.args.events.now) (get_or c.args.events.now c.loop-event.event-index (New 0 0 0))
    c.loop-event.ledger at.before at.here i.ledger.objects_are i.ledger.tells.epoch (omega (arith, i.epoch, c.loop-event-test.true, c.requires.events))
    (omega (arith, i.rows, c.loop-event-test.true, c.requires.events))

pub loop-event-preserved : goal.loop-event-preserved
loop-event-preserved c =
    let i = c.loop-event.invariant in
    let e = get_or c.args.events.now c.loop-event.event-index (New 0 0 0) in
    let w = world_after c.args.shape.now c.args.sizes.now (take c.loop-event.event-index c.args.events.now) in
    let at = legal_at c.args.shape.now c.args.sizes.now c.args.events.now c.loop-event.event-index (New 0 0 0) c.loop-event-test.true c.requires.legal in
    let can = event_can_be_noted c.args.shape.now c.args.sizes.now c.requires.shape (take c.loop-event.event-index c.args.events.now) e c.loop-event.ledger at.before at.here
    i.ledger.objects_are i.ledger.tells.epoch (omega (arith, i.epoch, c.loop-event-test.true, c.requires.events))
    (omega (arith, i.rows, c.loop-event-test.true, c.requires.events)) in
    let one = noted_adds_one e c.loop-event.ledger in
    record {
      ledger = subst (λ (v : World). IsLedgerOf c.args.sizes.now c.note.new.self v (room c.args.sizes.now)) (sym at.world)
          (subst (λ (b : Books). IsLedgerOf c.args.sizes.now b (next c.args.shape.now c.args.sizes.now w e) (room c.args.sizes.now)) (sym c.in_ok-note.ensures)
          (noted_is_ledger c.args.shape.now c.args.sizes.now c.loop-event.ledger w e (room c.args.sizes.now) at.here can i.ledger));
      marks = subst (λ (v : World). AreMarks c.args.verdicts.now v.lost c.mark_losses.new.marks.items) (sym at.world)
          (c.mark_losses.ensures.marks c.args.shape.now c.args.sizes.now w (room c.args.sizes.now) i.ledger i.marks);
      epoch = subst (λ (b : Books). b.epoch ≤ c.loop-event.event-index + 1) (sym c.in_ok-note.ensures) (omega (arith, one.epoch, i.epoch));
      rows = subst (λ (b : Books). length b.rows ≤ c.loop-event.event-index + 1) (sym c.in_ok-note.ensures) (omega (arith, one.rows, i.rows));
    }

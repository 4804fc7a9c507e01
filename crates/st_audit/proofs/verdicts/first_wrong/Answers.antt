use Rattle.std.proofs.Common.{◌<◌, ◌≤◌, ◌^◌, ℕ, List, Some, None, length, take, get_or, sym, ◌∙◌, ap, subst, arith}
use Rattle.std.proofs.lemmas.List.{take_all}
use Rattle.st_events.specs.declared.events.Event.{Event}
use Rattle.st_events.specs.declared.events.Event.TheVariants.{New}
use Rattle.st_events.specs.Heap.{Heap}
use Rattle.st_events.specs.Terms.{heap_after, epoch_of}
use Rattle.st_resolved.specs.Views.{program_of}
use Rattle.st_eval.specs.Evaluations.{budget}
use Rattle.st_audit.specs.Findings.{IsRightAt}
use Rattle.st_audit.specs.Heaps.{CanTake, heap_next}
use Rattle.st_audit.specs.Judging.{CanJudge, IsJudgedEvent}
use Rattle.st_audit.proofs.RoomLemmas.{room, room_is_small, legal_at, event_can_be_taken, heap_one_more}
use Rattle.st_audit.proofs.JudgeLemmas.{can_judge_at, right_one_more, first_wrong_is}
use Rattle.st_audit.proofs.verdicts.first_wrong.Goals as goal

pub wrong_launch-requires-clause-event : goal.wrong_launch-requires-clause-event
wrong_launch-requires-clause-event c =
    let p = program_of c.args.program.now in
    let i = c.loop-event.invariant in
    let e = get_or c.args.events.now c.loop-event.event-index (New 0 0 0) in
    let small : room c.args.sizes.now ≤ 2 ^ 32 = omega (arith, room_is_small c.args.sizes.now c.requires.sizes) in
    subst (λ (h : Heap). CanJudge p h (budget c.loop-event.eval) e) (sym i.heap_is)
    (subst (λ (n : ℕ). CanJudge p (heap_after c.args.shape.now c.args.sizes.now (take c.loop-event.event-index c.args.events.now)) n e) (sym i.budget_is)
    (can_judge_at c.args.shape.now p c.args.sizes.now c.requires.well_formed c.args.events.now c.loop-event.event-index (New 0 0 0) c.loop-event-test.true small c.requires.legal))

pub returns-in-Some : goal.returns-in-Some
returns-in-Some c =
    let p = program_of c.args.program.now in
    let i = c.loop-event.invariant in
    let e = get_or c.args.events.now c.loop-event.event-index (New 0 0 0) in
    let small : room c.args.sizes.now ≤ 2 ^ 32 = omega (arith, room_is_small c.args.sizes.now c.requires.sizes) in
    let judged = subst (λ (n : ℕ). IsJudgedEvent p (heap_after c.args.shape.now c.args.sizes.now (take c.loop-event.event-index c.args.events.now)) n c.args.verdicts.now
    c.args.marks.now e (Some c.in-Some.wrong)) i.budget_is
    (subst (λ (h : Heap). IsJudgedEvent p h (budget c.loop-event.eval) c.args.verdicts.now c.args.marks.now e (Some c.in-Some.wrong)) i.heap_is c.in-Some.ensures.judged) in
    first_wrong_is c.args.shape.now p c.args.sizes.now c.requires.well_formed c.args.events.now c.args.verdicts.now c.args.marks.now c.loop-event.event-index (New 0 0 0)
    c.in-Some.wrong c.loop-event-test.true small c.requires.legal c.requires.marks i.right judged

pub take_in-requires-clause-can : goal.take_in-requires-clause-can
take_in-requires-clause-can c =
    let i = c.loop-event.invariant in
    let e = get_or c.args.events.now c.loop-event.event-index (New 0 0 0) in
    let at = legal_at c.args.shape.now c.args.sizes.now c.args.events.now c.loop-event.event-index (New 0 0 0) c.loop-event-test.true c.requires.legal in
    let can = event_can_be_taken c.args.shape.now c.args.sizes.now c.requires.well_formed.shape_fits (take c.loop-event.event-index c.args.events.now) e at.before at.here in
    subst (λ (h : Heap). CanTake (length c.loop-event.heap) h e) (sym i.heap_is)
    (subst (λ (n : ℕ). CanTake n (heap_after c.args.shape.now c.args.sizes.now (take c.loop-event.event-index c.args.events.now)) e) (sym i.room_is) can)

pub loop-event-preserved : goal.loop-event-preserved
loop-event-preserved c =
    let p = program_of c.args.program.now in
    let i = c.loop-event.invariant in
    let e = get_or c.args.events.now c.loop-event.event-index (New 0 0 0) in
    let small : room c.args.sizes.now ≤ 2 ^ 32 = omega (arith, room_is_small c.args.sizes.now c.requires.sizes) in
    let judged = subst (λ (n : ℕ). IsJudgedEvent p (heap_after c.args.shape.now c.args.sizes.now (take c.loop-event.event-index c.args.events.now)) n c.args.verdicts.now
    c.args.marks.now e None) i.budget_is
    (subst (λ (h : Heap). IsJudgedEvent p h (budget c.loop-event.eval) c.args.verdicts.now c.args.marks.now e None) i.heap_is c.in-None.ensures.judged) in
    record {
      heap_is =
          c.take_in.ensures.heap ∙ ap (λ (h : Heap). heap_next c.args.shape.now h e) i.heap_is
          ∙ heap_one_more c.args.shape.now c.args.sizes.now c.args.events.now c.loop-event.event-index (New 0 0 0) c.loop-event-test.true c.requires.legal;
      room_is = c.take_in.ensures.room ∙ i.room_is;
      made = c.wrong_launch.ensures.made;
      budget_is = c.wrong_launch.ensures.budget ∙ i.budget_is;
      right = right_one_more c.args.shape.now p c.args.sizes.now c.requires.well_formed c.args.events.now c.args.verdicts.now c.args.marks.now c.loop-event.event-index (New 0 0 0)
          c.loop-event-test.true small c.requires.legal c.requires.marks i.right judged;
    }

pub returns : goal.returns
returns c =
    subst (λ (es : List Event). (n : ℕ) → n < epoch_of c.args.shape.now c.args.sizes.now es
    → IsRightAt c.args.shape.now (program_of c.args.program.now) c.args.sizes.now c.args.events.now c.args.verdicts.now n)
    (take_all c.loop-event.event-index c.args.events.now c.loop-event-test.false) c.loop-event.invariant.right

use Rattle.std.proofs.Common.{◌≡◌, ◌≤◌, length, sym, ◌∙◌, ap, subst, arith}
use Rattle.st_resolved.specs.Views.{program_of}
use Rattle.st_thread_meaning.specs.Right.{IsRightRun}
use Rattle.st_snap.specs.Snapshots.{Snapshots, event_room}
use Rattle.st_run_meaning.specs.States.{first_state}
use Rattle.st_run_meaning.specs.Runs.{is_over}
use Rattle.st_run_meaning.proofs.EndLemmas.{runs_come_to_one_end}
use Rattle.st_run_meaning.proofs.RunLemmas.{scheduled_run_is_right}
use Rattle.st_sched.specs.UnderWay.{IsOnTheWay}
use Rattle.st_sched.proofs.EndLemmas.{sound_is_history, way_is_under_way}
use Rattle.st_sched.proofs.runs.run_resolved.Goals as goal

pub turns-smaller : goal.turns-smaller
turns-smaller c =
    let p = program_of c.args.program.now in
    let way : IsOnTheWay c.args.shape.now p c.args.sizes.now (first_state c.args.seed) c.go_on.new.self =
    c.go_on.ensures.on c.args.shape.now c.args.sizes.now (first_state c.args.seed) c.turns.invariant.way c.turns-test.true in
    let paid = (sound_is_history c.args.shape.now p c.args.sizes.now way.state way.sound).paid in
    let journal : length c.go_on.new.self.heap.journal ≡ length way.state.journal = ap (λ (h : Snapshots). length h.journal) way.stands.heap in
    let within : length c.go_on.new.self.heap.journal ≤ event_room c.args.sizes.now = omega (arith, paid, journal) in
    let more = c.go_on.ensures.more c.turns-test.true in
    omega (arith, within, more)

pub close-requires-clause-run : goal.close-requires-clause-run
close-requires-clause-run c =
    let p = program_of c.args.program.now in
    let ended = c.go_on.ensures.over c.args.shape.now c.args.sizes.now (first_state c.args.seed) c.turns.invariant.way c.turns-test.false in
    (p, way_is_under_way c.args.shape.now p c.args.sizes.now (first_state c.args.seed) c.go_on.new.self ended.way)

pub close-requires-clause-main : goal.close-requires-clause-main
close-requires-clause-main c =
    let ended = c.go_on.ensures.over c.args.shape.now c.args.sizes.now (first_state c.args.seed) c.turns.invariant.way c.turns-test.false in
    c.main_thread.ensures ∙ sym (ap (λ (h : Snapshots). h.sizes.mutators) ended.way.stands.heap)

pub close-requires-clause-seats : goal.close-requires-clause-seats
close-requires-clause-seats c =
    let ended = c.go_on.ensures.over c.args.shape.now c.args.sizes.now (first_state c.args.seed) c.turns.invariant.way c.turns-test.false in
    ended.way.seats.count ∙ sym (ap (λ (h : Snapshots). h.sizes.mutators) ended.way.stands.heap)

pub returns-clause-run : goal.returns-clause-run
returns-clause-run c =
    let p = program_of c.args.program.now in
    let ended = c.go_on.ensures.over c.args.shape.now c.args.sizes.now (first_state c.args.seed) c.turns.invariant.way c.turns-test.false in
    let comes = ended.way.onward ended.way.state (is_over ended.way.state ended.over) in
    c.close.ensures c.args.shape.now p c.args.sizes.now (first_state c.args.seed) ended
    ∙ sym (runs_come_to_one_end.run c.args.shape.now p c.args.sizes.now c.args.seed ended.way.state comes)

pub returns-clause-right : goal.returns-clause-right
returns-clause-right c =
    let p = program_of c.args.program.now in
    let ended = c.go_on.ensures.over c.args.shape.now c.args.sizes.now (first_state c.args.seed) c.turns.invariant.way c.turns-test.false in
    let comes = ended.way.onward ended.way.state (is_over ended.way.state ended.over) in
    let run = c.close.ensures c.args.shape.now p c.args.sizes.now (first_state c.args.seed) ended
    ∙ sym (runs_come_to_one_end.run c.args.shape.now p c.args.sizes.now c.args.seed ended.way.state comes) in
    subst (IsRightRun c.args.shape.now p c.args.sizes.now) (sym run)
    (scheduled_run_is_right c.args.shape.now p c.args.sizes.now c.args.seed c.requires.formed c.requires.sizes c.requires.threads)

use Rattle.std.proofs.Common.{◌≡◌, List, length, Some, slice_get, slice_set, refl, sym, ◌∙◌, ap, subst, arith}
use Rattle.std.proofs.lemmas.Option.{slice_get_within, get_or_from_slice_get}
use Rattle.st_resolved.specs.Views.{program_of}
use Rattle.st_run_meaning.specs.Agents.{mutator}
use Rattle.st_sched.specs.declared.seats.Seat.{Seat}
use Rattle.st_sched.specs.Seats.{HasReplies}
use Rattle.st_sched.specs.UnderWay.{AreSeats}
use Rattle.st_sched.proofs.CheckTurnLemmas.{stands_with}
use Rattle.st_sched.proofs.TurnLemmas.{after_turn, turn_can_launch, turn_is_fresh, launch_stands_after, launch_seats}
use Rattle.st_sched.proofs.running.Running.turn_of_launch.Goals as goal

pub launch-requires : goal.launch-requires
launch-requires c = record {
  run = c.requires.turn.run;
  launch = turn_can_launch (program_of c.args.program.now) c.args.m c.args.site c.args.args c.args.self.now c.requires.turn c.requires.want;
}

pub index_mut-requires : goal.index_mut-requires
index_mut-requires c =
    let within = slice_get_within c.args.self.now.seats.items c.args.m c.requires.want.0 c.requires.want.1 in
    let same : length c.launch.new.self.seats.items ≡ length c.args.self.now.seats.items = ap length c.launch.ensures.rest.seats in
    omega (arith, within, same, c.launch.new.self.seats.ok.0)

pub returns-clause-stands : goal.returns-clause-stands
returns-clause-stands c = λ t.
    let p = program_of c.args.program.now in
    stands_with t.run.shape p t.run.sizes (after_turn p (mutator c.args.m) c.args.self.now t) c.launch.new.self _ refl refl refl refl
    (record { checks = refl; idle = refl; verdicts = refl; ready = refl; ends = refl; items = refl })
    (launch_stands_after p c.args.m c.args.site c.args.args c.args.self.now c.launch.new.self t c.requires.want
    (c.launch.ensures.stands t.run (turn_is_fresh p (mutator c.args.m) c.args.self.now t)))

pub returns-clause-seats : goal.returns-clause-seats
returns-clause-seats c = λ t.
    let p = program_of c.args.program.now in
    let seat : Seat = c.requires.want.0 in
    let at : slice_get c.launch.new.self.seats.items c.args.m ≡ Some seat = ap (λ (xs : List Seat). slice_get xs c.args.m) c.launch.ensures.rest.seats ∙ c.requires.want.1 in
    let there : c.index_mut.result.now ≡ seat =
    c.index_mut.ensures.value ∙ get_or_from_slice_get c.launch.new.self.seats.items c.args.m seat c.index_mut.result.now at in
    subst (λ (xs : List Seat). AreSeats p t.run.sizes (after_turn p (mutator c.args.m) c.args.self.now t).journal (slice_set xs c.args.m c.reply.new.self)) (sym c.launch.ensures.rest.seats)
    (launch_seats p c.args.m c.args.site c.args.args c.args.self.now c.reply.new.self t c.requires.want
    (λ replies had. c.reply.ensures p t.run.sizes c.args.m replies (subst (HasReplies p t.run.sizes c.args.m replies) (sym there) had)))

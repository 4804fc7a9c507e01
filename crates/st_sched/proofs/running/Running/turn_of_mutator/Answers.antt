use Rattle.std.proofs.Common.{◌≡◌, Some, slice_get, refl, sym, ◌∙◌, ap, arith}
use Rattle.std.proofs.lemmas.Option.{slice_get-get_or}
use Rattle.st_resolved.specs.Views.{program_of}
use Rattle.st_sched.proofs.TurnLemmas.{plain_if_no_launch, seat_is_there}
use Rattle.st_sched.proofs.running.Running.turn_of_mutator.Goals as goal

pub index-requires : goal.index-requires
index-requires c = let there = seat_is_there (program_of c.args.program.now) c.args.m c.args.self.now c.requires in omega (arith, there, c.args.self.now.seats.ok.0)

pub turn_of_launch-requires-clause-want : goal.turn_of_launch-requires-clause-want
turn_of_launch-requires-clause-want c =
    let seats = c.args.self.now.seats.items in
    let here = c.index.result.now in
    let within = seat_is_there (program_of c.args.program.now) c.args.m c.args.self.now c.requires in
    let at : slice_get seats c.args.m ≡ Some here = slice_get-get_or seats c.args.m here within ∙ ap Some (sym c.index.ensures) in
    (here, at, c.in-Launch.is)

pub turn_of_answer-requires : goal.turn_of_answer-requires
turn_of_answer-requires c =
    let seats = c.args.self.now.seats.items in
    let here = c.index.result.now in
    let within = seat_is_there (program_of c.args.program.now) c.args.m c.args.self.now c.requires in
    let at : slice_get seats c.args.m ≡ Some here = slice_get-get_or seats c.args.m here within ∙ ap Some (sym c.index.ensures) in
    record {
      turn = c.requires;
      want = (here, at, refl);
      plain = plain_if_no_launch (program_of c.args.program.now) c.args.m here.want c.args.self.now c.requires (here, at, refl) (λ site args e. c.in_default.not-Launch site args e);
    }

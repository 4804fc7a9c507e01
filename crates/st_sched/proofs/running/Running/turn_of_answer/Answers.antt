use Rattle.std.proofs.Common.{◌≡◌, refl, sym, ◌∙◌, subst, arith}
use Rattle.std.proofs.lemmas.Option.{slice_get_within, get_or_from_slice_get}
use Rattle.st_resolved.specs.Views.{program_of}
use Rattle.st_sched.specs.declared.seats.Seat.{Seat}
use Rattle.st_sched.specs.Seats.{HasReplies}
use Rattle.st_sched.proofs.TurnLemmas.{answer_fits, answer_stands, answer_seats}
use Rattle.st_sched.proofs.running.Running.turn_of_answer.Goals as goal

pub answer-reply-requires-clause-legal : goal.answer-reply-requires-clause-legal
answer-reply-requires-clause-legal c =
    (answer_fits (program_of c.args.program.now) c.args.m c.args.want c.args.self.now c.requires.turn c.requires.want c.requires.plain).legal

pub answer-reply-requires-clause-spare : goal.answer-reply-requires-clause-spare
answer-reply-requires-clause-spare c =
    (answer_fits (program_of c.args.program.now) c.args.m c.args.want c.args.self.now c.requires.turn c.requires.want c.requires.plain).spare

pub index_mut-requires : goal.index_mut-requires
index_mut-requires c = let within = slice_get_within c.args.self.now.seats.items c.args.m c.requires.want.0 c.requires.want.1 in omega (arith, within, c.args.self.now.seats.ok.0)

pub returns-clause-stands : goal.returns-clause-stands
returns-clause-stands c = λ t.
    answer_stands (program_of c.args.program.now) c.args.m c.args.want c.args.self.now _ t c.requires.want c.requires.plain
    c.answer-reply.ensures.event c.answer-reply.ensures.lanes refl refl refl
    (record { checks = refl; idle = refl; verdicts = refl; ready = refl; ends = refl; items = refl })

pub returns-clause-seats : goal.returns-clause-seats
returns-clause-seats c = λ t.
    let p = program_of c.args.program.now in
    let seat : Seat = c.requires.want.0 in
    let there : c.index_mut.result.now ≡ seat =
    c.index_mut.ensures.value ∙ get_or_from_slice_get c.args.self.now.seats.items c.args.m seat c.index_mut.result.now c.requires.want.1 in
    answer_seats p c.args.m c.args.want c.args.self.now c.reply.new.self c.answer-reply.result t c.requires.want c.requires.plain c.answer-reply.ensures.reply
    (λ replies had. c.reply.ensures p t.run.sizes c.args.m replies (subst (HasReplies p t.run.sizes c.args.m replies) (sym there) had))

use Rattle.std.proofs.Common.{◌<◌, length, arith, vec_capacity}
use Rattle.st_eval.proofs.StackLemmas.{room_for_frame, entered_from}
use Rattle.st_eval.proofs.stacks.Stack.enter.Goals as goal

pub push_reserved-requires : goal.push_reserved-requires
push_reserved-requires c =
    let room : length c.self.inside.waiting.items < vec_capacity c.self.inside.waiting =
    room_for_frame c.self.inside.running c.self.inside.waiting.items c.self.inside.words.items (vec_capacity c.self.inside.words)
    (vec_capacity c.self.inside.waiting) c.args.self.now c.self.view_is c.requires.room in
    omega (arith, c.self.inside.waiting.ok.0)

pub returns : goal.returns
returns c =
    entered_from c.self.inside.running c.self.inside.waiting.items c.push_reserved.new.self.items c.self.inside.words.items c.args.span c.args.args
    (vec_capacity c.self.inside.words) (vec_capacity c.self.inside.waiting) (vec_capacity c.push_reserved.new.self) c.args.self.now
    c.self.view_is c.requires.words c.push_reserved.ensures.items c.push_reserved.ensures.capacity

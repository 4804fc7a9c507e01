use Rattle.std.proofs.Common.{◌<◌, arith, length, vec_capacity}
use Rattle.st_eval.proofs.StackLemmas.{room_for_one}
use Rattle.st_eval.proofs.stacks.Stack.push.Goals as goal

pub push_reserved-requires : goal.push_reserved-requires
push_reserved-requires c =
    let room : length c.self.inside.words.items < vec_capacity c.self.inside.words =
    room_for_one c.self.inside.running c.self.inside.waiting.items c.self.inside.words.items (vec_capacity c.self.inside.words)
    (vec_capacity c.self.inside.waiting) c.args.self.now c.self.view_is c.self.invariant c.requires in
    omega (arith, c.self.inside.words.ok.0)

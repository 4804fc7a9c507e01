use Rattle.std.proofs.Common.{◌≡◌, length, vec_capacity, arith}
use Rattle.st_eval.proofs.StackLemmas.{depth_is}
use Rattle.st_eval.proofs.stacks.Stack.depth.Goals as goal

pub returns : goal.returns
returns c =
    let e : length c.args.self.now.waiting ≡ length c.self.inside.waiting.items =
    depth_is c.self.inside.running c.self.inside.waiting.items c.self.inside.words.items (vec_capacity c.self.inside.words) (vec_capacity c.self.inside.waiting) c.args.self.now c.self.view_is in
    omega (arith, c.len.ensures, c.self.inside.waiting.ok.0)

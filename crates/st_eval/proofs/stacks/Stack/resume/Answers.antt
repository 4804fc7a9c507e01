use Rattle.std.proofs.Common.{◌≡◌, ◌-◌, length, arith, vec_capacity}
use Rattle.st_eval.proofs.StackLemmas.{left_below, resumed_shares, resumed_from}
use Rattle.st_eval.proofs.stacks.Stack.resume.Goals as goal

-- how many words are kept
kept : (c : goal.After-caller-in-Some-1)
    → c.len.result - c.self.inside.running.words - c.self.inside.running.locals
    ≡ length c.self.inside.words.items - c.self.inside.running.words - c.self.inside.running.locals
kept c = omega (arith, c.len.ensures, c.self.inside.words.ok.0)

pub invariant_of-self-in-Some : goal.invariant_of-self-in-Some
invariant_of-self-in-Some c =
    resumed_shares c.self.inside.running c.in-Some.caller c.self.inside.waiting.items c.pop.new.self.items
    c.self.inside.words.items c.truncate.new.self.items c.in-Some.ensures.items
    (left_below c.self.inside.running c.self.inside.waiting.items c.self.inside.words.items c.truncate.new.self.items
    (c.len.result - c.self.inside.running.words - c.self.inside.running.locals) c.self.invariant (kept c) c.truncate.ensures.items)
    c.self.invariant

pub returns-in-Some : goal.returns-in-Some
returns-in-Some c =
    resumed_from c.self.inside.running c.in-Some.caller c.self.inside.waiting.items c.pop.new.self.items
    c.self.inside.words.items c.truncate.new.self.items
    (c.len.result - c.self.inside.running.words - c.self.inside.running.locals)
    (vec_capacity c.truncate.new.self) (vec_capacity c.pop.new.self) (vec_capacity c.self.inside.words) (vec_capacity c.self.inside.waiting) c.args.self.now
    c.self.view_is c.self.invariant c.in-Some.ensures.items (kept c) c.truncate.ensures.items c.truncate.ensures.capacity c.in-Some.ensures.capacity

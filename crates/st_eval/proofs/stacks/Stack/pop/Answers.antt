use Rattle.std.proofs.Common.{◌≤◌, ◌<◌, length, ◌∙◌, subst, arith, IsSome, vec_capacity}
use Rattle.st_eval.specs.Activations.{Activations, held_in_all}
use Rattle.st_eval.proofs.StackLemmas.{IsPopped, popped_from, within_room}
use Rattle.st_eval.proofs.stacks.Stack.pop.Goals as goal

pub returns-then-self-eq0-clause-room : goal.returns-then-self-eq0-clause-room
returns-then-self-eq0-clause-room c =
    let fits : length c.self.inside.words.items ≤ vec_capacity c.self.inside.words = omega (arith, c.self.inside.words.ok.0, c.self.inside.words.ok.1) in
    subst (λ (s : Activations). held_in_all s ≤ s.words_room) c.self.view_is
    (within_room c.self.inside.running c.self.inside.waiting.items c.self.inside.words.items (vec_capacity c.self.inside.words) (vec_capacity c.self.inside.waiting) c.self.invariant fits)

-- what the vector gives is what is seen
taken : (c : goal.After-unwrap_or)
    → IsPopped c.self.inside.running c.self.inside.waiting.items c.pop.new.self.items c.pop.result (vec_capacity c.pop.new.self)
    (vec_capacity c.self.inside.waiting) c.args.self.now
taken c =
    let fits : length c.self.inside.words.items ≤ vec_capacity c.self.inside.words = omega (arith, c.self.inside.words.ok.0, c.self.inside.words.ok.1) in
    let some : 0 < length c.self.inside.words.items → IsSome c.pop.result = λ h. c.pop.ensures.variant.1 (omega (arith, c.self.inside.words.ok.0)) in
    popped_from c.self.inside.running c.self.inside.waiting.items c.self.inside.words.items c.pop.new.self.items c.pop.result
    (vec_capacity c.self.inside.words) (vec_capacity c.pop.new.self) (vec_capacity c.self.inside.waiting) c.args.self.now
    c.self.view_is c.self.invariant c.if-self-eq0.false c.pop.ensures.items some fits c.pop.ensures.capacity

pub returns-clause-word : goal.returns-clause-word
returns-clause-word c = c.unwrap_or.ensures ∙ (taken c).word

pub returns-clause-rest : goal.returns-clause-rest
returns-clause-rest c = (taken c).rest

pub returns-clause-room : goal.returns-clause-room
returns-clause-room c = (taken c).room

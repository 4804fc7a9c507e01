use Rattle.std.proofs.Common.{ℕ, sym, ◌∙◌, ap, take, reverse, length, drop, ◌-◌}
use Rattle.st_mutator.proofs.StackLemmas.{last_words}
use Rattle.st_mutator.specs.Stacked.{Stacked}
use Rattle.st_mutator.proofs.stacks.Stack+u64.last.Goals as goal

pub returns : goal.returns
returns c =
    rw (c.min.ensures, c.as_slice-words.ensures.value)
    (last_words c.self.inside.items.items c.args.count ∙ ap (λ (s : Stacked ℕ). reverse (take c.args.count s.items)) c.self.view_is)

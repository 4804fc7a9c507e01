use Rattle.std.proofs.Common.{◌≡◌, drop}
use Rattle.st_grammar.specs.Firsts.{first_from}
use Rattle.st_grammar.specs.Counts.{first_excess, excess, counted}
use Rattle.st_grammar.proofs.counts.first_excess.Given as goal

abbrev pub invariant-loop-item : goal.invariant-loop-item
invariant-loop-item l = first_excess l.items ≡ first_from excess counted l.counts (drop l.item-index l.items)

use Rattle.std.proofs.Common.{◌≡◌, [], ◌++◌, take, drop}
use Rattle.st_grammar.specs.Counts as spec
use Rattle.st_grammar.specs.Mentions.{mention_views}
use Rattle.st_grammar.proofs.items.add_arguments.Given as goal

abbrev pub invariant-loop-at : goal.invariant-loop-at
invariant-loop-at l =
    l.initial.items.items ++ spec.argument_items [] (mention_views l.mentions)
    ≡ l.items.items ++ spec.argument_items (mention_views (take l.at l.mentions)) (mention_views (drop l.at l.mentions))

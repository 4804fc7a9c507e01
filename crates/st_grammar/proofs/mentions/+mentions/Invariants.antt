use Rattle.std.proofs.Common.{◌≡◌, ◌++◌, take}
use Rattle.std.specs.List.{flat_map}
use Rattle.st_grammar.specs.Counts as spec
use Rattle.st_grammar.specs.Mentions.{mention_views}
use Rattle.st_grammar.proofs.mentions.+mentions.Given as goal

abbrev pub invariant-add_mentions_of_all-loop-expr : goal.invariant-add_mentions_of_all-loop-expr
invariant-add_mentions_of_all-loop-expr l =
    mention_views l.found.items ≡ mention_views l.initial.found.items ++ flat_map spec.mentions (take l.expr-index l.exprs)

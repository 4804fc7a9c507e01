use Rattle.std.proofs.Common.{◌≡◌, true, [], ◌++◌, ap, sym, ◌∙◌, append-nil}
use Rattle.st_grammar.specs.Counts.{is_named, argument_item}
use Rattle.st_grammar.specs.Mentions.{mention_view, mention_views}
use Rattle.st_grammar.proofs.ItemLemmas.{is_named_of_views, no_item}
use Rattle.st_grammar.proofs.items.add_argument.Goals as goal

pub returns-then-is_named : goal.returns-then-is_named
returns-then-is_named c =
    let named : is_named (mention_views c.args.before.now) c.args.mention.name.now ≡ true =
    is_named_of_views c.args.before.now c.args.mention.name.now ∙ sym c.is_named.ensures ∙ c.if-is_named.true in
    sym (ap (λ l. c.args.items.now.items ++ l) (no_item (mention_views c.args.before.now) (mention_view c.args.mention) named) ∙ append-nil c.args.items.now.items)

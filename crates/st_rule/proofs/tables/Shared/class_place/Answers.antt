use Rattle.st_layout.specs.Names.{ClassWord}
use Rattle.st_rule.proofs.BoardLemmas.{word_within}
use Rattle.st_rule.proofs.tables.Shared.class_place.Goals as goal

pub returns-clause-within : goal.returns-clause-within
returns-clause-within g c = let table = c.args.self.now in
    word_within table.table.shared.key.sizes table.plan (ClassWord _) _ _ table.fits table.plan_is c.requires c.class_word.ensures table.counted

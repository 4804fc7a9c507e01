use Rattle.st_layout.specs.Names.{CopyWord}
use Rattle.st_rule.proofs.BoardLemmas.{word_within}
use Rattle.st_rule.proofs.tables.Shared.copy_place.Goals as goal

pub returns-clause-within : goal.returns-clause-within
returns-clause-within g c = let table = c.args.self.now in
    word_within table.table.shared.key.sizes table.plan (CopyWord _ _) _ _ table.fits table.plan_is (c.requires.copy, c.requires.word) c.copy_word.ensures table.counted

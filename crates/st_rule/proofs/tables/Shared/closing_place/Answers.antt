use Rattle.st_layout.specs.Names.{ClosingWord}
use Rattle.st_rule.proofs.BoardLemmas.{word_within}
use Rattle.st_rule.proofs.tables.Shared.closing_place.Goals as goal

pub returns-clause-within : goal.returns-clause-within
returns-clause-within g c = let table = c.args.self.now in
    word_within table.table.shared.key.sizes table.plan ClosingWord _ _ table.fits table.plan_is tt c.closing_word.ensures table.counted

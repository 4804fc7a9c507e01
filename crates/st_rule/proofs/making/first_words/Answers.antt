use Rattle.std.proofs.Common.{◌+◌, set, sym, subst}
use Rattle.st_rule.specs.Board.{Displays}
use Rattle.st_rule.proofs.WordLemmas.{one_written, board_up_to}
use Rattle.st_rule.proofs.making.first_words.Goals as goal

pub loop-copy-preserved : goal.loop-copy-preserved
loop-copy-preserved c =
    subst (λ n. Displays c.args.plan (set c.loop-copy.row c.free_word.result n) (board_up_to c.args.plan (c.loop-copy.copy + 1))) (sym c.from-in-loop-copy.ensures)
    (one_written c.args.plan c.requires c.loop-copy.row c.loop-copy.copy c.loop-copy-test.true c.free_word.result c.free_word.ensures c.loop-copy.invariant)

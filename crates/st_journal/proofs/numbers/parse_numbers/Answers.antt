use Rattle.std.proofs.Common.{◌∙◌, sym}
use Rattle.st_journal.proofs.WordLemmas.{next_number_is_read, bad_number_spoils_all}
use Rattle.st_journal.proofs.numbers.parse_numbers.Goals as goal

pub returns-in-None : goal.returns-in-None
returns-in-None c = bad_number_spoils_all c.args.words.now c.loop-word.word-index _ c.loop-word-test.true (sym c.parse_number.ensures ∙ c.in-None.is)

pub loop-word-preserved : goal.loop-word-preserved
loop-word-preserved c =
    next_number_is_read c.args.words.now c.loop-word.word-index _ _ _ _ c.loop-word-test.true (sym c.parse_number.ensures ∙ c.in-Some.is) c.loop-word.invariant
    c.in_ok-push-in-Some.ensures.items

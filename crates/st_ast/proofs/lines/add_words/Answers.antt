use Rattle.std.proofs.Common.{rules, append-nil}
use Rattle.std.proofs.Common.{[]}
use Rattle.st_ast.proofs.WrittenLemmas.{spaced_none, words_step}
use Rattle.st_ast.proofs.lines.add_words.Goals as goal

pub loop-word-init : goal.loop-word-init
loop-word-init c = search (rules, append-nil, spaced_none)

pub loop-word-preserved : goal.loop-word-preserved
loop-word-preserved c =
    words_step (λ word. word.now) c.args.words.now c.loop-word.word-index (record { ref_ptr = (0, 0); now = [] }) c.args.text.now.items
    c.loop-word.text.items c.add_word.new.text.items c.loop-word-test.true c.loop-word.invariant c.in_ok-add_word.ensures

use Rattle.std.proofs.Common.{◌∙◌, ap, sym, refl}
use Rattle.st_layout.specs.Layout.{word_of}
use Rattle.st_layout.specs.Names.{FreeWord}
use Rattle.st_rule.specs.Board.{plan_of}
use Rattle.st_barrier.proofs.NeedLemmas.{may_load_word, word_named}
use Rattle.st_barrier.proofs.versions.load_free.Goals as goal

pub load_word-requires-clause-board : goal.load_word-requires-clause-board
load_word-requires-clause-board g c =
    may_load_word c.args.seat.now.view (FreeWord c.args.index) c.free_word-place.result c.requires.fair c.requires.phase c.requires.index refl
    (c.free_word-place.ensures ∙ ap (λ p. word_of p (FreeWord c.args.index)) c.plan.ensures ∙ ap (λ t. word_of (plan_of t.sizes) (FreeWord c.args.index)) (sym c.requires.table.terms))

pub returns-clause-word : goal.returns-clause-word
returns-clause-word g c =
    word_named c.args.seat.now c.load_word.new.seat (FreeWord c.args.index) c.free_word-place.result c.load_word.result
    (c.free_word-place.ensures ∙ ap (λ p. word_of p (FreeWord c.args.index)) c.plan.ensures ∙ ap (λ t. word_of (plan_of t.sizes) (FreeWord c.args.index)) (sym c.requires.table.terms))
    c.load_word.ensures.loads

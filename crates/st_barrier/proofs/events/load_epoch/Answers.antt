use Rattle.std.proofs.Common.{◌∙◌, ap, sym}
use Rattle.st_layout.specs.Layout.{word_of}
use Rattle.st_layout.specs.Names.{EpochWord}
use Rattle.st_rule.specs.Board.{plan_of}
use Rattle.st_barrier.proofs.HandLemmas.{may_load_epoch, board_stays, board_held, epoch_known}
use Rattle.st_barrier.proofs.events.load_epoch.Goals as goal

pub board_load-requires-clause-board : goal.board_load-requires-clause-board
board_load-requires-clause-board g c =
    may_load_epoch c.args.seat.now.view c.epoch_word-word.result c.requires.fair c.requires.phase
    (c.epoch_word-word.ensures ∙ ap (λ p. word_of p EpochWord) c.plan.ensures ∙ ap (λ t. word_of (plan_of t.sizes) EpochWord) (sym c.requires.table.terms))

pub returns-clause-stays : goal.returns-clause-stays
returns-clause-stays g c = board_stays c.args.seat.now c.board_load.new.seat c.board_load.ensures.seat c.epoch_word-word.result c.board_load.ensures.view

pub returns-clause-hand : goal.returns-clause-hand
returns-clause-hand g c = board_held c.args.seat.now c.board_load.new.seat c.board_load.ensures.seat c.epoch_word-word.result c.board_load.ensures.view

pub returns-clause-epoch : goal.returns-clause-epoch
returns-clause-epoch g c =
    epoch_known c.args.seat.now c.board_load.new.seat c.board_load.ensures.seat c.epoch_word-word.result c.board_load.ensures.view c.board_load.result c.board_load.ensures.found
    (c.epoch_word-word.ensures ∙ ap (λ p. word_of p EpochWord) c.plan.ensures ∙ ap (λ t. word_of (plan_of t.sizes) EpochWord) (sym c.requires.table.terms))

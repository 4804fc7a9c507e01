use Rattle.std.proofs.Common.{◌∙◌, ap, sym, refl}
use Rattle.st_layout.specs.Layout.{word_of}
use Rattle.st_layout.specs.Names.{LaneWord}
use Rattle.st_rule.specs.Board.{plan_of}
use Rattle.st_barrier.proofs.NeedLemmas.{may_load_word, word_named}
use Rattle.st_barrier.proofs.needs.load_check.Goals as goal

pub load_word-word-requires-clause-board : goal.load_word-word-requires-clause-board
load_word-word-requires-clause-board g c =
    may_load_word c.args.seat.now.view (LaneWord c.args.lane) c.lane_word-place.result c.requires.fair c.requires.phase c.requires.lane refl
    (c.lane_word-place.ensures ∙ ap (λ p. word_of p (LaneWord c.args.lane)) c.plan.ensures
    ∙ ap (λ t. word_of (plan_of t.sizes) (LaneWord c.args.lane)) (sym c.requires.table.terms))

pub returns-clause-need : goal.returns-clause-need
returns-clause-need g c = record {
  check = c.load_word-word.result;
  loads = word_named c.args.seat.now c.load_word-word.new.seat (LaneWord c.args.lane) c.lane_word-place.result c.load_word-word.result
      (c.lane_word-place.ensures ∙ ap (λ p. word_of p (LaneWord c.args.lane)) c.plan.ensures
      ∙ ap (λ t. word_of (plan_of t.sizes) (LaneWord c.args.lane)) (sym c.requires.table.terms))
      c.load_word-word.ensures.loads;
  need_is = c.need.ensures;
}

-- Each function reads with a depth; below a depth the rules are ranked from the innermost to the whole expression.
use Rattle.std.proofs.Common.{◌≡◌, ℕ, ◌+◌, ◌*◌, ◌<◌, length, is_some}
use Rattle.st_grammar.specs.Operators.{chained}
use Rattle.st_grammar_laws.specs.Reading as spec
use Rattle.st_grammar.specs.declared.operators.Chain.{Chain}
use Rattle.st_grammar.specs.declared.operators.Chain.TheVariants as chain
use Rattle.st_grammar_laws.specs.declared.levels.Level.TheVariants as level
use Rattle.st_grammar.specs.declared.sorts.Sort.TheVariants as sort
use Rattle.st_parse.proofs.Ranks.{rank}
use Rattle.st_parse.proofs.+expr.Given as goal

abbrev pub decreases-expressions::nested : goal.decreases-expressions::nested
decreases-expressions::nested l = 32 * l.depth

abbrev pub decreases-arguments::after_comma : goal.decreases-arguments::after_comma
decreases-arguments::after_comma l = 32 * l.depth + 1

abbrev pub decreases-arguments::series : goal.decreases-arguments::series
decreases-arguments::series l = 32 * l.depth + 2

abbrev pub decreases-arguments::arguments : goal.decreases-arguments::arguments
decreases-arguments::arguments l = 32 * l.depth + 3

abbrev pub decreases-primaries::named : goal.decreases-primaries::named
decreases-primaries::named l = 32 * l.depth + 4

abbrev pub decreases-primaries::paren : goal.decreases-primaries::paren
decreases-primaries::paren l = 32 * l.depth + 4

abbrev pub decreases-primaries::primary : goal.decreases-primaries::primary
decreases-primaries::primary l = 32 * l.depth + 5

abbrev pub decreases-primaries::postfix : goal.decreases-primaries::postfix
decreases-primaries::postfix l = 32 * l.depth + 6

abbrev pub decreases-primaries::unary : goal.decreases-primaries::unary
decreases-primaries::unary l = 32 * l.depth + 7

abbrev pub decreases-chains::operand : goal.decreases-chains::operand
decreases-chains::operand l = 32 * l.depth + rank l.chain

abbrev pub decreases-chains::link : goal.decreases-chains::link
decreases-chains::link l = 32 * l.depth + rank l.chain + 1

abbrev pub decreases-chains::linked : goal.decreases-chains::linked
decreases-chains::linked l = 32 * l.depth + rank l.chain + 2

abbrev pub decreases-chains::compared : goal.decreases-chains::compared
decreases-chains::compared l = 32 * l.depth + 15

abbrev pub decreases-expressions::branches : goal.decreases-expressions::branches
decreases-expressions::branches l = 32 * l.depth + 23

abbrev pub decreases-expressions::choice : goal.decreases-expressions::choice
decreases-expressions::choice l = 32 * l.depth + 24

abbrev pub invariant-chains::linked-loop-alloc : goal.invariant-chains::linked-loop-alloc
invariant-chains::linked-loop-alloc l = record {
  same : spec.linked (spec.nested l.depth) l.chain (spec.operand_of (spec.nested l.depth) l.chain) l.fn.cursor
      ≡ spec.turns (spec.is_operator l.chain) (spec.link (spec.nested l.depth) l.chain (spec.operand_of (spec.nested l.depth) l.chain)) l.left l.cursor;
  shorter : length l.cursor < length l.fn.cursor;
}

abbrev pub decreases-chains::linked-loop-alloc : goal.decreases-chains::linked-loop-alloc
decreases-chains::linked-loop-alloc l = length l.cursor

abbrev pub invariant-arguments::series-loop-alloc : goal.invariant-arguments::series-loop-alloc
invariant-arguments::series-loop-alloc l = record {
  same : spec.listed (spec.nested l.depth level.Whole) l.fn.cursor
      ≡ spec.turns (spec.is_sort sort.Comma) (spec.one_more (spec.after_comma (spec.nested l.depth level.Whole))) l.found l.cursor;
  shorter : length l.cursor < length l.fn.cursor;
}

abbrev pub decreases-arguments::series-loop-alloc : goal.decreases-arguments::series-loop-alloc
decreases-arguments::series-loop-alloc l = length l.cursor

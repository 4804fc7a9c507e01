-- Each function reads with a depth; below a depth the rules are ranked from the innermost to the block.
use Rattle.std.proofs.Common.{◌≡◌, ℕ, ◌+◌, ◌*◌, ◌≤◌, length}
use Rattle.st_grammar_laws.specs.Reading as spec
use Rattle.st_parse.proofs.blocks.+block.Given as goal

abbrev pub decreases-block : goal.decreases-block
decreases-block l = 8 * l.depth

abbrev pub decreases-else_part : goal.decreases-else_part
decreases-else_part l = 8 * l.depth + 1

abbrev pub decreases-if_stmt : goal.decreases-if_stmt
decreases-if_stmt l = 8 * l.depth + 2

abbrev pub decreases-while_stmt : goal.decreases-while_stmt
decreases-while_stmt l = 8 * l.depth + 2

abbrev pub decreases-statement : goal.decreases-statement
decreases-statement l = 8 * l.depth + 3

abbrev pub decreases-statements : goal.decreases-statements
decreases-statements l = 8 * l.depth + 4

abbrev pub decreases-braced : goal.decreases-braced
decreases-braced l = 8 * l.depth + 5

abbrev pub invariant-statements-loop-alloc : goal.invariant-statements-loop-alloc
invariant-statements-loop-alloc l = record {
  same : spec.many spec.in_block (spec.statement (spec.blocks l.depth)) l.fn.cursor
      ≡ spec.turns spec.in_block (spec.one_more (spec.statement (spec.blocks l.depth))) l.body l.cursor;
  no_longer : length l.cursor ≤ length l.fn.cursor;
}

abbrev pub decreases-statements-loop-alloc : goal.decreases-statements-loop-alloc
decreases-statements-loop-alloc l = length l.cursor

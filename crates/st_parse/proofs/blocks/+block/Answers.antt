use Rattle.std.proofs.Common.{◌≡◌, true, false, refl, ap, sym, subst, ◌∙◌, arith}
use Rattle.st_grammar_laws.specs.Reading as spec
use Rattle.st_grammar_laws.specs.Reading.{in_block, one_more, statement, blocks}
use Rattle.st_parse.specs.Reads.{Reads}
use Rattle.st_grammar.specs.Terminals.{next_sort}
use Rattle.st_parse.proofs.NestedLemmas.{blocks_none, blocks_some}
use Rattle.st_parse.proofs.ReadsLemmas.{memory_gone, handed_on, loop_stops, more_made, more_stops, many_begins}
use Rattle.st_parse.proofs.Turns.{no_turn, turn_taken}
use Rattle.st_parse.proofs.blocks.+block.Goals as goal

pub block-returns-then-depth-eq0-clause-reads : goal.block-returns-then-depth-eq0-clause-reads
block-returns-then-depth-eq0-clause-reads n c = blocks_none c.args.depth c.args.cursor.now c.if-depth-eq0.true

pub block-returns-clause-reads : goal.block-returns-clause-reads
block-returns-clause-reads n c =
    subst (λ r. Reads (λ body. body) (r c.args.cursor.now) c.braced.result c.braced.new.cursor)
    (sym (blocks_some c.args.depth c.if-depth-eq0.false)) c.braced.ensures.reads

pub statements-returns-in_err-body-clause-reads : goal.statements-returns-in_err-body-clause-reads
statements-returns-in_err-body-clause-reads n c = memory_gone (λ body. body) _ c.from_residual.result _ c.from_residual.ensures.1

pub statements-loop-alloc-init : goal.statements-loop-alloc-init
statements-loop-alloc-init n c = record {
  same = many_begins in_block (statement (blocks c.args.depth)) c.in_ok-body.body c.args.cursor.now c.in_ok-body.ensures;
  no_longer = omega arith;
}

pub statements-returns-in_err-statement-clause-reads : goal.statements-returns-in_err-statement-clause-reads
statements-returns-in_err-statement-clause-reads n c =
    let asked : in_block (next_sort c.loop-alloc.cursor) ≡ true = ap in_block (sym c.next_sort-in-loop-alloc.ensures) ∙ sym c.in_block.ensures ∙ c.loop-alloc-test.true in
    handed_on (λ body. body) _ c.from_residual-in_err-statement.result _ _ c.from_residual-in_err-statement.ensures.1
    (loop_stops in_block (one_more (statement (blocks c.args.depth))) c.loop-alloc.body c.loop-alloc.cursor _ _ _
    refl c.loop-alloc.invariant.same asked
    (more_stops (statement (blocks c.args.depth)) c.loop-alloc.body c.loop-alloc.cursor c.statement.new.cursor _ c.in_err-statement.ensures.reads))

pub statements-loop-alloc-preserved : goal.statements-loop-alloc-preserved
statements-loop-alloc-preserved n c =
    let asked : in_block (next_sort c.loop-alloc.cursor) ≡ true = ap in_block (sym c.next_sort-in-loop-alloc.ensures) ∙ sym c.in_block.ensures ∙ c.loop-alloc-test.true in
    record {
      same = c.loop-alloc.invariant.same
          ∙ turn_taken in_block (one_more (statement (blocks c.args.depth))) c.loop-alloc.body c.push.new.self c.loop-alloc.cursor c.statement.new.cursor asked
          (more_made (statement (blocks c.args.depth)) c.loop-alloc.body c.push.new.self c.in_ok-statement.field-0 c.loop-alloc.cursor c.statement.new.cursor
          c.in_ok-statement.ensures.reads c.in_ok-push.ensures.ok)
          c.in_ok-statement.ensures.shorter;
      no_longer = omega (arith, c.loop-alloc.invariant.no_longer, c.in_ok-statement.ensures.shorter);
    }

pub statements-returns-clause-reads : goal.statements-returns-clause-reads
statements-returns-clause-reads n c =
    let over : in_block (next_sort c.loop-alloc.cursor) ≡ false = ap in_block (sym c.next_sort-in-loop-alloc.ensures) ∙ sym c.in_block.ensures ∙ c.loop-alloc-test.false in
    c.loop-alloc.invariant.same ∙ no_turn in_block _ c.loop-alloc.body c.loop-alloc.cursor over

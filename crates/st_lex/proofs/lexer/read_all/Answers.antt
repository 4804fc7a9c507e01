-- Each turn of the loop is a turn of the reading.
use Rattle.std.proofs.Common.{arith}
use Rattle.st_lex.proofs.TurnLemmas.{at_start, at_newline, at_gap, at_found, at_end, at_wrong, gap_fits, found_fits}
use Rattle.st_lex.proofs.lexer.read_all.Goals as goal

pub loop-cursor-init : goal.loop-cursor-init
loop-cursor-init c =
    let text = c.args.text.now in
    rw (c.start-cursor.ensures, c.new-list.ensures.items) (at_start text)

pub loop-cursor-preserved-in-Newline : goal.loop-cursor-preserved-in-Newline
loop-cursor-preserved-in-Newline c =
    rw c.next_line.ensures (at_newline c.args.text.now c.loop-cursor.list.items c.loop-cursor.cursor c.loop-cursor.invariant c.loop-cursor-test.true c.in-Newline.ensures)

pub skip-requires-clause-offset : goal.skip-requires-clause-offset
skip-requires-clause-offset c = let fits = gap_fits c.args.text.now c.loop-cursor.cursor.offset c.in-Gap.len c.loop-cursor-test.true c.in-Gap.ensures in omega arith

pub skip-requires-clause-column : goal.skip-requires-clause-column
skip-requires-clause-column c = let fits = gap_fits c.args.text.now c.loop-cursor.cursor.offset c.in-Gap.len c.loop-cursor-test.true c.in-Gap.ensures in omega arith

pub loop-cursor-smaller-in-Gap : goal.loop-cursor-smaller-in-Gap
loop-cursor-smaller-in-Gap c =
    let fits = gap_fits c.args.text.now c.loop-cursor.cursor.offset c.in-Gap.len c.loop-cursor-test.true c.in-Gap.ensures in
    rw c.skip.ensures (omega arith)

pub loop-cursor-preserved-in-Gap : goal.loop-cursor-preserved-in-Gap
loop-cursor-preserved-in-Gap c =
    rw c.skip.ensures (at_gap c.args.text.now c.loop-cursor.list.items c.loop-cursor.cursor c.in-Gap.len c.loop-cursor.invariant c.loop-cursor-test.true c.in-Gap.ensures)

pub token-requires : goal.token-requires
token-requires c = let fits = found_fits c.args.text.now c.loop-cursor.cursor.offset c.in-Found.kind c.in-Found.len c.loop-cursor-test.true c.in-Found.ensures in omega arith

pub skip-requires-in-Found-clause-column : goal.skip-requires-in-Found-clause-column
skip-requires-in-Found-clause-column c = let fits = found_fits c.args.text.now c.loop-cursor.cursor.offset c.in-Found.kind c.in-Found.len c.loop-cursor-test.true c.in-Found.ensures in omega arith

pub loop-cursor-smaller : goal.loop-cursor-smaller
loop-cursor-smaller c =
    let fits = found_fits c.args.text.now c.loop-cursor.cursor.offset c.in-Found.kind c.in-Found.len c.loop-cursor-test.true c.in-Found.ensures in
    rw c.skip-in-Found.ensures (omega arith)

pub loop-cursor-preserved : goal.loop-cursor-preserved
loop-cursor-preserved c =
    rw (c.skip-in-Found.ensures, c.in_ok-push-in-Found.ensures.items, c.token.ensures)
    (at_found c.args.text.now c.loop-cursor.list.items c.loop-cursor.cursor c.in-Found.kind c.in-Found.len c.loop-cursor.invariant c.loop-cursor-test.true c.in-Found.ensures)

pub returns-in-Wrong : goal.returns-in-Wrong
returns-in-Wrong c =
    rw c.at.ensures (at_wrong c.args.text.now c.loop-cursor.list.items c.loop-cursor.cursor c.in-Wrong.fault c.loop-cursor.invariant c.loop-cursor-test.true c.in-Wrong.ensures)

pub returns : goal.returns
returns c = at_end c.args.text.now c.loop-cursor.list.items c.loop-cursor.cursor c.loop-cursor.invariant c.loop-cursor-test.false

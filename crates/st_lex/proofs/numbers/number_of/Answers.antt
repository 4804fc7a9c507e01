-- A digit that leads past the largest number is never made good by the digits after it.
use Rattle.std.proofs.Common.{◌≡◌, ◌+◌, ◌≤◌, fold, drop, get_or, arith}
use Rattle.std.proofs.lemmas.List.{at_drop_more}
use Rattle.st_lex.proofs.Runs.{with_digit, value_grows}
use Rattle.st_lex.proofs.numbers.number_of.Goals as goal

pub returns-then-value-digit : goal.returns-then-value-digit
returns-then-value-digit c =
    let ds = c.args.digits.now in
    let i = c.loop-byte.byte-index in
    let next : fold with_digit c.loop-byte.value (drop i ds) ≡ fold with_digit (with_digit c.loop-byte.value (get_or ds i 0)) (drop (i + 1) ds)
    = at_drop_more (fold with_digit c.loop-byte.value) ds i 0 (omega arith) in
    let above : with_digit c.loop-byte.value (get_or ds i 0) ≤ fold with_digit (with_digit c.loop-byte.value (get_or ds i 0)) (drop (i + 1) ds)
    = value_grows (with_digit c.loop-byte.value (get_or ds i 0)) (drop (i + 1) ds) in
    omega (arith, c.loop-byte.invariant.whole, next, above)

use Rattle.std.proofs.Common.{◌==◌, cond, arith}
use Rattle.std.proofs.lemmas.Bool.Decides.{nat_tests}
use Rattle.std.proofs.lemmas.List.Sums.{sum_by_push}
use Rattle.st_snap.proofs.pools.all_numbers.Goals as goal

pub loop-number-preserved : goal.loop-number-preserved
loop-number-preserved c = record {
  once = λ k. rw (
    c.push_reserved.ensures.items,
    sum_by_push (λ n. cond (n == k) 1 0) c.loop-number.numbers.items c.loop-number.number,
    c.loop-number.invariant.once k,
  ) (grind (arith, nat_tests));
  len = omega (arith, c.push_reserved.ensures.len);
  room = omega (arith, c.push_reserved.ensures.capacity);
}

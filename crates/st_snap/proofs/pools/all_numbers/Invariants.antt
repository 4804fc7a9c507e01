use Rattle.std.proofs.Common.{◌≡◌, ◌≤◌, ◌==◌, ℕ, nat_lt, cond, vec_len, vec_capacity}
use Rattle.std.specs.Prelude.{count_by}
use Rattle.st_snap.proofs.pools.all_numbers.Given as goal

abbrev pub invariant-loop-number : goal.invariant-loop-number
invariant-loop-number l =
    record {
      once : (number : ℕ) → count_by (λ n. n == number) l.numbers.items ≡ cond (nat_lt number l.number) 1 0;
      len : vec_len l.numbers ≡ l.number;
      room : l.count ≤ vec_capacity l.numbers;
    }

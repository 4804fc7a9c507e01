-- the digits that are left complete the value so far
use Rattle.std.proofs.Common.{◌≡◌, ◌+◌, ◌-◌, ◌*◌, ◌≤◌, drop, fold}
use Rattle.st_lex.specs.Terms.{LARGEST_NUMBER}
use Rattle.st_lex.specs.Spellings.{decimal}
use Rattle.st_lex.proofs.numbers.number_of.Given as goal

abbrev pub invariant-loop-byte : goal.invariant-loop-byte
invariant-loop-byte l = record {
  whole : fold (λ value digit. 10 * value + (digit - 48)) l.value (drop l.byte-index l.digits) ≡ decimal l.digits;
  fits : l.value ≤ LARGEST_NUMBER;
}

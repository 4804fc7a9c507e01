use Rattle.std.proofs.Common.{◌≡◌, ◌++◌, List, length, filter, take}
use Rattle.std.specs.Prelude.{nat_lt}
use Rattle.st_events.specs.Terms.{Pair}
use Rattle.st_audit.specs.Marks.{AreMarks}
use Rattle.st_audit.proofs.MarkLemmas.{pairs_of}
use Rattle.st_audit.proofs.losses.mark.Given as goal

-- the pairs of the checks so far are marked
abbrev pub invariant-loop-number : goal.invariant-loop-number
invariant-loop-number l = record {
  marks :
      (pairs : List Pair)
      → AreMarks l.verdicts pairs l.initial.marks.items
      → AreMarks l.verdicts (pairs ++ pairs_of l.obj (filter (λ n. nat_lt l.stamp n) (take l.number-index l.active))) l.marks.items;
  count : length l.marks.items ≡ length l.verdicts;
}

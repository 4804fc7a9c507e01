use Rattle.std.proofs.Common.{◌++◌, ℕ, List, filter, take, sym, subst}
use Rattle.std.specs.Prelude.{nat_lt}
use Rattle.std.proofs.lemmas.List.{take_all}
use Rattle.st_events.specs.Terms.{Pair}
use Rattle.st_audit.specs.Marks.{AreMarks}
use Rattle.st_audit.proofs.MarkLemmas.{pairs_of, pairs_one_more, pairs_as_before}
use Rattle.st_audit.proofs.losses.mark.Goals as goal

pub loop-number-preserved-then-number-stamp : goal.loop-number-preserved-then-number-stamp
loop-number-preserved-then-number-stamp c = record {
  marks = λ pairs old.
      subst (λ (ps : List Pair). AreMarks c.args.verdicts.now ps c.loop-number.marks.items)
      (sym (pairs_as_before pairs c.args.obj c.args.stamp c.args.active.now c.loop-number.number-index _ c.loop-number-test.true c.if-number-stamp.true))
      (c.loop-number.invariant.marks pairs old);
  count = c.loop-number.invariant.count;
}

pub loop-number-preserved : goal.loop-number-preserved
loop-number-preserved c = record {
  marks = λ pairs old.
      subst (λ (ps : List Pair). AreMarks c.args.verdicts.now ps c.mark_one.new.marks.items)
      (sym (pairs_one_more pairs c.args.obj c.args.stamp c.args.active.now c.loop-number.number-index _ c.loop-number-test.true c.if-number-stamp.false))
      (c.mark_one.ensures.marks (pairs ++ pairs_of c.args.obj (filter (λ n. nat_lt c.args.stamp n) (take c.loop-number.number-index c.args.active.now)))
      (c.loop-number.invariant.marks pairs old));
  count = c.mark_one.ensures.count;
}

pub returns-clause-marks : goal.returns-clause-marks
returns-clause-marks c = λ pairs old.
    subst (λ (ns : List ℕ). AreMarks c.args.verdicts.now (pairs ++ pairs_of c.args.obj (filter (λ n. nat_lt c.args.stamp n) ns)) c.loop-number.marks.items)
    (take_all c.loop-number.number-index c.args.active.now c.loop-number-test.false) (c.loop-number.invariant.marks pairs old)

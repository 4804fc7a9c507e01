use Rattle.std.proofs.Common.{◌≡◌, [], map, take, drop}
use Rattle.st_resolved.specs.Views.{predicate_of}
use Rattle.st_types.specs.Rules.{each_with_earlier, pred_faults, predicate_at}
use Rattle.st_types.proofs.predicates.predicates.Given as goal

abbrev pub invariant-loop-i : goal.invariant-loop-i
invariant-loop-i l = record {
  earlier : each_with_earlier (pred_faults l.program) (take l.i l.preds) (drop l.i l.preds) ≡ each_with_earlier (pred_faults l.program) [] l.preds;
  done : map predicate_of l.done.items ≡ map (predicate_at l.program) (take l.i l.preds);
}

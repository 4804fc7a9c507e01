use Rattle.std.proofs.Common.{map, take}
use Rattle.st_resolved.specs.Views.{predicate_of}
use Rattle.st_types.specs.Rules.{pred_faults, predicate_at}
use Rattle.st_types.proofs.CheckedLemmas.{gives_fault, no_faults, value_is}
use Rattle.st_types.proofs.EarlierLemmas.{earlier_passes, mapped_goes, preds_fail, preds_are}
use Rattle.st_types.proofs.predicates.predicates.Goals as goal

pub loop-i-preserved : goal.loop-i-preserved
loop-i-preserved c =
    let p = c.args.program.now in
    let preds = c.as_slice-preds.result.now in
    let d = c.index-preds-i.result in
    let faults = pred_faults p (take c.loop-i.i preds) d in
    record {
      earlier = earlier_passes (pred_faults p) preds c.loop-i.i d c.loop-i-test.true c.index-preds-i.is
          (no_faults faults (predicate_at p d) (predicate_of c.in_ok-predicate.field-0) c.in_ok-predicate.ensures) c.loop-i.invariant.earlier;
      done = mapped_goes predicate_of (predicate_at p) c.loop-i.done.items c.push.new.self.items c.in_ok-predicate.field-0 preds c.loop-i.i d c.loop-i-test.true
          c.index-preds-i.is c.in_ok-push.ensures.items
          (value_is faults (predicate_at p d) (predicate_of c.in_ok-predicate.field-0) c.in_ok-predicate.ensures) c.loop-i.invariant.done;
    }

pub returns-in_err-predicate : goal.returns-in_err-predicate
returns-in_err-predicate c =
    let p = c.args.program.now in
    gives_fault (map predicate_of) c.from_residual.result _ c.in_err-predicate.field-0.0 c.from_residual.ensures.1
    (preds_fail (pred_faults p) (predicate_at p) c.as_slice-preds.result.now p.preds c.loop-i.i c.index-preds-i.result c.in_err-predicate.field-0.0 c.loop-i-test.true c.index-preds-i.is
    c.as_slice-preds.ensures c.in_err-predicate.ensures c.loop-i.invariant.earlier)

pub returns : goal.returns
returns c =
    let p = c.args.program.now in
    preds_are (pred_faults p) (predicate_at p) predicate_of c.as_slice-preds.result.now p.preds c.loop-i.i c.loop-i.done.items c.from_vec.result c.loop-i-test.false
    c.as_slice-preds.ensures c.from_vec.ensures c.loop-i.invariant.earlier c.loop-i.invariant.done

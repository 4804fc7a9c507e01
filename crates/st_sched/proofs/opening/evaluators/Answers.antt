use Rattle.std.proofs.Common.{sym, subst, arith}
use Rattle.std.specs.List.{All}
use Rattle.std.proofs.lemmas.List.Elements.{All-push}
use Rattle.st_resolved.specs.Views.{program_of}
use Rattle.st_sched.specs.Standing.{IsIdleEval}
use Rattle.st_sched.proofs.opening.evaluators.Goals as goal

pub lanes-preserved : goal.lanes-preserved
lanes-preserved c =
    let P = IsIdleEval (program_of c.args.program.now) c.args.sizes.now in
    record {
      made = subst (All P) (sym c.push_reserved.ensures.items)
          (All-push P c.lanes.evals.items c.in_ok-make.field-0 c.lanes.invariant.made (record { made = c.in_ok-make.ensures.made; budget_is = c.in_ok-make.ensures.budget }));
      few = omega (arith, c.push_reserved.ensures.len, c.lanes-test.true, c.len.ensures);
      capacity = omega (arith, c.push_reserved.ensures.capacity, c.lanes.invariant.capacity);
    }

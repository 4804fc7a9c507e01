use Rattle.st_types.proofs.CountLemmas.{locals_taken, few_taken}
use Rattle.st_types.proofs.arguments.taken_by.Goals as goal

pub returns : goal.returns
returns c = record {
  args = c.in_ok-args.ensures;
  locals = locals_taken c.args.locals.now c.in_ok-locals.locals.items c.in_ok-args.args.items c.deref.result.now c.args.e.now
      c.in_ok-args.ensures c.deref.ensures.value c.in_ok-locals.ensures;
  few = few_taken c.args.locals.now c.in_ok-locals.locals.items c.in_ok-args.args.items c.deref.result.now c.args.e.now
      c.in_ok-args.ensures c.deref.ensures.value c.in_ok-locals.ensures;
}

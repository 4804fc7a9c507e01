use Rattle.std.proofs.Common.{ap}
use Rattle.st_types.specs.Statements.{Reached}
use Rattle.st_types.specs.Walks.{launched_of}
use Rattle.std.proofs.Common.{map}
use Rattle.st_types.proofs.ForgetLemmas.{closed_from}
use Rattle.st_types.proofs.walks.Walk.close.Goals as goal

pub returns : goal.returns
returns c =
    ap (λ locals. let r : Reached = record { locals = locals; checks = map launched_of c.args.self.now.checks.items } in r)
    (closed_from c.args.self.now.locals c.deref_mut.result.now c.forget.new.locals c.args.before c.deref_mut.ensures.value c.requires c.forget.ensures)

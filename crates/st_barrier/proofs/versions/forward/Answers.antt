use Rattle.std.proofs.Common.{◌≡◌, ◌∙◌, ap, arith}
use Rattle.st_barrier.specs.Keeping.{lanes_in}
use Rattle.st_barrier.proofs.KeepLemmas.{field_next}
use Rattle.st_barrier.proofs.versions.forward.Goals as goal

pub returns-clause-flight : goal.returns-clause-flight
returns-clause-flight g c =
    let was = c.loop-left.invariant in
    let x = c.args.change in
    let none : c.loop-left.left ≡ 0 = omega (arith, c.loop-left-test.false) in
    field_next c.loop-left.seat x.obj x.field x.value c.args.target was.kept (was.awaiting ∙ ap (lanes_in c.args.checks.now) none)

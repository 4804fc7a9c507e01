use Rattle.std.proofs.Common.{rules, subst, IsTrue}
use Rattle.st_snap.specs.Snapshots.{HasCell, has_kind_of}
use Rattle.tests_snap.specs.Drive.{DrivenHeap}
use Rattle.tests_snap.proofs.DriveLemmas.{driven_words_fit}
use Rattle.tests_snap.proofs.driver.Driven.cell.Goals as goal

pub returns-clause-fits : goal.returns-clause-fits
returns-clause-fits c =
    let f = c.self.inside in
    let obj = c.known_at-obj.result.0 in
    let cell : HasCell f.heap obj c.args.field = search rules in
    λ word. subst (λ (d : DrivenHeap). IsTrue (has_kind_of d.heap obj c.args.field word)) c.self.view_is
    (driven_words_fit f.heap f.sizes f.width f.objects.items f.checks.items obj c.args.field word c.self.invariant cell)

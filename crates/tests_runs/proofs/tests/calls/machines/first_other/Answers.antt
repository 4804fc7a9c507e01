use Rattle.std.proofs.Common.{sym, subst}
use Rattle.st_resolved.specs.declared.programs.Resolved.{Resolved}
use Rattle.st_resolved.specs.Views.{program_of}
use Rattle.st_mutator.specs.Mutators.{HasFewLocals}
use Rattle.st_mutator.proofs.FewLemmas.{well_formed_has_few_locals}
use Rattle.tests_runs.proofs.tests.calls.machines.first_other.Goals as goal

pub make-requires : goal.make-requires
make-requires c =
    subst (λ (r : Resolved). HasFewLocals (program_of r)) (sym c.resolved.ensures.resolved)
    (well_formed_has_few_locals _ _ c.resolved.ensures.well_formed)

use Rattle.std.proofs.Common.{subst}
use Rattle.st_resolved.specs.Views.{program_of}
use Rattle.st_resolved.specs.WellFormed.{IsWellFormed}
use Rattle.st_types.specs.TypedPrograms.{TypedView}
use Rattle.st_types.proofs.FormedLemmas.{typed_well_formed}
use Rattle.st_types.proofs.typed_programs.Typed.resolved.Goals as goal

pub returns-clause-well_formed : goal.returns-clause-well_formed
returns-clause-well_formed c = subst (λ (t : TypedView). IsWellFormed t.shape (program_of t.resolved)) c.self.view_is (typed_well_formed _ c.self.invariant)

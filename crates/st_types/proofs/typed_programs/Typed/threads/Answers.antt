use Rattle.std.proofs.Common.{length, ap, ◌∙◌}
use Rattle.st_resolved.specs.Views.{program_of}
use Rattle.st_types.specs.TypedPrograms.{TypedView}
use Rattle.st_types.proofs.FormedLemmas.{threads_are}
use Rattle.st_types.proofs.typed_programs.Typed.threads.Goals as goal

pub returns-clause-resolved : goal.returns-clause-resolved
returns-clause-resolved c = c.len.ensures ∙ threads_are _ c.self.invariant ∙ ap (λ (t : TypedView). length (program_of t.resolved).threads) c.self.view_is

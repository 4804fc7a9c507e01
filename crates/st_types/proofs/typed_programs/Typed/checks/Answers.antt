use Rattle.std.proofs.Common.{length, ap, ◌∙◌}
use Rattle.st_types.specs.TypedPrograms.{TypedView}
use Rattle.st_types.proofs.FormedLemmas.{checks_are}
use Rattle.st_types.proofs.typed_programs.Typed.checks.Goals as goal

pub returns-clause-shaped : goal.returns-clause-shaped
returns-clause-shaped c = c.len.ensures ∙ checks_are _ c.self.invariant ∙ ap (λ (t : TypedView). length t.shape.checks) c.self.view_is

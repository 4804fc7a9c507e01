use Rattle.std.proofs.Common.{sym, ◌∙◌}
use Rattle.std.specs.Str.{bytes_eq}
use Rattle.st_types.specs.Scopes.{local_view}
use Rattle.st_types.proofs.ScopeLemmas.{list_any_of_map}
use Rattle.st_types.proofs.assignments.is_local.Goals as goal

pub returns : goal.returns
returns c = c.has_name.ensures ∙ sym (list_any_of_map (λ l. bytes_eq l.name c.args.name.now) local_view c.args.locals.now)

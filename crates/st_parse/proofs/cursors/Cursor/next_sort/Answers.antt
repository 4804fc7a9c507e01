use Rattle.std.proofs.Common.{ap, ◌∙◌}
use Rattle.st_grammar.specs.Terminals.{next_sort}
use Rattle.st_parse.proofs.cursors.Cursor.next_sort.Goals as goal

pub returns : goal.returns
returns c = c.self.invariant.next ∙ ap next_sort c.self.view_is

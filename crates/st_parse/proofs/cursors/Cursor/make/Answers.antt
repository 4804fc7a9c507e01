use Rattle.st_parse.proofs.cursors.Cursor.make.Goals as goal

pub invariant_of-result : goal.invariant_of-result
invariant_of-result c = record { each = c.requires; next = c.sort_at.ensures }

use Rattle.st_lex.proofs.ListParts.{each_token, each_gap}
use Rattle.st_lex.proofs.laws.neighbours.Goals as goal

pub returns : goal.returns
returns c = record { each = each_token; between = each_gap }

use Rattle.st_grammar_laws.proofs.Exact.{one_tree}
use Rattle.st_grammar_laws.proofs.laws.one_tree.Goals as goal

pub returns : goal.returns
returns c = one_tree

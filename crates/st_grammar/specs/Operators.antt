-- Which tokens are operators.
use Rattle.std.specs.Prelude.{◌≡◌, Option, Some, None}
use Rattle.st_ast.specs.declared.operators.Op.{Op}
use Rattle.st_ast.specs.declared.operators.Op.TheVariants as op
use Rattle.st_grammar.specs.declared.operators.Chain.{Chain}
use Rattle.st_grammar.specs.declared.operators.Chain.TheVariants as chain
use Rattle.st_grammar.specs.declared.sorts.Sort.{Sort}
use Rattle.st_grammar.specs.declared.sorts.Sort.TheVariants as sort
use Rattle.st_grammar.specs.Terminals.{Terminal}

-- the operators that follow one another at a level
abbrev pub chained : Chain → Sort → Option Op
chained chain.Either sort.Either = Some op.Either
chained chain.Both sort.Both = Some op.Both
chained chain.Sum sort.Plus = Some op.Add
chained chain.Sum sort.Minus = Some op.Sub
chained chain.Product sort.Star = Some op.Mul
chained chain.Product sort.Slash = Some op.Div
chained chain.Product sort.Percent = Some op.Rem
chained _ _ = None

-- the comparisons
abbrev pub compared : Sort → Option Op
compared sort.Equal = Some op.Equal
compared sort.NotEqual = Some op.NotEqual
compared sort.Less = Some op.Less
compared sort.LessEq = Some op.LessEq
compared sort.Greater = Some op.Greater
compared sort.GreaterEq = Some op.GreaterEq
compared _ = None

-- the terminal is this operator of the level
pub record IsChained (level : Chain) (op : Op) (t : Terminal) : Type 0 where
  pub same : chained level t.sort ≡ Some op

-- the terminal is this comparison
pub record IsCompared (op : Op) (t : Terminal) : Type 0 where
  pub same : compared t.sort ≡ Some op

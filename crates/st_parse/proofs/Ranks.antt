-- The order of the levels of operators, for the recursion of the readers of expressions.
use Rattle.std.proofs.Common.{ℕ}
use Rattle.st_grammar.specs.declared.operators.Chain.{Chain}
use Rattle.st_grammar.specs.declared.operators.Chain.TheVariants as chain

-- a level that binds tighter has a lower number, with room between two for the readers that stand between them
abbrev pub rank : Chain → ℕ
rank chain.Product = 8
rank chain.Sum = 11
rank chain.Both = 16
rank chain.Either = 19

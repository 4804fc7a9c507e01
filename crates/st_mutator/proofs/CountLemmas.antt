-- There are as many arguments as expressions
use Rattle.std.proofs.Common.{◌≡◌, suc, List, [], ◌∷◌, length, refl, ap}
use Rattle.st_resolved.specs.declared.expressions.Expr.{Expr}
use Rattle.st_resolved.specs.Views.{args_of}
use Rattle.st_mutator.specs.Laying.{count_of}

-- the view of so many arguments has as many terms
pub count_of_args : (es : List Expr) → count_of (args_of es) ≡ length es
count_of_args [] = refl
count_of_args (e ∷ es) = ap suc (count_of_args es)

-- Sorts that are the same are one.
use Rattle.std.proofs.Common.{◌≡◌, true, refl, rules}
use denote.Enum.Bare.{same_true}
use Rattle.st_grammar.specs.declared.sorts.Sort.{Sort}
use Rattle.st_grammar.specs.declared.sorts.Sort.TheVariants as sort
use Rattle.st_grammar.specs.contracts.sorts.Sort.{the_type}
use Rattle.st_grammar.specs.Sorts.{same_sort}

-- two sorts that compare as the same are one sort
pub sort_means : (a b : Sort) → same_sort a b ≡ true → a ≡ b
unfolding same_sort
sort_means a b e = same_true the_type (search rules) _ _ e

-- each sort compares as the same with itself
pub sort_self : (a : Sort) → same_sort a a ≡ true
unfolding same_sort
sort_self sort.Name = refl
sort_self sort.Number = refl
sort_self sort.Class = refl
sort_self sort.Shared = refl
sort_self sort.Pred = refl
sort_self sort.Proc = refl
sort_self sort.Thread = refl
sort_self sort.Var = refl
sort_self sort.If = refl
sort_self sort.Else = refl
sort_self sort.While = refl
sort_self sort.Check = refl
sort_self sort.New = refl
sort_self sort.Cas = refl
sort_self sort.Null = refl
sort_self sort.True = refl
sort_self sort.False = refl
sort_self sort.Int = refl
sort_self sort.Bool = refl
sort_self sort.OpenBrace = refl
sort_self sort.CloseBrace = refl
sort_self sort.OpenParen = refl
sort_self sort.CloseParen = refl
sort_self sort.Semicolon = refl
sort_self sort.Colon = refl
sort_self sort.Comma = refl
sort_self sort.Dot = refl
sort_self sort.Assign = refl
sort_self sort.Equal = refl
sort_self sort.NotEqual = refl
sort_self sort.Less = refl
sort_self sort.LessEq = refl
sort_self sort.Greater = refl
sort_self sort.GreaterEq = refl
sort_self sort.Plus = refl
sort_self sort.Minus = refl
sort_self sort.Star = refl
sort_self sort.Slash = refl
sort_self sort.Percent = refl
sort_self sort.Not = refl
sort_self sort.Both = refl
sort_self sort.Either = refl
sort_self sort.Question = refl
sort_self sort.Other = refl

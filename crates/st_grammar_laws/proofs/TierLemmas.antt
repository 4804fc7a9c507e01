-- How far an expression may go on with a token: a token of a tier ends all that is of the tiers below.
use Rattle.std.proofs.Common.{◌≡◌, ℕ, ◌≤◌, ◌<◌, Bool, true, false, List, [], ◌∷◌, Option, Some, None, is_some, refl, sym, ap, subst, ◌∙◌, arith}
use Rattle.st_ast.specs.declared.operators.Op.{Op}
use Rattle.st_grammar.specs.declared.operators.Chain.{Chain}
use Rattle.st_grammar.specs.declared.operators.Chain.TheVariants as chain
use Rattle.st_grammar.specs.declared.sorts.Sort.{Sort}
use Rattle.st_grammar.specs.declared.sorts.Sort.TheVariants as sort
use Rattle.st_grammar.specs.Operators.{chained, compared}
use Rattle.st_grammar.specs.Sorts.{same_sort}
use Rattle.st_grammar.specs.Terminals.{Terminal, Is, next_sort}
use Rattle.st_grammar.proofs.SortLemmas.{sort_means}

-- how much a token ends: operators by how loosely they bind, and 9 for what is in no expression
abbrev pub tier : Sort → ℕ
tier sort.OpenParen = 1
tier sort.Dot = 2
tier sort.Star = 3
tier sort.Slash = 3
tier sort.Percent = 3
tier sort.Plus = 4
tier sort.Minus = 4
tier sort.Equal = 5
tier sort.NotEqual = 5
tier sort.Less = 5
tier sort.LessEq = 5
tier sort.Greater = 5
tier sort.GreaterEq = 5
tier sort.Both = 6
tier sort.Either = 7
tier sort.Question = 8
tier s = 9

-- the tier of a chain's operators
abbrev pub tier_of : Chain → ℕ
tier_of chain.Product = 3
tier_of chain.Sum = 4
tier_of chain.Both = 6
tier_of chain.Either = 7

-- an operator has the tier of its chain
pub chained_tier : (c : Chain) (s : Sort) (o : Op) → chained c s ≡ Some o → tier s ≡ tier_of c
chained_tier chain.Either sort.Either o e = refl
chained_tier chain.Both sort.Both o e = refl
chained_tier chain.Sum sort.Plus o e = refl
chained_tier chain.Sum sort.Minus o e = refl
chained_tier chain.Product sort.Star o e = refl
chained_tier chain.Product sort.Slash o e = refl
chained_tier chain.Product sort.Percent o e = refl
chained_tier _ _ o e = absurd cc

-- comparisons have tier 5
pub compared_tier : (s : Sort) (o : Op) → compared s ≡ Some o → tier s ≡ 5
compared_tier sort.Equal o e = refl
compared_tier sort.NotEqual o e = refl
compared_tier sort.Less o e = refl
compared_tier sort.LessEq o e = refl
compared_tier sort.Greater o e = refl
compared_tier sort.GreaterEq o e = refl
compared_tier _ o e = absurd cc

unchained : (c : Chain) (s : Sort) (o : Option Op) → chained c s ≡ o → tier_of c < tier s → chained c s ≡ None
unchained c s None e h = e
unchained c s (Some o) e h = absurd (omega (arith, chained_tier c s o e))

-- a token of a higher tier is no operator of the chain
pub ends_chain : (c : Chain) (s : Sort) → tier_of c < tier s → is_some (chained c s) ≡ false
ends_chain c s h = ap is_some (unchained c s (chained c s) refl h)

uncompared : (s : Sort) (o : Option Op) → compared s ≡ o → 5 < tier s → compared s ≡ None
uncompared s None e h = e
uncompared s (Some o) e h = absurd (omega (arith, compared_tier s o e))

-- nor is one above tier 5 a comparison
pub ends_compared : (s : Sort) → 5 < tier s → compared s ≡ None
ends_compared s h = uncompared s (compared s) refl h

other : (n : ℕ) (s w : Sort) (b : Bool) → same_sort s w ≡ b → tier w ≡ n → n < tier s → same_sort s w ≡ false
other n s w true e t h = absurd (omega (arith, ap tier (sort_means s w e), t))
other n s w false e t h = e

-- a token of another tier is another
pub is_other : (n : ℕ) (s w : Sort) → tier w ≡ n → n < tier s → same_sort s w ≡ false
is_other n s w t h = other n s w (same_sort s w) refl t h

-- a token has the tier of its sort
pub tier_is : {s : Sort} {t : Terminal} → Is s t → tier t.sort ≡ tier s
tier_is h = ap tier h.same

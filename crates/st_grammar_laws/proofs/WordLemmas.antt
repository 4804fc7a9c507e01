-- The words of expressions: with what they begin, and that no `;`, `{` or `}` is among them.
use Rattle.std.proofs.Common.{◌≡◌, ℕ, zero, suc, ◌+◌, ◌≤◌, ◌<◌, Bool, true, false, cond, List, [], ◌∷◌, ◌++◌, length, Option, Some, None, refl, sym, ap}
use Rattle.std.proofs.Common.{subst, ◌∙◌, append_assoc, arith}
use Rattle.st_ast.specs.declared.expressions.Expr.{Expr}
use Rattle.st_ast.specs.declared.operators.Op.{Op}
use Rattle.st_grammar.specs.declared.operators.Chain.{Chain}
use Rattle.st_grammar.specs.declared.operators.Chain.TheVariants as chain
use Rattle.st_grammar.specs.declared.sorts.Sort.{Sort}
use Rattle.st_grammar.specs.declared.sorts.Sort.TheVariants as sort
use Rattle.st_grammar.specs.Grammar.{IsPlace, of_local, of_shared, of_field, IsExpr, only, IsOr, or_first, or_next, IsAnd, and_first, and_next, IsCmp, cmp_only, cmp_both, IsSum, sum_first, sum_next}
use Rattle.st_grammar.specs.Grammar.{IsTerm, term_first, term_next, IsUnary, plain, not_of, minus_of, IsPostfix, primary, field_of, IsPrimary, number, truth, untruth, null, local}
use Rattle.st_grammar.specs.Grammar.{call, shared_field, paren}
use Rattle.st_grammar.specs.Grammar.{AreArgs, no_args, some_args, AreExprs, last_expr, next_expr}
use Rattle.st_grammar.specs.Grammar as g
use Rattle.st_grammar.specs.Operators.{chained, compared, IsChained, IsCompared}
use Rattle.st_grammar.specs.Terminals.{Terminal, Is, next_sort}

-- `;`, `{` and `}`
abbrev pub separates : Sort → Bool
separates sort.Semicolon = true
separates sort.OpenBrace = true
separates sort.CloseBrace = true
separates s = false

-- how many terminals stand before the next of these
abbrev pub span : List Terminal → ℕ
span [] = 0
span (t ∷ ts) = cond (separates t.sort) 0 (suc (span ts))

-- no separator is among the tokens
pub data Plain : List Terminal → Type 0 where
  plain_end : Plain []
  plain_more : {t : Terminal} {ts : List Terminal} → separates t.sort ≡ false → Plain ts → Plain (t ∷ ts)

-- nor is one in two such lists together
pub plain_append : {ts us : List Terminal} → Plain ts → Plain us → Plain (ts ++ us)
plain_append plain_end q = q
plain_append (plain_more e p) q = plain_more e (plain_append p q)

-- one token more that is no separator makes the way to the next separator longer by one
pub span_more : (t : Terminal) (ts : List Terminal) → separates t.sort ≡ false → span (t ∷ ts) ≡ suc (span ts)
span_more t ts e = ap (λ b. cond b 0 (suc (span ts))) e

-- after a front without separators the way to the next one is no longer
pub span_after : {ts : List Terminal} → Plain ts → (us : List Terminal) → span us ≤ span (ts ++ us)
span_after plain_end us = omega arith
span_after (plain_more {t = t} {ts = ts} e p) us = omega (arith, span_after p us, span_more t (ts ++ us) e)

-- with what an expression begins
abbrev pub starts_expr : Sort → Bool
starts_expr sort.Number = true
starts_expr sort.True = true
starts_expr sort.False = true
starts_expr sort.Null = true
starts_expr sort.Name = true
starts_expr sort.Shared = true
starts_expr sort.OpenParen = true
starts_expr sort.Not = true
starts_expr sort.Minus = true
starts_expr s = false

-- an operator of a chain is no separator
pub chained_plain : (c : Chain) (s : Sort) (o : Op) → chained c s ≡ Some o → separates s ≡ false
chained_plain chain.Either sort.Either o e = refl
chained_plain chain.Both sort.Both o e = refl
chained_plain chain.Sum sort.Plus o e = refl
chained_plain chain.Sum sort.Minus o e = refl
chained_plain chain.Product sort.Star o e = refl
chained_plain chain.Product sort.Slash o e = refl
chained_plain chain.Product sort.Percent o e = refl
chained_plain _ _ o e = absurd cc

-- nor is a comparison
pub compared_plain : (s : Sort) (o : Op) → compared s ≡ Some o → separates s ≡ false
compared_plain sort.Equal o e = refl
compared_plain sort.NotEqual o e = refl
compared_plain sort.Less o e = refl
compared_plain sort.LessEq o e = refl
compared_plain sort.Greater o e = refl
compared_plain sort.GreaterEq o e = refl
compared_plain _ o e = absurd cc

-- a token of a sort that is no separator is none
pub is_plain : {s : Sort} {t : Terminal} → separates s ≡ false → Is s t → separates t.sort ≡ false
is_plain e h = ap separates h.same ∙ e

-- the words of an expression
pub record Words (ts : List Terminal) : Type 0 where
  pub first : Terminal
  pub others : List Terminal
  pub split : first ∷ others ≡ ts
  pub starts : starts_expr first.sort ≡ true
  pub plain : Plain ts

words_more : {ts us : List Terminal} → Words ts → Plain us → Words (ts ++ us)
words_more {us = us} w p = record {
  first = w.first;
  others = w.others ++ us;
  split = ap (λ (l : List Terminal). l ++ us) w.split;
  starts = w.starts;
  plain = plain_append w.plain p;
}

words_from : {s : Sort} {t : Terminal} {ts : List Terminal} → starts_expr s ≡ true → separates s ≡ false → Is s t → Plain ts → Words (t ∷ ts)
words_from {t = t} {ts = ts} e f h p = record { first = t; others = ts; split = refl; starts = ap starts_expr h.same ∙ e; plain = plain_more (is_plain f h) p }

one : {s : Sort} {t : Terminal} → separates s ≡ false → Is s t → Plain (t ∷ [])
one e h = plain_more (is_plain e h) plain_end

operator : (c : Chain) {op : Op} {mark : Terminal} {us : List Terminal} → IsChained c op mark → Plain us → Plain (mark ∷ us)
operator c {op = op} {mark = mark} h p = plain_more (chained_plain c mark.sort op h.same) p

mutual
  pub expr_words : {ts : List Terminal} {e : Expr} → IsExpr ts e → Words ts
  expr_words (only h) = or_words h
  expr_words (g.cond h q l c r) = words_more (words_more (or_words h) (plain_more (is_plain refl q) (expr_words l).plain)) (plain_more (is_plain refl c) (expr_words r).plain)

  pub or_words : {ts : List Terminal} {e : Expr} → IsOr ts e → Words ts
  or_words (or_first h) = and_words h
  or_words (or_next l o r) = words_more (or_words l) (operator chain.Either o (and_words r).plain)

  pub and_words : {ts : List Terminal} {e : Expr} → IsAnd ts e → Words ts
  and_words (and_first h) = cmp_words h
  and_words (and_next l o r) = words_more (and_words l) (operator chain.Both o (cmp_words r).plain)

  pub cmp_words : {ts : List Terminal} {e : Expr} → IsCmp ts e → Words ts
  cmp_words (cmp_only h) = sum_words h
  cmp_words (cmp_both {mark = mark} {op = op} l o r) = words_more (sum_words l) (plain_more (compared_plain mark.sort op o.same) (sum_words r).plain)

  pub sum_words : {ts : List Terminal} {e : Expr} → IsSum ts e → Words ts
  sum_words (sum_first h) = term_words h
  sum_words (sum_next l o r) = words_more (sum_words l) (operator chain.Sum o (term_words r).plain)

  pub term_words : {ts : List Terminal} {e : Expr} → IsTerm ts e → Words ts
  term_words (term_first h) = unary_words h
  term_words (term_next l o r) = words_more (term_words l) (operator chain.Product o (unary_words r).plain)

  pub unary_words : {ts : List Terminal} {e : Expr} → IsUnary ts e → Words ts
  unary_words (plain h) = postfix_words h
  unary_words (not_of m h) = words_from refl refl m (unary_words h).plain
  unary_words (minus_of m h) = words_from refl refl m (unary_words h).plain

  pub postfix_words : {ts : List Terminal} {e : Expr} → IsPostfix ts e → Words ts
  postfix_words (primary h) = primary_words h
  postfix_words (field_of h d n) = words_more (postfix_words h) (plain_more (is_plain refl d) (one refl n))

  pub primary_words : {ts : List Terminal} {e : Expr} → IsPrimary ts e → Words ts
  primary_words (number h) = words_from refl refl h plain_end
  primary_words (truth h) = words_from refl refl h plain_end
  primary_words (untruth h) = words_from refl refl h plain_end
  primary_words (null h) = words_from refl refl h plain_end
  primary_words (local h) = words_from refl refl h plain_end
  primary_words (call n o a c) = words_from refl refl n (plain_more (is_plain refl o) (plain_append (args_plain a) (one refl c)))
  primary_words (shared_field s d n) = words_from refl refl s (plain_more (is_plain refl d) (one refl n))
  primary_words (paren o h c) = words_from refl refl o (plain_append (expr_words h).plain (one refl c))

  pub args_plain : {ts : List Terminal} {es : List Expr} → AreArgs ts es → Plain ts
  args_plain no_args = plain_end
  args_plain (some_args h) = (exprs_words h).plain

  pub exprs_words : {ts : List Terminal} {es : List Expr} → AreExprs ts es → Words ts
  exprs_words (last_expr h) = expr_words h
  exprs_words (next_expr h c r) = words_more (expr_words h) (plain_more (is_plain refl c) (exprs_words r).plain)

-- a target has no separator in it
pub place_plain : {ts : List Terminal} {e : Expr} → IsPlace ts e → Plain ts
place_plain (of_local o d n) = plain_more (is_plain refl o) (plain_more (is_plain refl d) (one refl n))
place_plain (of_shared s d n) = plain_more (is_plain refl s) (plain_more (is_plain refl d) (one refl n))
place_plain (of_field h d n) = plain_append (place_plain h) (plain_more (is_plain refl d) (one refl n))

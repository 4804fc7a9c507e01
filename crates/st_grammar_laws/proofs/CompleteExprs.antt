-- What is spelled as an expression is read so, where the next terminal does not go on with it and the depth is enough.
use Rattle.std.proofs.Common.{◌≡◌, ℕ, zero, suc, ◌≤◌, ◌<◌, Bool, true, false, List, [], ◌∷◌, ◌++◌, length, Ok, Err, refl, sym, ap, subst, ◌∙◌, append_assoc}
use Rattle.std.proofs.Common.{arith, length-append}
use Rattle.st_ast.specs.declared.expressions.Expr.{Expr}
use Rattle.st_ast.specs.declared.expressions.Expr.TheVariants as expr
use Rattle.st_ast.specs.declared.operators.Op.{Op}
use Rattle.st_grammar.specs.declared.operators.Chain.TheVariants as chain
use Rattle.st_grammar_laws.specs.declared.levels.Level.TheVariants as level
use Rattle.st_grammar.specs.declared.sorts.Sort.{Sort}
use Rattle.st_grammar.specs.declared.sorts.Sort.TheVariants as sort
use Rattle.st_grammar.specs.Grammar as g
use Rattle.st_grammar.specs.Grammar.{IsExpr, IsOr, IsAnd, IsCmp, IsSum, IsTerm, IsUnary, IsPostfix, IsPrimary, AreArgs, AreExprs}
use Rattle.st_grammar.specs.Operators.{IsChained, IsCompared}
use Rattle.st_grammar.specs.Sorts.{same_sort}
use Rattle.st_grammar.specs.Terminals.{Terminal, Is, next_sort}
use Rattle.st_grammar_laws.specs.Reading as r
use Rattle.st_grammar_laws.specs.Reading.{Outcome, Reader, ◌>>◌, expect, turns, one_more, is_sort, listed, enclosed}
use Rattle.st_grammar_laws.proofs.StepLemmas.{moved, enclosed_none, enclosed_some, comma_turn, fields_go, fields_end, shared_ok, whole_ok, prefixed_ok, leaf_ok, primary_at, local_ok}
use Rattle.st_grammar_laws.proofs.StepLemmas.{call_ok, paren_ok, postfix_ok, plain_ok, not_ok, minus_ok}
use Rattle.st_grammar_laws.proofs.StepLemmas.{after_chain, first_ok, next_ok, chain_end, cmp_one, cmp_two, choice_one, choice_two}
use Rattle.st_grammar_laws.proofs.TierLemmas.{tier, tier_of, chained_tier, compared_tier, is_other, tier_is}
use Rattle.st_grammar_laws.proofs.TurnLemmas.{then_ok, same_is, turns_end, turns_go}
use Rattle.st_grammar_laws.proofs.WordLemmas.{span, span_more, span_after, is_plain, chained_plain, compared_plain, expr_words, or_words, and_words, cmp_words, sum_words, term_words}
use Rattle.st_grammar_laws.proofs.WordLemmas.{postfix_words, exprs_words, starts_expr, Words}
use Rattle.st_grammar_laws.proofs.WordLemmas.{separates, Plain, plain_end, plain_more}
use Rattle.st_grammar.proofs.SortLemmas.{sort_means}
use Rattle.st_grammar.specs.declared.operators.Chain.{Chain}
use Rattle.st_grammar_laws.specs.declared.levels.Level.{Level}

-- the span of what stands after words and a sign
pub past : {ts : List Terminal} (mark : Terminal) (us : List Terminal) (d : ℕ) → Plain ts → separates mark.sort ≡ false → span (ts ++ mark ∷ us) ≤ d → span us < d
past mark us d p e w = omega (arith, span_after p (mark ∷ us), span_more mark us e)

-- a chain and one more operand
chain_next : (inner : Level → Reader Expr) (c : Chain) (operand : Reader Expr) (d : ℕ) (ts us rest : List Terminal) (mark : Terminal) (op : Op) (left right : Expr) → IsChained c op mark
    → Plain ts
    → (span (ts ++ mark ∷ (us ++ rest)) ≤ d → r.linked inner c operand (ts ++ mark ∷ (us ++ rest)) ≡ after_chain inner c operand left (mark ∷ (us ++ rest)))
    → (span (us ++ rest) ≤ d → operand (us ++ rest) ≡ Ok (right, rest))
    → span ((ts ++ mark ∷ us) ++ rest) ≤ d → r.linked inner c operand ((ts ++ mark ∷ us) ++ rest) ≡ after_chain inner c operand (expr.Binary op left right mark.site) rest
chain_next inner c operand d ts us rest mark op left right o p l k =
    moved (r.linked inner c operand) d ((ts ++ mark ∷ us) ++ rest) (ts ++ mark ∷ (us ++ rest)) (after_chain inner c operand (expr.Binary op left right mark.site) rest)
    (append_assoc ts (mark ∷ us) rest)
    (λ w. let less : span (us ++ rest) < d = past mark (us ++ rest) d p (chained_plain c mark.sort op o.same) w in
    l w ∙ next_ok inner c operand left mark op us rest right o (k (omega arith)))

-- the tier of an operator
operator_tier : (c : Chain) (op : Op) (mark : Terminal) (n : ℕ) → IsChained c op mark → n < tier_of c → n < tier mark.sort
operator_tier c op mark n o h = omega (arith, chained_tier c mark.sort op o.same, h)

-- expressions begin with no `)`
not_closing : (s : Sort) (b : Bool) → same_sort s sort.CloseParen ≡ b → starts_expr s ≡ true → same_sort s sort.CloseParen ≡ false
not_closing s false e h = e
not_closing s true e h = let bad : true ≡ false = sym h ∙ ap starts_expr (sort_means s sort.CloseParen e) in absurd cc

-- a list that begins with an expression is not taken for an empty one
pub opens_no_list : {ts : List Terminal} (rest : List Terminal) → Words ts → same_sort (next_sort (ts ++ rest)) sort.CloseParen ≡ false
opens_no_list rest w =
    subst (λ (l : List Terminal). same_sort (next_sort (l ++ rest)) sort.CloseParen ≡ false) w.split (not_closing w.first.sort (same_sort w.first.sort sort.CloseParen) refl w.starts)

-- the commas of a list of expressions
abbrev More : (d : ℕ) → List Expr → Reader (List Expr)
More d items = turns (is_sort sort.Comma) (one_more (expect sort.Comma >> r.nested d level.Whole)) items

one_argument : (d : ℕ) (items : List Expr) (comma : Terminal) (ts rest : List Terminal) (e : Expr) → Is sort.Comma comma → r.nested d level.Whole (ts ++ rest) ≡ Ok (e, rest)
    → More d items (comma ∷ (ts ++ rest)) ≡ More d (items ++ e ∷ []) rest
one_argument d items comma ts rest e c h =
    turns_go (is_sort sort.Comma) (one_more (expect sort.Comma >> r.nested d level.Whole)) items (items ++ e ∷ []) comma (ts ++ rest) rest (same_is sort.Comma comma c)
    (comma_turn (r.nested d level.Whole) items comma (ts ++ rest) e rest c h) (omega (arith, length-append ts rest))

no_comma : (d : ℕ) (items : List Expr) (closing : Terminal) (rest : List Terminal) → Is sort.CloseParen closing → More d items (closing ∷ rest) ≡ Ok (items, closing ∷ rest)
unfolding same_sort
no_comma d items closing rest h =
    turns_end (is_sort sort.Comma) (one_more (expect sort.Comma >> r.nested d level.Whole)) items (closing ∷ rest) (ap (λ (s : Sort). same_sort s sort.Comma) h.same)

mutual
  unfolding r.or r.and r.sum r.term r.args listed

  pub reads_choice : {ts : List Terminal} {e : Expr} → IsExpr ts e → (d : ℕ) (rest : List Terminal) → 8 < tier (next_sort rest) → span (ts ++ rest) ≤ d
      → r.choice (r.nested d) (ts ++ rest) ≡ Ok (e, rest)
  reads_choice {ts = xs} {e = x} (g.only h) d rest t w = choice_one (r.nested d) (xs ++ rest) x rest
      (reads_or h d rest (omega arith) w ∙ chain_end (r.nested d) chain.Either (r.and (r.nested d)) x rest (omega arith)) t
  reads_choice (g.cond {ts = ts} {us = us} {vs = vs} {question = question} {colon = colon} {test = test} {left = left} {right = right} h q l c k) d rest t w0 =
      moved (r.choice (r.nested d)) d ((ts ++ question ∷ us ++ colon ∷ vs) ++ rest) (ts ++ question ∷ (us ++ colon ∷ (vs ++ rest))) (Ok (expr.Cond test left right question.site, rest))
      (simp append_assoc)
      (λ w. let one : span (us ++ colon ∷ (vs ++ rest)) < d = past question (us ++ colon ∷ (vs ++ rest)) d (or_words h).plain (is_plain refl q) w in
      let two : span (vs ++ rest) < d = past colon (vs ++ rest) d (expr_words l).plain (is_plain refl c) (omega arith) in
      choice_two (r.nested d) (ts ++ question ∷ (us ++ colon ∷ (vs ++ rest))) test question (us ++ colon ∷ (vs ++ rest)) left colon (vs ++ rest) right rest
      (reads_or h d (question ∷ (us ++ colon ∷ (vs ++ rest))) (omega (arith, tier_is q)) w ∙ chain_end (r.nested d) chain.Either (r.and (r.nested d)) test
      (question ∷ (us ++ colon ∷ (vs ++ rest))) (omega (arith, tier_is q)))
      q (whole_ok d (us ++ colon ∷ (vs ++ rest)) _ one (λ n. reads_choice l n (colon ∷ (vs ++ rest)) (omega (arith, tier_is c))))
      c (whole_ok d (vs ++ rest) _ two (λ n. reads_choice k n rest t))) w0

  reads_or : {ts : List Terminal} {e : Expr} → IsOr ts e → (d : ℕ) (rest : List Terminal) → 6 < tier (next_sort rest) → span (ts ++ rest) ≤ d
      → r.or (r.nested d) (ts ++ rest) ≡ after_chain (r.nested d) chain.Either (r.and (r.nested d)) e rest
  reads_or {ts = xs} {e = x} (g.or_first h) d rest t w =
      first_ok (r.nested d) chain.Either (r.and (r.nested d)) (xs ++ rest) x rest (reads_and h d rest (omega arith) w ∙ chain_end (r.nested d) chain.Both (r.cmp (r.nested d)) x rest t)
  reads_or (g.or_next {ts = ts} {us = us} {mark = mark} {op = op} {left = left} {right = right} l o k) d rest t w0 =
      chain_next (r.nested d) chain.Either (r.and (r.nested d)) d ts us rest mark op left right o (or_words l).plain
      (reads_or l d (mark ∷ (us ++ rest)) (operator_tier chain.Either op mark 6 o (omega arith)))
      (λ w. reads_and k d rest (omega arith) w ∙ chain_end (r.nested d) chain.Both (r.cmp (r.nested d)) right rest t) w0

  reads_and : {ts : List Terminal} {e : Expr} → IsAnd ts e → (d : ℕ) (rest : List Terminal) → 5 < tier (next_sort rest) → span (ts ++ rest) ≤ d
      → r.and (r.nested d) (ts ++ rest) ≡ after_chain (r.nested d) chain.Both (r.cmp (r.nested d)) e rest
  reads_and {ts = xs} {e = x} (g.and_first h) d rest t w = first_ok (r.nested d) chain.Both (r.cmp (r.nested d)) (xs ++ rest) x rest (reads_cmp h d rest t w)
  reads_and (g.and_next {ts = ts} {us = us} {mark = mark} {op = op} {left = left} {right = right} l o k) d rest t w0 =
      chain_next (r.nested d) chain.Both (r.cmp (r.nested d)) d ts us rest mark op left right o (and_words l).plain
      (reads_and l d (mark ∷ (us ++ rest)) (operator_tier chain.Both op mark 5 o (omega arith))) (reads_cmp k d rest t) w0

  reads_cmp : {ts : List Terminal} {e : Expr} → IsCmp ts e → (d : ℕ) (rest : List Terminal) → 5 < tier (next_sort rest) → span (ts ++ rest) ≤ d
      → r.cmp (r.nested d) (ts ++ rest) ≡ Ok (e, rest)
  reads_cmp {ts = xs} {e = x} (g.cmp_only h) d rest t w =
      cmp_one (r.nested d) (xs ++ rest) x rest (reads_sum h d rest (omega arith) w ∙ chain_end (r.nested d) chain.Sum (r.term (r.nested d)) x rest (omega arith)) t
  reads_cmp (g.cmp_both {ts = ts} {us = us} {mark = mark} {op = op} {left = left} {right = right} l o k) d rest t w0 =
      moved (r.cmp (r.nested d)) d ((ts ++ mark ∷ us) ++ rest) (ts ++ mark ∷ (us ++ rest)) (Ok (expr.Binary op left right mark.site, rest)) (append_assoc ts (mark ∷ us) rest)
      (λ w. let less : span (us ++ rest) < d = past mark (us ++ rest) d (sum_words l).plain (compared_plain mark.sort op o.same) w in
      let five : tier mark.sort ≡ 5 = compared_tier mark.sort op o.same in
      cmp_two (r.nested d) (ts ++ mark ∷ (us ++ rest)) left mark op (us ++ rest) right rest
      (reads_sum l d (mark ∷ (us ++ rest)) (omega arith) w ∙ chain_end (r.nested d) chain.Sum (r.term (r.nested d)) left (mark ∷ (us ++ rest)) (omega arith))
      o (reads_sum k d rest (omega arith) (omega arith) ∙ chain_end (r.nested d) chain.Sum (r.term (r.nested d)) right rest (omega arith))) w0

  reads_sum : {ts : List Terminal} {e : Expr} → IsSum ts e → (d : ℕ) (rest : List Terminal) → 3 < tier (next_sort rest) → span (ts ++ rest) ≤ d
      → r.sum (r.nested d) (ts ++ rest) ≡ after_chain (r.nested d) chain.Sum (r.term (r.nested d)) e rest
  reads_sum {ts = xs} {e = x} (g.sum_first h) d rest t w =
      first_ok (r.nested d) chain.Sum (r.term (r.nested d)) (xs ++ rest) x rest (reads_term h d rest (omega arith) w ∙ chain_end (r.nested d) chain.Product (r.unary (r.nested d)) x rest t)
  reads_sum (g.sum_next {ts = ts} {us = us} {mark = mark} {op = op} {left = left} {right = right} l o k) d rest t w0 =
      chain_next (r.nested d) chain.Sum (r.term (r.nested d)) d ts us rest mark op left right o (sum_words l).plain
      (reads_sum l d (mark ∷ (us ++ rest)) (operator_tier chain.Sum op mark 3 o (omega arith)))
      (λ w. reads_term k d rest (omega arith) w ∙ chain_end (r.nested d) chain.Product (r.unary (r.nested d)) right rest t) w0

  reads_term : {ts : List Terminal} {e : Expr} → IsTerm ts e → (d : ℕ) (rest : List Terminal) → 2 < tier (next_sort rest) → span (ts ++ rest) ≤ d
      → r.term (r.nested d) (ts ++ rest) ≡ after_chain (r.nested d) chain.Product (r.unary (r.nested d)) e rest
  reads_term {ts = xs} {e = x} (g.term_first h) d rest t w = first_ok (r.nested d) chain.Product (r.unary (r.nested d)) (xs ++ rest) x rest (reads_unary h d rest t w)
  reads_term (g.term_next {ts = ts} {us = us} {mark = mark} {op = op} {left = left} {right = right} l o k) d rest t w0 =
      chain_next (r.nested d) chain.Product (r.unary (r.nested d)) d ts us rest mark op left right o (term_words l).plain
      (reads_term l d (mark ∷ (us ++ rest)) (operator_tier chain.Product op mark 2 o (omega arith))) (reads_unary k d rest t) w0

  reads_unary : {ts : List Terminal} {e : Expr} → IsUnary ts e → (d : ℕ) (rest : List Terminal) → 2 < tier (next_sort rest) → span (ts ++ rest) ≤ d
      → r.unary (r.nested d) (ts ++ rest) ≡ Ok (e, rest)
  reads_unary {ts = xs} {e = x} (g.plain h) d rest t w = plain_ok (r.nested d) (xs ++ rest) x rest (reads_postfix h d rest (omega arith) w ∙ fields_end x rest t)
  reads_unary (g.not_of {ts = ts} {mark = mark} {inner = inner} m h) d rest t w =
      not_ok (r.nested d) mark (ts ++ rest) inner rest m (prefixed_ok d (ts ++ rest) _ (past {ts = []} mark (ts ++ rest) d plain_end (is_plain refl m) w) (λ n. reads_unary h n rest t))
  reads_unary (g.minus_of {ts = ts} {mark = mark} {inner = inner} m h) d rest t w =
      minus_ok (r.nested d) mark (ts ++ rest) inner rest m (prefixed_ok d (ts ++ rest) _ (past {ts = []} mark (ts ++ rest) d plain_end (is_plain refl m) w) (λ n. reads_unary h n rest t))

  reads_postfix : {ts : List Terminal} {e : Expr} → IsPostfix ts e → (d : ℕ) (rest : List Terminal) → 1 < tier (next_sort rest) → span (ts ++ rest) ≤ d
      → r.postfix (r.nested d) (ts ++ rest) ≡ r.fields_after e rest
  reads_postfix {ts = xs} {e = x} (g.primary h) d rest t w = postfix_ok (r.nested d) (xs ++ rest) x rest (reads_primary h d rest t w)
  reads_postfix (g.field_of {ts = ts} {dot = dot} {name = name} {object = object} h p n) d rest t w0 =
      moved (r.postfix (r.nested d)) d ((ts ++ dot ∷ name ∷ []) ++ rest) (ts ++ dot ∷ name ∷ rest) (r.fields_after (expr.Field object name.bytes dot.site) rest)
      (append_assoc ts (dot ∷ name ∷ []) rest)
      (λ w. reads_postfix h d (dot ∷ name ∷ rest) (omega (arith, tier_is p)) w ∙ fields_go object dot name rest p n) w0

  reads_primary : {ts : List Terminal} {e : Expr} → IsPrimary ts e → (d : ℕ) (rest : List Terminal) → 1 < tier (next_sort rest) → span (ts ++ rest) ≤ d
      → r.primary (r.nested d) (ts ++ rest) ≡ Ok (e, rest)
  reads_primary (g.number {t = x} h) d rest t w = leaf_ok (r.nested d) sort.Number (λ y. expr.Number y.value y.site) x rest h refl refl
  reads_primary (g.truth {t = x} h) d rest t w = leaf_ok (r.nested d) sort.True (λ y. expr.Truth true y.site) x rest h refl refl
  reads_primary (g.untruth {t = x} h) d rest t w = leaf_ok (r.nested d) sort.False (λ y. expr.Truth false y.site) x rest h refl refl
  reads_primary (g.null {t = x} h) d rest t w = leaf_ok (r.nested d) sort.Null (λ y. expr.Null y.site) x rest h refl refl
  reads_primary (g.local {t = x} h) d rest t w = primary_at (r.nested d) sort.Name x rest _ h (local_ok (r.nested d) x rest h t)
  reads_primary (g.call {name = name} {opening = opening} {closing = closing} {ts = ts} {args = args} n o a c) d rest t w0 =
      moved (r.primary (r.nested d)) d ((name ∷ opening ∷ ts ++ closing ∷ []) ++ rest) (name ∷ opening ∷ (ts ++ closing ∷ rest)) (Ok (expr.Call name.bytes args name.site, rest))
      (ap (λ (l : List Terminal). name ∷ opening ∷ l) (append_assoc ts (closing ∷ []) rest))
      (λ w. let less : span (ts ++ closing ∷ rest) < d = past {ts = name ∷ []} opening (ts ++ closing ∷ rest) d (plain_more (is_plain refl n) plain_end) (is_plain refl o) w in
      primary_at (r.nested d) sort.Name name (opening ∷ (ts ++ closing ∷ rest)) _ n
      (call_ok (r.nested d) name opening (ts ++ closing ∷ rest) args rest n o (reads_args a d closing rest c less))) w0
  reads_primary (g.shared_field {shared = shared} {dot = dot} {name = name} s p n) d rest t w = primary_at (r.nested d) sort.Shared shared (dot ∷ name ∷ rest) _ s
      (shared_ok shared dot name rest s p n)
  reads_primary (g.paren {opening = opening} {closing = closing} {ts = ts} {inner = inner} o h c) d rest t w0 =
      moved (r.primary (r.nested d)) d ((opening ∷ ts ++ closing ∷ []) ++ rest) (opening ∷ (ts ++ closing ∷ rest)) (Ok (expr.Paren inner opening.site, rest))
      (ap (λ (l : List Terminal). opening ∷ l) (append_assoc ts (closing ∷ []) rest))
      (λ w. primary_at (r.nested d) sort.OpenParen opening (ts ++ closing ∷ rest) _ o
      (paren_ok (r.nested d) opening (ts ++ closing ∷ rest) inner closing rest o
      (whole_ok d (ts ++ closing ∷ rest) _ (past {ts = []} opening (ts ++ closing ∷ rest) d plain_end (is_plain refl o) w)
      (λ n. reads_choice h n (closing ∷ rest) (omega (arith, tier_is c)))) c)) w0

  reads_args : {ts : List Terminal} {es : List Expr} → AreArgs ts es → (d : ℕ) (closing : Terminal) (rest : List Terminal) → Is sort.CloseParen closing → span (ts ++ closing ∷ rest) < d
      → r.args (r.nested d) (ts ++ closing ∷ rest) ≡ Ok (es, rest)
  reads_args g.no_args d closing rest c w = enclosed_none (listed (r.nested d level.Whole)) closing rest c
  reads_args {ts = xs} {es = es} (g.some_args h) d closing rest c w =
      enclosed_some (listed (r.nested d level.Whole)) (xs ++ closing ∷ rest) es closing rest (opens_no_list (closing ∷ rest) (exprs_words h)) (reads_exprs h d closing rest c w) c

  pub reads_exprs : {ts : List Terminal} {es : List Expr} → AreExprs ts es → (d : ℕ) (closing : Terminal) (rest : List Terminal) → Is sort.CloseParen closing
      → span (ts ++ closing ∷ rest) < d
      → listed (r.nested d level.Whole) (ts ++ closing ∷ rest) ≡ Ok (es, closing ∷ rest)
  reads_exprs (g.last_expr {ts = ts} {e = e} h) d closing rest c w =
      then_ok (r.nested d level.Whole (ts ++ closing ∷ rest)) _ e (closing ∷ rest) _
      (whole_ok d (ts ++ closing ∷ rest) _ w (λ n. reads_choice h n (closing ∷ rest) (omega (arith, tier_is c)))) (no_comma d (e ∷ []) closing rest c)
  reads_exprs (g.next_expr {ts = ts} {us = us} {comma = comma} {e = e} {es = es} h m k) d closing rest c w =
      let same : (ts ++ comma ∷ us) ++ closing ∷ rest ≡ ts ++ comma ∷ (us ++ closing ∷ rest) = append_assoc ts (comma ∷ us) (closing ∷ rest) in
      let within : span (ts ++ comma ∷ (us ++ closing ∷ rest)) < d = subst (λ (l : List Terminal). span l < d) same w in
      ap (listed (r.nested d level.Whole)) same
      ∙ then_ok (r.nested d level.Whole (ts ++ comma ∷ (us ++ closing ∷ rest))) _ e (comma ∷ (us ++ closing ∷ rest)) _
      (whole_ok d (ts ++ comma ∷ (us ++ closing ∷ rest)) _ within (λ n. reads_choice h n (comma ∷ (us ++ closing ∷ rest)) (omega (arith, tier_is m))))
      (reads_more k d (e ∷ []) comma closing rest m c (past comma (us ++ closing ∷ rest) d (expr_words h).plain (is_plain refl m) (omega arith)))

  reads_more : {ts : List Terminal} {es : List Expr} → AreExprs ts es → (d : ℕ) (items : List Expr) (comma closing : Terminal) (rest : List Terminal) → Is sort.Comma comma
      → Is sort.CloseParen closing
      → span (ts ++ closing ∷ rest) < d → More d items (comma ∷ (ts ++ closing ∷ rest)) ≡ Ok (items ++ es, closing ∷ rest)
  reads_more (g.last_expr {ts = ts} {e = e} h) d items comma closing rest m c w =
      one_argument d items comma ts (closing ∷ rest) e m (whole_ok d (ts ++ closing ∷ rest) _ w (λ n. reads_choice h n (closing ∷ rest) (omega (arith, tier_is c)))) ∙ no_comma d
      (items ++ e ∷ []) closing rest c
  reads_more (g.next_expr {ts = ts} {us = us} {comma = other} {e = e} {es = es} h n k) d items comma closing rest m c w =
      let same : (ts ++ other ∷ us) ++ closing ∷ rest ≡ ts ++ other ∷ (us ++ closing ∷ rest) = append_assoc ts (other ∷ us) (closing ∷ rest) in
      let within : span (ts ++ other ∷ (us ++ closing ∷ rest)) < d = subst (λ (l : List Terminal). span l < d) same w in
      ap (λ (l : List Terminal). More d items (comma ∷ l)) same
      ∙ one_argument d items comma ts (other ∷ (us ++ closing ∷ rest)) e m
      (whole_ok d (ts ++ other ∷ (us ++ closing ∷ rest)) _ within (λ j. reads_choice h j (other ∷ (us ++ closing ∷ rest)) (omega (arith, tier_is n))))
      ∙ reads_more k d (items ++ e ∷ []) other closing rest n c (past other (us ++ closing ∷ rest) d (expr_words h).plain (is_plain refl n) (omega arith))
      ∙ ap (λ (l : List Expr). Ok (l, closing ∷ rest)) (append_assoc items (e ∷ []) es)

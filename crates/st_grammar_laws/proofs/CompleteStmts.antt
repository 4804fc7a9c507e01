-- What is spelled as a type, a value, a statement or a block is read so, where the limits on the terminals are kept.
use Rattle.std.proofs.Common.{◌≡◌, ℕ, zero, suc, ◌+◌, ◌≤◌, ◌<◌, Bool, true, false, if◌then◌else◌, List, [], ◌∷◌, ◌++◌, length, Option, Some, None, Ok}
use Rattle.std.proofs.Common.{Err, refl, sym, ap, subst}
use Rattle.std.proofs.Common.{◌∙◌, append_assoc, append-nil, arith, length-append}
use Rattle.st_ast.specs.declared.declarations.TypeName.{TypeName}
use Rattle.st_ast.specs.declared.declarations.TypeName.TheVariants as types
use Rattle.st_ast.specs.declared.expressions.Expr.{Expr}
use Rattle.st_ast.specs.declared.expressions.Expr.TheVariants as expr
use Rattle.st_ast.specs.declared.statements.Stmt.{Stmt}
use Rattle.st_ast.specs.declared.statements.Stmt.TheVariants as stmt
use Rattle.st_ast.specs.declared.statements.Value.{Value}
use Rattle.st_ast.specs.declared.statements.Value.TheVariants as value
use Rattle.st_ast.specs.Sites.{site_of_expr}
use Rattle.st_grammar_laws.specs.declared.levels.Level.TheVariants as level
use Rattle.st_grammar.specs.declared.sorts.Sort.{Sort}
use Rattle.st_grammar.specs.declared.sorts.Sort.TheVariants as sort
use Rattle.st_grammar.specs.Grammar as g
use Rattle.st_grammar.specs.Grammar.{IsPlace, IsExpr, AreArgs, AreExprs, IsType, IsValue, IsStmt, IsElse, IsBlock, AreStmts}
use Rattle.st_grammar.specs.Sorts.{same_sort}
use Rattle.st_grammar.specs.Terminals.{Terminal, Is, next_sort}
use Rattle.st_grammar_laws.specs.Reading as r
use Rattle.st_grammar_laws.specs.Reading.{Outcome, Reader, and_then, ◌>>=◌, ◌>>◌, pure, ◌<$>◌, take_any, sees, see, expect, turns, one_more, many, is_sort, listed, enclosed}
use Rattle.st_grammar_laws.proofs.CompleteExprs.{reads_choice, reads_exprs, opens_no_list, past}
use Rattle.st_grammar_laws.proofs.LimitLemmas.{step, Within, within_span, within_next, within_after, within_even, Even, even_plain, even_append, even_semicolon, type_plain, value_plain}
use Rattle.st_grammar_laws.proofs.LimitLemmas.{starts_stmt, Begins, stmt_begins, stmt_even, block_even}
use Rattle.st_grammar_laws.proofs.StepLemmas.{at_sort, enclosed_none, enclosed_some, field_ok, fields_go, fields_end, shared_ok, whole_ok}
use Rattle.st_grammar_laws.proofs.TierLemmas.{tier, is_other, tier_is}
use Rattle.st_grammar_laws.proofs.TurnLemmas.{then_ok, same_is, expect_ok, expect_then, turns_end, turns_go}
use Rattle.st_grammar_laws.proofs.WordLemmas.{separates, span, span_more, span_after, is_plain, Plain, plain_end, plain_more, plain_append, expr_words, args_plain, exprs_words}
use Rattle.st_grammar_laws.proofs.WordLemmas.{place_plain, starts_expr, Words}
use Rattle.st_grammar_laws.proofs.Free as free

module _ (tokens braces : ℕ) where
  -- ---- expressions, types

  pub reads_whole : {ts : List Terminal} {e : Expr} → IsExpr ts e → (rest : List Terminal) → 8 < tier (next_sort rest) → span (ts ++ rest) ≤ tokens
      → (free.whole tokens braces) (ts ++ rest) ≡ Ok (e, rest)
  unfolding free.whole
  reads_whole {ts = ts} {e = e} h rest t w = whole_ok (suc tokens) (ts ++ rest) (Ok (e, rest)) (omega arith) (λ d. reads_choice h d rest t)

  type_at : (s : Sort) (f : Terminal → TypeName) (t : Terminal) (rest : List Terminal) → Is s t → r.type_by s (t ∷ rest) ≡ (f <$> take_any) (t ∷ rest)
      → r.type_name (t ∷ rest) ≡ Ok (f t, rest)
  unfolding r.type_name take_any
  type_at s f t rest h e = at_sort r.type_by s t rest (Ok (f t, rest)) h e

  reads_type : {ts : List Terminal} {k : TypeName} → IsType ts k → (rest : List Terminal) → r.type_name (ts ++ rest) ≡ Ok (k, rest)
  reads_type (g.int {t = t} h) rest = type_at sort.Int (λ x. types.Int) t rest h refl
  reads_type (g.bool {t = t} h) rest = type_at sort.Bool (λ x. types.Bool) t rest h refl
  reads_type (g.class_name {t = t} h) rest = type_at sort.Name (λ x. types.Class x.bytes x.site) t rest h refl

  pub reads_typed : {ts : List Terminal} {k : TypeName} (colon : Terminal) (rest : List Terminal) → Is sort.Colon colon → IsType ts k → r.typed (colon ∷ (ts ++ rest)) ≡ Ok (k, rest)
  unfolding r.typed
  reads_typed {ts = ts} {k = k} colon rest c h = expect_then sort.Colon (λ _. r.type_name) colon (ts ++ rest) (Ok (k, rest)) c (reads_type h rest)

  -- ---- places

  -- what is read of a place: what its fields are read from
  record Placed (ts : List Terminal) (e : Expr) : Type 0 where
    reads : (rest : List Terminal) → r.place (ts ++ rest) ≡ r.fields_after e rest

  place_shared : (shared dot name : Terminal) → Is sort.Shared shared → Is sort.Dot dot → Is sort.Name name → (rest : List Terminal)
      → r.place (shared ∷ dot ∷ name ∷ rest) ≡ r.fields_after (expr.Shared name.bytes dot.site) rest
  unfolding r.place
  place_shared shared dot name s d n rest = at_sort r.place_by sort.Shared shared (dot ∷ name ∷ rest) _ s
      (then_ok (r.shared_field (shared ∷ dot ∷ name ∷ rest)) r.fields_after _ rest _ (shared_ok shared dot name rest s d n) refl)

  place_named : (object : Terminal) (xs : List Terminal) → Is sort.Name object → r.place (object ∷ xs) ≡ r.place_after object xs
  unfolding r.place
  place_named object xs n = at_sort r.place_by sort.Name object xs _ n (expect_then sort.Name r.place_after object xs _ n refl)

  -- a place that begins with a local
  record ByName (ts : List Terminal) (e : Expr) : Type 0 where
    object : Terminal
    dot : Terminal
    others : List Terminal
    split : object ∷ dot ∷ others ≡ ts
    is_object : Is sort.Name object
    is_dot : Is sort.Dot dot
    reads : (rest : List Terminal) → r.place_after object (dot ∷ (others ++ rest)) ≡ r.fields_after e rest

  record ByShared (ts : List Terminal) (e : Expr) : Type 0 where
    shared : Terminal
    others : List Terminal
    split : shared ∷ others ≡ ts
    is_shared : Is sort.Shared shared
    reads : (rest : List Terminal) → r.place (ts ++ rest) ≡ r.fields_after e rest

  data Form (ts : List Terminal) (e : Expr) : Type 0 where
    by_name : ByName ts e → Form ts e
    by_shared : ByShared ts e → Form ts e

  after_local : (object dot name : Terminal) → Is sort.Dot dot → Is sort.Name name → (rest : List Terminal)
      → r.place_after object (dot ∷ name ∷ rest) ≡ r.fields_after (expr.Field (expr.Local object.bytes object.site) name.bytes dot.site) rest
  unfolding r.place_after
  after_local object dot name d n rest = then_ok (r.field_after (expr.Local object.bytes object.site) (dot ∷ name ∷ rest)) r.fields_after _ rest _ (field_ok _ dot name rest d n) refl

  form_field : {ts : List Terminal} {object : Expr} (dot name : Terminal) → Is sort.Dot dot → Is sort.Name name → Form ts object
      → Form (ts ++ dot ∷ name ∷ []) (expr.Field object name.bytes dot.site)
  form_field {ts = ts} {object = object} dot name d n (by_name f) = by_name (record {
    object = f.object;
    dot = f.dot;
    others = f.others ++ dot ∷ name ∷ [];
    split = ap (λ (l : List Terminal). l ++ dot ∷ name ∷ []) f.split;
    is_object = f.is_object;
    is_dot = f.is_dot;
    reads = λ rest. ap (λ (l : List Terminal). r.place_after f.object (f.dot ∷ l)) (append_assoc f.others (dot ∷ name ∷ []) rest) ∙ f.reads (dot ∷ name ∷ rest)
        ∙ fields_go object dot name rest d n;
  })
  form_field {ts = ts} {object = object} dot name d n (by_shared f) = by_shared (record {
    shared = f.shared;
    others = f.others ++ dot ∷ name ∷ [];
    split = ap (λ (l : List Terminal). l ++ dot ∷ name ∷ []) f.split;
    is_shared = f.is_shared;
    reads = λ rest. ap r.place (append_assoc ts (dot ∷ name ∷ []) rest) ∙ f.reads (dot ∷ name ∷ rest) ∙ fields_go object dot name rest d n;
  })

  form_of : {ts : List Terminal} {e : Expr} → IsPlace ts e → Form ts e
  form_of (g.of_local {object = object} {dot = dot} {name = name} o d n) = by_name (record {
    object = object;
    dot = dot;
    others = name ∷ [];
    split = refl;
    is_object = o;
    is_dot = d;
    reads = after_local object dot name d n;
  })
  form_of (g.of_shared {shared = shared} {dot = dot} {name = name} s d n) = by_shared (record {
    shared = shared;
    others = dot ∷ name ∷ [];
    split = refl;
    is_shared = s;
    reads = place_shared shared dot name s d n;
  })
  form_of (g.of_field {dot = dot} {name = name} h d n) = form_field dot name d n (form_of h)

  form_reads : {ts : List Terminal} {e : Expr} (rest : List Terminal) → Form ts e → r.place (ts ++ rest) ≡ r.fields_after e rest
  form_reads {ts = ts} {e = e} rest (by_name f) =
      ap (λ (l : List Terminal). r.place (l ++ rest)) (sym f.split) ∙ place_named f.object (f.dot ∷ (f.others ++ rest)) f.is_object ∙ f.reads rest
  form_reads rest (by_shared f) = f.reads rest

  reads_place : {ts : List Terminal} {e : Expr} → IsPlace ts e → (rest : List Terminal) → 2 < tier (next_sort rest) → r.place (ts ++ rest) ≡ Ok (e, rest)
  reads_place {e = e} h rest t = form_reads rest (form_of h) ∙ fields_end e rest t

  -- ---- values

  not_new : (s : Sort) (xs : List Terminal) → starts_expr s ≡ true → (free.value_by tokens braces) s xs ≡ (value.Plain <$> (free.whole tokens braces)) xs
  not_new sort.New xs e = absurd cc
  not_new sort.Cas xs e = absurd cc
  not_new s xs e = refl

  value_of_expr : {ts : List Terminal} (rest : List Terminal) → Words ts → (free.value_here tokens braces) (ts ++ rest) ≡ (value.Plain <$> (free.whole tokens braces)) (ts ++ rest)
  unfolding free.value_here
  value_of_expr {ts = ts} rest w =
      let at : (l : List Terminal) → w.first ∷ w.others ≡ l → (free.value_by tokens braces) (next_sort (l ++ rest)) (l ++ rest) ≡ (value.Plain <$> (free.whole tokens braces)) (l ++ rest) =
      λ l e. subst (λ (l : List Terminal). (free.value_by tokens braces) (next_sort (l ++ rest)) (l ++ rest) ≡ (value.Plain <$> (free.whole tokens braces)) (l ++ rest)) e
      (not_new w.first.sort (w.first ∷ (w.others ++ rest)) w.starts) in
      at ts w.split

  value_at : (s : Sort) (t : Terminal) (rest : List Terminal) (out : Outcome Value) → Is s t → (free.value_by tokens braces) s (t ∷ rest) ≡ out
      → (free.value_here tokens braces) (t ∷ rest) ≡ out
  unfolding free.value_here
  value_at s t rest out h e = at_sort (free.value_by tokens braces) s t rest out h e

  reads_new : (word name : Terminal) (rest : List Terminal) → Is sort.New word → Is sort.Name name → r.new_value (word ∷ name ∷ rest) ≡ Ok (value.New name.bytes word.site, rest)
  unfolding r.new_value
  reads_new word name rest w n = expect_then sort.New _ word (name ∷ rest) _ w (expect_then sort.Name _ name rest _ n refl)

  reads_cas : (word opening : Terminal) (ts : List Terminal) (comma : Terminal) (us : List Terminal) (other : Terminal) (vs : List Terminal) (closing : Terminal)
      (rest : List Terminal) (place expect e : Expr)
      → Is sort.Cas word → Is sort.OpenParen opening → IsPlace ts place → Is sort.Comma comma → IsExpr us expect → Is sort.Comma other → IsExpr vs e → Is sort.CloseParen closing
      → span (word ∷ opening ∷ (ts ++ comma ∷ (us ++ other ∷ (vs ++ closing ∷ rest)))) ≤ tokens
      → (free.cas_value tokens braces) (word ∷ opening ∷ (ts ++ comma ∷ (us ++ other ∷ (vs ++ closing ∷ rest)))) ≡ Ok (value.Cas place expect e word.site, rest)
  unfolding free.cas_value
  reads_cas word opening ts comma us other vs closing rest place expect e w o p c q d h k within =
      let at : List Terminal = ts ++ comma ∷ (us ++ other ∷ (vs ++ closing ∷ rest)) in
      let one : span (ts ++ comma ∷ (us ++ other ∷ (vs ++ closing ∷ rest))) < tokens =
      past {ts = word ∷ []} opening (ts ++ comma ∷ (us ++ other ∷ (vs ++ closing ∷ rest))) tokens (plain_more (is_plain refl w) plain_end) (is_plain refl o) within in
      let two : span (us ++ other ∷ (vs ++ closing ∷ rest)) < tokens = past comma (us ++ other ∷ (vs ++ closing ∷ rest)) tokens (place_plain p) (is_plain refl c) (omega arith) in
      let three : span (vs ++ closing ∷ rest) < tokens = past other (vs ++ closing ∷ rest) tokens (expr_words q).plain (is_plain refl d) (omega arith) in
      expect_then sort.Cas _ word (opening ∷ at) _ w (expect_then sort.OpenParen _ opening at _ o
      (then_ok (r.place at) _ place (comma ∷ (us ++ other ∷ (vs ++ closing ∷ rest))) _ (reads_place p (comma ∷ (us ++ other ∷ (vs ++ closing ∷ rest))) (omega (arith, tier_is c)))
      (expect_then sort.Comma _ comma (us ++ other ∷ (vs ++ closing ∷ rest)) _ c
      (then_ok ((free.whole tokens braces) (us ++ other ∷ (vs ++ closing ∷ rest))) _ expect (other ∷ (vs ++ closing ∷ rest)) _
      (reads_whole q (other ∷ (vs ++ closing ∷ rest)) (omega (arith, tier_is d)) (omega arith))
      (expect_then sort.Comma _ other (vs ++ closing ∷ rest) _ d
      (then_ok ((free.whole tokens braces) (vs ++ closing ∷ rest)) _ e (closing ∷ rest) _ (reads_whole h (closing ∷ rest) (omega (arith, tier_is k)) (omega arith))
      (expect_then sort.CloseParen _ closing rest _ k refl)))))))

  reads_value : {ts : List Terminal} {v : Value} → IsValue ts v → (rest : List Terminal) → 8 < tier (next_sort rest) → span (ts ++ rest) ≤ tokens
      → (free.value_here tokens braces) (ts ++ rest) ≡ Ok (v, rest)
  reads_value (g.of_expr {ts = ts} {e = e} h) rest t w = value_of_expr rest (expr_words h) ∙ then_ok ((free.whole tokens braces) (ts ++ rest)) _ e rest _ (reads_whole h rest t w) refl
  reads_value (g.new {word = word} {name = name} a n) rest t w = value_at sort.New word (name ∷ rest) _ a (reads_new word name rest a n)
  reads_value (g.cas {word = word} {opening = opening} {comma = comma} {comma' = other} {closing = closing} {ts = ts} {us = us} {vs = vs} {place = place} {expect = wanted}
      {e = e} a o p c q d h k) rest t w =
      let same : (word ∷ opening ∷ ts ++ comma ∷ us ++ other ∷ vs ++ closing ∷ []) ++ rest
      ≡ word ∷ opening ∷ (ts ++ comma ∷ (us ++ other ∷ (vs ++ closing ∷ rest))) = simp append_assoc in
      ap (free.value_here tokens braces) same
      ∙ value_at sort.Cas word (opening ∷ (ts ++ comma ∷ (us ++ other ∷ (vs ++ closing ∷ rest)))) _ a
      (reads_cas word opening ts comma us other vs closing rest place wanted e a o p c q d h k (subst (λ (l : List Terminal). span l ≤ tokens) same w))

  reads_assigned : {ts : List Terminal} {v : Value} (assign semicolon : Terminal) (rest : List Terminal) → Is sort.Assign assign → IsValue ts v → Is sort.Semicolon semicolon
      → span (ts ++ semicolon ∷ rest) ≤ tokens → (free.assigned tokens braces) (assign ∷ (ts ++ semicolon ∷ rest)) ≡ Ok (v, rest)
  unfolding free.assigned
  reads_assigned {ts = ts} {v = v} assign semicolon rest a h s w = expect_then sort.Assign _ assign (ts ++ semicolon ∷ rest) _ a
      (then_ok ((free.value_here tokens braces) (ts ++ semicolon ∷ rest)) _ v (semicolon ∷ rest) _ (reads_value h (semicolon ∷ rest) (omega (arith, tier_is s)) w)
      (expect_then sort.Semicolon _ semicolon rest _ s refl))

  -- ---- statements without blocks

  pub within_plain : {ws : List Terminal} {n : ℕ} (us : List Terminal) → Plain ws → Within tokens braces n (ws ++ us) → Within tokens braces n us
  within_plain us p w = within_even us (even_plain p) w

  reads_var : (word name colon : Terminal) (ts : List Terminal) (assign : Terminal) (us : List Terminal) (semicolon : Terminal) (rest : List Terminal) (kind : TypeName) (v : Value)
      → Is sort.Var word → Is sort.Name name → Is sort.Colon colon → IsType ts kind → Is sort.Assign assign → IsValue us v → Is sort.Semicolon semicolon
      → span (word ∷ name ∷ colon ∷ (ts ++ assign ∷ (us ++ semicolon ∷ rest))) ≤ tokens
      → (free.var_stmt tokens braces) (word ∷ name ∷ colon ∷ (ts ++ assign ∷ (us ++ semicolon ∷ rest))) ≡ Ok (stmt.Var name.bytes name.site kind v word.site, rest)
  unfolding free.var_stmt
  reads_var word name colon ts assign us semicolon rest kind v w n c t a h s within =
      let less : span (us ++ semicolon ∷ rest) < tokens =
      past {ts = word ∷ name ∷ colon ∷ ts} assign (us ++ semicolon ∷ rest) tokens (plain_more (is_plain refl w) (plain_more (is_plain refl n) (plain_more (is_plain refl c) (type_plain t))))
      (is_plain refl a) within in
      expect_then sort.Var _ word (name ∷ colon ∷ (ts ++ assign ∷ (us ++ semicolon ∷ rest))) _ w (expect_then sort.Name _ name (colon ∷ (ts ++ assign ∷ (us ++ semicolon ∷ rest))) _ n
      (then_ok (r.typed (colon ∷ (ts ++ assign ∷ (us ++ semicolon ∷ rest)))) _ kind (assign ∷ (us ++ semicolon ∷ rest)) _ (reads_typed colon (assign ∷ (us ++ semicolon ∷ rest)) c t)
      (then_ok ((free.assigned tokens braces) (assign ∷ (us ++ semicolon ∷ rest))) _ v rest _ (reads_assigned assign semicolon rest a h s (omega arith)) refl)))

  reads_assign : (name assign : Terminal) (ts : List Terminal) (semicolon : Terminal) (rest : List Terminal) (v : Value) → Is sort.Name name → Is sort.Assign assign → IsValue ts v
      → Is sort.Semicolon semicolon
      → span (name ∷ assign ∷ (ts ++ semicolon ∷ rest)) ≤ tokens → (free.named_stmt tokens braces) (name ∷ assign ∷ (ts ++ semicolon ∷ rest))
      ≡ Ok (stmt.Assign name.bytes v name.site, rest)
  unfolding free.named_stmt
  reads_assign name assign ts semicolon rest v n a h s within =
      let less : span (ts ++ semicolon ∷ rest) < tokens = past {ts = name ∷ []} assign (ts ++ semicolon ∷ rest) tokens (plain_more (is_plain refl n) plain_end) (is_plain refl a) within in
      expect_then sort.Name _ name (assign ∷ (ts ++ semicolon ∷ rest)) _ n
      (at_sort ((free.after_name tokens braces) name) sort.Assign assign (ts ++ semicolon ∷ rest) _ a
      (then_ok ((free.assigned tokens braces) (assign ∷ (ts ++ semicolon ∷ rest))) _ v rest _ (reads_assigned assign semicolon rest a h s (omega arith)) refl))

  reads_put : (place : Expr) (assign : Terminal) (us : List Terminal) (semicolon : Terminal) (rest : List Terminal) (v : Value) → Is sort.Assign assign → IsValue us v
      → Is sort.Semicolon semicolon
      → span (us ++ semicolon ∷ rest) ≤ tokens → (free.put_after tokens braces) place (assign ∷ (us ++ semicolon ∷ rest)) ≡ Ok (stmt.Put place v (site_of_expr place), rest)
  unfolding free.put_after
  reads_put place assign us semicolon rest v a h s w = then_ok ((free.assigned tokens braces) (assign ∷ (us ++ semicolon ∷ rest))) _ v rest _ (reads_assigned assign semicolon rest a h s w) refl

  reads_args : {ts : List Terminal} {es : List Expr} (closing : Terminal) (rest : List Terminal) → AreArgs ts es → Is sort.CloseParen closing → span (ts ++ closing ∷ rest) ≤ tokens
      → enclosed (listed (free.whole tokens braces)) (ts ++ closing ∷ rest) ≡ Ok (es, rest)
  unfolding free.whole
  reads_args closing rest g.no_args c w = enclosed_none (listed (r.nested (suc tokens) level.Whole)) closing rest c
  reads_args {ts = ts} {es = es} closing rest (g.some_args h) c w =
      enclosed_some (listed (r.nested (suc tokens) level.Whole)) (ts ++ closing ∷ rest) es closing rest (opens_no_list (closing ∷ rest) (exprs_words h))
      (reads_exprs h (suc tokens) closing rest c (omega arith)) c

  reads_call : (name opening : Terminal) (ts : List Terminal) (closing semicolon : Terminal) (rest : List Terminal) (args : List Expr) → Is sort.Name name → Is sort.OpenParen opening
      → AreArgs ts args → Is sort.CloseParen closing
      → Is sort.Semicolon semicolon → span (name ∷ opening ∷ (ts ++ closing ∷ semicolon ∷ rest)) ≤ tokens
      → (free.named_stmt tokens braces) (name ∷ opening ∷ (ts ++ closing ∷ semicolon ∷ rest)) ≡ Ok (stmt.Call name.bytes args name.site, rest)
  unfolding free.named_stmt free.call_after
  reads_call name opening ts closing semicolon rest args n o h c s within =
      let less : span (ts ++ closing ∷ semicolon ∷ rest) < tokens = past {ts = name ∷ []} opening (ts ++ closing ∷ semicolon ∷ rest) tokens (plain_more (is_plain refl n) plain_end)
      (is_plain refl o) within in
      expect_then sort.Name _ name (opening ∷ (ts ++ closing ∷ semicolon ∷ rest)) _ n
      (at_sort ((free.after_name tokens braces) name) sort.OpenParen opening (ts ++ closing ∷ semicolon ∷ rest) _ o (expect_then sort.OpenParen _ opening (ts ++ closing ∷ semicolon ∷ rest) _ o
      (then_ok (enclosed (listed (free.whole tokens braces)) (ts ++ closing ∷ semicolon ∷ rest)) _ args (semicolon ∷ rest) _ (reads_args closing (semicolon ∷ rest) h c (omega arith))
      (expect_then sort.Semicolon _ semicolon rest _ s refl))))

  reads_check : (word : Terminal) (ts : List Terminal) (semicolon : Terminal) (rest : List Terminal) (body : Expr) → Is sort.Check word → IsExpr ts body → Is sort.Semicolon semicolon
      → span (word ∷ (ts ++ semicolon ∷ rest)) ≤ tokens → (free.check_stmt tokens braces) (word ∷ (ts ++ semicolon ∷ rest)) ≡ Ok (stmt.Check body word.site, rest)
  unfolding free.check_stmt
  reads_check word ts semicolon rest body w h s within =
      let less : span (ts ++ semicolon ∷ rest) < tokens = past {ts = []} word (ts ++ semicolon ∷ rest) tokens plain_end (is_plain refl w) within in
      expect_then sort.Check _ word (ts ++ semicolon ∷ rest) _ w
      (then_ok ((free.whole tokens braces) (ts ++ semicolon ∷ rest)) _ body (semicolon ∷ rest) _ (reads_whole h (semicolon ∷ rest) (omega (arith, tier_is s)) (omega arith))
      (expect_then sort.Semicolon _ semicolon rest _ s refl))

  reads_condition : (opening : Terminal) (ts : List Terminal) (closing : Terminal) (rest : List Terminal) (e : Expr) → Is sort.OpenParen opening → IsExpr ts e → Is sort.CloseParen closing
      → span (ts ++ closing ∷ rest) ≤ tokens → (free.condition tokens braces) (opening ∷ (ts ++ closing ∷ rest)) ≡ Ok (e, rest)
  unfolding free.condition
  reads_condition opening ts closing rest e o h c w = expect_then sort.OpenParen _ opening (ts ++ closing ∷ rest) _ o
      (then_ok ((free.whole tokens braces) (ts ++ closing ∷ rest)) _ e (closing ∷ rest) _ (reads_whole h (closing ∷ rest) (omega (arith, tier_is c)) w)
      (expect_then sort.CloseParen _ closing rest _ c refl))

  -- ---- statements with blocks

  in_block_of : (s : Sort) → starts_stmt s ≡ true → r.in_block s ≡ true
  in_block_of sort.Var e = refl
  in_block_of sort.Name e = refl
  in_block_of sort.Shared e = refl
  in_block_of sort.If e = refl
  in_block_of sort.While e = refl
  in_block_of sort.Check e = refl
  in_block_of s e = absurd cc

  module _ (ib : Reader (List Stmt)) where
    pub statement_at : (s : Sort) (t : Terminal) (rest : List Terminal) (out : Outcome Stmt) → Is s t → (free.stmt_by tokens braces) ib s (t ∷ rest) ≡ out
        → (free.statement tokens braces) ib (t ∷ rest) ≡ out
    unfolding free.statement
    statement_at s t rest out h e = at_sort ((free.stmt_by tokens braces) ib) s t rest out h e

    put_by_name : {ts : List Terminal} {place : Expr} (assign : Terminal) (us : List Terminal) (semicolon : Terminal) (rest : List Terminal) (v : Value) → ByName ts place
        → Is sort.Assign assign → IsValue us v
        → Is sort.Semicolon semicolon → span (us ++ semicolon ∷ rest) ≤ tokens → (free.statement tokens braces) ib (ts ++ assign ∷ (us ++ semicolon ∷ rest)) ≡ Ok
        (stmt.Put place v (site_of_expr place), rest)
    unfolding free.named_stmt
    put_by_name {ts = ts} {place = place} assign us semicolon rest v f a h s w =
        let xs : List Terminal = assign ∷ (us ++ semicolon ∷ rest) in
        ap (λ (l : List Terminal). (free.statement tokens braces) ib (l ++ assign ∷ (us ++ semicolon ∷ rest))) (sym f.split)
        ∙ statement_at sort.Name f.object (f.dot ∷ (f.others ++ assign ∷ (us ++ semicolon ∷ rest))) _ f.is_object
        (expect_then sort.Name _ f.object (f.dot ∷ (f.others ++ assign ∷ (us ++ semicolon ∷ rest))) _ f.is_object
        (at_sort ((free.after_name tokens braces) f.object) sort.Dot f.dot (f.others ++ assign ∷ (us ++ semicolon ∷ rest)) _ f.is_dot
        (then_ok (r.place_after f.object (f.dot ∷ (f.others ++ assign ∷ (us ++ semicolon ∷ rest)))) (free.put_after tokens braces) place (assign ∷ (us ++ semicolon ∷ rest)) _
        (f.reads (assign ∷ (us ++ semicolon ∷ rest)) ∙ fields_end place (assign ∷ (us ++ semicolon ∷ rest)) (omega (arith, tier_is a)))
        (reads_put place assign us semicolon rest v a h s w))))

    put_by_shared : {ts : List Terminal} {place : Expr} (assign : Terminal) (us : List Terminal) (semicolon : Terminal) (rest : List Terminal) (v : Value) → ByShared ts place
        → Is sort.Assign assign → IsValue us v
        → Is sort.Semicolon semicolon → span (us ++ semicolon ∷ rest) ≤ tokens → (free.statement tokens braces) ib (ts ++ assign ∷ (us ++ semicolon ∷ rest)) ≡ Ok
        (stmt.Put place v (site_of_expr place), rest)
    unfolding free.shared_stmt
    put_by_shared {ts = ts} {place = place} assign us semicolon rest v f a h s w =
        ap (λ (l : List Terminal). (free.statement tokens braces) ib (l ++ assign ∷ (us ++ semicolon ∷ rest))) (sym f.split)
        ∙ statement_at sort.Shared f.shared (f.others ++ assign ∷ (us ++ semicolon ∷ rest)) _ f.is_shared
        (then_ok (r.place (f.shared ∷ (f.others ++ assign ∷ (us ++ semicolon ∷ rest)))) (free.put_after tokens braces) place (assign ∷ (us ++ semicolon ∷ rest)) _
        (ap (λ (l : List Terminal). r.place (l ++ assign ∷ (us ++ semicolon ∷ rest))) f.split ∙ f.reads (assign ∷ (us ++ semicolon ∷ rest)) ∙ fields_end place
        (assign ∷ (us ++ semicolon ∷ rest)) (omega (arith, tier_is a)))
        (reads_put place assign us semicolon rest v a h s w))

    put_of : {ts : List Terminal} {place : Expr} (assign : Terminal) (us : List Terminal) (semicolon : Terminal) (rest : List Terminal) (v : Value) → Form ts place → Is sort.Assign assign
        → IsValue us v
        → Is sort.Semicolon semicolon → span (us ++ semicolon ∷ rest) ≤ tokens → (free.statement tokens braces) ib (ts ++ assign ∷ (us ++ semicolon ∷ rest)) ≡ Ok
        (stmt.Put place v (site_of_expr place), rest)
    put_of assign us semicolon rest v (by_name f) a h s w = put_by_name assign us semicolon rest v f a h s w
    put_of assign us semicolon rest v (by_shared f) a h s w = put_by_shared assign us semicolon rest v f a h s w

    if_ok : (word opening : Terminal) (ts : List Terminal) (closing : Terminal) (xs : List Terminal) (cond : Expr) (body : List Stmt) (ys : List Terminal) (other : Option
        (List Stmt)) (rest : List Terminal)
        → Is sort.If word → Is sort.OpenParen opening → IsExpr ts cond → Is sort.CloseParen closing → span (ts ++ closing ∷ xs) ≤ tokens → ib xs ≡ Ok (body, ys) →
        (free.else_part tokens braces) ib ys ≡ Ok (other, rest)
        → (free.statement tokens braces) ib (word ∷ opening ∷ (ts ++ closing ∷ xs)) ≡ Ok (stmt.If cond body other word.site, rest)
    unfolding free.if_stmt
    if_ok word opening ts closing xs cond body ys other rest w o h c within b e =
        statement_at sort.If word (opening ∷ (ts ++ closing ∷ xs)) _ w (expect_then sort.If _ word (opening ∷ (ts ++ closing ∷ xs)) _ w
        (then_ok ((free.condition tokens braces) (opening ∷ (ts ++ closing ∷ xs))) _ cond xs _ (reads_condition opening ts closing xs cond o h c within)
        (then_ok (ib xs) _ body ys _ b (then_ok ((free.else_part tokens braces) ib ys) _ other rest _ e refl))))

    while_ok : (word opening : Terminal) (ts : List Terminal) (closing : Terminal) (xs : List Terminal) (cond : Expr) (body : List Stmt) (rest : List Terminal)
        → Is sort.While word → Is sort.OpenParen opening → IsExpr ts cond → Is sort.CloseParen closing → span (ts ++ closing ∷ xs) ≤ tokens → ib xs ≡ Ok (body, rest)
        → (free.statement tokens braces) ib (word ∷ opening ∷ (ts ++ closing ∷ xs)) ≡ Ok (stmt.While cond body word.site, rest)
    unfolding free.while_stmt
    while_ok word opening ts closing xs cond body rest w o h c within b =
        statement_at sort.While word (opening ∷ (ts ++ closing ∷ xs)) _ w (expect_then sort.While _ word (opening ∷ (ts ++ closing ∷ xs)) _ w
        (then_ok ((free.condition tokens braces) (opening ∷ (ts ++ closing ∷ xs))) _ cond xs _ (reads_condition opening ts closing xs cond o h c within) (then_ok (ib xs) _ body rest _ b refl)))

    no_else_ok : (rest : List Terminal) → same_sort (next_sort rest) sort.Else ≡ false → (free.else_part tokens braces) ib rest ≡ Ok (None, rest)
    unfolding free.else_part sees
    no_else_ok rest e = ap (λ (b : Bool). (if b then (expect sort.Else >> Some <$> ib) else pure None) rest) e

    else_ok : (word : Terminal) (xs : List Terminal) (body : List Stmt) (rest : List Terminal) → Is sort.Else word → ib xs ≡ Ok (body, rest)
        → (free.else_part tokens braces) ib (word ∷ xs) ≡ Ok (Some body, rest)
    unfolding free.else_part sees
    else_ok word xs body rest w b = ap (λ (b : Bool). (if b then (expect sort.Else >> Some <$> ib) else pure None) (word ∷ xs)) (same_is sort.Else word w)
        ∙ expect_then sort.Else _ word xs _ w (then_ok (ib xs) _ body rest _ b refl)

    -- the statements of a block
    abbrev pub Stmts : List Stmt → Reader (List Stmt)
    Stmts items = turns r.in_block (one_more ((free.statement tokens braces) ib)) items

    block_ok : (opening : Terminal) (xs : List Terminal) (body : List Stmt) (closing : Terminal) (rest : List Terminal) → Is sort.OpenBrace opening → Stmts [] xs ≡ Ok (body, closing ∷ rest)
        → Is sort.CloseBrace closing
        → (free.block_of tokens braces) ib (opening ∷ xs) ≡ Ok (body, rest)
    unfolding free.block_of many
    block_ok opening xs body closing rest o h c = expect_then sort.OpenBrace _ opening xs _ o
        (then_ok (Stmts [] xs) _ body (closing ∷ rest) _ h (expect_then sort.CloseBrace _ closing rest _ c refl))

    stmts_end : (items : List Stmt) (closing : Terminal) (rest : List Terminal) → Is sort.CloseBrace closing → Stmts items (closing ∷ rest) ≡ Ok (items, closing ∷ rest)
    stmts_end items closing rest c = turns_end r.in_block (one_more ((free.statement tokens braces) ib)) items (closing ∷ rest) (ap r.in_block c.same)

    stmts_go : (items : List Stmt) (ts : List Terminal) (s : Stmt) (xs : List Terminal) → Begins ts → (free.statement tokens braces) ib (ts ++ xs) ≡ Ok (s, xs)
        → Stmts items (ts ++ xs) ≡ Stmts (items ++ s ∷ []) xs
    stmts_go items ts s xs b h =
        let begun : (free.statement tokens braces) ib (b.first ∷ (b.others ++ xs)) ≡ Ok (s, xs) = ap (λ (l : List Terminal). (free.statement tokens braces) ib (l ++ xs)) b.split ∙ h in
        ap (λ (l : List Terminal). Stmts items (l ++ xs)) (sym b.split)
        ∙ turns_go r.in_block (one_more ((free.statement tokens braces) ib)) items (items ++ s ∷ []) b.first (b.others ++ xs) xs (in_block_of b.first.sort b.starts)
        (then_ok ((free.statement tokens braces) ib (b.first ∷ (b.others ++ xs))) _ s xs _ begun refl) (omega (arith, length-append b.others xs))

  pub within_sign : {s : Sort} {n : ℕ} {t : Terminal} {us : List Terminal} → Is s t → step n s ≡ n → Within tokens braces n (t ∷ us) → Within tokens braces n us
  within_sign {s = s} {n = n} {us = us} h e w = subst (λ (m : ℕ). Within tokens braces m us) (ap (step n) h.same ∙ e) (within_next w).1

  not_else : (s : Sort) → starts_stmt s ≡ true → same_sort s sort.Else ≡ false
  unfolding same_sort
  not_else sort.Var e = refl
  not_else sort.Name e = refl
  not_else sort.Shared e = refl
  not_else sort.If e = refl
  not_else sort.While e = refl
  not_else sort.Check e = refl
  not_else s e = absurd cc

  begins_no_else : {ts : List Terminal} (xs : List Terminal) → Begins ts → same_sort (next_sort (ts ++ xs)) sort.Else ≡ false
  begins_no_else xs b = subst (λ (l : List Terminal). same_sort (next_sort (l ++ xs)) sort.Else ≡ false) b.split (not_else b.first.sort b.starts)

  stmts_no_else : {ts : List Terminal} {ss : List Stmt} (closing : Terminal) (rest : List Terminal) → AreStmts ts ss → Is sort.CloseBrace closing
      → same_sort (next_sort (ts ++ closing ∷ rest)) sort.Else ≡ false
  unfolding same_sort
  stmts_no_else closing rest g.no_stmts c = ap (λ (s : Sort). same_sort s sort.Else) c.same
  stmts_no_else closing rest (g.more_stmts {ts = ts} {us = us} h k) c =
      ap (λ (l : List Terminal). same_sort (next_sort l) sort.Else) (append_assoc ts us (closing ∷ rest)) ∙ begins_no_else (us ++ closing ∷ rest) (stmt_begins h)

  -- so many braces are open, and so many more may be
  abbrev pub Room : ℕ → ℕ → Type 0
  Room n d = n + d ≡ suc braces

  -- a block, whose inner blocks are of a depth of one less
  deeper : (d n : ℕ) (opening : Terminal) (xs : List Terminal) (body : List Stmt) (rest : List Terminal) → Room n d → Is sort.OpenBrace opening → Within tokens braces n (opening ∷ xs)
      → ((k : ℕ) → Room (suc n) k → Within tokens braces (suc n) xs → (free.block_of tokens braces) ((free.blocks tokens braces) k) (opening ∷ xs) ≡ Ok (body, rest)) →
      (free.blocks tokens braces) d (opening ∷ xs) ≡ Ok (body, rest)
  unfolding free.blocks
  deeper zero n opening xs body rest room o within h =
      let most : suc n ≤ braces = subst (λ (s : Sort). step n s ≤ braces) o.same (within_next within).0 in absurd (omega arith)
  deeper (suc d) n opening xs body rest room o within h = h d (omega arith) (subst (λ (s : Sort). Within tokens braces (step n s) xs) o.same (within_next within).1)

  mutual
    pub reads_stmt : {ts : List Terminal} {s : Stmt} → IsStmt ts s → (d n : ℕ) (rest : List Terminal) → Room n d → same_sort (next_sort rest) sort.Else ≡ false
        → Within tokens braces n (ts ++ rest)
        → (free.statement tokens braces) ((free.blocks tokens braces) d) (ts ++ rest) ≡ Ok (s, rest)
    reads_stmt (g.var {word = word} {name = name} {colon = colon} {assign = assign} {semicolon = semicolon} {ts = ts} {us = us} {kind = kind} {v = v} w m c t a h s) d n rest room e within =
        let same : (word ∷ name ∷ colon ∷ ts ++ assign ∷ us ++ semicolon ∷ []) ++ rest ≡ word ∷ name ∷ colon ∷ (ts ++ assign ∷ (us ++ semicolon ∷ rest)) = simp append_assoc in
        ap ((free.statement tokens braces) ((free.blocks tokens braces) d)) same ∙ statement_at ((free.blocks tokens braces) d) sort.Var word
        (name ∷ colon ∷ (ts ++ assign ∷ (us ++ semicolon ∷ rest))) _ w
        (reads_var word name colon ts assign us semicolon rest kind v w m c t a h s (subst (λ (l : List Terminal). span l ≤ tokens) same (within_span within)))
    reads_stmt (g.assigned {name = name} {assign = assign} {semicolon = semicolon} {ts = ts} {v = v} m a h s) d n rest room e within =
        let same : (name ∷ assign ∷ ts ++ semicolon ∷ []) ++ rest ≡ name ∷ assign ∷ (ts ++ semicolon ∷ rest) = simp append_assoc in
        ap ((free.statement tokens braces) ((free.blocks tokens braces) d)) same ∙ statement_at ((free.blocks tokens braces) d) sort.Name name (assign ∷ (ts ++ semicolon ∷ rest)) _ m
        (reads_assign name assign ts semicolon rest v m a h s (subst (λ (l : List Terminal). span l ≤ tokens) same (within_span within)))
    reads_stmt (g.put {assign = assign} {semicolon = semicolon} {ts = ts} {us = us} {place = place} {v = v} p a h s) d n rest room e within =
        let same : (ts ++ assign ∷ us ++ semicolon ∷ []) ++ rest ≡ ts ++ assign ∷ (us ++ semicolon ∷ rest) = simp append_assoc in
        let less : span (us ++ semicolon ∷ rest) < tokens =
        past assign (us ++ semicolon ∷ rest) tokens (place_plain p) (is_plain refl a) (subst (λ (l : List Terminal). span l ≤ tokens) same (within_span within)) in
        ap ((free.statement tokens braces) ((free.blocks tokens braces) d)) same ∙ put_of ((free.blocks tokens braces) d) assign us semicolon rest v (form_of p) a h s (omega arith)
    reads_stmt (g.if_then {word = word} {opening = opening} {closing = closing} {ts = ts} {us = us} {vs = vs} {cond = cond} {then = body} {other = other} w o h c b k) d n rest room e within =
        let same : (word ∷ opening ∷ ts ++ closing ∷ us ++ vs) ++ rest ≡ word ∷ opening ∷ (ts ++ closing ∷ (us ++ (vs ++ rest))) = simp append_assoc in
        let all : Within tokens braces n (word ∷ opening ∷ (ts ++ closing ∷ (us ++ (vs ++ rest)))) = subst (Within tokens braces n) same within in
        let some : Within tokens braces n (closing ∷ (us ++ (vs ++ rest))) = within_plain {ws = word ∷ opening ∷ ts} (closing ∷ (us ++ (vs ++ rest)))
        (plain_more (is_plain refl w) (plain_more (is_plain refl o) (expr_words h).plain)) all in
        let blocks : Within tokens braces n (us ++ (vs ++ rest)) = within_sign c refl some in
        let last : Within tokens braces n (vs ++ rest) = within_even (vs ++ rest) (block_even b) blocks in
        let less : span (ts ++ closing ∷ (us ++ (vs ++ rest))) < tokens =
        past {ts = word ∷ []} opening (ts ++ closing ∷ (us ++ (vs ++ rest))) tokens (plain_more (is_plain refl w) plain_end) (is_plain refl o) (within_span all) in
        ap ((free.statement tokens braces) ((free.blocks tokens braces) d)) same
        ∙ if_ok ((free.blocks tokens braces) d) word opening ts closing (us ++ (vs ++ rest)) cond body (vs ++ rest) other rest w o h c (omega arith)
        (reads_block b d n (vs ++ rest) room blocks) (reads_else k d n rest room e last)
    reads_stmt (g.while_do {word = word} {opening = opening} {closing = closing} {ts = ts} {us = us} {cond = cond} {body = body} w o h c b) d n rest room e within =
        let same : (word ∷ opening ∷ ts ++ closing ∷ us) ++ rest ≡ word ∷ opening ∷ (ts ++ closing ∷ (us ++ rest)) = simp append_assoc in
        let all : Within tokens braces n (word ∷ opening ∷ (ts ++ closing ∷ (us ++ rest))) = subst (Within tokens braces n) same within in
        let some : Within tokens braces n (closing ∷ (us ++ rest)) = within_plain {ws = word ∷ opening ∷ ts} (closing ∷ (us ++ rest))
        (plain_more (is_plain refl w) (plain_more (is_plain refl o) (expr_words h).plain)) all in
        let less : span (ts ++ closing ∷ (us ++ rest)) < tokens =
        past {ts = word ∷ []} opening (ts ++ closing ∷ (us ++ rest)) tokens (plain_more (is_plain refl w) plain_end) (is_plain refl o) (within_span all) in
        ap ((free.statement tokens braces) ((free.blocks tokens braces) d)) same
        ∙ while_ok ((free.blocks tokens braces) d) word opening ts closing (us ++ rest) cond body rest w o h c (omega arith) (reads_block b d n rest room (within_sign c refl some))
    reads_stmt (g.called {name = name} {opening = opening} {closing = closing} {semicolon = semicolon} {ts = ts} {args = args} m o h c s) d n rest room e within =
        let same : (name ∷ opening ∷ ts ++ closing ∷ semicolon ∷ []) ++ rest ≡ name ∷ opening ∷ (ts ++ closing ∷ semicolon ∷ rest) = simp append_assoc in
        ap ((free.statement tokens braces) ((free.blocks tokens braces) d)) same ∙ statement_at ((free.blocks tokens braces) d) sort.Name name
        (opening ∷ (ts ++ closing ∷ semicolon ∷ rest)) _ m
        (reads_call name opening ts closing semicolon rest args m o h c s (subst (λ (l : List Terminal). span l ≤ tokens) same (within_span within)))
    reads_stmt (g.check {word = word} {semicolon = semicolon} {ts = ts} {body = body} w h s) d n rest room e within =
        let same : (word ∷ ts ++ semicolon ∷ []) ++ rest ≡ word ∷ (ts ++ semicolon ∷ rest) = simp append_assoc in
        ap ((free.statement tokens braces) ((free.blocks tokens braces) d)) same ∙ statement_at ((free.blocks tokens braces) d) sort.Check word (ts ++ semicolon ∷ rest) _ w
        (reads_check word ts semicolon rest body w h s (subst (λ (l : List Terminal). span l ≤ tokens) same (within_span within)))

    reads_else : {ts : List Terminal} {b : Option (List Stmt)} → IsElse ts b → (d n : ℕ) (rest : List Terminal) → Room n d → same_sort (next_sort rest) sort.Else ≡ false
        → Within tokens braces n (ts ++ rest)
        → (free.else_part tokens braces) ((free.blocks tokens braces) d) (ts ++ rest) ≡ Ok (b, rest)
    reads_else g.no_else d n rest room e within = no_else_ok ((free.blocks tokens braces) d) rest e
    reads_else (g.else_block {word = word} {ts = ts} {body = body} w b) d n rest room e within = else_ok ((free.blocks tokens braces) d) word (ts ++ rest) body rest w
        (reads_block b d n rest room (within_sign w refl within))

    pub reads_block : {ts : List Terminal} {b : List Stmt} → IsBlock ts b → (d n : ℕ) (rest : List Terminal) → Room n d → Within tokens braces n (ts ++ rest)
        → (free.blocks tokens braces) d (ts ++ rest) ≡ Ok (b, rest)
    reads_block (g.block {opening = opening} {closing = closing} {ts = ts} {body = body} o h c) d n rest room within =
        let same : (opening ∷ ts ++ closing ∷ []) ++ rest ≡ opening ∷ (ts ++ closing ∷ rest) = simp append_assoc in
        let all : Within tokens braces n (opening ∷ (ts ++ closing ∷ rest)) = subst (Within tokens braces n) same within in
        ap ((free.blocks tokens braces) d) same ∙ deeper d n opening (ts ++ closing ∷ rest) body rest room o all
        (λ k more inside. block_ok ((free.blocks tokens braces) k) opening (ts ++ closing ∷ rest) body closing rest o (reads_stmts h k (suc n) [] closing rest more c inside) c)

    reads_stmts : {ts : List Terminal} {ss : List Stmt} → AreStmts ts ss → (d n : ℕ) (items : List Stmt) (closing : Terminal) (rest : List Terminal) → Room n d → Is sort.CloseBrace closing
        → Within tokens braces n (ts ++ closing ∷ rest)
        → Stmts ((free.blocks tokens braces) d) items (ts ++ closing ∷ rest) ≡ Ok (items ++ ss, closing ∷ rest)
    reads_stmts g.no_stmts d n items closing rest room c within = stmts_end ((free.blocks tokens braces) d) items closing rest c ∙ ap (λ (l : List Stmt). Ok (l, closing ∷ rest))
        (sym (append-nil items))
    reads_stmts (g.more_stmts {ts = ts} {us = us} {s = s} {ss = ss} h k) d n items closing rest room c within =
        let same : (ts ++ us) ++ closing ∷ rest ≡ ts ++ (us ++ closing ∷ rest) = append_assoc ts us (closing ∷ rest) in
        let all : Within tokens braces n (ts ++ (us ++ closing ∷ rest)) = subst (Within tokens braces n) same within in
        ap (Stmts ((free.blocks tokens braces) d) items) same
        ∙ stmts_go ((free.blocks tokens braces) d) items ts s (us ++ closing ∷ rest) (stmt_begins h) (reads_stmt h d n (us ++ closing ∷ rest) room (stmts_no_else closing rest k c) all)
        ∙ reads_stmts k d n (items ++ s ∷ []) closing rest room c (within_even (us ++ closing ∷ rest) (stmt_even h) all)
        ∙ ap (λ (l : List Stmt). Ok (l, closing ∷ rest)) (append_assoc items (s ∷ []) ss)

-- What is spelled as a declaration or a program is read so, where the limits on the terminals are kept.
use Rattle.std.proofs.Common.{◌≡◌, ℕ, zero, suc, ◌+◌, ◌≤◌, ◌<◌, Bool, true, false, if◌then◌else◌, List, [], ◌∷◌, ◌++◌, length, Option, Some, None, Ok}
use Rattle.std.proofs.Common.{Err, refl, sym, ap, subst}
use Rattle.std.proofs.Common.{◌∙◌, append_assoc, append-nil, arith, length-append}
use Rattle.st_ast.specs.declared.declarations.Class.{Class}
use Rattle.st_ast.specs.declared.declarations.Field.{Field}
use Rattle.st_ast.specs.declared.declarations.Param.{Param}
use Rattle.st_ast.specs.declared.declarations.Pred.{Pred}
use Rattle.st_ast.specs.declared.declarations.Proc.{Proc}
use Rattle.st_ast.specs.declared.declarations.Program.{Program}
use Rattle.st_ast.specs.declared.declarations.Thread.{Thread}
use Rattle.st_ast.specs.declared.declarations.TypeName.{TypeName}
use Rattle.st_ast.specs.declared.expressions.Expr.{Expr}
use Rattle.st_ast.specs.declared.statements.Stmt.{Stmt}
use Rattle.st_grammar.specs.declared.sorts.Sort.{Sort}
use Rattle.st_grammar.specs.declared.sorts.Sort.TheVariants as sort
use Rattle.st_grammar.specs.Grammar as g
use Rattle.st_grammar.specs.Grammar.{AreMany, AreListed, IsExpr, IsType, IsBlock, IsField, IsClass, IsShared, IsParam, AreParams, IsPred, IsProc, IsThread, Parses}
use Rattle.st_grammar.specs.Sorts.{same_sort}
use Rattle.st_grammar.specs.Terminals.{Terminal, Is, next_sort}
use Rattle.st_grammar_laws.specs.Reading as r
use Rattle.st_grammar_laws.specs.Reading.{Outcome, Reader, and_then, ◌>>=◌, ◌>>◌, pure, sees, expect, turns, one_more, many, is_sort, listed, enclosed}
use Rattle.st_grammar_laws.proofs.CompleteExprs.{past}
use Rattle.st_grammar_laws.proofs.CompleteStmts.{Room, reads_whole, reads_typed, reads_block, within_plain, within_sign}
use Rattle.st_grammar_laws.proofs.LimitLemmas.{step, Within, within_span, within_next, within_even, Even, even_end, even_plain, even_append, even_semicolon, even_braces, type_plain, block_even}
use Rattle.st_grammar.proofs.SortLemmas.{sort_means}
use Rattle.st_grammar_laws.proofs.StepLemmas.{enclosed_none, enclosed_some, comma_turn}
use Rattle.st_grammar_laws.proofs.TierLemmas.{tier, tier_is}
use Rattle.st_grammar_laws.proofs.TurnLemmas.{then_ok, same_is, expect_then, turns_end, turns_go}
use Rattle.st_grammar_laws.proofs.WordLemmas.{separates, span, is_plain, Plain, plain_end, plain_more, plain_append, expr_words}
use Rattle.st_grammar_laws.proofs.Free as free

module _ (tokens braces : ℕ) where
  -- sorts that a test tells apart are two
  apart : (test : Sort → Bool) (s w : Sort) → test s ≡ true → test w ≡ false → same_sort s w ≡ false
  apart test s w a b = by (same_sort s w) refl
    where
      by : (c : Bool) → same_sort s w ≡ c → same_sort s w ≡ false
      by false e = e
      by true e = let bad : true ≡ false = sym a ∙ ap test (sort_means s w e) ∙ b in absurd cc

  -- ---- lists

  -- the words begin with this sort
  pub record FirstIs (s : Sort) (ts : List Terminal) : Type 0 where
    pub first : Terminal
    pub others : List Terminal
    pub split : first ∷ others ≡ ts
    pub is_first : Is s first

  first_of : {s : Sort} {t : Terminal} (ts : List Terminal) → Is s t → FirstIs s (t ∷ ts)
  first_of {t = t} ts h = record { first = t; others = ts; split = refl; is_first = h }

  first_test : {s : Sort} {ts : List Terminal} (test : Sort → Bool) (rest : List Terminal) → FirstIs s ts → test s ≡ true → test (next_sort (ts ++ rest)) ≡ true
  first_test test rest f e = subst (λ (l : List Terminal). test (next_sort (l ++ rest)) ≡ true) f.split (ap test f.is_first.same ∙ e)

  module _ {A : Type 0} (s : Sort) (item : Reader A) (P : List Terminal → A → Type 0) (begins : (ts : List Terminal) (x : A) → P ts x → FirstIs s ts) where
    many_test : {ts : List Terminal} {xs : List A} (test : Sort → Bool) (rest : List Terminal) → AreMany P ts xs → test s ≡ true → test (next_sort rest) ≡ true
        → test (next_sort (ts ++ rest)) ≡ true
    many_test test rest g.none a b = b
    many_test test rest (g.more {ts = ts} {us = us} {item = x} h k) a b =
        subst (λ (l : List Terminal). test (next_sort l) ≡ true) (sym (append_assoc ts us rest)) (first_test test (us ++ rest) (begins ts x h) a)

    Items : List A → Reader (List A)
    Items items = turns (is_sort s) (one_more item) items

    items_go : (items : List A) (ts : List Terminal) (x : A) (xs : List Terminal) → FirstIs s ts → item (ts ++ xs) ≡ Ok (x, xs) → Items items (ts ++ xs) ≡ Items (items ++ x ∷ []) xs
    unfolding Items
    items_go items ts x xs f h =
        let begun : item (f.first ∷ (f.others ++ xs)) ≡ Ok (x, xs) = ap (λ (l : List Terminal). item (l ++ xs)) f.split ∙ h in
        ap (λ (l : List Terminal). turns (is_sort s) (one_more item) items (l ++ xs)) (sym f.split)
        ∙ turns_go (is_sort s) (one_more item) items (items ++ x ∷ []) f.first (f.others ++ xs) xs (same_is s f.first f.is_first)
        (then_ok (item (f.first ∷ (f.others ++ xs))) _ x xs _ begun refl) (omega (arith, length-append f.others xs))

    module _ (W : List Terminal → Type 0) (onward : (ts : List Terminal) (x : A) (rest : List Terminal) → P ts x → W (ts ++ rest) → W rest)
        (reads : (ts : List Terminal) (x : A) (rest : List Terminal) → P ts x → W (ts ++ rest) → item (ts ++ rest) ≡ Ok (x, rest)) where
      reads_items : {ts : List Terminal} {xs : List A} → AreMany P ts xs → (items : List A) (rest : List Terminal) → same_sort (next_sort rest) s ≡ false → W (ts ++ rest)
          → Items items (ts ++ rest) ≡ Ok (items ++ xs, rest)
      unfolding Items
      reads_items g.none items rest e w = turns_end (is_sort s) (one_more item) items rest e ∙ ap (λ (l : List A). Ok (l, rest)) (sym (append-nil items))
      reads_items (g.more {ts = ts} {us = us} {item = x} {items = xs} h k) items rest e w =
          let all : W (ts ++ (us ++ rest)) = subst W (append_assoc ts us rest) w in
          ap (turns (is_sort s) (one_more item) items) (append_assoc ts us rest) ∙ items_go items ts x (us ++ rest) (begins ts x h) (reads ts x (us ++ rest) h all)
          ∙ reads_items k (items ++ x ∷ []) rest e (onward ts x (us ++ rest) h all) ∙ ap (λ (l : List A). Ok (l, rest)) (append_assoc items (x ∷ []) xs)

      pub reads_many : {ts : List Terminal} {xs : List A} → AreMany P ts xs → (rest : List Terminal) → same_sort (next_sort rest) s ≡ false → W (ts ++ rest)
          → many (is_sort s) item (ts ++ rest) ≡ Ok (xs, rest)
      unfolding many Items
      reads_many h rest e w = reads_items h [] rest e w

      many_onward : {ts : List Terminal} {xs : List A} → AreMany P ts xs → (rest : List Terminal) → W (ts ++ rest) → W rest
      many_onward g.none rest w = w
      many_onward (g.more {ts = ts} {us = us} {item = x} h k) rest w = many_onward k rest (onward ts x (us ++ rest) h (subst W (append_assoc ts us rest) w))

  -- ---- fields

  pub field_begins : {ts : List Terminal} {f : Field} → IsField ts f → FirstIs sort.Name ts
  field_begins (g.field n c t s) = first_of _ n

  pub field_even : {ts : List Terminal} {f : Field} → IsField ts f → Even ts
  field_even (g.field n c t s) = even_append (even_plain (plain_more (is_plain refl n) (plain_more (is_plain refl c) (type_plain t)))) (even_semicolon s even_end)

  pub many_even : {A : Type 0} {P : List Terminal → A → Type 0} → ((ts : List Terminal) (x : A) → P ts x → Even ts) → {ts : List Terminal} {xs : List A} → AreMany P ts xs → Even ts
  many_even each g.none = even_end
  many_even each (g.more {ts = ts} {item = x} h k) = even_append (each ts x h) (many_even each k)

  Always : List Terminal → Type 0
  Always ts = Unit {0}

  reads_field : {ts : List Terminal} {f : Field} (rest : List Terminal) → IsField ts f → Always (ts ++ rest) → r.field (ts ++ rest) ≡ Ok (f, rest)
  unfolding r.field
  reads_field rest (g.field {name = name} {colon = colon} {semicolon = semicolon} {ts = ts} {kind = kind} n c t s) w =
      let same : (name ∷ colon ∷ ts ++ semicolon ∷ []) ++ rest ≡ name ∷ colon ∷ (ts ++ semicolon ∷ rest) = simp append_assoc in
      ap r.field same ∙ expect_then sort.Name _ name (colon ∷ (ts ++ semicolon ∷ rest)) _ n
      (then_ok (r.typed (colon ∷ (ts ++ semicolon ∷ rest))) _ kind (semicolon ∷ rest) _ (reads_typed tokens braces colon (semicolon ∷ rest) c t)
      (expect_then sort.Semicolon _ semicolon rest _ s refl))

  not_name : {t : Terminal} → Is sort.CloseBrace t → same_sort t.sort sort.Name ≡ false
  unfolding same_sort
  not_name h = ap (λ (s : Sort). same_sort s sort.Name) h.same

  reads_fields : (opening : Terminal) (ts : List Terminal) (closing : Terminal) (rest : List Terminal) (fields : List Field) → Is sort.OpenBrace opening → AreMany IsField ts fields
      → Is sort.CloseBrace closing
      → r.fields (opening ∷ (ts ++ closing ∷ rest)) ≡ Ok (fields, rest)
  unfolding r.fields Always
  reads_fields opening ts closing rest fields o h c = expect_then sort.OpenBrace _ opening (ts ++ closing ∷ rest) _ o
      (then_ok (many (is_sort sort.Name) r.field (ts ++ closing ∷ rest)) _ fields (closing ∷ rest) _
      (reads_many sort.Name r.field IsField (λ us x p. field_begins p) Always (λ us x left p w. tt) (λ us x left p w. reads_field left p w) h (closing ∷ rest) (not_name c) tt)
      (expect_then sort.CloseBrace _ closing rest _ c refl))

  pub class_begins : {ts : List Terminal} {c : Class} → IsClass ts c → FirstIs sort.Class ts
  class_begins (g.class w n o h c) = first_of _ w

  pub class_even : {ts : List Terminal} {c : Class} → IsClass ts c → Even ts
  class_even (g.class w n o h c) = even_append (even_plain (plain_more (is_plain refl w) (plain_more (is_plain refl n) plain_end))) (even_braces o (many_even (λ ts x p. field_even p) h) c)

  reads_class : {ts : List Terminal} {c : Class} (rest : List Terminal) → IsClass ts c → Within tokens braces 0 (ts ++ rest) → r.class (ts ++ rest) ≡ Ok (c, rest)
  unfolding r.class
  reads_class rest (g.class {word = word} {name = name} {opening = opening} {closing = closing} {ts = ts} {fields = fields} w n o h c) within =
      let same : (word ∷ name ∷ opening ∷ ts ++ closing ∷ []) ++ rest ≡ word ∷ name ∷ opening ∷ (ts ++ closing ∷ rest) = simp append_assoc in
      ap r.class same ∙ expect_then sort.Class _ word (name ∷ opening ∷ (ts ++ closing ∷ rest)) _ w (expect_then sort.Name _ name (opening ∷ (ts ++ closing ∷ rest)) _ n
      (then_ok (r.fields (opening ∷ (ts ++ closing ∷ rest))) _ fields rest _ (reads_fields opening ts closing rest fields o h c) refl))

  pub shared_even : {ts : List Terminal} {fs : List Field} → IsShared ts fs → Even ts
  shared_even g.no_shared = even_end
  shared_even (g.shared_block w o h c) = even_append (even_plain (plain_more (is_plain refl w) plain_end)) (even_braces o (many_even (λ ts x p. field_even p) h) c)

  reads_shared : {ts : List Terminal} {fs : List Field} (rest : List Terminal) → IsShared ts fs → same_sort (next_sort rest) sort.Shared ≡ false → r.shared_block (ts ++ rest) ≡ Ok (fs, rest)
  unfolding r.shared_block sees
  reads_shared rest g.no_shared e = ap (λ (b : Bool). (if b then (expect sort.Shared >> r.fields) else pure []) rest) e
  reads_shared rest (g.shared_block {word = word} {opening = opening} {closing = closing} {ts = ts} {fields = fields} w o h c) e =
      let same : (word ∷ opening ∷ ts ++ closing ∷ []) ++ rest ≡ word ∷ opening ∷ (ts ++ closing ∷ rest) = simp append_assoc in
      ap r.shared_block same ∙ ap (λ (b : Bool). (if b then (expect sort.Shared >> r.fields) else pure []) (word ∷ opening ∷ (ts ++ closing ∷ rest))) (same_is sort.Shared word w)
      ∙ expect_then sort.Shared (λ _. r.fields) word (opening ∷ (ts ++ closing ∷ rest)) _ w (reads_fields opening ts closing rest fields o h c)

  -- ---- parameters

  pub param_plain : {ts : List Terminal} {p : Param} → IsParam ts p → Plain ts
  param_plain (g.param n c t) = plain_more (is_plain refl n) (plain_more (is_plain refl c) (type_plain t))

  param_begins : {ts : List Terminal} {p : Param} → IsParam ts p → FirstIs sort.Name ts
  param_begins (g.param n c t) = first_of _ n

  listed_plain : {ts : List Terminal} {ps : List Param} → AreListed IsParam ts ps → Plain ts
  listed_plain (g.last h) = param_plain h
  listed_plain (g.next h c k) = plain_append (param_plain h) (plain_more (is_plain refl c) (listed_plain k))

  pub params_plain : {ts : List Terminal} {ps : List Param} → AreParams ts ps → Plain ts
  params_plain g.no_params = plain_end
  params_plain (g.some_params h) = listed_plain h

  reads_param : {ts : List Terminal} {p : Param} (rest : List Terminal) → IsParam ts p → r.param (ts ++ rest) ≡ Ok (p, rest)
  unfolding r.param
  reads_param rest (g.param {name = name} {colon = colon} {ts = ts} {kind = kind} n c t) =
      expect_then sort.Name _ name (colon ∷ (ts ++ rest)) _ n (then_ok (r.typed (colon ∷ (ts ++ rest))) _ kind rest _ (reads_typed tokens braces colon rest c t) refl)

  abbrev More : List Param → Reader (List Param)
  More items = turns (is_sort sort.Comma) (one_more (expect sort.Comma >> r.param)) items

  no_comma : (items : List Param) (closing : Terminal) (rest : List Terminal) → Is sort.CloseParen closing → More items (closing ∷ rest) ≡ Ok (items, closing ∷ rest)
  unfolding same_sort
  no_comma items closing rest h = turns_end (is_sort sort.Comma) (one_more (expect sort.Comma >> r.param)) items (closing ∷ rest) (ap (λ (s : Sort). same_sort s sort.Comma) h.same)

  one_parameter : (items : List Param) (comma : Terminal) (ts rest : List Terminal) (p : Param) → Is sort.Comma comma → IsParam ts p
      → More items (comma ∷ (ts ++ rest)) ≡ More (items ++ p ∷ []) rest
  one_parameter items comma ts rest p c h =
      turns_go (is_sort sort.Comma) (one_more (expect sort.Comma >> r.param)) items (items ++ p ∷ []) comma (ts ++ rest) rest (same_is sort.Comma comma c)
      (comma_turn r.param items comma (ts ++ rest) p rest c (reads_param rest h)) (omega (arith, length-append ts rest))

  reads_more : {ts : List Terminal} {ps : List Param} → AreListed IsParam ts ps → (items : List Param) (comma closing : Terminal) (rest : List Terminal) → Is sort.Comma comma
      → Is sort.CloseParen closing
      → More items (comma ∷ (ts ++ closing ∷ rest)) ≡ Ok (items ++ ps, closing ∷ rest)
  reads_more (g.last {ts = ts} {item = p} h) items comma closing rest m c = one_parameter items comma ts (closing ∷ rest) p m h ∙ no_comma (items ++ p ∷ []) closing rest c
  reads_more (g.next {ts = ts} {us = us} {comma = other} {item = p} {items = ps} h n k) items comma closing rest m c =
      ap (λ (l : List Terminal). More items (comma ∷ l)) (append_assoc ts (other ∷ us) (closing ∷ rest)) ∙ one_parameter items comma ts (other ∷ (us ++ closing ∷ rest)) p m h
      ∙ reads_more k (items ++ p ∷ []) other closing rest n c ∙ ap (λ (l : List Param). Ok (l, closing ∷ rest)) (append_assoc items (p ∷ []) ps)

  reads_listed : {ts : List Terminal} {ps : List Param} → AreListed IsParam ts ps → (closing : Terminal) (rest : List Terminal) → Is sort.CloseParen closing
      → listed r.param (ts ++ closing ∷ rest) ≡ Ok (ps, closing ∷ rest)
  unfolding listed
  reads_listed (g.last {ts = ts} {item = p} h) closing rest c = then_ok (r.param (ts ++ closing ∷ rest)) _ p (closing ∷ rest) _ (reads_param (closing ∷ rest) h)
      (no_comma (p ∷ []) closing rest c)
  reads_listed (g.next {ts = ts} {us = us} {comma = comma} {item = p} {items = ps} h n k) closing rest c =
      ap (listed r.param) (append_assoc ts (comma ∷ us) (closing ∷ rest))
      ∙ then_ok (r.param (ts ++ comma ∷ (us ++ closing ∷ rest))) _ p (comma ∷ (us ++ closing ∷ rest)) _ (reads_param (comma ∷ (us ++ closing ∷ rest)) h)
      (reads_more k (p ∷ []) comma closing rest n c)

  listed_begins : {ts : List Terminal} {ps : List Param} → AreListed IsParam ts ps → FirstIs sort.Name ts
  listed_begins (g.last h) = param_begins h
  listed_begins (g.next {us = us} {comma = comma} h c k) =
      let f = param_begins h in
      record { first = f.first; others = f.others ++ comma ∷ us; split = ap (λ (l : List Terminal). l ++ comma ∷ us) f.split; is_first = f.is_first }

  abbrev is_name : Sort → Bool
  is_name sort.Name = true
  is_name s = false

  reads_params : (opening : Terminal) (ts : List Terminal) (closing : Terminal) (rest : List Terminal) (ps : List Param) → Is sort.OpenParen opening → AreParams ts ps
      → Is sort.CloseParen closing
      → r.params (opening ∷ (ts ++ closing ∷ rest)) ≡ Ok (ps, rest)
  unfolding r.params
  reads_params opening ts closing rest ps o g.no_params c = expect_then sort.OpenParen (λ _. enclosed (listed r.param)) opening (closing ∷ rest) _ o (enclosed_none (listed r.param) closing rest c)
  reads_params opening ts closing rest ps o (g.some_params h) c = expect_then sort.OpenParen (λ _. enclosed (listed r.param)) opening (ts ++ closing ∷ rest) _ o
      (enclosed_some (listed r.param) (ts ++ closing ∷ rest) ps closing rest
      (apart is_name (next_sort (ts ++ closing ∷ rest)) sort.CloseParen (first_test is_name (closing ∷ rest) (listed_begins h) refl) refl)
      (reads_listed h closing rest c) c)

  -- ---- predicates, procedures, threads

  pub pred_begins : {ts : List Terminal} {p : Pred} → IsPred ts p → FirstIs sort.Pred ts
  pred_begins (g.pred w n o h c d t a e s) = first_of _ w

  pub pred_even : {ts : List Terminal} {p : Pred} → IsPred ts p → Even ts
  pred_even (g.pred w n o h c d t a e s) =
      even_append (even_plain (plain_append (plain_append (plain_more (is_plain refl w) (plain_more (is_plain refl n) (plain_more (is_plain refl o) (params_plain h))))
      (plain_more (is_plain refl c) (plain_more (is_plain refl d) (type_plain t)))) (plain_more (is_plain refl a) (expr_words e).plain))) (even_semicolon s even_end)

  reads_pred : {ts : List Terminal} {p : Pred} (rest : List Terminal) → IsPred ts p → Within tokens braces 0 (ts ++ rest) → (free.pred tokens braces) (ts ++ rest) ≡ Ok (p, rest)
  unfolding free.pred
  reads_pred rest (g.pred {word = word} {name = name} {opening = opening} {closing = closing} {colon = colon} {assign = assign} {semicolon = semicolon} {ts = ts} {us = us}
      {vs = vs} {params = params} {result = result} {body = body} w n o h c d t a e s)
      within =
      let end : List Terminal = vs ++ semicolon ∷ rest in
      let same : (word ∷ name ∷ opening ∷ ts ++ closing ∷ colon ∷ us ++ assign ∷ vs ++ semicolon ∷ []) ++ rest ≡ word ∷ name ∷ opening ∷
      (ts ++ closing ∷ colon ∷ (us ++ assign ∷ (vs ++ semicolon ∷ rest))) = simp append_assoc in
      let all : Within tokens braces 0 (word ∷ name ∷ opening ∷ (ts ++ closing ∷ colon ∷ (us ++ assign ∷ (vs ++ semicolon ∷ rest)))) = subst (Within tokens braces 0) same within in
      let some : Within tokens braces 0 (closing ∷ colon ∷ (us ++ assign ∷ (vs ++ semicolon ∷ rest))) =
      within_plain tokens braces {ws = word ∷ name ∷ opening ∷ ts} (closing ∷ colon ∷ (us ++ assign ∷ (vs ++ semicolon ∷ rest)))
      (plain_more (is_plain refl w) (plain_more (is_plain refl n) (plain_more (is_plain refl o) (params_plain h)))) all in
      let less : span (vs ++ semicolon ∷ rest) < tokens =
      past {ts = closing ∷ colon ∷ us} assign (vs ++ semicolon ∷ rest) tokens (plain_more (is_plain refl c) (plain_more (is_plain refl d) (type_plain t))) (is_plain refl a) (within_span some) in
      ap (free.pred tokens braces) same ∙ expect_then sort.Pred _ word (name ∷ opening ∷ (ts ++ closing ∷ colon ∷ (us ++ assign ∷ (vs ++ semicolon ∷ rest)))) _ w
      (expect_then sort.Name _ name (opening ∷ (ts ++ closing ∷ colon ∷ (us ++ assign ∷ (vs ++ semicolon ∷ rest)))) _ n
      (then_ok (r.params (opening ∷ (ts ++ closing ∷ colon ∷ (us ++ assign ∷ (vs ++ semicolon ∷ rest))))) _ params (colon ∷ (us ++ assign ∷ (vs ++ semicolon ∷ rest))) _
      (reads_params opening ts closing (colon ∷ (us ++ assign ∷ (vs ++ semicolon ∷ rest))) params o h c)
      (then_ok (r.typed (colon ∷ (us ++ assign ∷ (vs ++ semicolon ∷ rest)))) _ result (assign ∷ (vs ++ semicolon ∷ rest)) _
      (reads_typed tokens braces colon (assign ∷ (vs ++ semicolon ∷ rest)) d t)
      (expect_then sort.Assign _ assign (vs ++ semicolon ∷ rest) _ a
      (then_ok ((free.whole tokens braces) (vs ++ semicolon ∷ rest)) _ body (semicolon ∷ rest) _ (reads_whole tokens braces e (semicolon ∷ rest) (omega (arith, tier_is s)) (omega arith))
      (expect_then sort.Semicolon _ semicolon rest _ s refl))))))

  reads_body : {ts : List Terminal} {b : List Stmt} → IsBlock ts b → (rest : List Terminal) → Within tokens braces 0 (ts ++ rest)
      → (free.body_block tokens braces) (ts ++ rest) ≡ Ok (b, rest)
  unfolding free.body_block
  reads_body h rest w = reads_block tokens braces h (suc braces) 0 rest (omega arith) w

  pub proc_begins : {ts : List Terminal} {p : Proc} → IsProc ts p → FirstIs sort.Proc ts
  proc_begins (g.proc w n o h c b) = first_of _ w

  pub proc_even : {ts : List Terminal} {p : Proc} → IsProc ts p → Even ts
  proc_even (g.proc w n o h c b) =
      even_append (even_plain (plain_more (is_plain refl w) (plain_more (is_plain refl n) (plain_more (is_plain refl o) (params_plain h)))))
      (even_append (even_plain (plain_more (is_plain refl c) plain_end)) (block_even b))

  reads_proc : {ts : List Terminal} {p : Proc} (rest : List Terminal) → IsProc ts p → Within tokens braces 0 (ts ++ rest) → (free.proc tokens braces) (ts ++ rest) ≡ Ok (p, rest)
  unfolding free.proc
  reads_proc rest (g.proc {word = word} {name = name} {opening = opening} {closing = closing} {ts = ts} {us = us} {params = params} {body = body} w n o h c b) within =
      let same : (word ∷ name ∷ opening ∷ ts ++ closing ∷ us) ++ rest ≡ word ∷ name ∷ opening ∷ (ts ++ closing ∷ (us ++ rest)) = simp append_assoc in
      let all : Within tokens braces 0 (word ∷ name ∷ opening ∷ (ts ++ closing ∷ (us ++ rest))) = subst (Within tokens braces 0) same within in
      let some : Within tokens braces 0 (closing ∷ (us ++ rest)) =
      within_plain tokens braces {ws = word ∷ name ∷ opening ∷ ts} (closing ∷ (us ++ rest))
      (plain_more (is_plain refl w) (plain_more (is_plain refl n) (plain_more (is_plain refl o) (params_plain h)))) all in
      ap (free.proc tokens braces) same ∙ expect_then sort.Proc _ word (name ∷ opening ∷ (ts ++ closing ∷ (us ++ rest))) _ w
      (expect_then sort.Name _ name (opening ∷ (ts ++ closing ∷ (us ++ rest))) _ n
      (then_ok (r.params (opening ∷ (ts ++ closing ∷ (us ++ rest)))) _ params (us ++ rest) _ (reads_params opening ts closing (us ++ rest) params o h c)
      (then_ok ((free.body_block tokens braces) (us ++ rest)) _ body rest _ (reads_body b rest (within_sign tokens braces c refl some)) refl)))

  pub thread_begins : {ts : List Terminal} {t : Thread} → IsThread ts t → FirstIs sort.Thread ts
  thread_begins (g.thread w n b) = first_of _ w

  pub thread_even : {ts : List Terminal} {t : Thread} → IsThread ts t → Even ts
  thread_even (g.thread w n b) = even_append (even_plain (plain_more (is_plain refl w) (plain_more (is_plain refl n) plain_end))) (block_even b)

  reads_thread : {ts : List Terminal} {t : Thread} (rest : List Terminal) → IsThread ts t → Within tokens braces 0 (ts ++ rest) → (free.thread tokens braces) (ts ++ rest) ≡ Ok (t, rest)
  unfolding free.thread
  reads_thread rest (g.thread {word = word} {name = name} {ts = ts} {body = body} w n b) within =
      expect_then sort.Thread _ word (name ∷ (ts ++ rest)) _ w (expect_then sort.Name _ name (ts ++ rest) _ n
      (then_ok ((free.body_block tokens braces) (ts ++ rest)) _ body rest _
      (reads_body b rest (within_plain tokens braces {ws = word ∷ name ∷ []} (ts ++ rest) (plain_more (is_plain refl w) (plain_more (is_plain refl n) plain_end)) within)) refl))

  -- ---- programs

  -- what may come from a place on
  abbrev from_threads : Sort → Bool
  from_threads sort.Thread = true
  from_threads sort.Other = true
  from_threads s = false

  abbrev from_procs : Sort → Bool
  from_procs sort.Proc = true
  from_procs s = from_threads s

  abbrev from_preds : Sort → Bool
  from_preds sort.Pred = true
  from_preds s = from_procs s

  abbrev from_shared : Sort → Bool
  from_shared sort.Shared = true
  from_shared s = from_preds s

  weaker : (s : Sort) → (from_threads s ≡ true → from_procs s ≡ true) × (from_procs s ≡ true → from_preds s ≡ true)
  weaker sort.Thread = ((λ e. refl), (λ e. refl))
  weaker sort.Other = ((λ e. refl), (λ e. refl))
  weaker sort.Proc = ((λ e. absurd cc), (λ e. refl))
  weaker s = ((λ e. absurd cc), (λ e. absurd cc))

  shared_test : {ts : List Terminal} {fs : List Field} (rest : List Terminal) → IsShared ts fs → from_preds (next_sort rest) ≡ true → from_shared (next_sort (ts ++ rest)) ≡ true
  shared_test rest g.no_shared e = widen (next_sort rest) e
    where
      widen : (s : Sort) → from_preds s ≡ true → from_shared s ≡ true
      widen sort.Shared e = refl
      widen s e = e
  shared_test rest (g.shared_block w o h c) e = ap from_shared w.same

  finish_ok : {A : Type 0} (x : A) → (let o : Outcome A = and_then (r.finish []) (λ _. pure x) in o) ≡ Ok (x, [])
  unfolding r.finish
  finish_ok x = refl

  abbrev not_thread : Sort → Bool
  not_thread sort.Thread = false
  not_thread s = true

  other_thread : same_sort sort.Other sort.Thread ≡ false
  other_thread = apart not_thread sort.Other sort.Thread refl refl

  pub spelled_is_read : {ts : List Terminal} {p : Program} → Parses ts p → Within tokens braces 0 ts → (free.program tokens braces) ts ≡ Ok (p, [])
  unfolding free.program r.finish
  spelled_is_read (g.program {ts = ts} {us = us} {vs = vs} {ws = ws} {xs = xs} {classes = classes} {shared = shared} {preds = preds} {procs = procs} {threads = threads} a b c d e) within =
      let same : ts ++ us ++ vs ++ ws ++ xs ≡ ts ++ (us ++ (vs ++ (ws ++ (xs ++ [])))) = simp (append_assoc, append-nil) in
      let one : Within tokens braces 0 (ts ++ (us ++ (vs ++ (ws ++ (xs ++ []))))) = subst (Within tokens braces 0) same within in
      let two : Within tokens braces 0 (us ++ (vs ++ (ws ++ (xs ++ [])))) = within_even (us ++ (vs ++ (ws ++ (xs ++ [])))) (many_even (λ ts x p. class_even p) a) one in
      let three : Within tokens braces 0 (vs ++ (ws ++ (xs ++ []))) = within_even (vs ++ (ws ++ (xs ++ []))) (shared_even b) two in
      let four : Within tokens braces 0 (ws ++ (xs ++ [])) = within_even (ws ++ (xs ++ [])) (many_even (λ ts x p. pred_even p) c) three in
      let five : Within tokens braces 0 (xs ++ []) = within_even (xs ++ []) (many_even (λ ts x p. proc_even p) d) four in
      let t5 : from_threads (next_sort (xs ++ [])) ≡ true = many_test sort.Thread (free.thread tokens braces) IsThread (λ ts x p. thread_begins p) from_threads [] e refl refl in
      let t4 : from_procs (next_sort (ws ++ (xs ++ []))) ≡ true = many_test sort.Proc (free.proc tokens braces) IsProc (λ ts x p. proc_begins p) from_procs (xs ++ []) d refl
      ((weaker (next_sort (xs ++ []))).0 t5) in
      let t3 : from_preds (next_sort (vs ++ (ws ++ (xs ++ [])))) ≡ true = many_test sort.Pred (free.pred tokens braces) IsPred (λ ts x p. pred_begins p) from_preds (ws ++ (xs ++ [])) c refl
      ((weaker (next_sort (ws ++ (xs ++ [])))).1 t4) in
      let t2 : from_shared (next_sort (us ++ (vs ++ (ws ++ (xs ++ []))))) ≡ true = shared_test (vs ++ (ws ++ (xs ++ []))) b t3 in
      ap (free.program tokens braces) same
      ∙ then_ok (many (is_sort sort.Class) r.class (ts ++ (us ++ (vs ++ (ws ++ (xs ++ [])))))) _ classes (us ++ (vs ++ (ws ++ (xs ++ [])))) _
      (reads_many sort.Class r.class IsClass (λ ts x p. class_begins p) (Within tokens braces 0) (λ ts x rest p w. within_even rest (class_even p) w)
      (λ ts x rest p w. reads_class rest p w) a (us ++ (vs ++ (ws ++ (xs ++ [])))) (apart from_shared _ sort.Class t2 refl) one)
      (then_ok (r.shared_block (us ++ (vs ++ (ws ++ (xs ++ []))))) _ shared (vs ++ (ws ++ (xs ++ []))) _ (reads_shared (vs ++ (ws ++ (xs ++ []))) b (apart from_preds _ sort.Shared t3 refl))
      (then_ok (many (is_sort sort.Pred) (free.pred tokens braces) (vs ++ (ws ++ (xs ++ [])))) _ preds (ws ++ (xs ++ [])) _
      (reads_many sort.Pred (free.pred tokens braces) IsPred (λ ts x p. pred_begins p) (Within tokens braces 0) (λ ts x rest p w. within_even rest (pred_even p) w)
      (λ ts x rest p w. reads_pred rest p w) c (ws ++ (xs ++ [])) (apart from_procs _ sort.Pred t4 refl) three)
      (then_ok (many (is_sort sort.Proc) (free.proc tokens braces) (ws ++ (xs ++ []))) _ procs (xs ++ []) _
      (reads_many sort.Proc (free.proc tokens braces) IsProc (λ ts x p. proc_begins p) (Within tokens braces 0) (λ ts x rest p w. within_even rest (proc_even p) w)
      (λ ts x rest p w. reads_proc rest p w) d (xs ++ []) (apart from_threads _ sort.Proc t5 refl) four)
      (then_ok (many (is_sort sort.Thread) (free.thread tokens braces) (xs ++ [])) _ threads [] _
      (reads_many sort.Thread (free.thread tokens braces) IsThread (λ ts x p. thread_begins p) (Within tokens braces 0) (λ ts x rest p w. within_even rest (thread_even p) w)
      (λ ts x rest p w. reads_thread rest p w) e [] other_thread five) refl))))

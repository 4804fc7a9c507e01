-- The readers of types, values, statements and blocks follow the chart, where the limits on the terminals are kept.
use Rattle.std.proofs.Common.{◌≡◌, ◌≢◌, ℕ, zero, suc, ◌+◌, ◌≤◌, ◌<◌, Bool, true, false, if◌then◌else◌, List, [], ◌∷◌, ◌++◌, length, Option, Some}
use Rattle.std.proofs.Common.{None, Result, Ok, Err, refl, ap}
use Rattle.std.proofs.Common.{sym, ◌∙◌, subst, arith}
use Rattle.st_ast.specs.declared.declarations.TypeName.{TypeName}
use Rattle.st_ast.specs.declared.declarations.TypeName.TheVariants as types
use Rattle.st_ast.specs.declared.expressions.Expr.{Expr}
use Rattle.st_ast.specs.declared.expressions.Expr.TheVariants as expr
use Rattle.st_ast.specs.declared.statements.Stmt.{Stmt}
use Rattle.st_ast.specs.declared.statements.Stmt.TheVariants as stmt
use Rattle.st_ast.specs.declared.statements.Value.{Value}
use Rattle.st_ast.specs.declared.statements.Value.TheVariants as value
use Rattle.st_grammar.specs.declared.sorts.Sort.{Sort}
use Rattle.st_grammar.specs.declared.sorts.Sort.TheVariants as sort
use Rattle.st_grammar.specs.Grammar.{IsPlace, IsType, IsExpr, IsStmt, IsBlock}
use Rattle.st_grammar.specs.Sorts.{same_sort}
use Rattle.st_grammar.specs.Terminals.{Terminal, Is, next_sort}
use Rattle.st_grammar_laws.specs.Reading as r
use Rattle.st_grammar_laws.specs.Reading.{Outcome, Reader, and_then, ◌>>=◌, ◌>>◌, pure, ◌<$>◌, sees, take_any, expect, turns, one_more, many, is_sort, listed, enclosed}
use Rattle.st_charts.specs.Charts.{Symbol, token, part}
use Rattle.st_charts.specs.Reads.{Stops}
use Rattle.st_charts.proofs.ReaderLemmas.{stops_first, stops_token, stops_end}
use Rattle.st_grammar_laws.proofs.Chart as chart
use Rattle.st_grammar_laws.proofs.Chart.{Part, Symbols}
use Rattle.st_grammar_laws.proofs.ChoiceLemmas.{chosen}
use Rattle.st_grammar_laws.proofs.FaultExprs.{low, next_span, plain_onward, follows_field, follows_fields, follows_shared, follows_args, follows_whole}
use Rattle.st_grammar_laws.proofs.Free as free
use Rattle.st_grammar_laws.proofs.LimitLemmas.{step, Within, within_span, within_next, within_even, Even, even_end, even_plain, even_append, even_semicolon, type_plain, stmt_begins, stmt_even, block_even}
use Rattle.st_grammar_laws.proofs.CompleteStmts.{Room}
use Rattle.st_grammar_laws.proofs.ReaderLemmas.{Follows, follows_then, follows_map, stays, stays_part, told_yes, told_no, follows_expect, follows_take, follows_part, follows_none, Used, follows_turns}
use Rattle.st_grammar.proofs.SortLemmas.{sort_means}
use Rattle.st_grammar_laws.proofs.SoundLemmas.{Spelled, Sound, After, sound_weaken, sound_map, sound_take, sound_expect}
use Rattle.st_grammar_laws.proofs.SoundExprs.{sound_place, sound_place_after}
use Rattle.st_grammar_laws.proofs.SoundStmts.{AfterSign, InParens, sound_typed, sound_expr, sound_condition, sound_stmt, sound_blocks}
use Rattle.st_grammar_laws.proofs.WordLemmas.{separates, span, span_more, span_after, is_plain, Plain, plain_end, plain_more, plain_append, Words, expr_words, place_plain}

-- ---- types and places

type_leaf : (s : Sort) (ts : List Terminal) (f : Terminal → TypeName) → next_sort ts ≡ s → same_sort s sort.Other ≡ false → chosen chart.type s ≡ Some (token s ∷ [])
    → Follows (part chart.type ∷ []) ts ((f <$> take_any) ts)
type_leaf s ts f e n c = follows_part chart.type (token s ∷ []) ts ((f <$> take_any) ts) (ap (chosen chart.type) e ∙ c) (follows_take s [] ts (λ t. pure (f t)) e n (λ t us g h. stays us))

type_at : (s : Sort) (ts : List Terminal) → next_sort ts ≡ s → Follows (part chart.type ∷ []) ts (r.type_by s ts)
unfolding same_sort
type_at sort.Int ts e = type_leaf sort.Int ts (λ t. types.Int) e refl refl
type_at sort.Bool ts e = type_leaf sort.Bool ts (λ t. types.Bool) e refl refl
type_at sort.Name ts e = type_leaf sort.Name ts (λ t. types.Class t.bytes t.site) e refl refl
type_at s ts e = follows_none chart.type ts (ap (chosen chart.type) e)

-- the reader of a colon and a type stops where the chart does
pub follows_typed : (ts : List Terminal) → Follows (token sort.Colon ∷ part chart.type ∷ []) ts (r.typed ts)
unfolding r.typed r.type_name
follows_typed ts = follows_expect sort.Colon (part chart.type ∷ []) ts (λ _. r.type_name) (λ t us e h. type_at (next_sort us) us refl)

follows_place_after : (object : Terminal) (ts : List Terminal) → Follows (token sort.Dot ∷ token sort.Name ∷ part chart.field_tail ∷ []) ts (r.place_after object ts)
unfolding r.place_after
follows_place_after object ts =
    follows_then (token sort.Dot ∷ token sort.Name ∷ []) (part chart.field_tail ∷ []) ts (r.field_after (expr.Local object.bytes object.site) ts) r.fields_after (follows_field _ ts)
    (λ x us e. follows_fields x us)

place_named : (ts : List Terminal) → same_sort (next_sort ts) sort.Shared ≡ false → Follows (part chart.place ∷ []) ts ((expect sort.Name >>= r.place_after) ts)
place_named ts e = follows_part chart.place (token sort.Name ∷ token sort.Dot ∷ token sort.Name ∷ part chart.field_tail ∷ []) ts ((expect sort.Name >>= r.place_after) ts)
    (told_no (same_sort (next_sort ts) sort.Shared) _ _ e)
    (follows_expect sort.Name _ ts r.place_after (λ name us g h. follows_place_after name us))

place_at : (s : Sort) (ts : List Terminal) → next_sort ts ≡ s → Follows (part chart.place ∷ []) ts (r.place_by s ts)
unfolding same_sort
place_at sort.Shared ts e = follows_part chart.place (token sort.Shared ∷ token sort.Dot ∷ token sort.Name ∷ part chart.field_tail ∷ []) ts (r.place_by sort.Shared ts)
    (ap (chosen chart.place) e)
    (follows_then (token sort.Shared ∷ token sort.Dot ∷ token sort.Name ∷ []) (part chart.field_tail ∷ []) ts (r.shared_field ts) r.fields_after (follows_shared ts)
    (λ x us h. follows_fields x us))
place_at s ts e = place_named ts (ap (λ (x : Sort). same_sort x sort.Shared) e)

-- so does that of a target
pub follows_place : (ts : List Terminal) → Follows (part chart.place ∷ []) ts (r.place ts)
unfolding r.place
follows_place ts = place_at (next_sort ts) ts refl

-- ---- what is left

-- the limits are kept after words with as many opening braces as closing ones
pub within_left : {A : Type 0} (tokens braces n : ℕ) (P : List Terminal → A → Type 0) → ((ws : List Terminal) (x : A) → P ws x → Even ws)
    → (ts : List Terminal) (o : Outcome A) (x : A) (us : List Terminal) → Sound P ts o
    → o ≡ Ok (x, us) → Within tokens braces n ts → Within tokens braces n us
within_left tokens braces n P even ts o x us s e w =
    let spelled : Spelled P ts x us = subst (λ (p : Outcome _). Sound P ts p) e s in
    within_even us (even spelled.front x spelled.spells) (subst (Within tokens braces n) spelled.split w)

-- and after a sign that is no brace
pub within_sign : (tokens braces n : ℕ) {s : Sort} {t : Terminal} (ts us : List Terminal) → ts ≡ t ∷ us → Is s t → step n s ≡ n → Within tokens braces n ts
    → Within tokens braces n us
within_sign tokens braces n ts us e h same w =
    subst (λ (m : ℕ). Within tokens braces m us) (ap (step n) h.same ∙ same) (within_next (subst (Within tokens braces n) e w)).1

module _ (tokens braces : ℕ) where
  pub follows_expr : (ts : List Terminal) → span ts ≤ tokens → Follows (part chart.expr ∷ []) ts (free.whole tokens braces ts)
  unfolding free.whole
  follows_expr ts w = follows_whole (suc tokens) ts (omega arith)

  low_expr : (ts : List Terminal) (x : Expr) (us : List Terminal) → free.whole tokens braces ts ≡ Ok (x, us) → span us ≤ span ts
  low_expr ts x us e = low IsExpr (λ ws y p. (expr_words p).plain) ts (free.whole tokens braces ts) x us (sound_expr tokens braces ts) e

  -- ---- values

  follows_new : (ts : List Terminal) → Follows (token sort.New ∷ token sort.Name ∷ []) ts (r.new_value ts)
  unfolding r.new_value
  follows_new ts = follows_expect sort.New _ ts _ (λ word us e h. follows_expect sort.Name [] us _ (λ name vs f k. stays vs))

  follows_cas : (ts : List Terminal) → span ts ≤ tokens
      → Follows (token sort.Cas ∷ token sort.OpenParen ∷ part chart.place ∷ token sort.Comma ∷ part chart.expr ∷ token sort.Comma ∷ part chart.expr ∷ token sort.CloseParen ∷ []) ts
      (free.cas_value tokens braces ts)
  unfolding free.cas_value
  follows_cas ts w = follows_expect sort.Cas _ ts _ (λ word us e h. follows_expect sort.OpenParen _ us _ (λ opening vs f k.
      let one : span vs ≤ tokens = omega (arith, next_span ts word us e h refl, next_span us opening vs f k refl) in
      follows_then (part chart.place ∷ []) _ vs (r.place vs) _ (follows_place vs) (λ place xs p.
      let two : span xs ≤ tokens = omega (arith, low IsPlace (λ ws y q. place_plain q) vs (r.place vs) place xs (sound_place vs) p) in
      follows_expect sort.Comma _ xs _ (λ comma ys g l.
      let three : span ys ≤ tokens = omega (arith, next_span xs comma ys g l refl) in
      follows_then (part chart.expr ∷ []) _ ys (free.whole tokens braces ys) _ (follows_expr ys three) (λ wanted zs q.
      follows_expect sort.Comma _ zs _ (λ other rest m i.
      follows_then (part chart.expr ∷ []) (token sort.CloseParen ∷ []) rest (free.whole tokens braces rest) _
      (follows_expr rest (omega (arith, next_span zs other rest m i refl, low_expr ys wanted zs q)))
      (λ given left j. follows_expect sort.CloseParen [] left _ (λ closing end a b. stays end))))))))

  value_at : (s : Sort) (ts : List Terminal) → next_sort ts ≡ s → span ts ≤ tokens → Follows (part chart.value ∷ []) ts (free.value_by tokens braces s ts)
  unfolding same_sort
  value_at sort.New ts e w = follows_part chart.value (token sort.New ∷ token sort.Name ∷ []) ts (r.new_value ts) (ap (chosen chart.value) e) (follows_new ts)
  value_at sort.Cas ts e w = follows_part chart.value
      (token sort.Cas ∷ token sort.OpenParen ∷ part chart.place ∷ token sort.Comma ∷ part chart.expr ∷ token sort.Comma ∷ part chart.expr ∷ token sort.CloseParen ∷ []) ts
      (free.cas_value tokens braces ts) (ap (chosen chart.value) e) (follows_cas ts w)
  value_at s ts e w = follows_part chart.value (part chart.expr ∷ []) ts ((value.Plain <$> free.whole tokens braces) ts) (ap (chosen chart.value) e)
      (follows_map (part chart.expr ∷ []) ts (free.whole tokens braces ts) value.Plain (follows_expr ts w))

  follows_value : (ts : List Terminal) → span ts ≤ tokens → Follows (part chart.value ∷ []) ts (free.value_here tokens braces ts)
  unfolding free.value_here
  follows_value ts w = value_at (next_sort ts) ts refl w

  follows_assigned : (ts : List Terminal) → span ts ≤ tokens → Follows (part chart.assigned ∷ []) ts (free.assigned tokens braces ts)
  unfolding free.assigned
  follows_assigned ts w = follows_part chart.assigned (token sort.Assign ∷ part chart.value ∷ token sort.Semicolon ∷ []) ts (free.assigned tokens braces ts) refl
      (follows_expect sort.Assign _ ts _ (λ assign us e h.
      follows_then (part chart.value ∷ []) (token sort.Semicolon ∷ []) us (free.value_here tokens braces us) _ (follows_value us (omega (arith, next_span ts assign us e h refl)))
      (λ v vs f. follows_expect sort.Semicolon [] vs _ (λ semicolon ws g k. stays ws))))

  -- ---- statements without blocks

  pub typed_plain : (ws : List Terminal) (k : TypeName) → AfterSign tokens braces sort.Colon IsType ws k → Plain ws
  typed_plain ws k a = subst Plain a.split (plain_more (is_plain refl a.is_sign) (type_plain a.spelled))

  follows_var : (ts : List Terminal) → span ts ≤ tokens
      → Follows (token sort.Var ∷ token sort.Name ∷ token sort.Colon ∷ part chart.type ∷ part chart.assigned ∷ []) ts (free.var_stmt tokens braces ts)
  unfolding free.var_stmt
  follows_var ts w = follows_expect sort.Var _ ts _ (λ word us e h. follows_expect sort.Name _ us _ (λ name vs f k.
      follows_then (token sort.Colon ∷ part chart.type ∷ []) (part chart.assigned ∷ []) vs (r.typed vs) _ (follows_typed vs) (λ kind xs p.
      follows_map (part chart.assigned ∷ []) xs (free.assigned tokens braces xs) _ (follows_assigned xs
      (omega (
        arith,
        next_span ts word us e h refl,
        next_span us name vs f k refl,
        low (AfterSign tokens braces sort.Colon IsType) typed_plain vs (r.typed vs) kind xs
            (sound_typed tokens braces vs) p,
      ))))))

  follows_put : (place : Expr) (ts : List Terminal) → span ts ≤ tokens → Follows (part chart.assigned ∷ []) ts (free.put_after tokens braces place ts)
  unfolding free.put_after
  follows_put place ts w = follows_map (part chart.assigned ∷ []) ts (free.assigned tokens braces ts) _ (follows_assigned ts w)

  follows_call : (name : Terminal) (ts : List Terminal) → span ts ≤ tokens
      → Follows (token sort.OpenParen ∷ part chart.args ∷ token sort.CloseParen ∷ token sort.Semicolon ∷ []) ts (free.call_after tokens braces name ts)
  unfolding free.call_after
  follows_call name ts w = follows_expect sort.OpenParen _ ts _ (λ opening us e h.
      follows_then (part chart.args ∷ token sort.CloseParen ∷ []) (token sort.Semicolon ∷ []) us (enclosed (listed (free.whole tokens braces)) us) _
      (follows_args (λ l. span l ≤ tokens) (free.whole tokens braces) follows_expr (sound_expr tokens braces) (plain_onward tokens) us (omega (arith, next_span ts opening us e h refl)))
      (λ found vs f. follows_expect sort.Semicolon [] vs _ (λ semicolon xs g k. stays xs)))

  plain_tail : (t : Terminal) (ts us : List Terminal) → Plain us → us ≡ t ∷ ts → Plain ts
  plain_tail t ts us plain_end e = absurd cc
  plain_tail t ts us (plain_more {ts = vs} h p) e = let same : vs ≡ ts = cc in subst Plain same p

  after_name_at : (name : Terminal) → Is sort.Name name → (s : Sort) (ts : List Terminal) → next_sort ts ≡ s → span ts ≤ tokens
      → Follows (part chart.after_name ∷ []) ts (free.after_name tokens braces name s ts)
  unfolding same_sort
  after_name_at name n sort.Assign ts e w = follows_part chart.after_name (part chart.assigned ∷ []) ts (free.after_name tokens braces name sort.Assign ts) (ap (chosen chart.after_name) e)
      (follows_map (part chart.assigned ∷ []) ts (free.assigned tokens braces ts) _ (follows_assigned ts w))
  after_name_at name n sort.OpenParen ts e w =
      follows_part chart.after_name (token sort.OpenParen ∷ part chart.args ∷ token sort.CloseParen ∷ token sort.Semicolon ∷ []) ts (free.call_after tokens braces name ts)
      (ap (chosen chart.after_name) e) (follows_call name ts w)
  after_name_at name n sort.Dot ts e w =
      follows_part chart.after_name (token sort.Dot ∷ token sort.Name ∷ part chart.field_tail ∷ part chart.assigned ∷ []) ts (free.after_name tokens braces name sort.Dot ts)
      (ap (chosen chart.after_name) e)
      (follows_then (token sort.Dot ∷ token sort.Name ∷ part chart.field_tail ∷ []) (part chart.assigned ∷ []) ts (r.place_after name ts) (free.put_after tokens braces)
      (follows_place_after name ts)
      (λ place us f. follows_put place us
      (omega (arith, low (After (name ∷ []) IsPlace) (λ ws y p. plain_tail name ws (name ∷ ws) (place_plain p) refl) ts (r.place_after name ts) place us (sound_place_after name ts n) f))))
  after_name_at name n s ts e w = follows_none chart.after_name ts (ap (chosen chart.after_name) e)

  follows_named : (ts : List Terminal) → span ts ≤ tokens → Follows (token sort.Name ∷ part chart.after_name ∷ []) ts (free.named_stmt tokens braces ts)
  unfolding free.named_stmt
  follows_named ts w = follows_expect sort.Name _ ts _ (λ name us e h. after_name_at name h (next_sort us) us refl (omega (arith, next_span ts name us e h refl)))

  follows_shared_stmt : (ts : List Terminal) → span ts ≤ tokens → Follows (part chart.place ∷ part chart.assigned ∷ []) ts (free.shared_stmt tokens braces ts)
  unfolding free.shared_stmt
  follows_shared_stmt ts w = follows_then (part chart.place ∷ []) (part chart.assigned ∷ []) ts (r.place ts) (free.put_after tokens braces) (follows_place ts)
      (λ place us e. follows_put place us (omega (arith, low IsPlace (λ ws y p. place_plain p) ts (r.place ts) place us (sound_place ts) e)))

  follows_check : (ts : List Terminal) → span ts ≤ tokens → Follows (token sort.Check ∷ part chart.expr ∷ token sort.Semicolon ∷ []) ts (free.check_stmt tokens braces ts)
  unfolding free.check_stmt
  follows_check ts w = follows_expect sort.Check _ ts _ (λ word us e h.
      follows_then (part chart.expr ∷ []) (token sort.Semicolon ∷ []) us (free.whole tokens braces us) _ (follows_expr us (omega (arith, next_span ts word us e h refl)))
      (λ body vs f. follows_expect sort.Semicolon [] vs _ (λ semicolon xs g k. stays xs)))

  follows_condition : (ts : List Terminal) → span ts ≤ tokens → Follows (token sort.OpenParen ∷ part chart.expr ∷ token sort.CloseParen ∷ []) ts (free.condition tokens braces ts)
  unfolding free.condition
  follows_condition ts w = follows_expect sort.OpenParen _ ts _ (λ opening us e h.
      follows_then (part chart.expr ∷ []) (token sort.CloseParen ∷ []) us (free.whole tokens braces us) _ (follows_expr us (omega (arith, next_span ts opening us e h refl)))
      (λ test vs f. follows_expect sort.CloseParen [] vs _ (λ closing xs g k. stays xs)))

  -- ---- statements with blocks

  condition_even : (ws : List Terminal) (x : Expr) → InParens tokens braces ws x → Even ws
  condition_even ws x p = subst Even p.split (even_plain (plain_more (is_plain refl p.is_opening) (plain_append (expr_words p.is_expr).plain (plain_more (is_plain refl p.is_closing) plain_end))))

  module _ (d n : ℕ) (blocks : (ts : List Terminal) → Within tokens braces n ts → Follows (part chart.block ∷ []) ts (free.blocks tokens braces d ts)) where
    else_at : (ts : List Terminal) (b : Bool) → sees sort.Else ts ≡ b → Within tokens braces n ts
        → Follows (part chart.else_tail ∷ []) ts ((if b then (expect sort.Else >> Some <$> free.blocks tokens braces d) else pure None) ts)
    unfolding sees
    else_at ts false e w = stays_part chart.else_tail ts (told_no (same_sort (next_sort ts) sort.Else) _ _ e)
    else_at ts true e w = follows_part {A = Option (List Stmt)} chart.else_tail (token sort.Else ∷ part chart.block ∷ []) ts ((expect sort.Else >> Some <$> free.blocks tokens braces d) ts)
        (told_yes (same_sort (next_sort ts) sort.Else) _ _ e)
        (follows_expect sort.Else _ ts _ (λ word us f h. follows_map (part chart.block ∷ []) us (free.blocks tokens braces d us) Some (blocks us (within_sign tokens braces n ts us f h refl w))))

    follows_else : (ts : List Terminal) → Within tokens braces n ts → Follows (part chart.else_tail ∷ []) ts (free.else_part tokens braces (free.blocks tokens braces d) ts)
    unfolding free.else_part
    follows_else ts w = else_at ts (sees sort.Else ts) refl w

    follows_if : (ts : List Terminal) → Within tokens braces n ts
        → Follows (token sort.If ∷ token sort.OpenParen ∷ part chart.expr ∷ token sort.CloseParen ∷ part chart.block ∷ part chart.else_tail ∷ []) ts
        (free.if_stmt tokens braces (free.blocks tokens braces d) ts)
    unfolding free.if_stmt
    follows_if ts w = follows_expect sort.If _ ts _ (λ word us e h.
        let one : Within tokens braces n us = within_sign tokens braces n ts us e h refl w in
        follows_then (token sort.OpenParen ∷ part chart.expr ∷ token sort.CloseParen ∷ []) _ us (free.condition tokens braces us) _ (follows_condition us (within_span one)) (λ test vs f.
        let two : Within tokens braces n vs = within_left tokens braces n (InParens tokens braces) condition_even us (free.condition tokens braces us) test vs
        (sound_condition tokens braces us) f one in
        follows_then (part chart.block ∷ []) (part chart.else_tail ∷ []) vs (free.blocks tokens braces d vs) _ (blocks vs two) (λ body xs g.
        let three : Within tokens braces n xs = within_left tokens braces n IsBlock (λ ws y p. block_even p) vs (free.blocks tokens braces d vs) body xs (sound_blocks tokens braces d vs) g two in
        follows_map (part chart.else_tail ∷ []) xs (free.else_part tokens braces (free.blocks tokens braces d) xs) _ (follows_else xs three))))

    follows_while : (ts : List Terminal) → Within tokens braces n ts
        → Follows (token sort.While ∷ token sort.OpenParen ∷ part chart.expr ∷ token sort.CloseParen ∷ part chart.block ∷ []) ts
        (free.while_stmt tokens braces (free.blocks tokens braces d) ts)
    unfolding free.while_stmt
    follows_while ts w = follows_expect sort.While _ ts _ (λ word us e h.
        let one : Within tokens braces n us = within_sign tokens braces n ts us e h refl w in
        follows_then (token sort.OpenParen ∷ part chart.expr ∷ token sort.CloseParen ∷ []) _ us (free.condition tokens braces us) _ (follows_condition us (within_span one)) (λ test vs f.
        let two : Within tokens braces n vs = within_left tokens braces n (InParens tokens braces) condition_even us (free.condition tokens braces us) test vs
        (sound_condition tokens braces us) f one in
        follows_map (part chart.block ∷ []) vs (free.blocks tokens braces d vs) _ (blocks vs two)))

    stmt_at : (s : Sort) (ts : List Terminal) → next_sort ts ≡ s → Within tokens braces n ts
        → Follows (part chart.stmt ∷ []) ts (free.stmt_by tokens braces (free.blocks tokens braces d) s ts)
    unfolding same_sort
    stmt_at sort.Var ts e w = follows_part chart.stmt (token sort.Var ∷ token sort.Name ∷ token sort.Colon ∷ part chart.type ∷ part chart.assigned ∷ []) ts (free.var_stmt tokens braces ts)
        (ap (chosen chart.stmt) e) (follows_var ts (within_span w))
    stmt_at sort.Name ts e w = follows_part chart.stmt (token sort.Name ∷ part chart.after_name ∷ []) ts (free.named_stmt tokens braces ts) (ap (chosen chart.stmt) e)
        (follows_named ts (within_span w))
    stmt_at sort.Shared ts e w = follows_part chart.stmt (part chart.place ∷ part chart.assigned ∷ []) ts (free.shared_stmt tokens braces ts) (ap (chosen chart.stmt) e)
        (follows_shared_stmt ts (within_span w))
    stmt_at sort.If ts e w = follows_part chart.stmt (token sort.If ∷ token sort.OpenParen ∷ part chart.expr ∷ token sort.CloseParen ∷ part chart.block ∷ part chart.else_tail ∷ []) ts
        (free.if_stmt tokens braces (free.blocks tokens braces d) ts) (ap (chosen chart.stmt) e) (follows_if ts w)
    stmt_at sort.While ts e w = follows_part chart.stmt (token sort.While ∷ token sort.OpenParen ∷ part chart.expr ∷ token sort.CloseParen ∷ part chart.block ∷ []) ts
        (free.while_stmt tokens braces (free.blocks tokens braces d) ts) (ap (chosen chart.stmt) e) (follows_while ts w)
    stmt_at sort.Check ts e w = follows_part chart.stmt (token sort.Check ∷ part chart.expr ∷ token sort.Semicolon ∷ []) ts (free.check_stmt tokens braces ts) (ap (chosen chart.stmt) e)
        (follows_check ts (within_span w))
    stmt_at s ts e w = follows_none chart.stmt ts (ap (chosen chart.stmt) e)

    follows_stmt : (ts : List Terminal) → Within tokens braces n ts → Follows (part chart.stmt ∷ []) ts (free.statement tokens braces (free.blocks tokens braces d) ts)
    unfolding free.statement
    follows_stmt ts w = stmt_at (next_sort ts) ts refl w

    stmts_go : (s : Sort) → r.in_block s ≡ true → chosen chart.stmts s ≡ Some ((part chart.stmt ∷ []) ++ part chart.stmts ∷ [])
    unfolding same_sort
    stmts_go sort.CloseBrace e = absurd cc
    stmts_go sort.Other e = absurd cc
    stmts_go s e = refl

    stmts_end : (s : Sort) → r.in_block s ≡ false → chosen chart.stmts s ≡ Some []
    unfolding same_sort
    stmts_end sort.CloseBrace e = refl
    stmts_end sort.Other e = refl
    stmts_end s e = absurd cc

    stmts_nothing : chosen chart.stmts sort.Other ≡ Some []
    unfolding same_sort
    stmts_nothing = refl

    stmts_sound : (xs : List Stmt) (t : Terminal) (ts : List Terminal)
        → Sound (λ ws y. Used Even ws) (t ∷ ts) (one_more (free.statement tokens braces (free.blocks tokens braces d)) xs (t ∷ ts))
    stmts_sound xs t ts =
        sound_map IsStmt (λ ws y. Used Even ws) (t ∷ ts) (free.statement tokens braces (free.blocks tokens braces d) (t ∷ ts)) (λ x. xs ++ x ∷ [])
        (sound_stmt tokens braces (free.blocks tokens braces d) (sound_blocks tokens braces d) (t ∷ ts))
        (λ ws x p. let b = stmt_begins p in record { first = b.first; others = b.others; split = b.split; holds = stmt_even p })

    follows_stmts : (ts : List Terminal) → Within tokens braces n ts → Follows (part chart.stmts ∷ []) ts (many r.in_block (free.statement tokens braces (free.blocks tokens braces d)) ts)
    unfolding many
    follows_stmts ts w =
        follows_turns r.in_block (one_more (free.statement tokens braces (free.blocks tokens braces d))) chart.stmts (λ s. part chart.stmt ∷ [])
        (Within tokens braces n) Even stmts_go stmts_end stmts_nothing
        (λ xs t us v e. follows_map (part chart.stmt ∷ []) (t ∷ us) (free.statement tokens braces (free.blocks tokens braces d) (t ∷ us)) (λ x. xs ++ x ∷ []) (follows_stmt (t ∷ us) v))
        stmts_sound (λ ws us e v. within_even us e v) [] ts w

  follows_block : (d n : ℕ) (ts : List Terminal) → Room tokens braces n (suc d) → Within tokens braces n ts
      → ((us : List Terminal) → Within tokens braces (suc n) us → Follows (part chart.stmts ∷ []) us (many r.in_block (free.statement tokens braces (free.blocks tokens braces d)) us))
      → Follows (part chart.block ∷ []) ts (free.block_of tokens braces (free.blocks tokens braces d) ts)
  unfolding free.block_of
  follows_block d n ts room w stmts = follows_part chart.block (token sort.OpenBrace ∷ part chart.stmts ∷ token sort.CloseBrace ∷ []) ts
      (free.block_of tokens braces (free.blocks tokens braces d) ts) refl
      (follows_expect sort.OpenBrace _ ts _ (λ opening us e h.
      let inside : Within tokens braces (suc n) us = subst (λ (s : Sort). Within tokens braces (step n s) us) h.same (within_next (subst (Within tokens braces n) e w)).1 in
      follows_then (part chart.stmts ∷ []) (token sort.CloseBrace ∷ []) us (many r.in_block (free.statement tokens braces (free.blocks tokens braces d)) us) _ (stmts us inside)
      (λ body vs f. follows_expect sort.CloseBrace [] vs _ (λ closing xs g k. stays xs))))

  -- where no more braces may be open there is no `{`
  brace_stops : (n : ℕ) (ds : Symbols) (t : Terminal) (ts : List Terminal) (b : Bool) → same_sort t.sort sort.OpenBrace ≡ b → Room tokens braces n zero → Within tokens braces n (t ∷ ts)
      → Stops chart.grammar (token sort.OpenBrace ∷ ds) (t ∷ ts) (t ∷ ts)
  brace_stops n ds t ts false e room w = stops_first chart.grammar (token sort.OpenBrace ∷ []) ds (t ∷ ts) (t ∷ ts) (stops_token chart.grammar sort.OpenBrace t ts e)
  brace_stops n ds t ts true e room w =
      let most : suc n ≤ braces = subst (λ (s : Sort). step n s ≤ braces) (sort_means t.sort sort.OpenBrace e) (within_next w).0 in absurd (omega arith)

  no_more : (n : ℕ) (ds : Symbols) (ts : List Terminal) → Room tokens braces n zero → Within tokens braces n ts → Stops chart.grammar (token sort.OpenBrace ∷ ds) ts ts
  no_more n ds [] room w = stops_first chart.grammar (token sort.OpenBrace ∷ []) ds [] [] (stops_end chart.grammar sort.OpenBrace)
  no_more n ds (t ∷ ts) room w = brace_stops n ds t ts (same_sort t.sort sort.OpenBrace) refl room w

  pub follows_blocks : (d n : ℕ) (ts : List Terminal) → Room tokens braces n d → Within tokens braces n ts → Follows (part chart.block ∷ []) ts (free.blocks tokens braces d ts)
  unfolding free.blocks
  follows_blocks zero n ts room w = follows_part {A = List Stmt} chart.block (token sort.OpenBrace ∷ part chart.stmts ∷ token sort.CloseBrace ∷ []) ts (Err ts) refl
      (no_more n (part chart.stmts ∷ token sort.CloseBrace ∷ []) ts room w)
  follows_blocks (suc d) n ts room w = follows_block d n ts room w (follows_stmts d (suc n) (λ us v. follows_blocks d (suc n) us (omega arith) v))

  pub follows_body : (ts : List Terminal) → Within tokens braces 0 ts → Follows (part chart.block ∷ []) ts (free.body_block tokens braces ts)
  unfolding free.body_block
  follows_body ts w = follows_blocks (suc braces) 0 ts (omega arith) w

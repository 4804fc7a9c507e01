-- The readers of expressions follow the chart, where the depth is enough.
use Rattle.std.proofs.Common.{◌≡◌, ◌≢◌, ℕ, zero, suc, ◌≤◌, ◌<◌, Bool, true, false, if◌then◌else◌, List, [], ◌∷◌, ◌++◌, length, Option, Some, None}
use Rattle.std.proofs.Common.{is_some, Result, Ok, Err, refl}
use Rattle.std.proofs.Common.{ap, sym, ◌∙◌, subst, arith}
use Rattle.st_ast.specs.declared.expressions.Expr.{Expr}
use Rattle.st_ast.specs.declared.expressions.Expr.TheVariants as expr
use Rattle.st_ast.specs.declared.operators.Op.{Op}
use Rattle.st_grammar.specs.declared.operators.Chain.{Chain}
use Rattle.st_grammar.specs.declared.operators.Chain.TheVariants as chain
use Rattle.st_grammar_laws.specs.declared.levels.Level.{Level}
use Rattle.st_grammar_laws.specs.declared.levels.Level.TheVariants as level
use Rattle.st_grammar.specs.declared.sorts.Sort.{Sort}
use Rattle.st_grammar.specs.declared.sorts.Sort.TheVariants as sort
use Rattle.st_grammar.specs.Grammar.{IsExpr, IsOr, IsAnd, IsCmp, IsSum, IsTerm, IsUnary, IsPostfix}
use Rattle.st_grammar.specs.Operators.{chained, compared}
use Rattle.st_grammar.specs.Sorts.{same_sort}
use Rattle.st_grammar.specs.Terminals.{Terminal, Is, next_sort}
use Rattle.st_grammar_laws.specs.Reading as r
use Rattle.st_grammar_laws.specs.Reading.{Outcome, Reader, and_then, ◌>>=◌, ◌>>◌, pure, ◌<$>◌, sees, take_any, expect, turns, one_more, is_sort, listed, enclosed}
use Rattle.st_charts.specs.Charts.{Symbol, token, part}
use Rattle.st_grammar_laws.proofs.Chart as chart
use Rattle.st_grammar_laws.proofs.Chart.{Part, Symbols}
use Rattle.st_grammar_laws.proofs.ChoiceLemmas.{chosen, whole_of, operand_of, tail_of, chain_begins, chain_goes_on, chain_ends, comparison_goes_on, comparison_ends}
use Rattle.st_grammar_laws.proofs.ReaderLemmas.{Follows, follows_then, follows_map, stays, stays_part, told_yes, told_no, follows_expect, follows_take, follows_part, follows_none, Used, follows_turns}
use Rattle.st_grammar.proofs.SortLemmas.{sort_means}
use Rattle.st_grammar_laws.proofs.SoundLemmas.{Spelled, Sound, After, sound_pure, sound_weaken, sound_map, sound_take, sound_expect}
use Rattle.st_grammar_laws.proofs.SoundExprs.{sound_field, sound_whole, sound_prefixed, sound_unary, sound_term, sound_sum, sound_cmp, sound_and, sound_or, sound_postfix, sound_binary}
use Rattle.st_grammar_laws.proofs.WordLemmas.{separates, span, span_more, span_after, is_plain, Plain, plain_end, plain_more, plain_append, compared_plain, chained_plain, Words}
use Rattle.st_grammar_laws.proofs.WordLemmas.{expr_words, or_words, and_words, cmp_words, sum_words, term_words, unary_words, postfix_words}

-- ---- spans

-- what is left has no longer span
pub low : {A : Type 0} (P : List Terminal → A → Type 0) → ((ws : List Terminal) (x : A) → P ws x → Plain ws) → (ts : List Terminal) (o : Outcome A) (x : A) (us : List Terminal)
    → Sound P ts o → o ≡ Ok (x, us) → span us ≤ span ts
low P plain ts o x us s e =
    let spelled : Spelled P ts x us = subst (λ (p : Outcome _). Sound P ts p) e s in
    let same : span ts ≡ span (spelled.front ++ us) = ap span spelled.split in
    omega (arith, span_after (plain spelled.front x spelled.spells) us)

-- a sign that does not separate
pub next_span : {s : Sort} (ts : List Terminal) (t : Terminal) (us : List Terminal) → ts ≡ t ∷ us → Is s t → separates s ≡ false → span ts ≡ suc (span us)
next_span ts t us e h p = ap span e ∙ span_more t us (is_plain p h)

-- behind words without a separator the next separator is no farther
pub plain_onward : (d : ℕ) (ws us : List Terminal) → Plain ws → span (ws ++ us) ≤ d → span us ≤ d
plain_onward d ws us p w = omega (arith, span_after p us)

pub used_words : {ts : List Terminal} → Words ts → Used Plain ts
used_words w = record { first = w.first; others = w.others; split = w.split; holds = w.plain }

-- a sign and plain words
pub used_sign : (t : Terminal) (ws : List Terminal) → separates t.sort ≡ false → Plain ws → Used Plain (t ∷ ws)
used_sign t ws e p = record { first = t; others = ws; split = refl; holds = plain_more e p }

-- operators are tokens
chained_other : (c : Chain) (s : Sort) (op : Op) → chained c s ≡ Some op → same_sort s sort.Other ≡ false
unfolding same_sort
chained_other chain.Either sort.Either o e = refl
chained_other chain.Both sort.Both o e = refl
chained_other chain.Sum sort.Plus o e = refl
chained_other chain.Sum sort.Minus o e = refl
chained_other chain.Product sort.Star o e = refl
chained_other chain.Product sort.Slash o e = refl
chained_other chain.Product sort.Percent o e = refl
chained_other _ _ o e = absurd cc

compared_other : (s : Sort) (op : Op) → compared s ≡ Some op → same_sort s sort.Other ≡ false
unfolding same_sort
compared_other sort.Equal o e = refl
compared_other sort.NotEqual o e = refl
compared_other sort.Less o e = refl
compared_other sort.LessEq o e = refl
compared_other sort.Greater o e = refl
compared_other sort.GreaterEq o e = refl
compared_other _ o e = absurd cc

-- ---- lists in parentheses

comma_asks : (s : Sort) → is_sort sort.Comma s ≡ true → s ≡ sort.Comma
comma_asks s e = sort_means s sort.Comma e

module _ {A : Type 0} (item : Reader A) (P : List Terminal → A → Type 0) (W : List Terminal → Type 0) (whole item_part tail : Part)
    (reads : (ts : List Terminal) → W ts → Follows (part item_part ∷ []) ts (item ts))
    (sound : (ts : List Terminal) → Sound P ts (item ts)) (plain : (ws : List Terminal) (x : A) → P ws x → Plain ws)
    (onward : (ws us : List Terminal) → Plain ws → W (ws ++ us) → W us)
    (closes : chosen whole sort.CloseParen ≡ Some []) (begins : (s : Sort) → same_sort s sort.CloseParen ≡ false → chosen whole s ≡ Some (part item_part ∷ part tail ∷ []))
    (goes_on : chosen tail sort.Comma ≡ Some (token sort.Comma ∷ part item_part ∷ part tail ∷ []))
    (ends : (s : Sort) → is_sort sort.Comma s ≡ false → chosen tail s ≡ Some []) (nothing : chosen tail sort.Other ≡ Some []) where
  abbrev Turn : List A → Reader (List A)
  Turn = one_more (expect sort.Comma >> item)

  turn_reads : (xs : List A) (t : Terminal) (ts : List Terminal) → W (t ∷ ts) → is_sort sort.Comma t.sort ≡ true
      → Follows (token sort.Comma ∷ part item_part ∷ []) (t ∷ ts) (Turn xs (t ∷ ts))
  turn_reads xs t ts w e =
      follows_map (token sort.Comma ∷ part item_part ∷ []) (t ∷ ts) ((expect sort.Comma >> item) (t ∷ ts)) (λ x. xs ++ x ∷ [])
      (follows_expect sort.Comma (part item_part ∷ []) (t ∷ ts) (λ _. item)
      (λ c us split h. reads us (onward (c ∷ []) us (plain_more (is_plain refl h) plain_end) (subst W split w))))

  turn_sound : (xs : List A) (t : Terminal) (ts : List Terminal) → Sound (λ ws y. Used Plain ws) (t ∷ ts) (Turn xs (t ∷ ts))
  turn_sound xs t ts =
      sound_map (λ ws x. Used Plain ws) (λ ws y. Used Plain ws) (t ∷ ts) ((expect sort.Comma >> item) (t ∷ ts)) (λ x. xs ++ x ∷ [])
      (sound_expect sort.Comma (λ ws x. Used Plain ws) (t ∷ ts) (λ _. item)
      (λ c us h. sound_weaken P (After (c ∷ []) (λ ws x. Used Plain ws)) us (item us) (sound us) (λ ws x p. used_sign c ws (is_plain refl h) (plain ws x p))))
      (λ ws x u. u)

  comma_choice : (s : Sort) → is_sort sort.Comma s ≡ true → chosen tail s ≡ Some ((token sort.Comma ∷ part item_part ∷ []) ++ part tail ∷ [])
  comma_choice s e = ap (chosen tail) (comma_asks s e) ∙ goes_on

  follows_tail : (xs : List A) (ts : List Terminal) → W ts → Follows (part tail ∷ []) ts (turns (is_sort sort.Comma) Turn xs ts)
  follows_tail xs ts w =
      follows_turns (is_sort sort.Comma) Turn tail (λ s. token sort.Comma ∷ part item_part ∷ []) W Plain comma_choice ends nothing turn_reads turn_sound onward xs ts w

  follows_listed : (ts : List Terminal) → W ts → Follows (part item_part ∷ part tail ∷ []) ts (listed item ts)
  unfolding listed
  follows_listed ts w =
      follows_then (part item_part ∷ []) (part tail ∷ []) ts (item ts) (λ x. turns (is_sort sort.Comma) Turn (x ∷ [])) (reads ts w)
      (λ x us e. follows_tail (x ∷ []) us (left ts (item ts) x us e (sound ts) w))
    where
      left : (ts : List Terminal) (o : Outcome A) (x : A) (us : List Terminal) → o ≡ Ok (x, us) → Sound P ts o → W ts → W us
      left ts o x us e s w =
          let spelled : Spelled P ts x us = subst (λ (p : Outcome A). Sound P ts p) e s in
          onward spelled.front us (plain spelled.front x spelled.spells) (subst W spelled.split w)

  maybe : (ts : List Terminal) (b : Bool) → W ts → sees sort.CloseParen ts ≡ b → Follows (part whole ∷ []) ts ((if b then pure [] else listed item) ts)
  unfolding sees
  maybe ts true w e = follows_part {A = List A} whole [] ts (Ok ([], ts)) (ap (chosen whole) (sort_means (next_sort ts) sort.CloseParen e) ∙ closes) (stays ts)
  maybe ts false w e = follows_part whole (part item_part ∷ part tail ∷ []) ts (listed item ts) (begins (next_sort ts) e) (follows_listed ts w)

  pub follows_enclosed : (ts : List Terminal) → W ts → Follows (part whole ∷ token sort.CloseParen ∷ []) ts (enclosed (listed item) ts)
  unfolding enclosed
  follows_enclosed ts w =
      follows_then (part whole ∷ []) (token sort.CloseParen ∷ []) ts ((if sees sort.CloseParen ts then pure [] else listed item) ts) _ (maybe ts (sees sort.CloseParen ts) w refl)
      (λ xs us e. follows_expect sort.CloseParen [] us _ (λ t vs split h. stays vs))

-- ---- fields

dot_choice : (s : Sort) → is_sort sort.Dot s ≡ true → chosen chart.field_tail s ≡ Some ((token sort.Dot ∷ token sort.Name ∷ []) ++ part chart.field_tail ∷ [])
dot_choice s e = told_yes (same_sort s sort.Dot) _ _ e

dot_ends : (s : Sort) → is_sort sort.Dot s ≡ false → chosen chart.field_tail s ≡ Some []
dot_ends s e = told_no (same_sort s sort.Dot) _ _ e

dot_nothing : chosen chart.field_tail sort.Other ≡ Some []
unfolding same_sort
dot_nothing = refl

-- the reader of a dot and a name stops where the chart does
pub follows_field : (object : Expr) (ts : List Terminal) → Follows (token sort.Dot ∷ token sort.Name ∷ []) ts (r.field_after object ts)
unfolding r.field_after
follows_field object ts = follows_expect sort.Dot (token sort.Name ∷ []) ts _ (λ dot us e h. follows_expect sort.Name [] us _ (λ name vs f k. stays vs))

-- nothing is asked of the tokens
abbrev pub always : List Terminal → Type 0
always ts = Unit {0}

field_sound : (object : Expr) (t : Terminal) (ts : List Terminal) → Sound (λ ws y. Used Plain ws) (t ∷ ts) (r.field_after object (t ∷ ts))
unfolding r.field_after
field_sound object t ts = sound_expect sort.Dot (λ ws y. Used Plain ws) (t ∷ ts) _ (λ dot us d. sound_expect sort.Name _ us _
    (λ name vs n. sound_pure _ vs _ (used_sign dot (name ∷ []) (is_plain refl d) (plain_more (is_plain refl n) plain_end))))

-- any number of fields follows the chart's tail of fields
pub follows_fields : (object : Expr) (ts : List Terminal) → Follows (part chart.field_tail ∷ []) ts (r.fields_after object ts)
unfolding r.fields_after
follows_fields object ts =
    follows_turns (is_sort sort.Dot) r.field_after chart.field_tail (λ s. token sort.Dot ∷ token sort.Name ∷ []) always Plain dot_choice dot_ends dot_nothing
    (λ x t us w e. follows_field x (t ∷ us)) field_sound (λ ws us p w. tt) object ts tt

-- so does the reader of a shared variable
pub follows_shared : (ts : List Terminal) → Follows (token sort.Shared ∷ token sort.Dot ∷ token sort.Name ∷ []) ts (r.shared_field ts)
unfolding r.shared_field
follows_shared ts = follows_expect sort.Shared _ ts _ (λ word us e h. follows_expect sort.Dot _ us _ (λ dot vs f k. follows_expect sort.Name [] vs _ (λ name ws g l. stays ws)))

-- ---- expressions, where those inside follow the chart

literal_at : (s : Sort) (ts : List Terminal) (f : Terminal → Expr) → next_sort ts ≡ s → same_sort s sort.Other ≡ false → chosen chart.primary s ≡ Some (token s ∷ [])
    → Follows (part chart.primary ∷ []) ts ((f <$> take_any) ts)
literal_at s ts f e n c = follows_part chart.primary (token s ∷ []) ts ((f <$> take_any) ts) (ap (chosen chart.primary) e ∙ c) (follows_take s [] ts (λ t. pure (f t)) e n (λ t us g h. stays us))

literal_by : (s : Sort) (ts : List Terminal) → next_sort ts ≡ s → s ≢ sort.Name → s ≢ sort.Shared → s ≢ sort.OpenParen → Follows (part chart.primary ∷ []) ts (r.literal_by s ts)
unfolding same_sort
literal_by sort.Number ts e a b c = literal_at sort.Number ts (λ t. expr.Number t.value t.site) e refl refl
literal_by sort.True ts e a b c = literal_at sort.True ts (λ t. expr.Truth true t.site) e refl refl
literal_by sort.False ts e a b c = literal_at sort.False ts (λ t. expr.Truth false t.site) e refl refl
literal_by sort.Null ts e a b c = literal_at sort.Null ts (λ t. expr.Null t.site) e refl refl
literal_by sort.Name ts e a b c = absurd (a refl)
literal_by sort.Shared ts e a b c = absurd (b refl)
literal_by sort.OpenParen ts e a b c = absurd (c refl)
literal_by s ts e a b c = follows_none chart.primary ts (ap (chosen chart.primary) e)

follows_literal : (s : Sort) (ts : List Terminal) → next_sort ts ≡ s → s ≢ sort.Name → s ≢ sort.Shared → s ≢ sort.OpenParen → Follows (part chart.primary ∷ []) ts (r.literal ts)
unfolding r.literal
follows_literal s ts e a b c = literal_by (next_sort ts) ts refl (λ x. a (sym e ∙ x)) (λ x. b (sym e ∙ x)) (λ x. c (sym e ∙ x))

args_choice : (s : Sort) → same_sort s sort.CloseParen ≡ false → chosen chart.args s ≡ Some (part chart.expr ∷ part chart.args_tail ∷ [])
args_choice s e = told_no (same_sort s sort.CloseParen) _ _ e

comma_ends : (s : Sort) → is_sort sort.Comma s ≡ false → chosen chart.args_tail s ≡ Some []
comma_ends s e = told_no (same_sort s sort.Comma) _ _ e

args_facts : (chosen chart.args sort.CloseParen ≡ Some []) × (chosen chart.args_tail sort.Comma ≡ Some (token sort.Comma ∷ part chart.expr ∷ part chart.args_tail ∷ []))
    × (chosen chart.args_tail sort.Other ≡ Some [])
unfolding same_sort
args_facts = (refl, refl, refl)

-- [ args ] ")"
pub follows_args : (W : List Terminal → Type 0) (whole : Reader Expr) → ((ts : List Terminal) → W ts → Follows (part chart.expr ∷ []) ts (whole ts))
    → ((ts : List Terminal) → Sound IsExpr ts (whole ts))
    → ((ws us : List Terminal) → Plain ws → W (ws ++ us) → W us) → (ts : List Terminal) → W ts
    → Follows (part chart.args ∷ token sort.CloseParen ∷ []) ts (enclosed (listed whole) ts)
follows_args W whole reads sound onward =
    follows_enclosed whole IsExpr W chart.args chart.expr chart.args_tail reads sound (λ ws x h. (expr_words h).plain) onward args_facts.0 args_choice args_facts.1 comma_ends args_facts.2

module _ (d : ℕ) (whole : (ts : List Terminal) → span ts < d → Follows (part chart.expr ∷ []) ts (r.nested d level.Whole ts))
    (prefixed : (ts : List Terminal) → span ts < d → Follows (part chart.unary ∷ []) ts (r.nested d level.Prefixed ts)) where
  call_at : (name : Terminal) (us : List Terminal) (b : Bool) → sees sort.OpenParen us ≡ b → span us < d
      → Follows (part chart.call_tail ∷ []) us ((if b then (expect sort.OpenParen >> (λ found. expr.Call name.bytes found name.site) <$> r.args (r.nested d)) else pure
      (expr.Local name.bytes name.site)) us)
  unfolding sees r.args
  call_at name us false e w = stays_part chart.call_tail us (told_no (same_sort (next_sort us) sort.OpenParen) _ _ e)
  call_at name us true e w =
      follows_part {A = Expr} chart.call_tail (token sort.OpenParen ∷ part chart.args ∷ token sort.CloseParen ∷ []) us
      ((expect sort.OpenParen >> (λ found. expr.Call name.bytes found name.site) <$> r.args (r.nested d)) us) (told_yes (same_sort (next_sort us) sort.OpenParen) _ _ e)
      (follows_expect sort.OpenParen (part chart.args ∷ token sort.CloseParen ∷ []) us _ (λ opening vs f h.
      follows_map (part chart.args ∷ token sort.CloseParen ∷ []) vs (enclosed (listed (r.nested d level.Whole)) vs) (λ found. expr.Call name.bytes found name.site)
      (follows_args (λ l. span l < d) (r.nested d level.Whole) whole (sound_whole d) (λ ws rest p x. omega (arith, span_after p rest)) vs (omega (arith, next_span us opening vs f h refl)))))

  follows_named : (ts : List Terminal) → span ts ≤ d → Follows (token sort.Name ∷ part chart.call_tail ∷ []) ts (r.named (r.nested d) ts)
  unfolding r.named
  follows_named ts w = follows_expect sort.Name (part chart.call_tail ∷ []) ts _ (λ name us e h. call_at name us (sees sort.OpenParen us) refl (omega (arith, next_span ts name us e h refl)))

  follows_paren : (ts : List Terminal) → span ts ≤ d → Follows (token sort.OpenParen ∷ part chart.expr ∷ token sort.CloseParen ∷ []) ts (r.paren (r.nested d) ts)
  unfolding r.paren
  follows_paren ts w = follows_expect sort.OpenParen (part chart.expr ∷ token sort.CloseParen ∷ []) ts _ (λ opening us e h.
      follows_then (part chart.expr ∷ []) (token sort.CloseParen ∷ []) us (r.nested d level.Whole us) _ (whole us (omega (arith, next_span ts opening us e h refl)))
      (λ x vs f. follows_expect sort.CloseParen [] vs _ (λ closing ws g k. stays ws)))

  primary_at : (s : Sort) (ts : List Terminal) → next_sort ts ≡ s → span ts ≤ d → Follows (part chart.primary ∷ []) ts (r.primary_by (r.nested d) s ts)
  unfolding same_sort
  primary_at sort.Name ts e w = follows_part chart.primary (token sort.Name ∷ part chart.call_tail ∷ []) ts (r.named (r.nested d) ts) (ap (chosen chart.primary) e) (follows_named ts w)
  primary_at sort.Shared ts e w = follows_part chart.primary (token sort.Shared ∷ token sort.Dot ∷ token sort.Name ∷ []) ts (r.shared_field ts) (ap (chosen chart.primary) e) (follows_shared ts)
  primary_at sort.OpenParen ts e w = follows_part chart.primary (token sort.OpenParen ∷ part chart.expr ∷ token sort.CloseParen ∷ []) ts (r.paren (r.nested d) ts)
      (ap (chosen chart.primary) e) (follows_paren ts w)
  primary_at s ts e w = follows_literal s ts e (λ x. cc) (λ x. cc) (λ x. cc)

  follows_primary : (ts : List Terminal) → span ts ≤ d → Follows (part chart.primary ∷ []) ts (r.primary (r.nested d) ts)
  unfolding r.primary
  follows_primary ts w = primary_at (next_sort ts) ts refl w

  follows_postfix : (ts : List Terminal) → span ts ≤ d → Follows (part chart.postfix ∷ []) ts (r.postfix (r.nested d) ts)
  unfolding r.postfix
  follows_postfix ts w = follows_part chart.postfix (part chart.primary ∷ part chart.field_tail ∷ []) ts (r.postfix (r.nested d) ts) refl
      (follows_then (part chart.primary ∷ []) (part chart.field_tail ∷ []) ts (r.primary (r.nested d) ts) r.fields_after (follows_primary ts w) (λ x us e. follows_fields x us))

  sign_and_unary : (s : Sort) (f : Expr → Terminal → Expr) (ts : List Terminal) → next_sort ts ≡ s → same_sort s sort.Other ≡ false → separates s ≡ false → span ts ≤ d
      → Follows (token s ∷ part chart.unary ∷ []) ts ((take_any >>= (λ mark. (λ e. f e mark) <$> r.nested d level.Prefixed)) ts)
  sign_and_unary s f ts e n p w = follows_take s (part chart.unary ∷ []) ts _ e n
      (λ mark us g h. follows_map (part chart.unary ∷ []) us (r.nested d level.Prefixed us) (λ x. f x mark) (prefixed us (omega (arith, next_span ts mark us g h p))))

  unary_at : (s : Sort) (ts : List Terminal) → next_sort ts ≡ s → span ts ≤ d → Follows (part chart.unary ∷ []) ts (r.unary_by (r.nested d) s ts)
  unfolding same_sort
  unary_at sort.Not ts e w = follows_part chart.unary (token sort.Not ∷ part chart.unary ∷ []) ts (r.unary_by (r.nested d) sort.Not ts) (ap (chosen chart.unary) e)
      (sign_and_unary sort.Not (λ x t. expr.Not x t.site) ts e refl refl w)
  unary_at sort.Minus ts e w =
      follows_part chart.unary (token sort.Minus ∷ part chart.unary ∷ []) ts (r.unary_by (r.nested d) sort.Minus ts) (ap (chosen chart.unary) e)
      (sign_and_unary sort.Minus (λ x t. expr.Minus x t.site) ts e refl refl w)
  unary_at s ts e w = follows_part chart.unary (part chart.postfix ∷ []) ts (r.postfix (r.nested d) ts) (ap (chosen chart.unary) e) (follows_postfix ts w)

  follows_unary : (ts : List Terminal) → span ts ≤ d → Follows (part chart.unary ∷ []) ts (r.unary (r.nested d) ts)
  unfolding r.unary
  follows_unary ts w = unary_at (next_sort ts) ts refl w

  -- chains
  link_reads : (c : Chain) (operand : Reader Expr) → ((ts : List Terminal) → span ts ≤ d → Follows (part (operand_of c) ∷ []) ts (operand ts))
      → (left : Expr) (t : Terminal) (ts : List Terminal) (o : Option Op)
      → chained c t.sort ≡ o → is_some o ≡ true → span (t ∷ ts) ≤ d → Follows (token t.sort ∷ part (operand_of c) ∷ []) (t ∷ ts) (r.binary (r.nested d) operand left o (t ∷ ts))
  link_reads c operand reads left t ts None e s w = absurd cc
  link_reads c operand reads left t ts (Some op) e s w = follows_take t.sort (part (operand_of c) ∷ []) (t ∷ ts) _ refl (chained_other c t.sort op e)
      (λ mark us g h. follows_map (part (operand_of c) ∷ []) us (operand us) (λ right. expr.Binary op left right mark.site)
      (reads us (omega (arith, next_span (t ∷ ts) mark us g h (chained_plain c t.sort op e)))))

  link_sound : (c : Chain) (operand : Reader Expr) (P : List Terminal → Expr → Type 0) → ((ts : List Terminal) → Sound P ts (operand ts))
      → ((ws : List Terminal) (x : Expr) → P ws x → Plain ws)
      → (left : Expr) (t : Terminal) (ts : List Terminal) → Sound (λ ws y. Used Plain ws) (t ∷ ts) (r.link (r.nested d) c operand left (t ∷ ts))
  unfolding r.link
  link_sound c operand P sound plain left t ts =
      sound_binary (r.nested d) (sound_whole d) (sound_prefixed d) P (λ ws y. Used Plain ws) operand sound [] (t ∷ ts) left (chained c t.sort)
      (λ mark us op right same is_op p. used_sign mark us (chained_plain c mark.sort op (ap (chained c) (sym same) ∙ is_op)) (plain us right p))

  chain_yes : (c : Chain) (s : Sort) (o : Option Op) → chained c s ≡ o → is_some o ≡ true → chosen (tail_of c) s
      ≡ Some ((token s ∷ part (operand_of c) ∷ []) ++ part (tail_of c) ∷ [])
  chain_yes c s None e h = absurd cc
  chain_yes c s (Some op) e h = chain_goes_on c s op e

  chain_no : (c : Chain) (s : Sort) (o : Option Op) → chained c s ≡ o → is_some o ≡ false → chosen (tail_of c) s ≡ Some []
  chain_no c s None e h = chain_ends c s e
  chain_no c s (Some op) e h = absurd cc

  chain_nothing : (c : Chain) → chosen (tail_of c) sort.Other ≡ Some []
  unfolding same_sort
  chain_nothing chain.Either = refl
  chain_nothing chain.Both = refl
  chain_nothing chain.Sum = refl
  chain_nothing chain.Product = refl

  follows_linked : (c : Chain) (operand : Reader Expr) (P : List Terminal → Expr → Type 0) → ((ts : List Terminal) → Sound P ts (operand ts))
      → ((ws : List Terminal) (x : Expr) → P ws x → Plain ws)
      → ((ts : List Terminal) → span ts ≤ d → Follows (part (operand_of c) ∷ []) ts (operand ts)) → (ts : List Terminal) → span ts ≤ d → Follows (part (whole_of c) ∷ []) ts
      (r.linked (r.nested d) c operand ts)
  unfolding r.linked r.link
  follows_linked c operand P sound plain reads ts w =
      follows_part (whole_of c) (part (operand_of c) ∷ part (tail_of c) ∷ []) ts (r.linked (r.nested d) c operand ts) (chain_begins c (next_sort ts))
      (follows_then (part (operand_of c) ∷ []) (part (tail_of c) ∷ []) ts (operand ts) (turns (r.is_operator c) (r.link (r.nested d) c operand)) (reads ts w)
      (λ x us e. follows_turns (r.is_operator c) (r.link (r.nested d) c operand) (tail_of c) (λ s. token s ∷ part (operand_of c) ∷ []) (λ l. span l ≤ d) Plain
      (λ s h. chain_yes c s (chained c s) refl h) (λ s h. chain_no c s (chained c s) refl h) (chain_nothing c)
      (λ left t vs v h. link_reads c operand reads left t vs (chained c t.sort) refl h v) (link_sound c operand P sound plain) (plain_onward d)
      x us (omega (arith, low P plain ts (operand ts) x us (sound ts) e))))

  follows_term : (ts : List Terminal) → span ts ≤ d → Follows (part chart.term ∷ []) ts (r.term (r.nested d) ts)
  unfolding r.term
  follows_term = follows_linked chain.Product (r.unary (r.nested d)) IsUnary (sound_unary (r.nested d) (sound_whole d) (sound_prefixed d)) (λ ws x h. (unary_words h).plain) follows_unary

  follows_sum : (ts : List Terminal) → span ts ≤ d → Follows (part chart.sum ∷ []) ts (r.sum (r.nested d) ts)
  unfolding r.sum
  follows_sum = follows_linked chain.Sum (r.term (r.nested d)) IsTerm (sound_term (r.nested d) (sound_whole d) (sound_prefixed d)) (λ ws x h. (term_words h).plain) follows_term

  compare : (left : Expr) (ts : List Terminal) (o : Option Op) → compared (next_sort ts) ≡ o → span ts ≤ d → Follows (part chart.cmp_tail ∷ []) ts (r.cmp_after (r.nested d) left o ts)
  compare left ts None e w = stays_part chart.cmp_tail ts (comparison_ends (next_sort ts) e)
  compare left ts (Some op) e w = follows_part chart.cmp_tail (token (next_sort ts) ∷ part chart.sum ∷ []) ts (r.binary (r.nested d) (r.sum (r.nested d)) left (Some op) ts)
      (comparison_goes_on (next_sort ts) op e)
      (follows_take (next_sort ts) (part chart.sum ∷ []) ts _ refl (compared_other (next_sort ts) op e)
      (λ mark us g h. follows_map (part chart.sum ∷ []) us (r.sum (r.nested d) us) (λ right. expr.Binary op left right mark.site)
      (follows_sum us (omega (arith, next_span ts mark us g h (compared_plain (next_sort ts) op e))))))

  follows_cmp : (ts : List Terminal) → span ts ≤ d → Follows (part chart.cmp ∷ []) ts (r.cmp (r.nested d) ts)
  unfolding r.cmp
  follows_cmp ts w = follows_part chart.cmp (part chart.sum ∷ part chart.cmp_tail ∷ []) ts (r.cmp (r.nested d) ts) refl
      (follows_then (part chart.sum ∷ []) (part chart.cmp_tail ∷ []) ts (r.sum (r.nested d) ts) _ (follows_sum ts w)
      (λ left us e. compare left us (compared (next_sort us)) refl
      (omega (arith, low IsSum (λ ws x h. (sum_words h).plain) ts (r.sum (r.nested d) ts) left us (sound_sum (r.nested d) (sound_whole d) (sound_prefixed d) ts) e))))

  follows_and : (ts : List Terminal) → span ts ≤ d → Follows (part chart.and ∷ []) ts (r.and (r.nested d) ts)
  unfolding r.and
  follows_and = follows_linked chain.Both (r.cmp (r.nested d)) IsCmp (sound_cmp (r.nested d) (sound_whole d) (sound_prefixed d)) (λ ws x h. (cmp_words h).plain) follows_cmp

  follows_or : (ts : List Terminal) → span ts ≤ d → Follows (part chart.or ∷ []) ts (r.or (r.nested d) ts)
  unfolding r.or
  follows_or = follows_linked chain.Either (r.and (r.nested d)) IsAnd (sound_and (r.nested d) (sound_whole d) (sound_prefixed d)) (λ ws x h. (and_words h).plain) follows_and

  branches_at : (test : Expr) (ts : List Terminal) (b : Bool) → sees sort.Question ts ≡ b → span ts ≤ d
      → Follows (part chart.cond_tail ∷ []) ts ((if b then r.branches (r.nested d) test else pure test) ts)
  unfolding sees r.branches
  branches_at test ts false e w = stays_part chart.cond_tail ts (told_no (same_sort (next_sort ts) sort.Question) _ _ e)
  branches_at test ts true e w =
      follows_part chart.cond_tail (token sort.Question ∷ part chart.expr ∷ token sort.Colon ∷ part chart.expr ∷ []) ts (r.branches (r.nested d) test ts)
      (told_yes (same_sort (next_sort ts) sort.Question) _ _ e)
      (follows_expect sort.Question (part chart.expr ∷ token sort.Colon ∷ part chart.expr ∷ []) ts _ (λ question us g h.
      let one : span us < d = omega (arith, next_span ts question us g h refl) in
      follows_then (part chart.expr ∷ []) (token sort.Colon ∷ part chart.expr ∷ []) us (r.nested d level.Whole us) _ (whole us one) (λ left vs k.
      let two : span vs ≤ span us = low IsExpr (λ ws x p. (expr_words p).plain) us (r.nested d level.Whole us) left vs (sound_whole d us) k in
      follows_expect sort.Colon (part chart.expr ∷ []) vs _ (λ colon ws l m.
      follows_map (part chart.expr ∷ []) ws (r.nested d level.Whole ws) _ (whole ws (omega (arith, next_span vs colon ws l m refl)))))))

  follows_choice : (ts : List Terminal) → span ts ≤ d → Follows (part chart.expr ∷ []) ts (r.choice (r.nested d) ts)
  unfolding r.choice
  follows_choice ts w = follows_part chart.expr (part chart.or ∷ part chart.cond_tail ∷ []) ts (r.choice (r.nested d) ts) refl
      (follows_then (part chart.or ∷ []) (part chart.cond_tail ∷ []) ts (r.or (r.nested d) ts) _ (follows_or ts w)
      (λ test us e. branches_at test us (sees sort.Question us) refl
      (omega (arith, low IsOr (λ ws x h. (or_words h).plain) ts (r.or (r.nested d) ts) test us (sound_or (r.nested d) (sound_whole d) (sound_prefixed d) ts) e))))

-- ---- expressions

mutual
  unfolding r.nested

  pub follows_whole : (d : ℕ) (ts : List Terminal) → span ts < d → Follows (part chart.expr ∷ []) ts (r.nested d level.Whole ts)
  follows_whole zero ts w = absurd (omega arith)
  follows_whole (suc d) ts w = follows_choice d (follows_whole d) (follows_prefixed d) ts (omega arith)

  follows_prefixed : (d : ℕ) (ts : List Terminal) → span ts < d → Follows (part chart.unary ∷ []) ts (r.nested d level.Prefixed ts)
  follows_prefixed zero ts w = absurd (omega arith)
  follows_prefixed (suc d) ts w = follows_unary d (follows_whole d) (follows_prefixed d) ts (omega arith)

-- What is read as an expression is spelled so.
use Rattle.std.proofs.Common.{◌≡◌, ℕ, zero, suc, Bool, true, false, not, if◌then◌else◌, List, [], ◌∷◌, ◌++◌, length, Option, Some, None, is_some, Result, Ok, Err}
use Rattle.std.proofs.Common.{refl, sym, ap}
use Rattle.std.proofs.Common.{subst, ◌∙◌, append_assoc, append-nil}
use Rattle.st_ast.specs.declared.expressions.Expr.{Expr}
use Rattle.st_ast.specs.declared.expressions.Expr.TheVariants as expr
use Rattle.st_ast.specs.declared.operators.Op.{Op}
use Rattle.st_grammar.specs.declared.operators.Chain.{Chain}
use Rattle.st_grammar.specs.declared.operators.Chain.TheVariants as chain
use Rattle.st_grammar_laws.specs.declared.levels.Level.{Level}
use Rattle.st_grammar_laws.specs.declared.levels.Level.TheVariants as level
use Rattle.st_grammar.specs.declared.sorts.Sort.{Sort}
use Rattle.st_grammar.specs.declared.sorts.Sort.TheVariants as sort
use Rattle.st_grammar.specs.Grammar as g
use Rattle.st_grammar.specs.Grammar.{IsPlace, IsExpr, IsOr, IsAnd, IsCmp, IsSum, IsTerm, IsUnary, IsPostfix, IsPrimary, AreArgs, AreExprs}
use Rattle.st_grammar.specs.Operators.{chained, compared, IsChained, IsCompared}
use Rattle.st_grammar.specs.Terminals.{Terminal, Is, next_sort}
use Rattle.st_grammar_laws.specs.Reading as r
use Rattle.st_grammar_laws.specs.Reading.{Outcome, Reader, and_then, ◌>>=◌, ◌>>◌, pure, ◌<$>◌, refuse, peek, sees, see, take_any, expect, turns, one_more, is_sort, listed, enclosed}
use Rattle.st_grammar_laws.proofs.SoundLemmas.{Spelled, Sound, After, sound_pure, sound_then, sound_map, sound_weaken, sound_take, sound_expect, sound_turns}
use Rattle.st_grammar_laws.proofs.SoundLists.{exprs_more, sound_listed, sound_enclosed}

-- ---- fields of a place and of an expression

-- a dot and a name
module _ (P : List Terminal → Expr → Type 0)
    (field : (front : List Terminal) (dot name : Terminal) (object : Expr) → P front object → Is sort.Dot dot → Is sort.Name name → P (front ++ dot ∷ name ∷ [])
    (expr.Field object name.bytes dot.site)) where
  pub sound_field : (front us : List Terminal) (object : Expr) → P front object → Sound (After front P) us (r.field_after object us)
  unfolding r.field_after
  sound_field front us object p = sound_expect sort.Dot (After front P) us _ (λ dot vs is_dot. sound_expect sort.Name (After (dot ∷ []) (After front P)) vs _
      (λ name ws is_name. sound_pure _ ws _ (field front dot name object p is_dot is_name)))

  pub sound_fields : (front us : List Terminal) (object : Expr) → P front object → Sound (After front P) us (r.fields_after object us)
  unfolding r.fields_after
  sound_fields front us object p = sound_turns (is_sort sort.Dot) r.field_after P sound_field front us object p

-- what is read as a shared variable is spelled `shared`, dot, name
pub sound_shared : (P : List Terminal → Expr → Type 0) → ((shared dot name : Terminal) → Is sort.Shared shared → Is sort.Dot dot → Is sort.Name name
    → P (shared ∷ dot ∷ name ∷ []) (expr.Shared name.bytes dot.site))
    → (ts : List Terminal) → Sound P ts (r.shared_field ts)
unfolding r.shared_field
sound_shared P h ts = sound_expect sort.Shared P ts _ (λ shared us is_shared. sound_expect sort.Dot _ us _
    (λ dot vs is_dot. sound_expect sort.Name _ vs _ (λ name ws is_name. sound_pure _ ws _ (h shared dot name is_shared is_dot is_name))))

place_fields : (front us : List Terminal) (object : Expr) → IsPlace front object → Sound (After front IsPlace) us (r.fields_after object us)
place_fields = sound_fields IsPlace (λ front dot name object p d n. g.of_field p d n)

local_field : (name : Terminal) (us : List Terminal) → Is sort.Name name → Sound (After (name ∷ []) IsPlace) us (r.field_after (expr.Local name.bytes name.site) us)
unfolding r.field_after
local_field name us n = sound_expect sort.Dot (After (name ∷ []) IsPlace) us _ (λ dot vs is_dot. sound_expect sort.Name _ vs _
    (λ field ws is_name. sound_pure _ ws _ (g.of_local n is_dot is_name)))

-- what is read after a name as its fields makes a target with the name
pub sound_place_after : (name : Terminal) (us : List Terminal) → Is sort.Name name → Sound (After (name ∷ []) IsPlace) us (r.place_after name us)
unfolding r.place_after
sound_place_after name us n =
    sound_then (After (name ∷ []) IsPlace) (After (name ∷ []) IsPlace) us (r.field_after (expr.Local name.bytes name.site) us) r.fields_after (local_field name us n)
    (λ front vs object p. place_fields (name ∷ front) vs object p)

place_at : (s : Sort) (ts : List Terminal) → Sound IsPlace ts (r.place_by s ts)
place_at sort.Shared ts = sound_then IsPlace IsPlace ts (r.shared_field ts) r.fields_after (sound_shared IsPlace (λ shared dot name a b c. g.of_shared a b c) ts) place_fields
place_at s ts = sound_expect sort.Name IsPlace ts r.place_after (λ name us is_name. sound_place_after name us is_name)

-- what is read as a target is spelled as one
pub sound_place : (ts : List Terminal) → Sound IsPlace ts (r.place ts)
unfolding r.place
sound_place ts = place_at (next_sort ts) ts

sound_leaf : (s : Sort) (ts : List Terminal) (f : Terminal → Expr) → next_sort ts ≡ s → ((t : Terminal) → Is s t → IsPrimary (t ∷ []) (f t)) → Sound IsPrimary ts ((f <$> take_any) ts)
sound_leaf s ts f e h = sound_take IsPrimary ts (λ t. pure (f t)) (λ t us split. sound_pure (After (t ∷ []) IsPrimary) us (f t) (h t (record { same = ap next_sort (sym split) ∙ e })))

literal_at : (s : Sort) (ts : List Terminal) → next_sort ts ≡ s → Sound IsPrimary ts (r.literal_by s ts)
literal_at sort.Number ts e = sound_leaf sort.Number ts (λ t. expr.Number t.value t.site) e (λ t h. g.number h)
literal_at sort.True ts e = sound_leaf sort.True ts (λ t. expr.Truth true t.site) e (λ t h. g.truth h)
literal_at sort.False ts e = sound_leaf sort.False ts (λ t. expr.Truth false t.site) e (λ t h. g.untruth h)
literal_at sort.Null ts e = sound_leaf sort.Null ts (λ t. expr.Null t.site) e (λ t h. g.null h)
literal_at _ ts e = tt

sound_literal : (ts : List Terminal) → Sound IsPrimary ts (r.literal ts)
unfolding r.literal
sound_literal ts = literal_at (next_sort ts) ts refl

-- ---- expressions, where those inside are read well

module _ (inner : Level → Reader Expr) (whole_reads : (ts : List Terminal) → Sound IsExpr ts (inner level.Whole ts))
    (prefixed_reads : (ts : List Terminal) → Sound IsUnary ts (inner level.Prefixed ts)) where
  -- the rest of a call after `(`
  pub sound_args : (R : List Terminal → List Expr → Type 0) → ((ts : List Terminal) (closing : Terminal) (xs : List Expr) → AreArgs ts xs → Is sort.CloseParen closing
      → R (ts ++ closing ∷ []) xs)
      → (ts : List Terminal) → Sound R ts (r.args inner ts)
  unfolding r.args
  sound_args R close ts =
      sound_enclosed (listed (inner level.Whole)) AreExprs AreArgs
      (sound_listed (inner level.Whole) IsExpr whole_reads AreExprs (λ us x p. g.last_expr p) (λ us vs comma xs x h c p. exprs_more comma vs x c p h))
      g.no_args (λ us xs h. g.some_args h) R close ts

  call_or_name : (name : Terminal) (us : List Terminal) (b : Bool) → Is sort.Name name
      → Sound (After (name ∷ []) IsPrimary) us
      ((if b then (expect sort.OpenParen >> (λ found. expr.Call name.bytes found name.site) <$> r.args inner) else pure (expr.Local name.bytes name.site)) us)
  call_or_name name us false n = sound_pure (After (name ∷ []) IsPrimary) us (expr.Local name.bytes name.site) (g.local n)
  call_or_name name us true n =
      let P : List Terminal → List Expr → Type 0 = λ ws xs. IsPrimary (name ∷ ws) (expr.Call name.bytes xs name.site) in
      sound_expect sort.OpenParen (After (name ∷ []) IsPrimary) us (λ _. (λ found. expr.Call name.bytes found name.site) <$> r.args inner)
      (λ opening vs o. sound_map (After (opening ∷ []) P) (After (opening ∷ []) (After (name ∷ []) IsPrimary)) vs (r.args inner vs) (λ found. expr.Call name.bytes found name.site)
      (sound_args (After (opening ∷ []) P) (λ ws closing xs a c. g.call n o a c) vs) (λ front xs p. p))

  sound_named : (ts : List Terminal) → Sound IsPrimary ts (r.named inner ts)
  unfolding r.named
  sound_named ts = sound_expect sort.Name IsPrimary ts _ (λ name us is_name. call_or_name name us (sees sort.OpenParen us) is_name)

  sound_paren : (ts : List Terminal) → Sound IsPrimary ts (r.paren inner ts)
  unfolding r.paren
  sound_paren ts = sound_expect sort.OpenParen IsPrimary ts _ (λ opening us o.
      sound_then IsExpr (After (opening ∷ []) IsPrimary) us (inner level.Whole us) _ (whole_reads us)
      (λ front vs e p. sound_expect sort.CloseParen _ vs _ (λ closing ws c. sound_pure _ ws _ (g.paren o p c))))

  primary_at : (s : Sort) (ts : List Terminal) → Sound IsPrimary ts (r.primary_by inner s ts)
  primary_at sort.Name ts = sound_named ts
  primary_at sort.Shared ts = sound_shared IsPrimary (λ shared dot name a b c. g.shared_field a b c) ts
  primary_at sort.OpenParen ts = sound_paren ts
  primary_at s ts = sound_literal ts

  pub sound_postfix : (ts : List Terminal) → Sound IsPostfix ts (r.postfix inner ts)
  unfolding r.postfix r.primary
  sound_postfix ts =
      sound_then IsPrimary IsPostfix ts (r.primary_by inner (next_sort ts) ts) r.fields_after (primary_at (next_sort ts) ts)
      (λ front us object p. sound_fields IsPostfix (λ before dot name x q d n. g.field_of q d n) front us object (g.primary p))

  prefixed : (s : Sort) (ts : List Terminal) (f : Expr → Terminal → Expr) → next_sort ts ≡ s
      → ((t : Terminal) (us : List Terminal) (e : Expr) → Is s t → IsUnary us e → IsUnary (t ∷ us) (f e t))
      → Sound IsUnary ts ((take_any >>= (λ mark. (λ e. f e mark) <$> inner level.Prefixed)) ts)
  prefixed s ts f e h =
      sound_take IsUnary ts _ (λ t us split. sound_map IsUnary (After (t ∷ []) IsUnary) us (inner level.Prefixed us) (λ x. f x t) (prefixed_reads us)
      (λ front x p. h t front x (record { same = ap next_sort (sym split) ∙ e }) p))

  unary_at : (s : Sort) (ts : List Terminal) → next_sort ts ≡ s → Sound IsUnary ts (r.unary_by inner s ts)
  unary_at sort.Not ts e = prefixed sort.Not ts (λ x t. expr.Not x t.site) e (λ t us x n p. g.not_of n p)
  unary_at sort.Minus ts e = prefixed sort.Minus ts (λ x t. expr.Minus x t.site) e (λ t us x n p. g.minus_of n p)
  unary_at _ ts e = sound_weaken IsPostfix IsUnary ts (r.postfix inner ts) (sound_postfix ts) (λ front x p. g.plain p)

  pub sound_unary : (ts : List Terminal) → Sound IsUnary ts (r.unary inner ts)
  unfolding r.unary
  sound_unary ts = unary_at (next_sort ts) ts refl

  -- an operator and its right operand
  pub sound_binary : (P R : List Terminal → Expr → Type 0) (operand : Reader Expr) → ((ts : List Terminal) → Sound P ts (operand ts))
      → (front ts : List Terminal) (left : Expr) (o : Option Op)
      → ((t : Terminal) (us : List Terminal) (op : Op) (right : Expr) → next_sort ts ≡ t.sort → o ≡ Some op → P us right → R (front ++ t ∷ us) (expr.Binary op left right t.site))
      → Sound (After front R) ts (r.binary inner operand left o ts)
  sound_binary P R operand reads front ts left None h = tt
  sound_binary P R operand reads front ts left (Some op) h =
      sound_take (After front R) ts _ (λ t us split. sound_map P (After (t ∷ []) (After front R)) us (operand us) (λ right. expr.Binary op left right t.site) (reads us)
      (λ words right p. h t words op right (ap next_sort split) refl p))

  sound_linked : (c : Chain) (P R : List Terminal → Expr → Type 0) (operand : Reader Expr) → ((ts : List Terminal) → Sound P ts (operand ts))
      → ((ts : List Terminal) (e : Expr) → P ts e → R ts e)
      → ((ts us : List Terminal) (mark : Terminal) (op : Op) (left right : Expr) → R ts left → IsChained c op mark → P us right → R (ts ++ mark ∷ us) (expr.Binary op left right mark.site))
      → (ts : List Terminal) → Sound R ts (r.linked inner c operand ts)
  unfolding r.linked r.link
  sound_linked c P R operand reads first on ts =
      sound_then P R ts (operand ts) (turns (λ s. is_some (chained c s)) (r.link inner c operand)) (reads ts)
      (λ front us x p. sound_turns (λ s. is_some (chained c s)) (r.link inner c operand) R
      (λ before vs left h. sound_binary P R operand reads before vs left (chained c (next_sort vs))
      (λ t ws op right same is_op q. on before ws t op left right h (record { same = ap (chained c) (sym same) ∙ is_op }) q))
      front us x (first front x p))

  pub sound_term : (ts : List Terminal) → Sound IsTerm ts (r.term inner ts)
  unfolding r.term
  sound_term = sound_linked chain.Product IsUnary IsTerm (r.unary inner) sound_unary (λ ts e p. g.term_first p) (λ ts us mark op left right a b c. g.term_next a b c)

  pub sound_sum : (ts : List Terminal) → Sound IsSum ts (r.sum inner ts)
  unfolding r.sum
  sound_sum = sound_linked chain.Sum IsTerm IsSum (r.term inner) sound_term (λ ts e p. g.sum_first p) (λ ts us mark op left right a b c. g.sum_next a b c)

  compare : (front ts : List Terminal) (left : Expr) (o : Option Op) → compared (next_sort ts) ≡ o → IsSum front left → Sound (After front IsCmp) ts (r.cmp_after inner left o ts)
  compare front ts left None e p = record { front = []; split = refl; spells = subst (λ (l : List Terminal). IsCmp l left) (sym (append-nil front)) (g.cmp_only p) }
  compare front ts left (Some op) e p =
      sound_binary IsSum IsCmp (r.sum inner) sound_sum front ts left (Some op)
      (λ t us op' right same is_op q. g.cmp_both p (record { same = ap compared (sym same) ∙ e ∙ is_op }) q)

  pub sound_cmp : (ts : List Terminal) → Sound IsCmp ts (r.cmp inner ts)
  unfolding r.cmp
  sound_cmp ts = sound_then IsSum IsCmp ts (r.sum inner ts) _ (sound_sum ts) (λ front us left p. compare front us left (compared (next_sort us)) refl p)

  pub sound_and : (ts : List Terminal) → Sound IsAnd ts (r.and inner ts)
  unfolding r.and
  sound_and = sound_linked chain.Both IsCmp IsAnd (r.cmp inner) sound_cmp (λ ts e p. g.and_first p) (λ ts us mark op left right a b c. g.and_next a b c)

  pub sound_or : (ts : List Terminal) → Sound IsOr ts (r.or inner ts)
  unfolding r.or
  sound_or = sound_linked chain.Either IsAnd IsOr (r.and inner) sound_and (λ ts e p. g.or_first p) (λ ts us mark op left right a b c. g.or_next a b c)

  sound_branches : (front ts : List Terminal) (test : Expr) (b : Bool) → IsOr front test → Sound (After front IsExpr) ts ((if b then r.branches inner test else pure test) ts)
  unfolding r.branches
  sound_branches front ts test false p = record { front = []; split = refl; spells = subst (λ (l : List Terminal). IsExpr l test) (sym (append-nil front)) (g.only p) }
  sound_branches front ts test true p =
      sound_expect sort.Question (After front IsExpr) ts _ (λ question us q. sound_then IsExpr _ us (inner level.Whole us) _ (whole_reads us)
      (λ words vs left l. sound_expect sort.Colon _ vs _ (λ colon ws c. sound_map IsExpr _ ws (inner level.Whole ws) _ (whole_reads ws)
      (λ others right h. subst (λ (l : List Terminal). IsExpr l (expr.Cond test left right question.site)) (append_assoc front (question ∷ words) (colon ∷ others)) (g.cond p q l c h)))))

  pub sound_choice : (ts : List Terminal) → Sound IsExpr ts (r.choice inner ts)
  unfolding r.choice
  sound_choice ts = sound_then IsOr IsExpr ts (r.or inner ts) _ (sound_or ts) (λ front us test p. sound_branches front us test (sees sort.Question us) p)

-- ---- expressions

mutual
  unfolding r.nested

  pub sound_whole : (depth : ℕ) (ts : List Terminal) → Sound IsExpr ts (r.nested depth level.Whole ts)
  sound_whole zero ts = tt
  sound_whole (suc depth) ts = sound_choice (r.nested depth) (sound_whole depth) (sound_prefixed depth) ts

  pub sound_prefixed : (depth : ℕ) (ts : List Terminal) → Sound IsUnary ts (r.nested depth level.Prefixed ts)
  sound_prefixed zero ts = tt
  sound_prefixed (suc depth) ts = sound_unary (r.nested depth) (sound_whole depth) (sound_prefixed depth) ts

-- The readers of declarations and programs follow the chart, where the limits on the terminals are kept.
use Rattle.std.proofs.Common.{◌≡◌, ℕ, zero, suc, ◌+◌, ◌≤◌, ◌<◌, Bool, true, false, if◌then◌else◌, List, [], ◌∷◌, ◌++◌, length, Option, Some, None}
use Rattle.std.proofs.Common.{Result, Ok, Err, refl, ap, sym, ◌∙◌, subst, arith}
use Rattle.st_ast.specs.declared.declarations.Class.{Class}
use Rattle.st_ast.specs.declared.declarations.Field.{Field}
use Rattle.st_ast.specs.declared.declarations.Param.{Param}
use Rattle.st_ast.specs.declared.declarations.Pred.{Pred}
use Rattle.st_ast.specs.declared.declarations.Proc.{Proc}
use Rattle.st_ast.specs.declared.declarations.Program.{Program}
use Rattle.st_ast.specs.declared.declarations.Thread.{Thread}
use Rattle.st_ast.specs.declared.declarations.TypeName.{TypeName}
use Rattle.st_grammar.specs.declared.sorts.Sort.{Sort}
use Rattle.st_grammar.specs.declared.sorts.Sort.TheVariants as sort
use Rattle.st_grammar.specs.Grammar.{AreMany, IsType, IsExpr, IsField, IsClass, IsShared, IsParam, IsPred, IsProc, IsThread, IsBlock}
use Rattle.st_grammar.specs.Sorts.{same_sort}
use Rattle.st_grammar.specs.Terminals.{Terminal, Is, next_sort}
use Rattle.st_grammar_laws.specs.Reading as r
use Rattle.st_grammar_laws.specs.Reading.{Outcome, Reader, and_then, ◌>>=◌, ◌>>◌, pure, ◌<$>◌, sees, expect, turns, one_more, many, is_sort, listed, enclosed}
use Rattle.st_charts.specs.Charts.{Symbol, token, part, choice_at, Faults, whole, left_over, goes}
use Rattle.st_grammar_laws.proofs.Chart as chart
use Rattle.st_grammar_laws.proofs.Chart.{Part, Symbols, grammar}
use Rattle.st_grammar_laws.proofs.ChoiceLemmas.{chosen, at_next}
use Rattle.st_grammar_laws.proofs.CompleteProgram.{FirstIs, class_begins, pred_begins, proc_begins, thread_begins, field_begins, class_even, shared_even, pred_even, proc_even}
use Rattle.st_grammar_laws.proofs.CompleteProgram.{thread_even, many_even, field_even, param_plain, params_plain}
use Rattle.st_grammar_laws.proofs.FaultExprs.{low, next_span, always, follows_enclosed}
use Rattle.st_grammar_laws.proofs.FaultStmts.{follows_typed, within_left, within_sign, follows_expr, follows_body, typed_plain}
use Rattle.st_grammar_laws.proofs.Free as free
use Rattle.st_grammar_laws.proofs.LimitLemmas.{step, Within, within_span, within_next, within_even, Even, even_end, even_plain, type_plain, block_even}
use Rattle.st_grammar_laws.proofs.ReaderLemmas.{Follows, follows_then, follows_map, stays, stays_part, told_yes, told_no, follows_expect, follows_part, Used, follows_turns}
use Rattle.st_grammar.proofs.SortLemmas.{sort_means}
use Rattle.st_grammar_laws.proofs.SoundLemmas.{Spelled, Sound, sound_map}
use Rattle.st_grammar_laws.proofs.SoundProgram.{InParens, InBraces, sound_field, sound_fields, sound_class, sound_shared_block, sound_param, sound_params, sound_pred, sound_proc, sound_thread, sound_items}
use Rattle.st_grammar_laws.proofs.SoundStmts.{AfterSign, sound_typed}
use Rattle.st_grammar_laws.proofs.WordLemmas.{span, is_plain, Plain, plain_end, plain_more, plain_append}

-- ---- lists of declarations

module _ (tokens braces : ℕ) {A : Type 0} (s : Sort) (item : Reader A) (P : List Terminal → A → Type 0) (list one : Part) (W : List Terminal → Type 0)
    (begins : (ts : List Terminal) (x : A) → P ts x → FirstIs tokens braces s ts) (even : (ts : List Terminal) (x : A) → P ts x → Even ts)
    (reads : (ts : List Terminal) → W ts → Follows (part one ∷ []) ts (item ts)) (sound : (ts : List Terminal) → Sound P ts (item ts))
    (onward : (ws us : List Terminal) → Even ws → W (ws ++ us) → W us)
    (go : (x : Sort) → same_sort x s ≡ true → chosen list x ≡ Some (part one ∷ part list ∷ [])) (end : (x : Sort) → same_sort x s ≡ false → chosen list x ≡ Some [])
    (nothing : chosen list sort.Other ≡ Some []) where
  item_sound : (xs : List A) (t : Terminal) (ts : List Terminal) → Sound (λ ws y. Used Even ws) (t ∷ ts) (one_more item xs (t ∷ ts))
  item_sound xs t ts = sound_map P (λ ws y. Used Even ws) (t ∷ ts) (item (t ∷ ts)) (λ x. xs ++ x ∷ []) (sound (t ∷ ts))
      (λ ws x p. let b = begins ws x p in record { first = b.first; others = b.others; split = b.split; holds = even ws x p })

  follows_many : (ts : List Terminal) → W ts → Follows (part list ∷ []) ts (many (is_sort s) item ts)
  unfolding many
  follows_many ts w = follows_turns (is_sort s) (one_more item) list (λ x. part one ∷ []) W Even go end nothing
      (λ xs t us v e. follows_map (part one ∷ []) (t ∷ us) (item (t ∷ us)) (λ x. xs ++ x ∷ []) (reads (t ∷ us) v)) item_sound onward [] ts w

nothing_comes : (chosen chart.classes sort.Other ≡ Some []) × (chosen chart.preds sort.Other ≡ Some []) × (chosen chart.procs sort.Other ≡ Some [])
    × (chosen chart.threads sort.Other ≡ Some []) × (chosen chart.fields sort.Other ≡ Some [])
unfolding same_sort
nothing_comes = (refl, refl, refl, refl, refl)

params_facts : (chosen chart.params sort.CloseParen ≡ Some []) × (chosen chart.params_tail sort.Comma ≡ Some (token sort.Comma ∷ part chart.param ∷ part chart.params_tail ∷ []))
    × (chosen chart.params_tail sort.Other ≡ Some [])
unfolding same_sort
params_facts = (refl, refl, refl)

module _ (tokens braces : ℕ) where
  -- ---- fields

  follows_field : (ts : List Terminal) → Follows (part chart.field ∷ []) ts (r.field ts)
  unfolding r.field
  follows_field ts = follows_part chart.field (token sort.Name ∷ token sort.Colon ∷ part chart.type ∷ token sort.Semicolon ∷ []) ts (r.field ts) refl
      (follows_expect sort.Name _ ts _ (λ name us e h.
      follows_then (token sort.Colon ∷ part chart.type ∷ []) (token sort.Semicolon ∷ []) us (r.typed us) _ (follows_typed us)
      (λ kind vs f. follows_expect sort.Semicolon [] vs _ (λ semicolon xs g k. stays xs))))

  follows_fields : (ts : List Terminal) → Follows (token sort.OpenBrace ∷ part chart.fields ∷ token sort.CloseBrace ∷ []) ts (r.fields ts)
  unfolding r.fields
  follows_fields ts = follows_expect sort.OpenBrace _ ts _ (λ opening us e h.
      follows_then (part chart.fields ∷ []) (token sort.CloseBrace ∷ []) us (many (is_sort sort.Name) r.field us) _
      (follows_many tokens braces sort.Name r.field IsField chart.fields chart.field always (λ ws x p. field_begins tokens braces p) (λ ws x p. field_even tokens braces p)
      (λ vs w. follows_field vs) (sound_field tokens braces) (λ ws vs q w. tt)
      (λ x f. told_yes (same_sort x sort.Name) _ _ f) (λ x f. told_no (same_sort x sort.Name) _ _ f) nothing_comes.4 us tt)
      (λ fields vs f. follows_expect sort.CloseBrace [] vs _ (λ closing xs g k. stays xs)))

  follows_class : (ts : List Terminal) → Follows (part chart.class ∷ []) ts (r.class ts)
  unfolding r.class
  follows_class ts = follows_part chart.class (token sort.Class ∷ token sort.Name ∷ token sort.OpenBrace ∷ part chart.fields ∷ token sort.CloseBrace ∷ []) ts (r.class ts) refl
      (follows_expect sort.Class _ ts _ (λ word us e h. follows_expect sort.Name _ us _ (λ name vs f k.
      follows_map (token sort.OpenBrace ∷ part chart.fields ∷ token sort.CloseBrace ∷ []) vs (r.fields vs) _ (follows_fields vs))))

  shared_at : (ts : List Terminal) (b : Bool) → sees sort.Shared ts ≡ b → Follows (part chart.shared_block ∷ []) ts ((if b then (expect sort.Shared >> r.fields) else pure []) ts)
  unfolding sees
  shared_at ts false e = stays_part chart.shared_block ts (told_no (same_sort (next_sort ts) sort.Shared) _ _ e)
  shared_at ts true e = follows_part {A = List Field} chart.shared_block (token sort.Shared ∷ token sort.OpenBrace ∷ part chart.fields ∷ token sort.CloseBrace ∷ []) ts
      ((expect sort.Shared >> r.fields) ts)
      (told_yes (same_sort (next_sort ts) sort.Shared) _ _ e) (follows_expect sort.Shared _ ts (λ _. r.fields) (λ word us f h. follows_fields us))

  follows_shared : (ts : List Terminal) → Follows (part chart.shared_block ∷ []) ts (r.shared_block ts)
  unfolding r.shared_block
  follows_shared ts = shared_at ts (sees sort.Shared ts) refl

  -- ---- parameters

  follows_param : (ts : List Terminal) → Follows (part chart.param ∷ []) ts (r.param ts)
  unfolding r.param
  follows_param ts = follows_part chart.param (token sort.Name ∷ token sort.Colon ∷ part chart.type ∷ []) ts (r.param ts) refl
      (follows_expect sort.Name _ ts _ (λ name us e h. follows_map (token sort.Colon ∷ part chart.type ∷ []) us (r.typed us) _ (follows_typed us)))

  follows_params : (ts : List Terminal) → Follows (token sort.OpenParen ∷ part chart.params ∷ token sort.CloseParen ∷ []) ts (r.params ts)
  unfolding r.params
  follows_params ts = follows_expect sort.OpenParen _ ts (λ _. enclosed (listed r.param)) (λ opening us e h.
      follows_enclosed r.param IsParam always chart.params chart.param chart.params_tail (λ vs w. follows_param vs) (sound_param tokens braces) (λ ws x p. param_plain tokens braces p)
      (λ ws vs q w. tt)
      params_facts.0 (λ s f. told_no (same_sort s sort.CloseParen) _ _ f) params_facts.1 (λ s f. told_no (same_sort s sort.Comma) _ _ f) params_facts.2 us tt)

  params_even : (ws : List Terminal) (x : List Param) → InParens tokens braces ws x → Plain ws
  params_even ws x p = subst Plain p.split (plain_more (is_plain refl p.is_opening) (plain_append (params_plain tokens braces p.are_params) (plain_more (is_plain refl p.is_closing) plain_end)))

  -- ---- predicates, procedures, threads

  follows_pred : (ts : List Terminal) → Within tokens braces 0 ts → Follows (part chart.pred ∷ []) ts (free.pred tokens braces ts)
  unfolding free.pred
  follows_pred ts w = follows_part chart.pred
      (token sort.Pred ∷ token sort.Name ∷ token sort.OpenParen ∷ part chart.params ∷ token sort.CloseParen ∷ token sort.Colon ∷ part chart.type ∷ token sort.Assign
      ∷ part chart.expr ∷ token sort.Semicolon ∷ []) ts (free.pred tokens braces ts) refl
      (follows_expect sort.Pred _ ts _ (λ word us e h. follows_expect sort.Name _ us _ (λ name vs f k.
      let one : span vs ≤ tokens = omega (arith, within_span w, next_span ts word us e h refl, next_span us name vs f k refl) in
      follows_then (token sort.OpenParen ∷ part chart.params ∷ token sort.CloseParen ∷ []) _ vs (r.params vs) _ (follows_params vs) (λ params xs p.
      let two : span xs ≤ tokens = omega (arith, low (InParens tokens braces) params_even vs (r.params vs) params xs (sound_params tokens braces vs) p) in
      follows_then (token sort.Colon ∷ part chart.type ∷ []) _ xs (r.typed xs) _ (follows_typed xs) (λ kind ys q.
      let three : span ys ≤ tokens = omega (arith, low (AfterSign tokens braces sort.Colon IsType) (typed_plain tokens braces) xs (r.typed xs) kind ys (sound_typed tokens braces xs) q) in
      follows_expect sort.Assign _ ys _ (λ assign zs g l.
      follows_then (part chart.expr ∷ []) (token sort.Semicolon ∷ []) zs (free.whole tokens braces zs) _ (follows_expr tokens braces zs (omega (arith, next_span ys assign zs g l refl)))
      (λ body rest m. follows_expect sort.Semicolon [] rest _ (λ semicolon left i j. stays left))))))))

  follows_proc : (ts : List Terminal) → Within tokens braces 0 ts → Follows (part chart.proc ∷ []) ts (free.proc tokens braces ts)
  unfolding free.proc
  follows_proc ts w = follows_part chart.proc (token sort.Proc ∷ token sort.Name ∷ token sort.OpenParen ∷ part chart.params ∷ token sort.CloseParen ∷ part chart.block ∷ []) ts
      (free.proc tokens braces ts) refl
      (follows_expect sort.Proc _ ts _ (λ word us e h. follows_expect sort.Name _ us _ (λ name vs f k.
      let one : Within tokens braces 0 vs = within_sign tokens braces 0 us vs f k refl (within_sign tokens braces 0 ts us e h refl w) in
      follows_then (token sort.OpenParen ∷ part chart.params ∷ token sort.CloseParen ∷ []) (part chart.block ∷ []) vs (r.params vs) _ (follows_params vs) (λ params xs p.
      follows_map (part chart.block ∷ []) xs (free.body_block tokens braces xs) _ (follows_body tokens braces xs
      (within_left tokens braces 0 (InParens tokens braces) (λ ws x q. even_plain (params_even ws x q)) vs (r.params vs) params xs (sound_params tokens braces vs) p one))))))

  follows_thread : (ts : List Terminal) → Within tokens braces 0 ts → Follows (part chart.thread ∷ []) ts (free.thread tokens braces ts)
  unfolding free.thread
  follows_thread ts w = follows_part chart.thread (token sort.Thread ∷ token sort.Name ∷ part chart.block ∷ []) ts (free.thread tokens braces ts) refl
      (follows_expect sort.Thread _ ts _ (λ word us e h. follows_expect sort.Name _ us _ (λ name vs f k.
      follows_map (part chart.block ∷ []) vs (free.body_block tokens braces vs) _
      (follows_body tokens braces vs (within_sign tokens braces 0 us vs f k refl (within_sign tokens braces 0 ts us e h refl w))))))

  -- ---- programs

  -- to the end of the terminals
  abbrev pub Final : {A : Type 0} → Symbols → List Terminal → Outcome A → Type 0
  Final cs ts (Ok p) = Faults grammar cs ts None
  Final cs ts (Err rest) = Faults grammar cs ts (Some rest)

  final_on : {A : Type 0} (cs ds : Symbols) (ts us : List Terminal) (o : Outcome A) → ((ss : Symbols) (p : Option (List Terminal)) → Faults grammar ss us p → Faults grammar (cs ++ ss) ts p)
      → Final ds us o → Final (cs ++ ds) ts o
  final_on cs ds ts us (Ok p) on h = on ds None h
  final_on cs ds ts us (Err rest) on h = on ds (Some rest) h

  final_then : {A C : Type 0} (cs ds : Symbols) (ts : List Terminal) (o : Outcome A) (f : A → Reader C) → Follows cs ts o
      → ((x : A) (us : List Terminal) → o ≡ Ok (x, us) → Final ds us (f x us)) → Final (cs ++ ds) ts (and_then o f)
  final_then cs ds ts (Ok p) f a h = final_on cs ds ts p.1 (f p.0 p.1) a.on (h p.0 p.1 refl)
  final_then cs ds ts (Err rest) f a h = a.at ds

  final_finish : {A : Type 0} (ts : List Terminal) (x : A) → Final [] ts (and_then (r.finish ts) (λ _. pure x))
  unfolding r.finish
  final_finish [] x = whole
  final_finish (t ∷ ts) x = left_over

  final_part : {A : Type 0} (c : Symbols) (ts : List Terminal) (o : Outcome A) → chosen chart.program (next_sort ts) ≡ Some c → Final (c ++ []) ts o → Final (part chart.program ∷ []) ts o
  final_part c ts (Ok p) e h = goes (at_next chart.program ts ∙ e) h
  final_part c ts (Err rest) e h = goes (at_next chart.program ts ∙ e) h

  items : {A : Type 0} (P : List Terminal → A → Type 0) → ((ts : List Terminal) (x : A) → P ts x → Even ts) → (ts : List Terminal) (o : Outcome (List A)) (xs : List A) (us : List Terminal)
      → Sound (AreMany P) ts o → o ≡ Ok (xs, us)
      → Within tokens braces 0 ts → Within tokens braces 0 us
  items P even ts o xs us s e w = within_left tokens braces 0 (AreMany P) (λ ws ys p. many_even tokens braces even p) ts o xs us s e w

  pub follows_program : (ts : List Terminal) → Within tokens braces 0 ts → Final (part chart.program ∷ []) ts (free.program tokens braces ts)
  unfolding free.program
  follows_program ts w = final_part (part chart.classes ∷ part chart.shared_block ∷ part chart.preds ∷ part chart.procs ∷ part chart.threads ∷ []) ts (free.program tokens braces ts) refl
      (final_then (part chart.classes ∷ []) _ ts (many (is_sort sort.Class) r.class ts) _
      (follows_many tokens braces sort.Class r.class IsClass chart.classes chart.class (Within tokens braces 0) (λ ws x p. class_begins tokens braces p)
      (λ ws x p. class_even tokens braces p) (λ us v. follows_class us) (sound_class tokens braces)
      (λ ws us e v. within_even us e v) (λ x f. told_yes (same_sort x sort.Class) _ _ f) (λ x f. told_no (same_sort x sort.Class) _ _ f) nothing_comes.0 ts w)
      (λ classes us a. let one : Within tokens braces 0 us = items IsClass (λ ws x p. class_even tokens braces p) ts (many (is_sort sort.Class) r.class ts) classes us
      (sound_items tokens braces r.class IsClass (sound_class tokens braces) sort.Class ts) a w in
      final_then (part chart.shared_block ∷ []) _ us (r.shared_block us) _ (follows_shared us) (λ shared vs b.
      let two : Within tokens braces 0 vs = within_left tokens braces 0 IsShared (λ ws x p. shared_even tokens braces p) us (r.shared_block us) shared vs
      (sound_shared_block tokens braces us) b one in
      final_then (part chart.preds ∷ []) _ vs (many (is_sort sort.Pred) (free.pred tokens braces) vs) _
      (follows_many tokens braces sort.Pred (free.pred tokens braces) IsPred chart.preds chart.pred (Within tokens braces 0) (λ ws x p. pred_begins tokens braces p)
      (λ ws x p. pred_even tokens braces p) follows_pred (sound_pred tokens braces)
      (λ ws us e v. within_even us e v) (λ x f. told_yes (same_sort x sort.Pred) _ _ f) (λ x f. told_no (same_sort x sort.Pred) _ _ f) nothing_comes.1 vs two)
      (λ preds xs c.
      let three : Within tokens braces 0 xs = items IsPred (λ ws x p. pred_even tokens braces p) vs (many (is_sort sort.Pred) (free.pred tokens braces) vs) preds xs
      (sound_items tokens braces (free.pred tokens braces) IsPred (sound_pred tokens braces) sort.Pred vs) c two in
      final_then (part chart.procs ∷ []) _ xs (many (is_sort sort.Proc) (free.proc tokens braces) xs) _
      (follows_many tokens braces sort.Proc (free.proc tokens braces) IsProc chart.procs chart.proc (Within tokens braces 0) (λ ws x p. proc_begins tokens braces p)
      (λ ws x p. proc_even tokens braces p) follows_proc (sound_proc tokens braces)
      (λ ws us e v. within_even us e v) (λ x f. told_yes (same_sort x sort.Proc) _ _ f) (λ x f. told_no (same_sort x sort.Proc) _ _ f) nothing_comes.2 xs three)
      (λ procs ys d.
      let four : Within tokens braces 0 ys = items IsProc (λ ws x p. proc_even tokens braces p) xs (many (is_sort sort.Proc) (free.proc tokens braces) xs) procs ys
      (sound_items tokens braces (free.proc tokens braces) IsProc (sound_proc tokens braces) sort.Proc xs) d three in
      final_then (part chart.threads ∷ []) [] ys (many (is_sort sort.Thread) (free.thread tokens braces) ys) _
      (follows_many tokens braces sort.Thread (free.thread tokens braces) IsThread chart.threads chart.thread (Within tokens braces 0) (λ ws x p. thread_begins tokens braces p)
      (λ ws x p. thread_even tokens braces p) follows_thread
      (sound_thread tokens braces) (λ ws us e v. within_even us e v) (λ x f. told_yes (same_sort x sort.Thread) _ _ f) (λ x f. told_no (same_sort x sort.Thread) _ _ f) nothing_comes.3 ys four)
      (λ threads zs e. final_finish zs _))))))

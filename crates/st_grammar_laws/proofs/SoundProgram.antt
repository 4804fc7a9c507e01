-- What is read as a declaration or a program is spelled so.
use Rattle.std.proofs.Common.{◌≡◌, ℕ, Bool, true, false, if◌then◌else◌, List, [], ◌∷◌, ◌++◌, Result, Ok, Err, refl, sym, ap, subst, ◌∙◌, append_assoc, append-nil}
use Rattle.st_ast.specs.declared.declarations.Class.{Class}
use Rattle.st_ast.specs.declared.declarations.Field.{Field}
use Rattle.st_ast.specs.declared.declarations.Param.{Param}
use Rattle.st_ast.specs.declared.declarations.Pred.{Pred}
use Rattle.st_ast.specs.declared.declarations.Proc.{Proc}
use Rattle.st_ast.specs.declared.declarations.Program.{Program}
use Rattle.st_ast.specs.declared.declarations.Thread.{Thread}
use Rattle.st_ast.specs.declared.declarations.TypeName.{TypeName}
use Rattle.st_ast.specs.declared.expressions.Expr.{Expr}
use Rattle.st_grammar.specs.declared.sorts.Sort.{Sort}
use Rattle.st_grammar.specs.declared.sorts.Sort.TheVariants as sort
use Rattle.st_grammar.specs.Grammar as g
use Rattle.st_grammar.specs.Grammar.{AreMany, AreListed, IsExpr, IsType, IsBlock, IsField, IsClass, IsShared, IsParam, AreParams, IsPred, IsProc, IsThread, Parses}
use Rattle.st_grammar.specs.Terminals.{Terminal, Is, next_sort}
use Rattle.st_grammar_laws.specs.Reading as r
use Rattle.st_grammar_laws.specs.Reading.{Outcome, Reader, and_then, ◌>>=◌, ◌>>◌, pure, ◌<$>◌, sees, see, expect, many, is_sort, listed, enclosed}
use Rattle.st_grammar_laws.proofs.SoundLemmas.{Spelled, Sound, After, sound_pure, sound_then, sound_map, sound_weaken, sound_expect}
use Rattle.st_grammar_laws.proofs.SoundLists.{many_more, listed_more, sound_many, sound_listed, sound_enclosed}
use Rattle.st_grammar_laws.proofs.SoundStmts.{AfterSign, sound_typed, sound_expr, sound_body}
use Rattle.st_grammar_laws.proofs.Free as free

module _ (tokens braces : ℕ) where
  pub sound_field : (ts : List Terminal) → Sound IsField ts (r.field ts)
  unfolding r.field
  sound_field ts = sound_expect sort.Name IsField ts _ (λ name us n. sound_then (AfterSign tokens braces sort.Colon IsType) (After (name ∷ []) IsField) us (r.typed us) _
      (sound_typed tokens braces us) (λ front vs kind t.
      sound_expect sort.Semicolon (λ l x. IsField (name ∷ (front ++ l)) x) vs _ (λ semicolon ws s.
      sound_pure _ ws _ (subst (λ (l : List Terminal). IsField (name ∷ (l ++ semicolon ∷ [])) (record { name = name.bytes; kind = kind; site = name.site })) t.split
      (g.field n t.is_sign t.spelled s)))))

  -- "{" { field } "}"
  pub record InBraces (ts : List Terminal) (fields : List Field) : Type 0 where
    pub opening : Terminal
    pub words : List Terminal
    pub closing : Terminal
    pub split : opening ∷ (words ++ closing ∷ []) ≡ ts
    pub is_opening : Is sort.OpenBrace opening
    pub are_fields : AreMany IsField words fields
    pub is_closing : Is sort.CloseBrace closing

  pub sound_fields : (ts : List Terminal) → Sound InBraces ts (r.fields ts)
  unfolding r.fields
  sound_fields ts = sound_expect sort.OpenBrace InBraces ts _ (λ opening us o.
      sound_then (AreMany IsField) (After (opening ∷ []) InBraces) us (many (is_sort sort.Name) r.field us) _
      (sound_many r.field IsField sound_field (AreMany IsField) (is_sort sort.Name) g.none (λ before words xs x h p. many_more IsField words x p h) us)
      (λ front vs fields p. sound_expect sort.CloseBrace (λ l x. InBraces (opening ∷ (front ++ l)) x) vs _ (λ closing ws c.
      sound_pure _ ws fields (record { opening = opening; words = front; closing = closing; split = refl; is_opening = o; are_fields = p; is_closing = c }))))

  pub sound_class : (ts : List Terminal) → Sound IsClass ts (r.class ts)
  unfolding r.class
  sound_class ts = sound_expect sort.Class IsClass ts _ (λ word us w. sound_expect sort.Name (After (word ∷ []) IsClass) us _ (λ name vs n.
      sound_map InBraces (After (word ∷ name ∷ []) IsClass) vs (r.fields vs) (λ fields. record { name = name.bytes; fields = fields; site = name.site }) (sound_fields vs) (λ front fields p.
      subst (λ (l : List Terminal). IsClass (word ∷ name ∷ l) (record { name = name.bytes; fields = fields; site = name.site })) p.split (g.class w n p.is_opening p.are_fields p.is_closing))))

  shared_at : (ts : List Terminal) (b : Bool) → Sound IsShared ts ((if b then (expect sort.Shared >> r.fields) else pure []) ts)
  shared_at ts true = sound_expect sort.Shared IsShared ts (λ _. r.fields) (λ word us w. sound_weaken InBraces (After (word ∷ []) IsShared) us (r.fields us) (sound_fields us) (λ front fields p.
      subst (λ (l : List Terminal). IsShared (word ∷ l) fields) p.split (g.shared_block w p.is_opening p.are_fields p.is_closing)))
  shared_at ts false = sound_pure IsShared ts [] g.no_shared

  pub sound_shared_block : (ts : List Terminal) → Sound IsShared ts (r.shared_block ts)
  unfolding r.shared_block
  sound_shared_block ts = shared_at ts (sees sort.Shared ts)

  pub sound_param : (ts : List Terminal) → Sound IsParam ts (r.param ts)
  unfolding r.param
  sound_param ts = sound_expect sort.Name IsParam ts _ (λ name us n. sound_map (AfterSign tokens braces sort.Colon IsType) (After (name ∷ []) IsParam) us (r.typed us) _
      (sound_typed tokens braces us) (λ front kind t.
      subst (λ (l : List Terminal). IsParam (name ∷ l) (record { name = name.bytes; kind = kind; site = name.site })) t.split (g.param n t.is_sign t.spelled)))

  -- "(" [ params ] ")"
  pub record InParens (ts : List Terminal) (params : List Param) : Type 0 where
    pub opening : Terminal
    pub words : List Terminal
    pub closing : Terminal
    pub split : opening ∷ (words ++ closing ∷ []) ≡ ts
    pub is_opening : Is sort.OpenParen opening
    pub are_params : AreParams words params
    pub is_closing : Is sort.CloseParen closing

  pub sound_params : (ts : List Terminal) → Sound InParens ts (r.params ts)
  unfolding r.params
  sound_params ts = sound_expect sort.OpenParen InParens ts (λ _. enclosed (listed r.param)) (λ opening us o.
      sound_enclosed (listed r.param) (AreListed IsParam) AreParams
      (sound_listed r.param IsParam sound_param (AreListed IsParam) (λ vs x p. g.last p) (λ vs ws comma xs x h c p. listed_more IsParam comma ws x c p h))
      g.no_params (λ vs xs h. g.some_params h) (After (opening ∷ []) InParens)
      (λ words closing xs a c. record { opening = opening; words = words; closing = closing; split = refl; is_opening = o; are_params = a; is_closing = c }) us)

  pred_words : (word name opening : Terminal) (ts : List Terminal) (closing colon : Terminal) (us : List Terminal) (assign : Terminal) (vs : List Terminal) (semicolon : Terminal)
      → (word ∷ name ∷ opening ∷ ts ++ closing ∷ colon ∷ us ++ assign ∷ vs ++ semicolon ∷ [])
      ≡ word ∷ name ∷ ((opening ∷ (ts ++ closing ∷ [])) ++ ((colon ∷ us) ++ (assign ∷ (vs ++ semicolon ∷ []))))
  pred_words word name opening ts closing colon us assign vs semicolon = simp append_assoc

  pub sound_pred : (ts : List Terminal) → Sound IsPred ts ((free.pred tokens braces) ts)
  unfolding free.pred
  sound_pred ts = sound_expect sort.Pred IsPred ts _ (λ word us w. sound_expect sort.Name (After (word ∷ []) IsPred) us _ (λ name vs n.
      sound_then InParens (After (word ∷ name ∷ []) IsPred) vs (r.params vs) _ (sound_params vs) (λ front ws params p.
      sound_then (AfterSign tokens braces sort.Colon IsType) (λ l x. IsPred (word ∷ name ∷ (front ++ l)) x) ws (r.typed ws) _ (sound_typed tokens braces ws) (λ more xs kind t.
      sound_expect sort.Assign (λ l x. IsPred (word ∷ name ∷ (front ++ (more ++ l))) x) xs _ (λ assign ys a.
      sound_then IsExpr (λ l x. IsPred (word ∷ name ∷ (front ++ (more ++ (assign ∷ l)))) x) ys ((free.whole tokens braces) ys) _ (sound_expr tokens braces ys) (λ body zs e q.
      sound_expect sort.Semicolon (λ l x. IsPred (word ∷ name ∷ (front ++ (more ++ (assign ∷ (body ++ l))))) x) zs _ (λ semicolon left s.
      sound_pure _ left _ (subst (λ (l : List Terminal). IsPred (word ∷ name ∷ (l ++ (more ++ (assign ∷ (body ++ semicolon ∷ [])))))
      (record { name = name.bytes; params = params; result = kind; body = e; site = name.site })) p.split
      (subst (λ (l : List Terminal). IsPred (word ∷ name ∷ ((p.opening ∷ (p.words ++ p.closing ∷ [])) ++ (l ++ (assign ∷ (body ++ semicolon ∷ [])))))
      (record { name = name.bytes; params = params; result = kind; body = e; site = name.site })) t.split
      (subst (λ (l : List Terminal). IsPred l (record { name = name.bytes; params = params; result = kind; body = e; site = name.site }))
      (pred_words word name p.opening p.words p.closing t.sign t.words assign body semicolon)
      (g.pred w n p.is_opening p.are_params p.is_closing t.is_sign t.spelled a q s)))))))))))

  proc_words : (word name opening : Terminal) (ts : List Terminal) (closing : Terminal) (us : List Terminal)
      → (word ∷ name ∷ opening ∷ ts ++ closing ∷ us) ≡ word ∷ name ∷ ((opening ∷ (ts ++ closing ∷ [])) ++ us)
  proc_words word name opening ts closing us = simp append_assoc

  pub sound_proc : (ts : List Terminal) → Sound IsProc ts ((free.proc tokens braces) ts)
  unfolding free.proc
  sound_proc ts = sound_expect sort.Proc IsProc ts _ (λ word us w. sound_expect sort.Name (After (word ∷ []) IsProc) us _ (λ name vs n.
      sound_then InParens (After (word ∷ name ∷ []) IsProc) vs (r.params vs) _ (sound_params vs) (λ front ws params p.
      sound_map IsBlock (λ l x. IsProc (word ∷ name ∷ (front ++ l)) x) ws ((free.body_block tokens braces) ws) _ (sound_body tokens braces ws) (λ block body b.
      subst (λ (l : List Terminal). IsProc (word ∷ name ∷ (l ++ block)) (record { name = name.bytes; params = params; body = body; site = name.site })) p.split
      (subst (λ (l : List Terminal). IsProc l (record { name = name.bytes; params = params; body = body; site = name.site })) (proc_words word name p.opening p.words p.closing block)
      (g.proc w n p.is_opening p.are_params p.is_closing b))))))

  pub sound_thread : (ts : List Terminal) → Sound IsThread ts ((free.thread tokens braces) ts)
  unfolding free.thread
  sound_thread ts = sound_expect sort.Thread IsThread ts _ (λ word us w. sound_expect sort.Name (After (word ∷ []) IsThread) us _ (λ name vs n.
      sound_map IsBlock (After (word ∷ name ∷ []) IsThread) vs ((free.body_block tokens braces) vs) _ (sound_body tokens braces vs) (λ block body b. g.thread w n b)))

  pub sound_items : {A : Type 0} (item : Reader A) (P : List Terminal → A → Type 0) → ((ts : List Terminal) → Sound P ts (item ts)) → (s : Sort) (ts : List Terminal)
      → Sound (AreMany P) ts (many (is_sort s) item ts)
  sound_items item P reads s ts = sound_many item P reads (AreMany P) (is_sort s) g.none (λ before words xs x h p. many_more P words x p h) ts

  program_words : (ts us vs ws xs : List Terminal) → (ts ++ us ++ vs ++ ws ++ xs) ≡ ts ++ (us ++ (vs ++ (ws ++ (xs ++ []))))
  program_words ts us vs ws xs = simp (append_assoc, append-nil)

  sound_finish : {A : Type 0} (R : List Terminal → A → Type 0) (ts : List Terminal) (x : A) → R [] x → Sound R ts (and_then (r.finish ts) (λ _. pure x))
  unfolding r.finish
  sound_finish R [] x h = sound_pure R [] x h
  sound_finish R (t ∷ ts) x h = tt

  pub sound_program : (ts : List Terminal) → Sound Parses ts ((free.program tokens braces) ts)
  unfolding free.program
  sound_program ts =
      sound_then (AreMany IsClass) Parses ts (many (is_sort sort.Class) r.class ts) _ (sound_items r.class IsClass sound_class sort.Class ts) (λ a us classes p.
      sound_then IsShared (After a Parses) us (r.shared_block us) _ (sound_shared_block us) (λ b vs shared q.
      sound_then (AreMany IsPred) (λ l x. Parses (a ++ (b ++ l)) x) vs (many (is_sort sort.Pred) (free.pred tokens braces) vs) _
      (sound_items (free.pred tokens braces) IsPred sound_pred sort.Pred vs) (λ c ws preds h.
      sound_then (AreMany IsProc) (λ l x. Parses (a ++ (b ++ (c ++ l))) x) ws (many (is_sort sort.Proc) (free.proc tokens braces) ws) _
      (sound_items (free.proc tokens braces) IsProc sound_proc sort.Proc ws) (λ d xs procs k.
      sound_then (AreMany IsThread) (λ l x. Parses (a ++ (b ++ (c ++ (d ++ l)))) x) xs (many (is_sort sort.Thread) (free.thread tokens braces) xs) _
      (sound_items (free.thread tokens braces) IsThread sound_thread sort.Thread xs) (λ e ys threads m.
      sound_finish (λ l x. Parses (a ++ (b ++ (c ++ (d ++ (e ++ l))))) x) ys (record { classes = classes; shared = shared; preds = preds; procs = procs; threads = threads })
      (subst (λ (l : List Terminal). Parses l (record { classes = classes; shared = shared; preds = preds; procs = procs; threads = threads })) (program_words a b c d e) (g.program p q h k m)))))))

  -- ---- nothing is left after a program

  abbrev Ends : {A : Type 0} → Outcome A → Type 0
  Ends (Ok p) = p.1 ≡ []
  Ends (Err rest) = Unit {0}

  ends_then : {A B : Type 0} (o : Outcome A) (f : A → Reader B) → ((x : A) (us : List Terminal) → Ends (f x us)) → Ends (and_then o f)
  ends_then (Ok p) f h = h p.0 p.1
  ends_then (Err rest) f h = tt

  ends_finish : {A : Type 0} (ts : List Terminal) (x : A) → Ends (and_then (r.finish ts) (λ _. pure x))
  unfolding r.finish
  ends_finish [] x = refl
  ends_finish (t ∷ ts) x = tt

  program_ends : (ts : List Terminal) → Ends ((free.program tokens braces) ts)
  unfolding free.program
  program_ends ts = ends_then (many (is_sort sort.Class) r.class ts) _
      (λ classes us. ends_then (r.shared_block us) _ (λ shared vs. ends_then (many (is_sort sort.Pred) (free.pred tokens braces) vs) _ (λ preds ws.
      ends_then (many (is_sort sort.Proc) (free.proc tokens braces) ws) _ (λ procs xs. ends_then (many (is_sort sort.Thread) (free.thread tokens braces) xs) _ (λ threads ys. ends_finish ys _)))))

  -- a program that is read is spelled by all of the terminals
  pub read_is_spelled : (ts : List Terminal) (p : Program) (rest : List Terminal) → (free.program tokens braces) ts ≡ Ok (p, rest) → Parses ts p × (rest ≡ [])
  read_is_spelled ts p rest e =
      let s : Spelled Parses ts p rest = subst (λ (o : Outcome Program). Sound Parses ts o) e (sound_program ts) in
      let nothing : rest ≡ [] = subst (λ (o : Outcome Program). Ends o) e (program_ends ts) in
      let all : s.front ≡ ts = sym (append-nil s.front) ∙ ap (λ (l : List Terminal). s.front ++ l) (sym nothing) ∙ sym s.split in
      (subst (λ (l : List Terminal). Parses l p) all s.spells, nothing)

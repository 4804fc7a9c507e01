-- What is read as a type, a value, a statement or a block is spelled so.
use Rattle.std.proofs.Common.{◌≡◌, ℕ, zero, suc, Bool, true, false, not, if◌then◌else◌, List, [], ◌∷◌, ◌++◌, length, Option, Some, None, Result, Ok, Err, refl, sym}
use Rattle.std.proofs.Common.{ap, subst, ◌∙◌}
use Rattle.std.proofs.Common.{append_assoc, append-nil}
use Rattle.st_ast.specs.declared.declarations.TypeName.{TypeName}
use Rattle.st_ast.specs.declared.declarations.TypeName.TheVariants as types
use Rattle.st_ast.specs.declared.expressions.Expr.{Expr}
use Rattle.st_ast.specs.declared.statements.Stmt.{Stmt}
use Rattle.st_ast.specs.declared.statements.Stmt.TheVariants as stmt
use Rattle.st_ast.specs.declared.statements.Value.{Value}
use Rattle.st_ast.specs.declared.statements.Value.TheVariants as value
use Rattle.st_ast.specs.Sites.{site_of_expr}
use Rattle.st_grammar_laws.specs.declared.levels.Level.TheVariants as level
use Rattle.st_grammar.specs.declared.sorts.Sort.{Sort}
use Rattle.st_grammar.specs.declared.sorts.Sort.TheVariants as sort
use Rattle.st_grammar.specs.Grammar as g
use Rattle.st_grammar.specs.Grammar.{IsPlace, IsExpr, AreArgs, AreExprs, IsType, IsValue, IsStmt, IsElse, IsBlock, AreStmts}
use Rattle.st_grammar.specs.Terminals.{Terminal, Is, next_sort}
use Rattle.st_grammar_laws.specs.Reading as r
use Rattle.st_grammar_laws.specs.Reading.{Outcome, Reader, and_then, ◌>>=◌, ◌>>◌, pure, ◌<$>◌, refuse, peek, sees, see, take_any, expect, turns, one_more, many, is_sort, listed, enclosed}
use Rattle.st_grammar_laws.proofs.SoundLemmas.{Spelled, Sound, After, sound_pure, sound_then, sound_map, sound_weaken, sound_take, sound_expect, sound_turns}
use Rattle.st_grammar_laws.proofs.SoundLists.{exprs_more, stmts_more, sound_many, sound_listed, sound_enclosed}
use Rattle.st_grammar_laws.proofs.SoundExprs.{sound_place, sound_place_after, sound_whole}
use Rattle.st_grammar_laws.proofs.Free as free

module _ (tokens braces : ℕ) where
  -- a sign, and then something
  pub record AfterSign {A : Type 0} (s : Sort) (P : List Terminal → A → Type 0) (ts : List Terminal) (x : A) : Type 0 where
    pub sign : Terminal
    pub words : List Terminal
    pub split : sign ∷ words ≡ ts
    pub is_sign : Is s sign
    pub spelled : P words x

  pub sound_after_sign : {A : Type 0} (s : Sort) (P : List Terminal → A → Type 0) (reader : Reader A) → ((ts : List Terminal) → Sound P ts (reader ts)) → (ts : List Terminal)
      → Sound (AfterSign s P) ts ((expect s >> reader) ts)
  sound_after_sign s P reader reads ts =
      sound_expect s (AfterSign s P) ts (λ _. reader) (λ t us h. sound_weaken P (After (t ∷ []) (AfterSign s P)) us (reader us) (reads us)
      (λ ws x p. record { sign = t; words = ws; split = refl; is_sign = h; spelled = p }))

  -- ---- types

  type_leaf : (s : Sort) (ts : List Terminal) (f : Terminal → TypeName) → next_sort ts ≡ s → ((t : Terminal) → Is s t → IsType (t ∷ []) (f t)) → Sound IsType ts ((f <$> take_any) ts)
  type_leaf s ts f e h = sound_take IsType ts (λ t. pure (f t)) (λ t us split. sound_pure (After (t ∷ []) IsType) us (f t) (h t (record { same = ap next_sort (sym split) ∙ e })))

  type_at : (s : Sort) (ts : List Terminal) → next_sort ts ≡ s → Sound IsType ts (r.type_by s ts)
  type_at sort.Int ts e = type_leaf sort.Int ts (λ t. types.Int) e (λ t h. g.int h)
  type_at sort.Bool ts e = type_leaf sort.Bool ts (λ t. types.Bool) e (λ t h. g.bool h)
  type_at sort.Name ts e = type_leaf sort.Name ts (λ t. types.Class t.bytes t.site) e (λ t h. g.class_name h)
  type_at _ ts e = tt

  pub sound_typed : (ts : List Terminal) → Sound (AfterSign sort.Colon IsType) ts (r.typed ts)
  unfolding r.typed r.type_name
  sound_typed = sound_after_sign sort.Colon IsType r.type_name (λ ts. type_at (next_sort ts) ts refl)

  -- ---- values

  pub sound_expr : (ts : List Terminal) → Sound IsExpr ts ((free.whole tokens braces) ts)
  unfolding free.whole
  sound_expr ts = sound_whole (suc tokens) ts

  pub sound_new : (ts : List Terminal) → Sound IsValue ts (r.new_value ts)
  unfolding r.new_value
  sound_new ts = sound_expect sort.New IsValue ts _ (λ word us w. sound_expect sort.Name _ us _ (λ name vs n. sound_pure _ vs _ (g.new w n)))

  cas_words : (word opening : Terminal) (ts : List Terminal) (comma : Terminal) (us : List Terminal) (comma' : Terminal) (vs : List Terminal) (closing : Terminal)
      → (word ∷ opening ∷ ts ++ comma ∷ us ++ comma' ∷ vs ++ closing ∷ []) ≡ word ∷ opening ∷ (ts ++ (comma ∷ (us ++ (comma' ∷ (vs ++ closing ∷ [])))))
  cas_words word opening ts comma us comma' vs closing = simp append_assoc

  pub sound_cas : (ts : List Terminal) → Sound IsValue ts ((free.cas_value tokens braces) ts)
  unfolding free.cas_value
  sound_cas ts =
      sound_expect sort.Cas IsValue ts _ (λ word us w. sound_expect sort.OpenParen (After (word ∷ []) IsValue) us _ (λ opening vs o.
      sound_then IsPlace (After (word ∷ opening ∷ []) IsValue) vs (r.place vs) _ (sound_place vs) (λ at ws place p.
      sound_expect sort.Comma (After (word ∷ opening ∷ at) IsValue) ws _ (λ comma xs c.
      sound_then IsExpr (λ l x. IsValue (word ∷ opening ∷ (at ++ (comma ∷ l))) x) xs ((free.whole tokens braces) xs) _ (sound_expr xs) (λ wanted ys expected q.
      sound_expect sort.Comma (λ l x. IsValue (word ∷ opening ∷ (at ++ (comma ∷ (wanted ++ l)))) x) ys _ (λ comma' zs c'.
      sound_then IsExpr (λ l x. IsValue (word ∷ opening ∷ (at ++ (comma ∷ (wanted ++ (comma' ∷ l))))) x) zs ((free.whole tokens braces) zs) _ (sound_expr zs) (λ given rest e h.
      sound_expect sort.CloseParen (λ l x. IsValue (word ∷ opening ∷ (at ++ (comma ∷ (wanted ++ (comma' ∷ (given ++ l)))))) x) rest _ (λ closing left k.
      sound_pure _ left _ (subst (λ (l : List Terminal). IsValue l (value.Cas place expected e word.site)) (cas_words word opening at comma wanted comma' given closing)
      (g.cas w o p c q c' h k))))))))))

  value_at : (s : Sort) (ts : List Terminal) → Sound IsValue ts ((free.value_by tokens braces) s ts)
  value_at sort.New ts = sound_new ts
  value_at sort.Cas ts = sound_cas ts
  value_at s ts = sound_map IsExpr IsValue ts ((free.whole tokens braces) ts) value.Plain (sound_expr ts) (λ front e p. g.of_expr p)

  pub sound_value : (ts : List Terminal) → Sound IsValue ts ((free.value_here tokens braces) ts)
  unfolding free.value_here
  sound_value ts = value_at (next_sort ts) ts

  -- "=" value ";"
  pub record Assigned (ts : List Terminal) (v : Value) : Type 0 where
    pub assign : Terminal
    pub words : List Terminal
    pub semicolon : Terminal
    pub split : assign ∷ (words ++ semicolon ∷ []) ≡ ts
    pub is_assign : Is sort.Assign assign
    pub is_value : IsValue words v
    pub is_semicolon : Is sort.Semicolon semicolon

  pub sound_assigned : (ts : List Terminal) → Sound Assigned ts ((free.assigned tokens braces) ts)
  unfolding free.assigned
  sound_assigned ts = sound_expect sort.Assign Assigned ts _ (λ assign us a. sound_then IsValue (After (assign ∷ []) Assigned) us ((free.value_here tokens braces) us) _ (sound_value us)
      (λ words vs v p.
      sound_expect sort.Semicolon (λ l x. Assigned (assign ∷ (words ++ l)) x) vs _ (λ semicolon ws s.
      sound_pure _ ws v (record { assign = assign; words = words; semicolon = semicolon; split = refl; is_assign = a; is_value = p; is_semicolon = s }))))

  -- ---- statements without blocks

  var_words : (word name colon : Terminal) (ts : List Terminal) (assign : Terminal) (us : List Terminal) (semicolon : Terminal)
      → (word ∷ name ∷ colon ∷ ts ++ assign ∷ us ++ semicolon ∷ []) ≡ word ∷ name ∷ ((colon ∷ ts) ++ (assign ∷ (us ++ semicolon ∷ [])))
  var_words word name colon ts assign us semicolon = simp append_assoc

  sound_var : (ts : List Terminal) → Sound IsStmt ts ((free.var_stmt tokens braces) ts)
  unfolding free.var_stmt
  sound_var ts = sound_expect sort.Var IsStmt ts _ (λ word us w. sound_expect sort.Name (After (word ∷ []) IsStmt) us _ (λ name vs n.
      sound_then (AfterSign sort.Colon IsType) (After (word ∷ name ∷ []) IsStmt) vs (r.typed vs) _ (sound_typed vs) (λ front ws kind t.
      sound_map Assigned (λ l x. IsStmt (word ∷ name ∷ (front ++ l)) x) ws ((free.assigned tokens braces) ws) _ (sound_assigned ws) (λ more v a.
      subst (λ (l : List Terminal). IsStmt (word ∷ name ∷ (l ++ more)) (stmt.Var name.bytes name.site kind v word.site)) t.split
      (subst (λ (l : List Terminal). IsStmt (word ∷ name ∷ ((t.sign ∷ t.words) ++ l)) (stmt.Var name.bytes name.site kind v word.site)) a.split
      (subst (λ (l : List Terminal). IsStmt l (stmt.Var name.bytes name.site kind v word.site)) (var_words word name t.sign t.words a.assign a.words a.semicolon)
      (g.var w n t.is_sign t.spelled a.is_assign a.is_value a.is_semicolon)))))))

  sound_put : (front : List Terminal) (place : Expr) → IsPlace front place → (ts : List Terminal) → Sound (After front IsStmt) ts ((free.put_after tokens braces) place ts)
  unfolding free.put_after
  sound_put front place p ts = sound_map Assigned (After front IsStmt) ts ((free.assigned tokens braces) ts) (λ v. stmt.Put place v (site_of_expr place)) (sound_assigned ts) (λ more v a.
      subst (λ (l : List Terminal). IsStmt (front ++ l) (stmt.Put place v (site_of_expr place))) a.split
      (subst (λ (l : List Terminal). IsStmt l (stmt.Put place v (site_of_expr place))) (append_assoc front (a.assign ∷ a.words) (a.semicolon ∷ []))
      (g.put p a.is_assign a.is_value a.is_semicolon)))

  -- arguments and `)`
  record Closed (ts : List Terminal) (xs : List Expr) : Type 0 where
    words : List Terminal
    closing : Terminal
    split : words ++ closing ∷ [] ≡ ts
    are_args : AreArgs words xs
    is_closing : Is sort.CloseParen closing

  sound_closed : (ts : List Terminal) → Sound Closed ts (enclosed (listed (free.whole tokens braces)) ts)
  sound_closed ts =
      sound_enclosed (listed (free.whole tokens braces)) AreExprs AreArgs
      (sound_listed (free.whole tokens braces) IsExpr sound_expr AreExprs (λ us x p. g.last_expr p) (λ us vs comma xs x h c p. exprs_more comma vs x c p h))
      g.no_args (λ us xs h. g.some_args h) Closed (λ us closing xs a c. record { words = us; closing = closing; split = refl; are_args = a; is_closing = c }) ts

  sound_call : (name : Terminal) → Is sort.Name name → (ts : List Terminal) → Sound (After (name ∷ []) IsStmt) ts ((free.call_after tokens braces) name ts)
  unfolding free.call_after
  sound_call name n ts = sound_expect sort.OpenParen (After (name ∷ []) IsStmt) ts _ (λ opening us o.
      sound_then Closed (After (name ∷ opening ∷ []) IsStmt) us (enclosed (listed (free.whole tokens braces)) us) _ (sound_closed us) (λ front vs args c.
      sound_expect sort.Semicolon (λ l x. IsStmt (name ∷ opening ∷ (front ++ l)) x) vs _ (λ semicolon ws s.
      sound_pure _ ws _ (subst (λ (l : List Terminal). IsStmt (name ∷ opening ∷ (l ++ semicolon ∷ [])) (stmt.Call name.bytes args name.site)) c.split
      (subst (λ (l : List Terminal). IsStmt (name ∷ opening ∷ l) (stmt.Call name.bytes args name.site)) (sym (append_assoc c.words (c.closing ∷ []) (semicolon ∷ [])))
      (g.called n o c.are_args c.is_closing s))))))

  after_name_at : (name : Terminal) → Is sort.Name name → (s : Sort) (ts : List Terminal) → Sound (After (name ∷ []) IsStmt) ts ((free.after_name tokens braces) name s ts)
  after_name_at name n sort.Assign ts = sound_map Assigned (After (name ∷ []) IsStmt) ts ((free.assigned tokens braces) ts) (λ v. stmt.Assign name.bytes v name.site) (sound_assigned ts)
      (λ more v a.
      subst (λ (l : List Terminal). IsStmt (name ∷ l) (stmt.Assign name.bytes v name.site)) a.split (g.assigned n a.is_assign a.is_value a.is_semicolon))
  after_name_at name n sort.OpenParen ts = sound_call name n ts
  after_name_at name n sort.Dot ts =
      sound_then (After (name ∷ []) IsPlace) (After (name ∷ []) IsStmt) ts (r.place_after name ts) (free.put_after tokens braces) (sound_place_after name ts n)
      (λ front us place p. sound_put (name ∷ front) place p us)
  after_name_at name n s ts = tt

  pub sound_check : (ts : List Terminal) → Sound IsStmt ts ((free.check_stmt tokens braces) ts)
  unfolding free.check_stmt
  sound_check ts = sound_expect sort.Check IsStmt ts _ (λ word us w. sound_then IsExpr (After (word ∷ []) IsStmt) us ((free.whole tokens braces) us) _ (sound_expr us) (λ front vs body p.
      sound_expect sort.Semicolon (λ l x. IsStmt (word ∷ (front ++ l)) x) vs _ (λ semicolon ws s. sound_pure _ ws _ (g.check w p s))))

  -- "(" expr ")"
  pub record InParens (ts : List Terminal) (e : Expr) : Type 0 where
    pub opening : Terminal
    pub words : List Terminal
    pub closing : Terminal
    pub split : opening ∷ (words ++ closing ∷ []) ≡ ts
    pub is_opening : Is sort.OpenParen opening
    pub is_expr : IsExpr words e
    pub is_closing : Is sort.CloseParen closing

  pub sound_condition : (ts : List Terminal) → Sound InParens ts ((free.condition tokens braces) ts)
  unfolding free.condition
  sound_condition ts = sound_expect sort.OpenParen InParens ts _
      (λ opening us o. sound_then IsExpr (After (opening ∷ []) InParens) us ((free.whole tokens braces) us) _ (sound_expr us) (λ front vs e p.
      sound_expect sort.CloseParen (λ l x. InParens (opening ∷ (front ++ l)) x) vs _ (λ closing ws c.
      sound_pure _ ws _ (record { opening = opening; words = front; closing = closing; split = refl; is_opening = o; is_expr = p; is_closing = c }))))

  -- ---- statements with blocks, where those inside are read well

  if_words : (word opening : Terminal) (ts : List Terminal) (closing : Terminal) (us vs : List Terminal)
      → (word ∷ opening ∷ ts ++ closing ∷ us ++ vs) ≡ word ∷ ((opening ∷ (ts ++ closing ∷ [])) ++ (us ++ vs))
  if_words word opening ts closing us vs = simp append_assoc

  while_words : (word opening : Terminal) (ts : List Terminal) (closing : Terminal) (us : List Terminal)
      → (word ∷ opening ∷ ts ++ closing ∷ us) ≡ word ∷ ((opening ∷ (ts ++ closing ∷ [])) ++ us)
  while_words word opening ts closing us = simp append_assoc

  module _ (inner_block : Reader (List Stmt)) (block_reads : (ts : List Terminal) → Sound IsBlock ts (inner_block ts)) where
    else_at : (ts : List Terminal) (b : Bool) → Sound IsElse ts ((if b then (expect sort.Else >> Some <$> inner_block) else pure None) ts)
    else_at ts true = sound_expect sort.Else IsElse ts _ (λ word us w. sound_map IsBlock (After (word ∷ []) IsElse) us (inner_block us) Some (block_reads us) (λ front body p. g.else_block w p))
    else_at ts false = sound_pure IsElse ts None g.no_else

    sound_else : (ts : List Terminal) → Sound IsElse ts ((free.else_part tokens braces) inner_block ts)
    unfolding free.else_part
    sound_else ts = else_at ts (sees sort.Else ts)

    sound_if : (ts : List Terminal) → Sound IsStmt ts ((free.if_stmt tokens braces) inner_block ts)
    unfolding free.if_stmt
    sound_if ts = sound_expect sort.If IsStmt ts _ (λ word us w. sound_then InParens (After (word ∷ []) IsStmt) us ((free.condition tokens braces) us) _ (sound_condition us) (λ front vs test p.
        sound_then IsBlock (λ l x. IsStmt (word ∷ (front ++ l)) x) vs (inner_block vs) _ (block_reads vs) (λ inner ws body b.
        sound_map IsElse (λ l x. IsStmt (word ∷ (front ++ (inner ++ l))) x) ws ((free.else_part tokens braces) inner_block ws) _ (sound_else ws) (λ others other e.
        subst (λ (l : List Terminal). IsStmt (word ∷ (l ++ (inner ++ others))) (stmt.If test body other word.site)) p.split
        (subst (λ (l : List Terminal). IsStmt l (stmt.If test body other word.site)) (if_words word p.opening p.words p.closing inner others)
        (g.if_then w p.is_opening p.is_expr p.is_closing b e))))))

    sound_while : (ts : List Terminal) → Sound IsStmt ts ((free.while_stmt tokens braces) inner_block ts)
    unfolding free.while_stmt
    sound_while ts = sound_expect sort.While IsStmt ts _ (λ word us w. sound_then InParens (After (word ∷ []) IsStmt) us ((free.condition tokens braces) us) _ (sound_condition us)
        (λ front vs test p.
        sound_map IsBlock (λ l x. IsStmt (word ∷ (front ++ l)) x) vs (inner_block vs) _ (block_reads vs) (λ others body b.
        subst (λ (l : List Terminal). IsStmt (word ∷ (l ++ others)) (stmt.While test body word.site)) p.split
        (subst (λ (l : List Terminal). IsStmt l (stmt.While test body word.site)) (while_words word p.opening p.words p.closing others)
        (g.while_do w p.is_opening p.is_expr p.is_closing b)))))

    stmt_at : (s : Sort) (ts : List Terminal) → Sound IsStmt ts ((free.stmt_by tokens braces) inner_block s ts)
    unfolding free.named_stmt free.shared_stmt
    stmt_at sort.Var ts = sound_var ts
    stmt_at sort.Name ts = sound_expect sort.Name IsStmt ts _ (λ name us n. after_name_at name n (next_sort us) us)
    stmt_at sort.Shared ts = sound_then IsPlace IsStmt ts (r.place ts) (free.put_after tokens braces) (sound_place ts) (λ front us place p. sound_put front place p us)
    stmt_at sort.If ts = sound_if ts
    stmt_at sort.While ts = sound_while ts
    stmt_at sort.Check ts = sound_check ts
    stmt_at s ts = tt

    pub sound_stmt : (ts : List Terminal) → Sound IsStmt ts ((free.statement tokens braces) inner_block ts)
    unfolding free.statement
    sound_stmt ts = stmt_at (next_sort ts) ts

    sound_block : (ts : List Terminal) → Sound IsBlock ts ((free.block_of tokens braces) inner_block ts)
    unfolding free.block_of
    sound_block ts = sound_expect sort.OpenBrace IsBlock ts _ (λ opening us o.
        sound_then AreStmts (After (opening ∷ []) IsBlock) us (many r.in_block ((free.statement tokens braces) inner_block) us) _
        (sound_many ((free.statement tokens braces) inner_block) IsStmt sound_stmt AreStmts r.in_block g.no_stmts (λ before words xs x h p. stmts_more words x p h) us)
        (λ front vs body p. sound_expect sort.CloseBrace (λ l x. IsBlock (opening ∷ (front ++ l)) x) vs _ (λ closing ws c. sound_pure _ ws body (g.block o p c))))

  pub sound_blocks : (depth : ℕ) (ts : List Terminal) → Sound IsBlock ts ((free.blocks tokens braces) depth ts)
  unfolding free.blocks
  sound_blocks zero ts = tt
  sound_blocks (suc depth) ts = sound_block ((free.blocks tokens braces) depth) (sound_blocks depth) ts

  pub sound_body : (ts : List Terminal) → Sound IsBlock ts ((free.body_block tokens braces) ts)
  unfolding free.body_block
  sound_body ts = sound_blocks (suc braces) ts

-- What is read as a list is spelled so.
use Rattle.std.proofs.Common.{◌≡◌, ℕ, Bool, true, false, if◌then◌else◌, List, [], ◌∷◌, ◌++◌, Ok, Err, refl, sym, ap, subst, append_assoc, append-nil}
use Rattle.st_ast.specs.declared.expressions.Expr.{Expr}
use Rattle.st_ast.specs.declared.statements.Stmt.{Stmt}
use Rattle.st_grammar.specs.declared.sorts.Sort.{Sort}
use Rattle.st_grammar.specs.declared.sorts.Sort.TheVariants as sort
use Rattle.st_grammar.specs.Grammar.{AreMany, none, more, AreListed, last, next, IsExpr, AreExprs, last_expr, next_expr, IsStmt, AreStmts, no_stmts, more_stmts}
use Rattle.st_grammar.specs.Terminals.{Terminal, Is}
use Rattle.st_grammar_laws.specs.Reading.{Outcome, Reader, and_then, ◌>>=◌, ◌>>◌, pure, ◌<$>◌, sees, see, expect, turns, one_more, many, is_sort, listed, enclosed}
use Rattle.st_grammar_laws.proofs.SoundLemmas.{Spelled, Sound, After, sound_pure, sound_then, sound_map, sound_weaken, sound_expect, sound_turns}

-- a list and one more item
pub many_more : {A : Type 0} (P : List Terminal → A → Type 0) (us : List Terminal) (x : A) → P us x → {ts : List Terminal} {xs : List A} → AreMany P ts xs
    → AreMany P (ts ++ us) (xs ++ x ∷ [])
many_more P us x p none = subst (λ (l : List Terminal). AreMany P l (x ∷ [])) (append-nil us) (more p none)
many_more P us x p (more {ts = ts} {us = vs} {item = y} {items = ys} q h) =
    subst (λ (l : List Terminal). AreMany P l (y ∷ ys ++ x ∷ [])) (sym (append_assoc ts vs us)) (more q (many_more P us x p h))

-- one statement more after a list of statements
pub stmts_more : (us : List Terminal) (x : Stmt) → IsStmt us x → {ts : List Terminal} {xs : List Stmt} → AreStmts ts xs → AreStmts (ts ++ us) (xs ++ x ∷ [])
stmts_more us x p no_stmts = subst (λ (l : List Terminal). AreStmts l (x ∷ [])) (append-nil us) (more_stmts p no_stmts)
stmts_more us x p (more_stmts {ts = ts} {us = vs} {s = y} {ss = ys} q h) =
    subst (λ (l : List Terminal). AreStmts l (y ∷ ys ++ x ∷ [])) (sym (append_assoc ts vs us)) (more_stmts q (stmts_more us x p h))

-- one item more, after a comma
pub listed_more : {A : Type 0} (P : List Terminal → A → Type 0) (comma : Terminal) (us : List Terminal) (x : A) → Is sort.Comma comma → P us x → {ts : List Terminal} {xs : List A}
    → AreListed P ts xs
    → AreListed P (ts ++ comma ∷ us) (xs ++ x ∷ [])
listed_more P comma us x c p (last q) = next q c (last p)
listed_more P comma us x c p (next {ts = ts} {us = vs} {comma = d} {item = y} {items = ys} q e h) =
    subst (λ (l : List Terminal). AreListed P l (y ∷ ys ++ x ∷ [])) (sym (append_assoc ts (d ∷ vs) (comma ∷ us))) (next q e (listed_more P comma us x c p h))

-- one expression more, after a comma
pub exprs_more : (comma : Terminal) (us : List Terminal) (x : Expr) → Is sort.Comma comma → IsExpr us x → {ts : List Terminal} {xs : List Expr} → AreExprs ts xs
    → AreExprs (ts ++ comma ∷ us) (xs ++ x ∷ [])
exprs_more comma us x c p (last_expr q) = next_expr q c (last_expr p)
exprs_more comma us x c p (next_expr {ts = ts} {us = vs} {comma = d} {e = y} {es = ys} q e h) =
    subst (λ (l : List Terminal). AreExprs l (y ∷ ys ++ x ∷ [])) (sym (append_assoc ts (d ∷ vs) (comma ∷ us))) (next_expr q e (exprs_more comma us x c p h))

module _ {A : Type 0} (item : Reader A) (P : List Terminal → A → Type 0) (reads : (ts : List Terminal) → Sound P ts (item ts)) (L : List Terminal → List A → Type 0) where
  -- { item }
  pub sound_many : (asks : Sort → Bool) → L [] [] → ((ts us : List Terminal) (xs : List A) (x : A) → L ts xs → P us x → L (ts ++ us) (xs ++ x ∷ [])) → (ts : List Terminal)
      → Sound L ts (many asks item ts)
  unfolding many
  sound_many asks start on ts =
      sound_turns asks (one_more item) L (λ front us xs h. sound_map P (After front L) us (item us) (λ x. xs ++ x ∷ []) (reads us) (λ vs x p. on front vs xs x h p)) [] ts [] start

  -- item { "," item }
  record AfterComma (ts : List Terminal) (x : A) : Type 0 where
    comma : Terminal
    words : List Terminal
    split : comma ∷ words ≡ ts
    is_comma : Is sort.Comma comma
    is_item : P words x

  pub sound_listed : ((ts : List Terminal) (x : A) → P ts x → L ts (x ∷ []))
      → ((ts us : List Terminal) (comma : Terminal) (xs : List A) (x : A) → L ts xs → Is sort.Comma comma → P us x → L (ts ++ comma ∷ us) (xs ++ x ∷ [])) → (ts : List Terminal)
      → Sound L ts
      (listed item ts)
  unfolding listed
  sound_listed first on ts =
      sound_then P L ts (item ts) (λ x. turns (is_sort sort.Comma) (one_more (expect sort.Comma >> item)) (x ∷ [])) (reads ts)
      (λ front us x p. sound_turns (is_sort sort.Comma) (one_more (expect sort.Comma >> item)) L
      (λ before vs xs h. sound_map AfterComma (After before L) vs (and_then (expect sort.Comma vs) (λ c. item)) (λ y. xs ++ y ∷ [])
      (sound_expect sort.Comma AfterComma vs (λ c. item) (λ c ws is_comma. sound_weaken P (After (c ∷ []) AfterComma) ws (item ws) (reads ws)
      (λ words y q. record { comma = c; words = words; split = refl; is_comma = is_comma; is_item = q })))
      (λ words y q. subst (λ (l : List Terminal). L (before ++ l) (xs ++ y ∷ [])) q.split (on before q.words q.comma xs y h q.is_comma q.is_item))) front us (x ∷ []) (first front x p))

-- [ list ] ")"
module _ {A : Type 0} (list : Reader (List A)) (L M : List Terminal → List A → Type 0) (reads : (ts : List Terminal) → Sound L ts (list ts))
    (nothing : M [] []) (some : (ts : List Terminal) (xs : List A) → L ts xs → M ts xs) where
  maybe : (ts : List Terminal) (b : Bool) → Sound M ts ((if b then pure [] else list) ts)
  maybe ts true = sound_pure M ts [] nothing
  maybe ts false = sound_weaken L M ts (list ts) (reads ts) some

  pub sound_enclosed : (R : List Terminal → List A → Type 0) → ((ts : List Terminal) (closing : Terminal) (xs : List A) → M ts xs → Is sort.CloseParen closing
      → R (ts ++ closing ∷ []) xs)
      → (ts : List Terminal) → Sound R ts (enclosed list ts)
  unfolding enclosed
  sound_enclosed R close ts =
      sound_then M R ts ((if sees sort.CloseParen ts then pure [] else list) ts) _ (maybe ts (sees sort.CloseParen ts))
      (λ front us xs m. sound_expect sort.CloseParen (After front R) us _ (λ closing vs is_closing. sound_pure _ vs xs (close front closing xs m is_closing)))

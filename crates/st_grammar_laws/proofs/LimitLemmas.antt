-- The limits on the terminals, at each place: how many come before the next `;`, `{` or `}`, and how many braces are open.
use Rattle.std.proofs.Common.{◌≡◌, ℕ, zero, suc, pred, ◌+◌, ◌-◌, ◌≤◌, ◌<◌, Bool, true, false, List, [], ◌∷◌, ◌++◌, length, Option, refl, sym, ap, subst}
use Rattle.std.proofs.Common.{◌∙◌, append_assoc, arith}
use Rattle.st_ast.specs.declared.declarations.TypeName.{TypeName}
use Rattle.st_ast.specs.declared.expressions.Expr.{Expr}
use Rattle.st_ast.specs.declared.statements.Stmt.{Stmt}
use Rattle.st_ast.specs.declared.statements.Value.{Value}
use Rattle.st_grammar.specs.declared.sorts.Sort.{Sort}
use Rattle.st_grammar.specs.declared.sorts.Sort.TheVariants as sort
use Rattle.st_grammar.specs.Grammar as g
use Rattle.st_grammar.specs.Grammar.{IsPlace, IsType, IsValue, IsStmt, IsElse, IsBlock, AreStmts}
use Rattle.st_grammar.specs.Terminals.{Terminal, Is, next_sort}
use Rattle.st_grammar_laws.proofs.WordLemmas.{separates, span, Plain, plain_end, plain_more, plain_append, is_plain, expr_words, args_plain, place_plain}

-- how many braces are open after a token, where so many were before it
abbrev pub step : ℕ → Sort → ℕ
step n sort.OpenBrace = suc n
step n sort.CloseBrace = pred n
step n s = n

-- how many braces are open after these tokens, where so many were before them
abbrev pub open_after : ℕ → List Terminal → ℕ
open_after n [] = n
open_after n (t ∷ ts) = open_after (step n t.sort) ts

-- the limits are kept, where so many braces are open
pub data Within (tokens braces : ℕ) : ℕ → List Terminal → Type 0 where
  within_end : {n : ℕ} → Within tokens braces n []
  within_more : {n : ℕ} {t : Terminal} {ts : List Terminal} → span (t ∷ ts) ≤ tokens → step n t.sort ≤ braces → Within tokens braces (step n t.sort) ts
      → Within tokens braces n (t ∷ ts)

-- where the limits are kept, the next separator is near enough
pub within_span : {tokens braces n : ℕ} {ts : List Terminal} → Within tokens braces n ts → span ts ≤ tokens
within_span within_end = omega arith
within_span (within_more a b w) = a

-- after the first token the limits are kept on, with the braces that are open then
pub within_next : {tokens braces n : ℕ} {t : Terminal} {ts : List Terminal} → Within tokens braces n (t ∷ ts) → (step n t.sort ≤ braces) × Within tokens braces (step n t.sort) ts
within_next (within_more a b w) = (b, w)

-- so they are after any front
pub within_after : {tokens braces : ℕ} (ws us : List Terminal) (n : ℕ) → Within tokens braces n (ws ++ us) → Within tokens braces (open_after n ws) us
within_after [] us n w = w
within_after (t ∷ ws) us n w = within_after ws us (step n t.sort) (within_next w).1

-- as many braces are open after the words as before
pub record Even (ws : List Terminal) : Type 0 where
  pub same : (n : ℕ) → open_after n ws ≡ n

-- after a front that closes what it opens, the same number of braces is open
pub within_even : {tokens braces : ℕ} {ws : List Terminal} {n : ℕ} (us : List Terminal) → Even ws → Within tokens braces n (ws ++ us) → Within tokens braces n us
within_even {tokens = tokens} {braces = braces} {ws = ws} {n = n} us e w = subst (λ (m : ℕ). Within tokens braces m us) (e.same n) (within_after ws us n w)

open_append : (ws us : List Terminal) (n : ℕ) → open_after n (ws ++ us) ≡ open_after (open_after n ws) us
open_append [] us n = refl
open_append (t ∷ ws) us n = open_append ws us (step n t.sort)

-- no tokens open no brace
pub even_end : Even []
even_end = record { same = λ n. refl }

-- two lists that close what they open do so together
pub even_append : {ws us : List Terminal} → Even ws → Even us → Even (ws ++ us)
even_append {ws = ws} {us = us} a b = record { same = λ n. open_append ws us n ∙ b.same (open_after n ws) ∙ a.same n }

plain_step : (n : ℕ) (s : Sort) → separates s ≡ false → step n s ≡ n
plain_step n sort.OpenBrace e = absurd cc
plain_step n sort.CloseBrace e = absurd cc
plain_step n s e = refl

-- so does what has no brace in it
pub even_plain : {ws : List Terminal} → Plain ws → Even ws
even_plain plain_end = even_end
even_plain (plain_more {t = t} {ts = ts} e p) = record { same = λ n. ap (λ (m : ℕ). open_after m ts) (plain_step n t.sort e) ∙ (even_plain p).same n }

-- a semicolon
pub even_semicolon : {t : Terminal} {ws : List Terminal} → Is sort.Semicolon t → Even ws → Even (t ∷ ws)
even_semicolon {ws = ws} h e = record { same = λ n. ap (λ (s : Sort). open_after (step n s) ws) h.same ∙ e.same n }

-- and what stands in a pair of braces, with the pair
pub even_braces : {opening closing : Terminal} {ws : List Terminal} → Is sort.OpenBrace opening → Even ws → Is sort.CloseBrace closing → Even (opening ∷ ws ++ closing ∷ [])
even_braces {opening = opening} {closing = closing} {ws = ws} o e c = record {
  same = λ n. ap (λ (s : Sort). open_after (step n s) (ws ++ closing ∷ [])) o.same ∙ open_append ws (closing ∷ []) (suc n) ∙ ap (λ (m : ℕ). open_after m (closing ∷ [])) (e.same (suc n))
      ∙ ap (λ (s : Sort). step (suc n) s) c.same;
}

-- a type has no separator in it
pub type_plain : {ts : List Terminal} {k : TypeName} → IsType ts k → Plain ts
type_plain (g.int h) = plain_more (is_plain refl h) plain_end
type_plain (g.bool h) = plain_more (is_plain refl h) plain_end
type_plain (g.class_name h) = plain_more (is_plain refl h) plain_end

-- nor has what stands to the right of `=`
pub value_plain : {ts : List Terminal} {v : Value} → IsValue ts v → Plain ts
value_plain (g.of_expr h) = (expr_words h).plain
value_plain (g.new w n) = plain_more (is_plain refl w) (plain_more (is_plain refl n) plain_end)
value_plain (g.cas w o p c h d k e) =
    plain_append (plain_append (plain_append (plain_more (is_plain refl w) (plain_more (is_plain refl o) (place_plain p))) (plain_more (is_plain refl c) (expr_words h).plain))
    (plain_more (is_plain refl d) (expr_words k).plain))
    (plain_more (is_plain refl e) plain_end)

-- ---- statements

-- with what a statement begins
abbrev pub starts_stmt : Sort → Bool
starts_stmt sort.Var = true
starts_stmt sort.Name = true
starts_stmt sort.Shared = true
starts_stmt sort.If = true
starts_stmt sort.While = true
starts_stmt sort.Check = true
starts_stmt s = false

-- the list has a first token, which may begin a statement
pub record Begins (ts : List Terminal) : Type 0 where
  pub first : Terminal
  pub others : List Terminal
  pub split : first ∷ others ≡ ts
  pub starts : starts_stmt first.sort ≡ true

begins_more : {ts : List Terminal} (us : List Terminal) → Begins ts → Begins (ts ++ us)
begins_more us b = record { first = b.first; others = b.others ++ us; split = ap (λ (l : List Terminal). l ++ us) b.split; starts = b.starts }

begins_with : {s : Sort} {t : Terminal} (ts : List Terminal) → starts_stmt s ≡ true → Is s t → Begins (t ∷ ts)
begins_with {t = t} ts e h = record { first = t; others = ts; split = refl; starts = ap starts_stmt h.same ∙ e }

place_begins : {ts : List Terminal} {e : Expr} → IsPlace ts e → Begins ts
place_begins (g.of_local {dot = dot} {name = name} o d n) = begins_with (dot ∷ name ∷ []) refl o
place_begins (g.of_shared {dot = dot} {name = name} s d n) = begins_with (dot ∷ name ∷ []) refl s
place_begins (g.of_field {dot = dot} {name = name} h d n) = begins_more (dot ∷ name ∷ []) (place_begins h)

-- a statement is not empty, and shows by its first token that it is one
pub stmt_begins : {ts : List Terminal} {s : Stmt} → IsStmt ts s → Begins ts
stmt_begins (g.var w n c t a v s) = begins_with _ refl w
stmt_begins (g.assigned n a v s) = begins_with _ refl n
stmt_begins (g.put {assign = assign} {semicolon = semicolon} {us = us} p a v s) = begins_more (semicolon ∷ []) (begins_more (assign ∷ us) (place_begins p))
stmt_begins (g.if_then w o h c b e) = begins_with _ refl w
stmt_begins (g.while_do w o h c b) = begins_with _ refl w
stmt_begins (g.called n o a c s) = begins_with _ refl n
stmt_begins (g.check w h s) = begins_with _ refl w

mutual
  pub stmt_even : {ts : List Terminal} {s : Stmt} → IsStmt ts s → Even ts
  stmt_even (g.var w n c t a v s) =
      even_append (even_plain (plain_append (plain_more (is_plain refl w) (plain_more (is_plain refl n) (plain_more (is_plain refl c) (type_plain t))))
      (plain_more (is_plain refl a) (value_plain v)))) (even_semicolon s even_end)
  stmt_even (g.assigned n a v s) = even_append (even_plain (plain_more (is_plain refl n) (plain_more (is_plain refl a) (value_plain v)))) (even_semicolon s even_end)
  stmt_even (g.put p a v s) = even_append (even_plain (plain_append (place_plain p) (plain_more (is_plain refl a) (value_plain v)))) (even_semicolon s even_end)
  stmt_even (g.if_then w o h c b e) =
      even_append (even_append (even_plain (plain_more (is_plain refl w) (plain_more (is_plain refl o) (expr_words h).plain)))
      (even_append (even_plain (plain_more (is_plain refl c) plain_end)) (block_even b))) (else_even e)
  stmt_even (g.while_do w o h c b) =
      even_append (even_plain (plain_more (is_plain refl w) (plain_more (is_plain refl o) (expr_words h).plain))) (even_append (even_plain (plain_more (is_plain refl c) plain_end)) (block_even b))
  stmt_even (g.called n o a c s) = even_append (even_plain (plain_more (is_plain refl n) (plain_more (is_plain refl o) (args_plain a))))
      (even_append (even_plain (plain_more (is_plain refl c) plain_end)) (even_semicolon s even_end))
  stmt_even (g.check w h s) = even_append (even_plain (plain_more (is_plain refl w) (expr_words h).plain)) (even_semicolon s even_end)

  pub else_even : {ts : List Terminal} {b : Option (List Stmt)} → IsElse ts b → Even ts
  else_even g.no_else = even_end
  else_even (g.else_block w b) = even_append (even_plain (plain_more (is_plain refl w) plain_end)) (block_even b)

  pub block_even : {ts : List Terminal} {b : List Stmt} → IsBlock ts b → Even ts
  block_even (g.block o h c) = even_braces o (stmts_even h) c

  pub stmts_even : {ts : List Terminal} {b : List Stmt} → AreStmts ts b → Even ts
  stmts_even g.no_stmts = even_end
  stmts_even (g.more_stmts h k) = even_append (stmt_even h) (stmts_even k)

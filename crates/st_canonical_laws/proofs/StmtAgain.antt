-- Types, values and statements again.
use Rattle.std.proofs.Common.{◌≡◌, ℕ, ◌+◌, List, [], ◌∷◌, ◌++◌, map, Option, refl, ap, sym, ◌∙◌, append_assoc}
use Rattle.std.specs.Prelude.{codes}
use Rattle.std.proofs.lemmas.List.{map-append}
use Rattle.st_ast.specs.declared.declarations.TypeName.{TypeName}
use Rattle.st_ast.specs.declared.declarations.TypeName.TheVariants as types
use Rattle.st_ast.specs.declared.expressions.Expr.{Expr, out-Expr}
use Rattle.st_ast.specs.declared.expressions.Expr.TheOpen.{Expr-F}
use Rattle.st_ast.specs.declared.expressions.Expr.TheVariants as expr
use Rattle.st_ast.specs.declared.expressions.Expr.TheViews.{out-roll-Expr}
use Rattle.st_ast.specs.declared.statements.Stmt.{Stmt}
use Rattle.st_ast.specs.declared.statements.Stmt.TheVariants as stmt
use Rattle.st_ast.specs.declared.statements.Value.{Value}
use Rattle.st_ast.specs.declared.statements.Value.TheVariants as value
use Rattle.st_ast.specs.Sites.{site_of_layer, site_of_expr}
use Rattle.st_ast.specs.Lines.{stmt_lines, stmts_lines, block_lines}
use Rattle.st_ast.specs.Words.{Word, type_word, in_parens, args_words, value_words, expr_words}
use Rattle.st_grammar.specs.declared.sorts.Sort.TheVariants as sort
use Rattle.st_grammar.specs.Grammar.{IsPlace, of_local, of_shared, of_field, IsType, int, bool, class_name, IsValue, of_expr, new, cas, IsStmt, assigned, put, if_then, while_do, called}
use Rattle.st_grammar.specs.Grammar.{IsElse, no_else, else_block, IsBlock, block, AreStmts, no_stmts, more_stmts}
use Rattle.st_grammar.specs.Grammar as g
use Rattle.st_grammar.specs.Terminals.{Terminal, Is}
use Rattle.st_canonical_laws.specs.Placeless.{nowhere, bare_expr, bare_type, bare_value, bare_stmt}
use Rattle.st_canonical_laws.proofs.Written.{blank, IsWord, wrote_none, wrote, wrote_all, is_word, blank_is, name_is}
use Rattle.st_canonical_laws.proofs.Again.{Again, made}
use Rattle.st_canonical_laws.proofs.ExprNodes as e
use Rattle.st_canonical_laws.proofs.ExprAgain.{expr_again, args_again, place_again}
use Rattle.st_canonical_laws.proofs.StmtNodes as n
use Rattle.st_canonical_laws.proofs.StmtNodes.{words_in, bare_other, other_lines}

named : {t : Terminal} → Is sort.Name t → IsWord t t.bytes
named h = is_word refl h

-- a type is read again from its own word
pub type_again : {ts : List Terminal} {kind : TypeName} → IsType ts kind → Again IsType ts (bare_type kind) (type_word kind ∷ [])
type_again (int h) = record { again = int (blank_is h); written = wrote (is_word refl h) wrote_none }
type_again (bool h) = record { again = bool (blank_is h); written = wrote (is_word refl h) wrote_none }
type_again (class_name {t = t} h) =
    made refl (ap (λ b. types.Class b nowhere) (sym (name_is h))) refl (class_name (blank_is h)) (wrote (named h) wrote_none)

-- what stands to the right of `=` is read again from its words
pub value_again : {ts : List Terminal} {v : Value} → IsValue ts v → Again IsValue ts (bare_value v) (value_words v)
value_again (of_expr h) = record { again = of_expr (expr_again h).again; written = (expr_again h).written }
value_again (new {word = w} {name = name} h k) =
    made refl (ap (λ b. value.New b nowhere) (sym (name_is k))) refl (new (blank_is h) (blank_is k)) (wrote (is_word refl h) (wrote (named k) wrote_none))
value_again (cas {word = w} {opening = opening} {comma = comma} {comma' = comma'} {closing = closing} {ts = ts} {us = us} {vs = vs} {place = place} {expect = expect} {e = f} h o p c x c' y k) =
    made (list_is w opening ts comma us comma' vs closing) refl (words_are (expr_words place) (expr_words expect) (expr_words f))
    (cas (blank_is h) (blank_is o) (place_again p).again (blank_is c) (expr_again x).again (blank_is c') (expr_again y).again (blank_is k))
    (wrote_all (wrote_all (wrote_all (wrote (is_word refl h) (wrote (is_word refl o) (place_again p).written))
    (wrote (is_word refl c) (expr_again x).written)) (wrote (is_word refl c') (expr_again y).written)) (wrote (is_word refl k) wrote_none))
  where
    list_is : (w opening : Terminal) (ts : List Terminal) (comma : Terminal) (us : List Terminal) (comma' : Terminal) (vs : List Terminal) (closing : Terminal)
        → map blank (w ∷ opening ∷ ts ++ comma ∷ us ++ comma' ∷ vs ++ closing ∷ [])
        ≡ blank w ∷ blank opening ∷ map blank ts ++ blank comma ∷ map blank us ++ blank comma' ∷ map blank vs ++ blank closing ∷ []
    list_is w opening ts comma us comma' vs closing =
        map-append blank (w ∷ opening ∷ ts ++ comma ∷ us ++ comma' ∷ vs) (closing ∷ [])
        ∙ ap (λ l. l ++ blank closing ∷ []) (map-append blank (w ∷ opening ∷ ts ++ comma ∷ us) (comma' ∷ vs)
        ∙ ap (λ l. l ++ blank comma' ∷ map blank vs) (map-append blank (w ∷ opening ∷ ts) (comma ∷ us)))

    words_are : (x y z : List Word) → codes "cas" ∷ in_parens (x ++ codes "," ∷ y ++ codes "," ∷ z)
        ≡ codes "cas" ∷ codes "(" ∷ x ++ codes "," ∷ y ++ codes "," ∷ z ++ codes ")" ∷ []
    words_are x y z = refl

-- the site of a target without its places
field_site : (object : Expr) (name : List ℕ) → site_of_expr (expr.Field object name nowhere) ≡ nowhere
field_site object name =
    ap site_of_layer (ap out-Expr (sym (expr.rolls-Field object name nowhere)) ∙ out-roll-Expr (Expr-F.Field object name nowhere))

shared_site : (name : List ℕ) → site_of_expr (expr.Shared name nowhere) ≡ nowhere
shared_site name = ap site_of_layer (ap out-Expr (sym (expr.rolls-Shared name nowhere)) ∙ out-roll-Expr (Expr-F.Shared name nowhere))

place_site : {ts : List Terminal} {p : Expr} → IsPlace ts p → site_of_expr (bare_expr p) ≡ nowhere
place_site (of_local {object = object} {dot = dot} {name = name} o d k) =
    ap site_of_expr (e.bare_field (expr.Local object.bytes object.site) name.bytes dot.site) ∙ field_site (bare_expr (expr.Local object.bytes object.site)) name.bytes
place_site (of_shared {dot = dot} {name = name} s d k) = ap site_of_expr (e.bare_shared name.bytes dot.site) ∙ shared_site name.bytes
place_site (of_field {dot = dot} {name = name} {object = object} h d k) =
    ap site_of_expr (e.bare_field object name.bytes dot.site) ∙ field_site (bare_expr object) name.bytes

-- a statement at any depth
abbrev pub Anew : List Terminal → Stmt → ℕ → Type 0
Anew ts s depth = Again IsStmt ts (bare_stmt s) (words_in (stmt_lines s depth))

-- the braces of a block, whatever is in it
braced : (ws : List Word) → codes "{" ∷ (ws ++ codes "}" ∷ []) ≡ codes "{" ∷ ws ++ codes "}" ∷ []
braced ws = refl

if_words : (c b o : List Word) → ((codes "if" ∷ in_parens c) ++ codes "{" ∷ []) ++ (b ++ o) ≡ (codes "if" ∷ codes "(" ∷ c ++ codes ")" ∷ codes "{" ∷ b) ++ o
if_words c b o = ap (λ l. codes "if" ∷ codes "(" ∷ l)
    (ap (λ l. l ++ (b ++ o)) (append_assoc c (codes ")" ∷ []) (codes "{" ∷ [])) ∙ append_assoc c (codes ")" ∷ codes "{" ∷ []) (b ++ o)
    ∙ sym (append_assoc c (codes ")" ∷ codes "{" ∷ b) o))

while_words : (c b : List Word) → ((codes "while" ∷ in_parens c) ++ codes "{" ∷ []) ++ b ≡ codes "while" ∷ codes "(" ∷ c ++ codes ")" ∷ codes "{" ∷ b
while_words c b = ap (λ l. codes "while" ∷ codes "(" ∷ l)
    (ap (λ l. l ++ b) (append_assoc c (codes ")" ∷ []) (codes "{" ∷ [])) ∙ append_assoc c (codes ")" ∷ codes "{" ∷ []) b)

call_end : (c : List Word) → (codes "(" ∷ c ++ codes ")" ∷ []) ++ codes ";" ∷ [] ≡ codes "(" ∷ c ++ codes ")" ∷ codes ";" ∷ []
call_end c = ap (λ l. codes "(" ∷ l) (append_assoc c (codes ")" ∷ []) (codes ";" ∷ []))

mutual
  pub stmt_again : {ts : List Terminal} {s : Stmt} → IsStmt ts s → (depth : ℕ) → Anew ts s depth
  stmt_again (g.var {word = w} {name = name} {colon = colon} {assign = assign} {semicolon = semicolon} {ts = ts} {us = us} {kind = kind} {v = v} h k c t a x z) depth =
      made (map-append blank (w ∷ name ∷ colon ∷ ts ++ assign ∷ us) (semicolon ∷ [])
      ∙ ap (λ l. l ++ blank semicolon ∷ []) (map-append blank (w ∷ name ∷ colon ∷ ts) (assign ∷ us)))
      (n.bare_var name.bytes name.site kind v w.site ∙ ap (λ b. stmt.Var b nowhere (bare_type kind) (bare_value v) nowhere) (sym (name_is k)))
      (n.words_var name.bytes name.site kind v w.site depth)
      (g.var (blank_is h) (blank_is k) (blank_is c) (type_again t).again (blank_is a) (value_again x).again (blank_is z))
      (wrote_all (wrote_all (wrote (is_word refl h) (wrote (named k) (wrote (is_word refl c) (type_again t).written)))
      (wrote (is_word refl a) (value_again x).written)) (wrote (is_word refl z) wrote_none))
  stmt_again (assigned {name = name} {assign = assign} {semicolon = semicolon} {ts = ts} {v = v} k a x z) depth =
      made (map-append blank (name ∷ assign ∷ ts) (semicolon ∷ []))
      (n.bare_assign name.bytes v name.site ∙ ap (λ b. stmt.Assign b (bare_value v) nowhere) (sym (name_is k))) (n.words_assign name.bytes v name.site depth)
      (assigned (blank_is k) (blank_is a) (value_again x).again (blank_is z))
      (wrote_all (wrote (named k) (wrote (is_word refl a) (value_again x).written)) (wrote (is_word refl z) wrote_none))
  stmt_again (put {assign = assign} {semicolon = semicolon} {ts = ts} {us = us} {place = place} {v = v} p a x z) depth =
      made (map-append blank (ts ++ assign ∷ us) (semicolon ∷ []) ∙ ap (λ l. l ++ blank semicolon ∷ []) (map-append blank ts (assign ∷ us)))
      (n.bare_put place v (site_of_expr place) ∙ ap (λ s. stmt.Put (bare_expr place) (bare_value v) s) (sym (place_site p)))
      (n.words_put place v (site_of_expr place) depth) (put (place_again p).again (blank_is a) (value_again x).again (blank_is z))
      (wrote_all (wrote_all (place_again p).written (wrote (is_word refl a) (value_again x).written)) (wrote (is_word refl z) wrote_none))
  stmt_again (if_then {word = w} {opening = opening} {closing = closing} {ts = ts} {us = us} {vs = vs} {cond = cond} {then = then} {other = other} h o x c b r) depth =
      made (map-append blank (w ∷ opening ∷ ts ++ closing ∷ us) vs ∙ ap (λ l. l ++ map blank vs) (map-append blank (w ∷ opening ∷ ts) (closing ∷ us)))
      (n.bare_if cond then other w.site)
      (n.words_if cond then other w.site depth ∙ if_words (expr_words cond) (words_in (block_lines then depth)) (words_in (other_lines other depth)))
      (if_then (blank_is h) (blank_is o) (expr_again x).again (blank_is c) (block_again b depth).again (else_again r depth).again)
      (wrote_all (wrote_all (wrote (is_word refl h) (wrote (is_word refl o) (expr_again x).written)) (wrote (is_word refl c) (block_again b depth).written))
      (else_again r depth).written)
  stmt_again (while_do {word = w} {opening = opening} {closing = closing} {ts = ts} {us = us} {cond = cond} {body = body} h o x c b) depth =
      made (map-append blank (w ∷ opening ∷ ts) (closing ∷ us)) (n.bare_while cond body w.site)
      (n.words_while cond body w.site depth ∙ while_words (expr_words cond) (words_in (block_lines body depth)))
      (while_do (blank_is h) (blank_is o) (expr_again x).again (blank_is c) (block_again b depth).again)
      (wrote_all (wrote (is_word refl h) (wrote (is_word refl o) (expr_again x).written)) (wrote (is_word refl c) (block_again b depth).written))
  stmt_again (called {name = name} {opening = opening} {closing = closing} {semicolon = semicolon} {ts = ts} {args = args} k o a c z) depth =
      made (map-append blank (name ∷ opening ∷ ts) (closing ∷ semicolon ∷ []))
      (n.bare_call name.bytes args name.site ∙ ap (λ b. stmt.Call b (map bare_expr args) nowhere) (sym (name_is k)))
      (n.words_call name.bytes args name.site depth ∙ ap (λ l. name.bytes ∷ l) (call_end (args_words args)))
      (called (blank_is k) (blank_is o) (args_again a).again (blank_is c) (blank_is z))
      (wrote_all (wrote (named k) (wrote (is_word refl o) (args_again a).written)) (wrote (is_word refl c) (wrote (is_word refl z) wrote_none)))
  stmt_again (g.check {word = w} {semicolon = semicolon} {ts = ts} {body = body} h x z) depth =
      made (map-append blank (w ∷ ts) (semicolon ∷ [])) (n.bare_check body w.site) (n.words_check body w.site depth)
      (g.check (blank_is h) (expr_again x).again (blank_is z)) (wrote_all (wrote (is_word refl h) (expr_again x).written) (wrote (is_word refl z) wrote_none))

  pub else_again : {ts : List Terminal} {other : Option (List Stmt)} → IsElse ts other → (depth : ℕ)
      → Again IsElse ts (bare_other other) (words_in (other_lines other depth))
  else_again no_else depth = record { again = no_else; written = wrote_none }
  else_again (else_block h b) depth =
      record { again = else_block (blank_is h) (block_again b depth).again; written = wrote (is_word refl h) (block_again b depth).written }

  pub block_again : {ts : List Terminal} {body : List Stmt} → IsBlock ts body → (depth : ℕ)
      → Again IsBlock ts (map bare_stmt body) (codes "{" ∷ words_in (block_lines body depth))
  block_again (block {opening = opening} {closing = closing} {ts = ts} {body = body} o h c) depth =
      made (map-append blank (opening ∷ ts) (closing ∷ [])) refl (ap (λ l. codes "{" ∷ l) (n.words_block body depth))
      (block (blank_is o) (stmts_again h (depth + 1)).again (blank_is c))
      (wrote_all (wrote (is_word refl o) (stmts_again h (depth + 1)).written) (wrote (is_word refl c) wrote_none))

  pub stmts_again : {ts : List Terminal} {ss : List Stmt} → AreStmts ts ss → (depth : ℕ)
      → Again AreStmts ts (map bare_stmt ss) (words_in (stmts_lines ss depth))
  stmts_again no_stmts depth = record { again = no_stmts; written = wrote_none }
  stmts_again (more_stmts {ts = ts} {us = us} {s = s} {ss = ss} h r) depth =
      made (map-append blank ts us) refl (n.words_in_two (stmt_lines s depth) (stmts_lines ss depth))
      (more_stmts (stmt_again h depth).again (stmts_again r depth).again) (wrote_all (stmt_again h depth).written (stmts_again r depth).written)

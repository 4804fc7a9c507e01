-- The targets of a spelled program are places, and the names of its threads are names.
use Rattle.std.proofs.Common.{◌≡◌, ℕ, Bool, true, false, ◌&&◌, List, [], ◌∷◌, ◌++◌, map, All, Option, Some, None}
use Rattle.std.proofs.Common.{refl, ap, sym, ◌∙◌, subst, rules}
use Rattle.std.specs.List.{AllByRecursion}
use Rattle.std.proofs.lemmas.List.Elements.{All-nil, All-cons}
use Rattle.st_ast.specs.declared.declarations.Proc.{Proc}
use Rattle.st_ast.specs.declared.declarations.Thread.{Thread}
use Rattle.st_ast.specs.declared.declarations.Program.{Program}
use Rattle.st_ast.specs.declared.declarations.TypeName.{TypeName}
use Rattle.st_ast.specs.declared.expressions.Expr.{Expr}
use Rattle.st_ast.specs.declared.expressions.Expr as exprs
use Rattle.st_ast.specs.declared.statements.Stmt.{Stmt}
use Rattle.st_ast.specs.declared.statements.Stmt.TheFolds.{fold-roll-Stmt}
use Rattle.st_ast.specs.declared.statements.Stmt.TheOpen.{Stmt-F}
use Rattle.st_ast.specs.declared.statements.Stmt.TheVariants as stmt
use Rattle.st_ast.specs.declared.statements.Value.{Value}
use Rattle.st_ast.specs.Sites.{site_of_expr}
use Rattle.st_events.specs.declared.events.Site.{Site}
use Rattle.st_lex.specs.declared.kinds.Token.{Token}
use Rattle.st_lex.specs.declared.kinds.TokenKind.{TokenKind}
use Rattle.st_lex.specs.declared.kinds.TokenKind.TheVariants as kind
use Rattle.st_lex.specs.Spellings.{is_name, HasForm}
use Rattle.st_lex.specs.Tokens.{IsToken, IsTokensOf, text_of}
use Rattle.st_grammar.specs.declared.sorts.Sort.{Sort}
use Rattle.st_grammar.specs.declared.sorts.Sort.TheVariants as sort
use Rattle.st_grammar.specs.Grammar as g
use Rattle.st_grammar.specs.Grammar.{AreMany, IsPlace, IsValue, IsStmt, IsElse, IsBlock, AreStmts, IsProc, IsThread, Parses}
use Rattle.st_grammar.specs.Sorts.{look_up, marks, sort_of}
use Rattle.st_grammar.specs.Terminals.{Terminal, terminals_of}
use Rattle.st_types.specs.Limits.{have_targets_of}
use Rattle.st_types.specs.Places.{is_place, has_target, are_all, targets_node, has_targets, have_targets}

-- what the grammar calls a place is one
place_is : {ts : List Terminal} {e : Expr} → IsPlace ts e → is_place e ≡ true
place_is (g.of_local {object = object} {dot = dot} {name = name} a b d) = search (rules, exprs.the_lemmas)
place_is (g.of_shared {dot = dot} {name = name} a b d) = search (rules, exprs.the_lemmas)
place_is (g.of_field {dot = dot} {name = name} {object = object} a b d) = search (rules, exprs.the_lemmas)

value_has : {ts : List Terminal} {v : Value} → IsValue ts v → has_target v ≡ true
value_has (g.of_expr a) = refl
value_has (g.new a b) = refl
value_has (g.cas a b place d e f h i) = place_is place

-- what each statement asks of its targets
targets_of_var : (name : List ℕ) (name_site : Site) (k : TypeName) (v : Value) (site : Site) → has_targets (stmt.Var name name_site k v site) ≡ has_target v
targets_of_var name name_site k v site = ap has_targets (sym (stmt.rolls-Var name name_site k v site)) ∙ fold-roll-Stmt Bool targets_node (Stmt-F.Var name name_site k v site)

targets_of_assign : (name : List ℕ) (v : Value) (site : Site) → has_targets (stmt.Assign name v site) ≡ has_target v
targets_of_assign name v site = ap has_targets (sym (stmt.rolls-Assign name v site)) ∙ fold-roll-Stmt Bool targets_node (Stmt-F.Assign name v site)

targets_of_put : (place : Expr) (v : Value) (site : Site) → has_targets (stmt.Put place v site) ≡ (is_place place && has_target v)
targets_of_put place v site = ap has_targets (sym (stmt.rolls-Put place v site)) ∙ fold-roll-Stmt Bool targets_node (Stmt-F.Put place v site)

targets_of_if : (cond : Expr) (body : List Stmt) (other : Option (List Stmt)) (others : List Stmt) (site : Site) → other ≡ Some others
    → has_targets (stmt.If cond body other site) ≡ (have_targets body && have_targets others)
targets_of_if cond body None others site e = absurd cc
targets_of_if cond body (Some found) others site e =
    ap has_targets (sym (stmt.rolls-If cond body (Some found) site)) ∙ fold-roll-Stmt Bool targets_node (Stmt-F.If cond body (Some found) site)
    ∙ ap (λ ss. have_targets body && have_targets (given found ss)) e
  where
    given : List Stmt → Option (List Stmt) → List Stmt
    given d None = d
    given d (Some ss) = ss

targets_of_if_alone : (cond : Expr) (body : List Stmt) (site : Site) → has_targets (stmt.If cond body None site) ≡ (have_targets body && true)
targets_of_if_alone cond body site = ap has_targets (sym (stmt.rolls-If cond body None site)) ∙ fold-roll-Stmt Bool targets_node (Stmt-F.If cond body None site)

targets_of_while : (cond : Expr) (body : List Stmt) (site : Site) → has_targets (stmt.While cond body site) ≡ have_targets body
targets_of_while cond body site = ap has_targets (sym (stmt.rolls-While cond body site)) ∙ fold-roll-Stmt Bool targets_node (Stmt-F.While cond body site)

targets_of_call : (name : List ℕ) (args : List Expr) (site : Site) → has_targets (stmt.Call name args site) ≡ true
targets_of_call name args site = ap has_targets (sym (stmt.rolls-Call name args site)) ∙ fold-roll-Stmt Bool targets_node (Stmt-F.Call name args site)

targets_of_check : (body : Expr) (site : Site) → has_targets (stmt.Check body site) ≡ true
targets_of_check body site = ap has_targets (sym (stmt.rolls-Check body site)) ∙ fold-roll-Stmt Bool targets_node (Stmt-F.Check body site)

-- two that are true are true together
pub both : {a b : Bool} → a ≡ true → b ≡ true → (a && b) ≡ true
both {a = a} {b = b} h k = ap (λ c. c && b) h ∙ k

if_has : (cond : Expr) (body : List Stmt) (other : Option (List Stmt)) (site : Site) → have_targets body ≡ true
    → ((others : List Stmt) → other ≡ Some others → have_targets others ≡ true) → has_targets (stmt.If cond body other site) ≡ true
if_has cond body None site h k = targets_of_if_alone cond body site ∙ both h refl
if_has cond body (Some others) site h k = targets_of_if cond body (Some others) others site refl ∙ both h (k others refl)

abbrev given : List Stmt → Option (List Stmt) → List Stmt
given body None = body
given body (Some others) = others

mutual
  stmt_has : {ts : List Terminal} {s : Stmt} → IsStmt ts s → has_targets s ≡ true
  stmt_has (g.var {word = word} {name = name} {kind = k} {v = v} a b d e f h i) = targets_of_var name.bytes name.site k v word.site ∙ value_has h
  stmt_has (g.assigned {name = name} {v = v} a b d e) = targets_of_assign name.bytes v name.site ∙ value_has d
  stmt_has (g.put {place = place} {v = v} a b d e) = targets_of_put place v (site_of_expr place) ∙ both (place_is a) (value_has d)
  stmt_has (g.if_then {word = word} {cond = cond} {then = body} {other = other} a b d e f h) = if_has cond body other word.site (block_has f) (else_has h)
  stmt_has (g.while_do {word = word} {cond = cond} {body = body} a b d e f) = targets_of_while cond body word.site ∙ block_has f
  stmt_has (g.called {name = name} {args = args} a b d e f) = targets_of_call name.bytes args name.site
  stmt_has (g.check {word = word} {body = body} a b d) = targets_of_check body word.site

  else_has : {ts : List Terminal} {other : Option (List Stmt)} → IsElse ts other → (others : List Stmt) → other ≡ Some others → have_targets others ≡ true
  else_has g.no_else others e = absurd cc
  else_has (g.else_block {body = body} a b) others e = subst (λ ss. have_targets ss ≡ true) (ap (given body) e) (block_has b)

  block_has : {ts : List Terminal} {body : List Stmt} → IsBlock ts body → have_targets body ≡ true
  block_has (g.block a h b) = stmts_have h

  stmts_have : {ts : List Terminal} {body : List Stmt} → AreStmts ts body → have_targets body ≡ true
  stmts_have g.no_stmts = refl
  stmts_have (g.more_stmts h k) = both (stmt_has h) (stmts_have k)

procs_have : {ts : List Terminal} {procs : List Proc} → AreMany IsProc ts procs → are_all (map (λ procedure. have_targets procedure.body) procs) ≡ true
procs_have g.none = refl
procs_have (g.more (g.proc a b d e f h) k) = both (block_has h) (procs_have k)

threads_have : {ts : List Terminal} {threads : List Thread} → AreMany IsThread ts threads → are_all (map (λ thread. have_targets thread.body) threads) ≡ true
threads_have g.none = refl
threads_have (g.more (g.thread a b h) k) = both (block_has h) (threads_have k)

-- every target is a place
pub targets_are : {ts : List Terminal} {p : Program} → Parses ts p → have_targets_of p ≡ true
targets_are (g.program a b d e f) = both (procs_have e) (threads_have f)

-- a terminal of the sort of names is spelled as one
pub record IsNamed (t : Terminal) : Type 0 where
  pub named : t.sort ≡ sort.Name → is_name t.bytes ≡ true

abbrev is_other : Sort → Bool
is_other sort.Name = false
is_other _ = true

abbrev none_is_name : List (List ℕ × Sort) → Bool
none_is_name [] = true
none_is_name (word ∷ words) = is_other word.1 && none_is_name words

looked_up : (words : List (List ℕ × Sort)) (bytes : List ℕ) → none_is_name words ≡ true → is_other (look_up words bytes) ≡ true
looked_up [] bytes h = refl
looked_up (word ∷ words) bytes h = search (rules, looked_up words bytes)

mark_is_other : (bytes : List ℕ) → is_other (look_up marks bytes) ≡ true
mark_is_other bytes = looked_up marks bytes refl

name_of_kind : (k : TokenKind) (bytes : List ℕ) → HasForm k bytes → sort_of k bytes ≡ sort.Name → is_name bytes ≡ true
unfolding sort_of
name_of_kind kind.Word bytes form same = form.0
name_of_kind kind.Key bytes form same = form.0
name_of_kind (kind.Number value) bytes form same = let clash = ap is_other same in absurd cc
name_of_kind kind.Mark bytes form same = let clash = sym (mark_is_other bytes) ∙ ap is_other same in absurd cc

tokens_named : (text : List ℕ) (tokens : List Token) → AllByRecursion (IsToken text) tokens → AllByRecursion IsNamed (terminals_of text tokens)
tokens_named text [] all = tt
tokens_named text (t ∷ ts) all = (record { named = name_of_kind t.kind (text_of text t) all.0.form }, tokens_named text ts all.1)

-- all of a list are, so all of its parts are
back_named : (xs ys : List Terminal) → AllByRecursion IsNamed (xs ++ ys) → AllByRecursion IsNamed ys
back_named [] ys all = all
back_named (x ∷ xs) ys all = back_named xs ys all.1

threads_named : {ts : List Terminal} {threads : List Thread} → AreMany IsThread ts threads → AllByRecursion IsNamed ts → All (λ (thread : Thread). is_name thread.name ≡ true) threads
threads_named g.none all = All-nil (λ (thread : Thread). is_name thread.name ≡ true)
threads_named (g.more {us = us} {item = x} {items = xs} (g.thread {word = word} {name = name} {ts = ts} a b h) k) all =
    All-cons (λ (thread : Thread). is_name thread.name ≡ true) x xs (all.1.0.named b.same) (threads_named k (back_named (word ∷ name ∷ ts) us all))

program_named : {ts : List Terminal} {p : Program} → Parses ts p → AllByRecursion IsNamed ts → All (λ (thread : Thread). is_name thread.name ≡ true) p.threads
program_named (g.program {ts = ts} {us = us} {vs = vs} {ws = ws} {xs = xs} a b d e f) all = threads_named f (back_named (((ts ++ us) ++ vs) ++ ws) xs all)

-- the names of the threads are names
pub threads_have_names : (text : List ℕ) (tokens : List Token) (p : Program) → IsTokensOf text tokens → Parses (terminals_of text tokens) p
    → All (λ (thread : Thread). is_name thread.name ≡ true) p.threads
threads_have_names text tokens p lexed h = program_named h (tokens_named text tokens lexed.each)

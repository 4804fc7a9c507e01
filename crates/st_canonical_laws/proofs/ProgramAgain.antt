-- Declarations and programs again.
use Rattle.std.proofs.Common.{◌≡◌, ℕ, List, [], ◌∷◌, ◌++◌, map, refl, ap, sym, ◌∙◌, append-nil, append_assoc}
use Rattle.std.specs.Prelude.{codes}
use Rattle.std.specs.List.{flat_map}
use Rattle.std.proofs.lemmas.List.{map-append}
use Rattle.st_ast.specs.declared.declarations.Class.{Class}
use Rattle.st_ast.specs.declared.declarations.Field.{Field}
use Rattle.st_ast.specs.declared.declarations.Param.{Param}
use Rattle.st_ast.specs.declared.declarations.Pred.{Pred}
use Rattle.st_ast.specs.declared.declarations.Proc.{Proc}
use Rattle.st_ast.specs.declared.declarations.Thread.{Thread}
use Rattle.st_ast.specs.declared.declarations.TypeName.{TypeName}
use Rattle.st_ast.specs.declared.expressions.Expr.{Expr}
use Rattle.st_ast.specs.declared.statements.Stmt.{Stmt}
use Rattle.st_ast.specs.Lines.{Line, closing, field_line, each_field, class_lines, pred_lines, proc_lines, thread_lines, block_lines, fields_lines}
use Rattle.st_ast.specs.Words.{Word, type_word, in_parens, param_words, params_words, expr_words}
use Rattle.st_grammar.specs.declared.sorts.Sort.TheVariants as sort
use Rattle.st_grammar.specs.Grammar.{AreMany, AreListed, last, next, IsField, field, IsClass, class, IsParam, param, AreParams, no_params, some_params, IsPred, IsProc, IsThread}
use Rattle.st_grammar.specs.Grammar as g
use Rattle.st_grammar.specs.Terminals.{Terminal, Is}
use Rattle.st_canonical_laws.specs.Placeless.{nowhere, bare_expr, bare_type, bare_stmt, bare_field, bare_class, bare_param, bare_pred, bare_proc, bare_thread}
use Rattle.st_canonical_laws.proofs.Written.{blank, IsWord, wrote_none, wrote, wrote_all, is_word, blank_is, name_is}
use Rattle.st_canonical_laws.proofs.Again.{Again, made, handed, many_again}
use Rattle.st_canonical_laws.proofs.ExprAgain.{expr_again}
use Rattle.st_canonical_laws.proofs.StmtAgain.{type_again, block_again}
use Rattle.st_canonical_laws.proofs.StmtNodes.{words_in, words_in_two}

named : {t : Terminal} → Is sort.Name t → IsWord t t.bytes
named h = is_word refl h

field_words : Field → List Word
field_words f = f.name ∷ codes ":" ∷ type_word f.kind ∷ codes ";" ∷ []

field_of : List ℕ → TypeName → Field
field_of name kind = record { name = name; kind = kind; site = nowhere }

-- a field or a shared variable is read again from its line
pub field_again : (ts : List Terminal) (f : Field) → IsField ts f → Again IsField ts (bare_field f) (words_in (field_line f ∷ []))
unfolding field_of
field_again ts f (field {name = name} {colon = colon} {semicolon = semicolon} {ts = us} {kind = kind} k c t z) =
    made (map-append blank (name ∷ colon ∷ us) (semicolon ∷ [])) (ap (λ b. field_of b (bare_type kind)) (sym (name_is k))) refl
    (field (blank_is k) (blank_is c) (type_again t).again (blank_is z))
    (wrote_all (wrote (named k) (wrote (is_word refl c) (type_again t).written)) (wrote (is_word refl z) wrote_none))

-- the words of lines of items
words_of_each : {X : Type 0} (f : X → List Line) (xs : List X) → words_in (flat_map f xs) ≡ flat_map (λ x. words_in (f x)) xs
words_of_each f [] = refl
words_of_each f (x ∷ xs) = words_in_two (f x) (flat_map f xs) ∙ ap (λ l. words_in (f x) ++ l) (words_of_each f xs)

-- items of some lines each
pub each_again : {A : Type 0} {IsIt : List Terminal → A → Type 0} (bare : A → A) (lines : A → List Line)
    → ((ts : List Terminal) (a : A) → IsIt ts a → Again IsIt ts (bare a) (words_in (lines a))) → {ts : List Terminal} {items : List A} → AreMany IsIt ts items
    → Again (AreMany IsIt) ts (map bare items) (words_in (flat_map lines items))
each_again bare lines each {items = items} h =
    let r = many_again bare (λ a. words_in (lines a)) each h in
    made refl refl (words_of_each lines items) r.again r.written

-- fields, one after another
pub fields_again : {ts : List Terminal} {fields : List Field} → AreMany IsField ts fields
    → Again (AreMany IsField) ts (map bare_field fields) (words_in (each_field fields))
fields_again h = each_again bare_field (λ f. field_line f ∷ []) field_again h

class_of : List ℕ → List Field → Class
class_of name fields = record { name = name; fields = fields; site = nowhere }

-- an opening brace, fields and the closing one
pub braced_fields : (fields : List Field) → words_in (fields_lines fields) ≡ words_in (each_field fields) ++ codes "}" ∷ []
braced_fields fields = words_in_two (each_field fields) (closing 0 ∷ [])

-- a class is read again from its lines
pub class_again : (ts : List Terminal) (c : Class) → IsClass ts c → Again IsClass ts (bare_class c) (words_in (class_lines c))
unfolding class_of
class_again ts c (class {word = w} {name = name} {opening = opening} {closing = end} {ts = us} {fields = fields} h k o f z) =
    made (map-append blank (w ∷ name ∷ opening ∷ us) (end ∷ [])) (ap (λ b. class_of b (map bare_field fields)) (sym (name_is k)))
    (ap (λ l. codes "class" ∷ name.bytes ∷ codes "{" ∷ l) (braced_fields fields))
    (class (blank_is h) (blank_is k) (blank_is o) (fields_again f).again (blank_is z))
    (wrote_all (wrote (is_word refl h) (wrote (named k) (wrote (is_word refl o) (fields_again f).written))) (wrote (is_word refl z) wrote_none))

param_of : List ℕ → TypeName → Param
param_of name kind = record { name = name; kind = kind; site = nowhere }

param_again : {ts : List Terminal} {p : Param} → IsParam ts p → Again IsParam ts (bare_param p) (param_words p)
unfolding param_of
param_again (param {name = name} {colon = colon} {ts = us} {kind = kind} k c t) =
    made refl (ap (λ b. param_of b (bare_type kind)) (sym (name_is k))) refl (param (blank_is k) (blank_is c) (type_again t).again)
    (wrote (named k) (wrote (is_word refl c) (type_again t).written))

params_next : {ts : List Terminal} {ps : List Param} → AreListed IsParam ts ps → (p : Param)
    → params_words (p ∷ ps) ≡ param_words p ++ codes "," ∷ params_words ps
params_next (last h) p = refl
params_next (next h c r) p = refl

listed_again : {ts : List Terminal} {ps : List Param} → AreListed IsParam ts ps → Again (AreListed IsParam) ts (map bare_param ps) (params_words ps)
listed_again (last {item = p} h) = made refl refl (append-nil (param_words p)) (last (param_again h).again) (param_again h).written
listed_again (next {ts = ts} {us = us} {comma = comma} {item = p} h c r) =
    made (map-append blank ts (comma ∷ us)) refl (params_next r p) (next (param_again h).again (blank_is c) (listed_again r).again)
    (wrote_all (param_again h).written (wrote (is_word refl c) (listed_again r).written))

params_again : {ts : List Terminal} {ps : List Param} → AreParams ts ps → Again AreParams ts (map bare_param ps) (params_words ps)
params_again no_params = record { again = no_params; written = wrote_none }
params_again (some_params h) = handed (λ x. some_params x) (listed_again h)

pred_of : List ℕ → List Param → TypeName → Expr → Pred
pred_of name params result body = record { name = name; params = params; result = result; body = body; site = nowhere }

pred_words_are : (name : List ℕ) (p : List Word) (t : Word) (b : List Word)
    → ((codes "pred" ∷ name ∷ in_parens p ++ codes ":" ∷ t ∷ codes "=" ∷ b) ++ codes ";" ∷ []) ++ []
    ≡ codes "pred" ∷ name ∷ codes "(" ∷ p ++ codes ")" ∷ codes ":" ∷ t ∷ [] ++ codes "=" ∷ b ++ codes ";" ∷ []
pred_words_are name p t b =
    append-nil ((codes "pred" ∷ name ∷ in_parens p ++ codes ":" ∷ t ∷ codes "=" ∷ b) ++ codes ";" ∷ [])
    ∙ ap (λ l. codes "pred" ∷ name ∷ codes "(" ∷ (l ++ codes ";" ∷ []))
    (append_assoc p (codes ")" ∷ []) (codes ":" ∷ t ∷ codes "=" ∷ b) ∙ sym (append_assoc p (codes ")" ∷ codes ":" ∷ t ∷ []) (codes "=" ∷ b)))

-- a predicate is read again from its line
pub pred_again : (ts : List Terminal) (p : Pred) → IsPred ts p → Again IsPred ts (bare_pred p) (words_in (pred_lines p))
unfolding pred_of
pred_again all p (g.pred {word = w} {name = name} {opening = opening} {closing = end} {colon = colon} {assign = assign} {semicolon = semicolon}
    {ts = ts} {us = us} {vs = vs} {params = params} {result = result} {body = body} h k o ps c n t a x z) =
    made (map-append blank (w ∷ name ∷ opening ∷ ts ++ end ∷ colon ∷ us ++ assign ∷ vs) (semicolon ∷ [])
    ∙ ap (λ l. l ++ blank semicolon ∷ []) (map-append blank (w ∷ name ∷ opening ∷ ts ++ end ∷ colon ∷ us) (assign ∷ vs)
    ∙ ap (λ l. l ++ blank assign ∷ map blank vs) (map-append blank (w ∷ name ∷ opening ∷ ts) (end ∷ colon ∷ us))))
    (ap (λ b. pred_of b (map bare_param params) (bare_type result) (bare_expr body)) (sym (name_is k)))
    (pred_words_are name.bytes (params_words params) (type_word result) (expr_words body))
    (g.pred (blank_is h) (blank_is k) (blank_is o) (params_again ps).again (blank_is c) (blank_is n) (type_again t).again (blank_is a) (expr_again x).again (blank_is z))
    (wrote_all (wrote_all (wrote_all (wrote (is_word refl h) (wrote (named k) (wrote (is_word refl o) (params_again ps).written)))
    (wrote (is_word refl c) (wrote (is_word refl n) (type_again t).written))) (wrote (is_word refl a) (expr_again x).written)) (wrote (is_word refl z) wrote_none))

proc_of : List ℕ → List Param → List Stmt → Proc
proc_of name params body = record { name = name; params = params; body = body; site = nowhere }

proc_words_are : (name : List ℕ) (p b : List Word)
    → ((codes "proc" ∷ name ∷ in_parens p) ++ codes "{" ∷ []) ++ b ≡ codes "proc" ∷ name ∷ codes "(" ∷ p ++ codes ")" ∷ codes "{" ∷ b
proc_words_are name p b = ap (λ l. codes "proc" ∷ name ∷ codes "(" ∷ l)
    (ap (λ l. l ++ b) (append_assoc p (codes ")" ∷ []) (codes "{" ∷ [])) ∙ append_assoc p (codes ")" ∷ codes "{" ∷ []) b)

-- a procedure is read again from its lines
pub proc_again : (ts : List Terminal) (p : Proc) → IsProc ts p → Again IsProc ts (bare_proc p) (words_in (proc_lines p))
unfolding proc_of
proc_again all p (g.proc {word = w} {name = name} {opening = opening} {closing = end} {ts = ts} {us = us} {params = params} {body = body} h k o ps c b) =
    made (map-append blank (w ∷ name ∷ opening ∷ ts) (end ∷ us))
    (ap (λ n. proc_of n (map bare_param params) (map bare_stmt body)) (sym (name_is k)))
    (proc_words_are name.bytes (params_words params) (words_in (block_lines body 0)))
    (g.proc (blank_is h) (blank_is k) (blank_is o) (params_again ps).again (blank_is c) (block_again b 0).again)
    (wrote_all (wrote (is_word refl h) (wrote (named k) (wrote (is_word refl o) (params_again ps).written))) (wrote (is_word refl c) (block_again b 0).written))

thread_of : List ℕ → List Stmt → Thread
thread_of name body = record { name = name; body = body; site = nowhere }

-- a thread is read again from its lines
pub thread_again : (ts : List Terminal) (t : Thread) → IsThread ts t → Again IsThread ts (bare_thread t) (words_in (thread_lines t))
unfolding thread_of
thread_again all t (g.thread {word = w} {name = name} {ts = ts} {body = body} h k b) =
    made refl (ap (λ n. thread_of n (map bare_stmt body)) (sym (name_is k))) refl (g.thread (blank_is h) (blank_is k) (block_again b 0).again)
    (wrote (is_word refl h) (wrote (named k) (block_again b 0).written))

-- Expressions again.
use Rattle.std.proofs.Common.{◌≡◌, true, false, List, [], ◌∷◌, ◌++◌, map, refl, ap, sym, ◌∙◌, append-nil}
use Rattle.std.specs.Prelude.{codes}
use Rattle.std.proofs.lemmas.List.{map-append}
use Rattle.st_ast.specs.declared.expressions.Expr.{Expr}
use Rattle.st_ast.specs.declared.expressions.Expr.TheVariants as expr
use Rattle.st_ast.specs.declared.operators.Op.{Op}
use Rattle.st_ast.specs.Words.{op_word, args_words, expr_words}
use Rattle.st_grammar.specs.declared.operators.Chain.TheVariants as chain
use Rattle.st_grammar.specs.declared.sorts.Sort.TheVariants as sort
use Rattle.st_grammar.specs.Grammar.{IsPlace, of_local, of_shared, of_field, IsExpr, only, IsOr, or_first, or_next, IsAnd, and_first, and_next, IsCmp, cmp_only, cmp_both}
use Rattle.st_grammar.specs.Grammar.{IsSum, sum_first, sum_next, IsTerm, term_first, term_next, IsUnary, plain, not_of, minus_of, IsPostfix, primary, field_of, IsPrimary}
use Rattle.st_grammar.specs.Grammar.{number, truth, untruth, null, local, call, shared_field, paren, AreArgs, no_args, some_args, AreExprs, last_expr, next_expr}
use Rattle.st_grammar.specs.Grammar as g
use Rattle.st_grammar.specs.Terminals.{Terminal, Is}
use Rattle.st_canonical_laws.specs.Placeless.{nowhere, bare_expr}
use Rattle.st_canonical_laws.proofs.Written.{word, blank, IsWord, wrote_none, wrote, wrote_all, is_word, blank_is, name_is, chained_is, compared_is, blank_chained, blank_compared}
use Rattle.st_canonical_laws.proofs.Again.{Again, made, handed}
use Rattle.st_canonical_laws.proofs.ExprNodes as n

-- an expression again
abbrev pub Anew : (List Terminal → Expr → Type 0) → List Terminal → Expr → Type 0
Anew IsIt ts e = Again IsIt ts (bare_expr e) (expr_words e)

-- expressions again
abbrev pub AllAnew : (List Terminal → List Expr → Type 0) → List Terminal → List Expr → Type 0
AllAnew AreIt ts es = Again AreIt ts (map bare_expr es) (args_words es)

-- a name is written as it is
named : {t : Terminal} → Is sort.Name t → IsWord t t.bytes
named h = is_word refl h

-- two operands
between : {IsLeft IsRight IsBoth : List Terminal → Expr → Type 0} {ts us : List Terminal} {mark : Terminal} (op : Op) (left right : Expr)
    → (IsLeft (map blank ts) (bare_expr left) → IsRight (map blank us) (bare_expr right)
    → IsBoth (map blank ts ++ blank mark ∷ map blank us) (expr.Binary op (bare_expr left) (bare_expr right) nowhere))
    → Anew IsLeft ts left → IsWord mark (op_word op) → Anew IsRight us right → Anew IsBoth (ts ++ mark ∷ us) (expr.Binary op left right mark.site)
between {ts = ts} {us = us} {mark = mark} op left right con l o r =
    made (map-append blank ts (mark ∷ us)) (n.bare_binary op left right mark.site) (n.words_binary op left right mark.site)
    (con l.again r.again) (wrote_all l.written (wrote o r.written))

-- after a comma
args_next : {ts : List Terminal} {es : List Expr} → AreExprs ts es → (e : Expr) → args_words (e ∷ es) ≡ expr_words e ++ codes "," ∷ args_words es
args_next (last_expr h) e = refl
args_next (next_expr h c r) e = refl

-- a field of an object
field_again : {IsIt : List Terminal → Expr → Type 0} {ts : List Terminal} {dot name : Terminal} (object : Expr)
    → (IsIt (map blank ts) (bare_expr object) → IsIt (map blank ts ++ blank dot ∷ blank name ∷ []) (expr.Field (bare_expr object) (word name) nowhere))
    → Anew IsIt ts object → Is sort.Dot dot → Is sort.Name name → Anew IsIt (ts ++ dot ∷ name ∷ []) (expr.Field object name.bytes dot.site)
field_again {ts = ts} {dot = dot} {name = name} object con h d k =
    made (map-append blank ts (dot ∷ name ∷ []))
    (n.bare_field object name.bytes dot.site ∙ ap (λ b. expr.Field (bare_expr object) b nowhere) (sym (name_is k)))
    (n.words_field object name.bytes dot.site) (con h.again) (wrote_all h.written (wrote (is_word refl d) (wrote (named k) wrote_none)))

shared_again : {IsIt : List Terminal → Expr → Type 0} {shared dot name : Terminal}
    → IsIt (blank shared ∷ blank dot ∷ blank name ∷ []) (expr.Shared (word name) nowhere)
    → Is sort.Shared shared → Is sort.Dot dot → Is sort.Name name → Anew IsIt (shared ∷ dot ∷ name ∷ []) (expr.Shared name.bytes dot.site)
shared_again {dot = dot} {name = name} con s d k =
    made refl (n.bare_shared name.bytes dot.site ∙ ap (λ b. expr.Shared b nowhere) (sym (name_is k))) (n.words_shared name.bytes dot.site) con
    (wrote (is_word refl s) (wrote (is_word refl d) (wrote (named k) wrote_none)))

mutual
  pub expr_again : {ts : List Terminal} {e : Expr} → IsExpr ts e → Anew IsExpr ts e
  expr_again (only h) = handed (λ x. only x) (or_again h)
  expr_again (g.cond {ts = ts} {us = us} {vs = vs} {question = question} {colon = colon} {test = test} {left = left} {right = right} h q l c r) =
      made (map-append blank (ts ++ question ∷ us) (colon ∷ vs) ∙ ap (λ x. x ++ blank colon ∷ map blank vs) (map-append blank ts (question ∷ us)))
      (n.bare_cond test left right question.site) (n.words_cond test left right question.site)
      (g.cond (or_again h).again (blank_is q) (expr_again l).again (blank_is c) (expr_again r).again)
      (wrote_all (wrote_all (or_again h).written (wrote (is_word refl q) (expr_again l).written)) (wrote (is_word refl c) (expr_again r).written))

  pub or_again : {ts : List Terminal} {e : Expr} → IsOr ts e → Anew IsOr ts e
  or_again (or_first h) = handed (λ x. or_first x) (and_again h)
  or_again (or_next {op = op} {left = left} {right = right} l o r) = between op left right (λ x y. or_next x (blank_chained o) y) (or_again l) (chained_is chain.Either o) (and_again r)

  pub and_again : {ts : List Terminal} {e : Expr} → IsAnd ts e → Anew IsAnd ts e
  and_again (and_first h) = handed (λ x. and_first x) (cmp_again h)
  and_again (and_next {op = op} {left = left} {right = right} l o r) = between op left right (λ x y. and_next x (blank_chained o) y) (and_again l) (chained_is chain.Both o) (cmp_again r)

  pub cmp_again : {ts : List Terminal} {e : Expr} → IsCmp ts e → Anew IsCmp ts e
  cmp_again (cmp_only h) = handed (λ x. cmp_only x) (sum_again h)
  cmp_again (cmp_both {op = op} {left = left} {right = right} l o r) = between op left right (λ x y. cmp_both x (blank_compared o) y) (sum_again l) (compared_is o) (sum_again r)

  pub sum_again : {ts : List Terminal} {e : Expr} → IsSum ts e → Anew IsSum ts e
  sum_again (sum_first h) = handed (λ x. sum_first x) (term_again h)
  sum_again (sum_next {op = op} {left = left} {right = right} l o r) = between op left right (λ x y. sum_next x (blank_chained o) y) (sum_again l) (chained_is chain.Sum o) (term_again r)

  pub term_again : {ts : List Terminal} {e : Expr} → IsTerm ts e → Anew IsTerm ts e
  term_again (term_first h) = handed (λ x. term_first x) (unary_again h)
  term_again (term_next {op = op} {left = left} {right = right} l o r) = between op left right (λ x y. term_next x (blank_chained o) y) (term_again l) (chained_is chain.Product o) (unary_again r)

  pub unary_again : {ts : List Terminal} {e : Expr} → IsUnary ts e → Anew IsUnary ts e
  unary_again (plain h) = handed (λ x. plain x) (postfix_again h)
  unary_again (not_of {mark = mark} {inner = inner} m h) =
      made refl (n.bare_not inner mark.site) (n.words_not inner mark.site) (not_of (blank_is m) (unary_again h).again)
      (wrote (is_word refl m) (unary_again h).written)
  unary_again (minus_of {mark = mark} {inner = inner} m h) =
      made refl (n.bare_minus inner mark.site) (n.words_minus inner mark.site) (minus_of (blank_is m) (unary_again h).again)
      (wrote (is_word refl m) (unary_again h).written)

  pub postfix_again : {ts : List Terminal} {e : Expr} → IsPostfix ts e → Anew IsPostfix ts e
  postfix_again (primary h) = handed (λ x. primary x) (primary_again h)
  postfix_again (field_of {object = object} h d k) = field_again object (λ x. field_of x (blank_is d) (blank_is k)) (postfix_again h) d k

  pub primary_again : {ts : List Terminal} {e : Expr} → IsPrimary ts e → Anew IsPrimary ts e
  primary_again (number {t = t} h) = made refl (n.bare_number t.value t.site) (n.words_number t.value t.site) (number (blank_is h)) (wrote (is_word refl h) wrote_none)
  primary_again (truth {t = t} h) = made refl (n.bare_truth true t.site) (n.words_truth true t.site) (truth (blank_is h)) (wrote (is_word refl h) wrote_none)
  primary_again (untruth {t = t} h) = made refl (n.bare_truth false t.site) (n.words_truth false t.site) (untruth (blank_is h)) (wrote (is_word refl h) wrote_none)
  primary_again (null {t = t} h) = made refl (n.bare_null t.site) (n.words_null t.site) (null (blank_is h)) (wrote (is_word refl h) wrote_none)
  primary_again (local {t = t} h) =
      made refl (n.bare_local t.bytes t.site ∙ ap (λ b. expr.Local b nowhere) (sym (name_is h))) (n.words_local t.bytes t.site) (local (blank_is h))
      (wrote (named h) wrote_none)
  primary_again (call {name = name} {opening = opening} {closing = closing} {ts = ts} {args = args} k o a c) =
      made (ap (λ l. blank name ∷ blank opening ∷ l) (map-append blank ts (closing ∷ [])))
      (n.bare_call name.bytes args name.site ∙ ap (λ b. expr.Call b (map bare_expr args) nowhere) (sym (name_is k))) (n.words_call name.bytes args name.site)
      (call (blank_is k) (blank_is o) (args_again a).again (blank_is c))
      (wrote (named k) (wrote (is_word refl o) (wrote_all (args_again a).written (wrote (is_word refl c) wrote_none))))
  primary_again (shared_field s d k) = shared_again (shared_field (blank_is s) (blank_is d) (blank_is k)) s d k
  primary_again (paren {opening = opening} {closing = closing} {ts = ts} {inner = inner} o h c) =
      made (ap (λ l. blank opening ∷ l) (map-append blank ts (closing ∷ []))) (n.bare_paren inner opening.site) (n.words_paren inner opening.site)
      (paren (blank_is o) (expr_again h).again (blank_is c)) (wrote (is_word refl o) (wrote_all (expr_again h).written (wrote (is_word refl c) wrote_none)))

  pub args_again : {ts : List Terminal} {es : List Expr} → AreArgs ts es → AllAnew AreArgs ts es
  args_again no_args = record { again = no_args; written = wrote_none }
  args_again (some_args h) = handed (λ x. some_args x) (exprs_again h)

  pub exprs_again : {ts : List Terminal} {es : List Expr} → AreExprs ts es → AllAnew AreExprs ts es
  exprs_again (last_expr {e = e} h) = made refl refl (append-nil (expr_words e)) (last_expr (expr_again h).again) (expr_again h).written
  exprs_again (next_expr {ts = ts} {us = us} {comma = comma} {e = e} {es = es} h c r) =
      made (map-append blank ts (comma ∷ us)) refl (args_next r e) (next_expr (expr_again h).again (blank_is c) (exprs_again r).again)
      (wrote_all (expr_again h).written (wrote (is_word refl c) (exprs_again r).written))

-- a target is read again from its words
pub place_again : {ts : List Terminal} {e : Expr} → IsPlace ts e → Anew IsPlace ts e
place_again (of_local {object = object} {dot = dot} {name = name} o d k) =
    let inner : expr_words (expr.Local object.bytes object.site) ≡ object.bytes ∷ [] = n.words_local object.bytes object.site in
    let bared : bare_expr (expr.Local object.bytes object.site) ≡ expr.Local (word object) nowhere =
    n.bare_local object.bytes object.site ∙ ap (λ b. expr.Local b nowhere) (sym (name_is o)) in
    made refl
    (n.bare_field (expr.Local object.bytes object.site) name.bytes dot.site ∙ ap (λ x. expr.Field x name.bytes nowhere) bared
    ∙ ap (λ b. expr.Field (expr.Local (word object) nowhere) b nowhere) (sym (name_is k)))
    (n.words_field (expr.Local object.bytes object.site) name.bytes dot.site ∙ ap (λ ws. ws ++ codes "." ∷ name.bytes ∷ []) inner)
    (of_local (blank_is o) (blank_is d) (blank_is k)) (wrote (named o) (wrote (is_word refl d) (wrote (named k) wrote_none)))
place_again (of_shared s d k) = shared_again (of_shared (blank_is s) (blank_is d) (blank_is k)) s d k
place_again (of_field {object = object} h d k) = field_again object (λ x. of_field x (blank_is d) (blank_is k)) (place_again h) d k

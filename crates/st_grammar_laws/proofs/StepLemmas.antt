-- What the readers of expressions make of what their rules ask for, one step each.
use Rattle.std.proofs.Common.{◌≡◌, ℕ, zero, suc, ◌≤◌, ◌<◌, Bool, true, false, if◌then◌else◌, List, [], ◌∷◌, ◌++◌, length, Option, Some, None, is_some}
use Rattle.std.proofs.Common.{Result, Ok, Err, refl, sym}
use Rattle.std.proofs.Common.{ap, subst, ◌∙◌, arith, length-append}
use Rattle.st_ast.specs.declared.expressions.Expr.{Expr}
use Rattle.st_ast.specs.declared.expressions.Expr.TheVariants as expr
use Rattle.st_ast.specs.declared.operators.Op.{Op}
use Rattle.st_grammar.specs.declared.operators.Chain.{Chain}
use Rattle.st_grammar.specs.declared.operators.Chain.TheVariants as chain
use Rattle.st_grammar_laws.specs.declared.levels.Level.{Level}
use Rattle.st_grammar_laws.specs.declared.levels.Level.TheVariants as level
use Rattle.st_grammar.specs.declared.sorts.Sort.{Sort}
use Rattle.st_grammar.specs.declared.sorts.Sort.TheVariants as sort
use Rattle.st_grammar.specs.Operators.{chained, compared, IsChained, IsCompared}
use Rattle.st_grammar.specs.Sorts.{same_sort}
use Rattle.st_grammar.specs.Terminals.{Terminal, Is, next_sort}
use Rattle.st_grammar_laws.specs.Reading as r
use Rattle.st_grammar_laws.specs.Reading.{Outcome, Reader, and_then, ◌>>=◌, ◌>>◌, pure, ◌<$>◌, refuse, peek, sees, see, take_any, expect, turns, one_more, is_sort, listed, enclosed}
use Rattle.st_grammar_laws.proofs.TierLemmas.{tier, tier_of, ends_chain, ends_compared, is_other}
use Rattle.st_grammar_laws.proofs.TurnLemmas.{then_ok, same_is, expect_ok, expect_then, turns_end, turns_go}
use Rattle.st_grammar_laws.proofs.WordLemmas.{span}

not_both : {A : Type 0} (o : Outcome A) (p : A × List Terminal) (rest : List Terminal) → o ≡ Ok p → o ≡ Err rest → ⊥
not_both o p rest a b = cc

-- by the sort of the next terminal
pub at_sort : {A : Type 0} (f : Sort → Reader A) (s : Sort) (t : Terminal) (rest : List Terminal) (out : Outcome A) → Is s t → f s (t ∷ rest) ≡ out → f t.sort (t ∷ rest) ≡ out
at_sort f s t rest out h e = ap (λ (x : Sort). f x (t ∷ rest)) h.same ∙ e

-- the same terminals, grouped otherwise
pub moved : {A : Type 0} (f : Reader A) (d : ℕ) (a b : List Terminal) (out : Outcome A) → a ≡ b → (span b ≤ d → f b ≡ out) → span a ≤ d → f a ≡ out
moved f d a b out e h w = ap f e ∙ h (subst (λ (l : List Terminal). span l ≤ d) e w)

-- what a list and its closing parenthesis make
pub enclosed_none : {A : Type 0} (list : Reader (List A)) (closing : Terminal) (rest : List Terminal) → Is sort.CloseParen closing → enclosed list (closing ∷ rest) ≡ Ok ([], rest)
unfolding enclosed sees
enclosed_none list closing rest h =
    ap (λ (b : Bool). and_then ((if b then pure [] else list) (closing ∷ rest)) (λ items. expect sort.CloseParen >> pure items)) (same_is sort.CloseParen closing h)
    ∙ expect_then sort.CloseParen (λ _. pure []) closing rest (Ok ([], rest)) h refl

-- a list that does not begin with `)`, and then a `)`, is the items of the list
pub enclosed_some : {A : Type 0} (list : Reader (List A)) (xs : List Terminal) (items : List A) (closing : Terminal) (rest : List Terminal) → same_sort (next_sort xs) sort.CloseParen ≡ false
    → list xs ≡ Ok (items, closing ∷ rest) → Is sort.CloseParen closing → enclosed list xs ≡ Ok (items, rest)
unfolding enclosed sees
enclosed_some list xs items closing rest e l h =
    ap (λ (b : Bool). and_then ((if b then pure [] else list) xs) (λ items. expect sort.CloseParen >> pure items)) e
    ∙ then_ok (list xs) (λ items. expect sort.CloseParen >> pure items) items (closing ∷ rest) (Ok (items, rest)) l
    (expect_then sort.CloseParen (λ _. pure items) closing rest (Ok (items, rest)) h refl)

-- items after commas
pub comma_turn : {A : Type 0} (item : Reader A) (items : List A) (comma : Terminal) (xs : List Terminal) (x : A) (rest : List Terminal) → Is sort.Comma comma → item xs ≡ Ok (x, rest)
    → one_more (expect sort.Comma >> item) items (comma ∷ xs) ≡ Ok (items ++ x ∷ [], rest)
comma_turn item items comma xs x rest h e =
    then_ok ((expect sort.Comma >> item) (comma ∷ xs)) (λ y. pure (items ++ y ∷ [])) x rest (Ok (items ++ x ∷ [], rest)) (expect_then sort.Comma (λ _. item) comma xs (Ok (x, rest)) h e) refl

-- fields
pub field_ok : (object : Expr) (dot name : Terminal) (rest : List Terminal) → Is sort.Dot dot → Is sort.Name name
    → r.field_after object (dot ∷ name ∷ rest) ≡ Ok (expr.Field object name.bytes dot.site, rest)
unfolding r.field_after
field_ok object dot name rest d n = expect_then sort.Dot _ dot (name ∷ rest) _ d (expect_then sort.Name _ name rest _ n refl)

-- where a dot and a name come next, reading goes on from the field
pub fields_go : (object : Expr) (dot name : Terminal) (rest : List Terminal) → Is sort.Dot dot → Is sort.Name name
    → r.fields_after object (dot ∷ name ∷ rest) ≡ r.fields_after (expr.Field object name.bytes dot.site) rest
unfolding r.fields_after
fields_go object dot name rest d n =
    turns_go (is_sort sort.Dot) r.field_after object (expr.Field object name.bytes dot.site) dot (name ∷ rest) rest (same_is sort.Dot dot d) (field_ok object dot name rest d n) (omega arith)

-- a token of a tier above the dot's ends the fields
pub fields_end : (object : Expr) (rest : List Terminal) → 2 < tier (next_sort rest) → r.fields_after object rest ≡ Ok (object, rest)
unfolding r.fields_after
fields_end object rest h = turns_end (is_sort sort.Dot) r.field_after object rest (is_other 2 (next_sort rest) sort.Dot refl h)

-- `shared`, a dot and a name are read as a shared variable
pub shared_ok : (shared dot name : Terminal) (rest : List Terminal) → Is sort.Shared shared → Is sort.Dot dot → Is sort.Name name
    → r.shared_field (shared ∷ dot ∷ name ∷ rest) ≡ Ok (expr.Shared name.bytes dot.site, rest)
unfolding r.shared_field
shared_ok shared dot name rest s d n = expect_then sort.Shared _ shared (dot ∷ name ∷ rest) _ s (expect_then sort.Dot _ dot (name ∷ rest) _ d (expect_then sort.Name _ name rest _ n refl))

-- where the inner expression is of a depth of one less
pub whole_ok : (d : ℕ) (xs : List Terminal) (out : Outcome Expr) → span xs < d → ((e : ℕ) → span xs ≤ e → r.choice (r.nested e) xs ≡ out) → r.nested d level.Whole xs ≡ out
unfolding r.nested
whole_ok zero xs out w h = absurd (omega arith)
whole_ok (suc d) xs out w h = h d (omega arith)

-- the same for what stands behind a sign
pub prefixed_ok : (d : ℕ) (xs : List Terminal) (out : Outcome Expr) → span xs < d → ((e : ℕ) → span xs ≤ e → r.unary (r.nested e) xs ≡ out) → r.nested d level.Prefixed xs ≡ out
unfolding r.nested
prefixed_ok zero xs out w h = absurd (omega arith)
prefixed_ok (suc d) xs out w h = h d (omega arith)

module _ (inner : Level → Reader Expr) where
  -- primaries
  pub leaf_ok : (s : Sort) (f : Terminal → Expr) (t : Terminal) (rest : List Terminal) → Is s t → r.primary_by inner s (t ∷ rest) ≡ r.literal (t ∷ rest)
      → r.literal_by s (t ∷ rest) ≡ (f <$> take_any) (t ∷ rest)
      → r.primary inner (t ∷ rest) ≡ Ok (f t, rest)
  unfolding r.primary r.literal take_any
  leaf_ok s f t rest h e k = at_sort (r.primary_by inner) s t rest (Ok (f t, rest)) h (e ∙ at_sort r.literal_by s t rest (Ok (f t, rest)) h k)

  pub primary_at : (s : Sort) (t : Terminal) (rest : List Terminal) (out : Outcome Expr) → Is s t → r.primary_by inner s (t ∷ rest) ≡ out → r.primary inner (t ∷ rest) ≡ out
  unfolding r.primary
  primary_at s t rest out h e = at_sort (r.primary_by inner) s t rest out h e

  pub local_ok : (t : Terminal) (rest : List Terminal) → Is sort.Name t → 1 < tier (next_sort rest) → r.named inner (t ∷ rest) ≡ Ok (expr.Local t.bytes t.site, rest)
  unfolding r.named sees
  local_ok t rest h w = expect_then sort.Name _ t rest _ h
      (ap (λ (b : Bool). (if b then (expect sort.OpenParen >> (λ found. expr.Call t.bytes found t.site) <$> r.args inner) else pure (expr.Local t.bytes t.site)) rest)
      (is_other 1 (next_sort rest) sort.OpenParen refl w))

  pub call_ok : (name opening : Terminal) (xs : List Terminal) (args : List Expr) (rest : List Terminal) → Is sort.Name name → Is sort.OpenParen opening → r.args inner xs ≡ Ok (args, rest)
      → r.named inner (name ∷ opening ∷ xs) ≡ Ok (expr.Call name.bytes args name.site, rest)
  unfolding r.named sees
  call_ok name opening xs args rest n o e = expect_then sort.Name _ name (opening ∷ xs) _ n
      (ap (λ (b : Bool). (if b then (expect sort.OpenParen >> (λ found. expr.Call name.bytes found name.site) <$> r.args inner) else pure (expr.Local name.bytes name.site)) (opening ∷ xs))
      (same_is sort.OpenParen opening o)
      ∙ expect_then sort.OpenParen _ opening xs _ o (then_ok (r.args inner xs) _ args rest _ e refl))

  pub paren_ok : (opening : Terminal) (xs : List Terminal) (e : Expr) (closing : Terminal) (rest : List Terminal) → Is sort.OpenParen opening → inner level.Whole xs ≡ Ok (e, closing ∷ rest)
      → Is sort.CloseParen closing
      → r.paren inner (opening ∷ xs) ≡ Ok (expr.Paren e opening.site, rest)
  unfolding r.paren
  paren_ok opening xs e closing rest o h c = expect_then sort.OpenParen _ opening xs _ o (then_ok (inner level.Whole xs) _ e (closing ∷ rest) _ h
      (expect_then sort.CloseParen _ closing rest _ c refl))

  pub postfix_ok : (xs : List Terminal) (e : Expr) (rest : List Terminal) → r.primary inner xs ≡ Ok (e, rest) → r.postfix inner xs ≡ r.fields_after e rest
  unfolding r.postfix
  postfix_ok xs e rest h = then_ok (r.primary inner xs) r.fields_after e rest _ h refl

  -- no primary begins so
  refused : (xs : List Terminal) (s : Sort) → next_sort xs ≡ s → r.primary_by inner s xs ≡ r.literal xs → r.literal_by s xs ≡ Err xs → r.postfix inner xs ≡ Err xs
  unfolding r.postfix r.primary r.literal
  refused xs s e h k = ap (λ (x : Sort). and_then (r.primary_by inner x xs) r.fields_after) e
      ∙ ap (λ (o : Outcome Expr). and_then o r.fields_after) (h ∙ ap (λ (x : Sort). r.literal_by x xs) e ∙ k)

  unary_at : (s : Sort) (xs : List Terminal) (e : Expr) (rest : List Terminal) → next_sort xs ≡ s → r.postfix inner xs ≡ Ok (e, rest) → r.unary_by inner s xs ≡ Ok (e, rest)
  unary_at sort.Not xs e rest same h = absurd (not_both (r.postfix inner xs) (e, rest) xs h (refused xs sort.Not same refl refl))
  unary_at sort.Minus xs e rest same h = absurd (not_both (r.postfix inner xs) (e, rest) xs h (refused xs sort.Minus same refl refl))
  unary_at s xs e rest same h = h

  pub plain_ok : (xs : List Terminal) (e : Expr) (rest : List Terminal) → r.postfix inner xs ≡ Ok (e, rest) → r.unary inner xs ≡ Ok (e, rest)
  unfolding r.unary
  plain_ok xs e rest h = unary_at (next_sort xs) xs e rest refl h

  pub not_ok : (mark : Terminal) (xs : List Terminal) (e : Expr) (rest : List Terminal) → Is sort.Not mark → inner level.Prefixed xs ≡ Ok (e, rest)
      → r.unary inner (mark ∷ xs) ≡ Ok (expr.Not e mark.site, rest)
  unfolding r.unary take_any
  not_ok mark xs e rest m h = at_sort (r.unary_by inner) sort.Not mark xs _ m (then_ok (inner level.Prefixed xs) _ e rest _ h refl)

  pub minus_ok : (mark : Terminal) (xs : List Terminal) (e : Expr) (rest : List Terminal) → Is sort.Minus mark → inner level.Prefixed xs ≡ Ok (e, rest)
      → r.unary inner (mark ∷ xs) ≡ Ok (expr.Minus e mark.site, rest)
  unfolding r.unary take_any
  minus_ok mark xs e rest m h = at_sort (r.unary_by inner) sort.Minus mark xs _ m (then_ok (inner level.Prefixed xs) _ e rest _ h refl)

  -- chains
  pub after_chain : Chain → Reader Expr → Expr → Reader Expr
  after_chain c operand left = turns (λ s. is_some (chained c s)) (r.link inner c operand) left

  pub first_ok : (c : Chain) (operand : Reader Expr) (xs : List Terminal) (e : Expr) (rest : List Terminal) → operand xs ≡ Ok (e, rest)
      → r.linked inner c operand xs ≡ after_chain c operand e rest
  unfolding r.linked after_chain
  first_ok c operand xs e rest h = then_ok (operand xs) _ e rest _ h refl

  binary_ok : (operand : Reader Expr) (left : Expr) (o : Option Op) (op : Op) (mark : Terminal) (xs : List Terminal) (right : Expr) (rest : List Terminal) → o ≡ Some op
      → operand xs ≡ Ok (right, rest)
      → r.binary inner operand left o (mark ∷ xs) ≡ Ok (expr.Binary op left right mark.site, rest)
  unfolding take_any
  binary_ok operand left o op mark xs right rest e h = ap (λ (p : Option Op). r.binary inner operand left p (mark ∷ xs)) e ∙ then_ok (operand xs) _ right rest _ h refl

  pub next_ok : (c : Chain) (operand : Reader Expr) (left : Expr) (mark : Terminal) (op : Op) (us rest : List Terminal) (right : Expr) → IsChained c op mark
      → operand (us ++ rest) ≡ Ok (right, rest)
      → after_chain c operand left (mark ∷ (us ++ rest)) ≡ after_chain c operand (expr.Binary op left right mark.site) rest
  unfolding after_chain r.link
  next_ok c operand left mark op us rest right o h =
      turns_go (λ s. is_some (chained c s)) (r.link inner c operand) left (expr.Binary op left right mark.site) mark (us ++ rest) rest (ap is_some o.same)
      (binary_ok operand left (chained c mark.sort) op mark (us ++ rest) right rest o.same h) (omega (arith, length-append us rest))

  pub chain_end : (c : Chain) (operand : Reader Expr) (e : Expr) (rest : List Terminal) → tier_of c < tier (next_sort rest) → after_chain c operand e rest ≡ Ok (e, rest)
  unfolding after_chain
  chain_end c operand e rest h = turns_end (λ s. is_some (chained c s)) (r.link inner c operand) e rest (ends_chain c (next_sort rest) h)

  -- a comparison
  pub cmp_one : (xs : List Terminal) (e : Expr) (rest : List Terminal) → r.sum inner xs ≡ Ok (e, rest) → 5 < tier (next_sort rest) → r.cmp inner xs ≡ Ok (e, rest)
  unfolding r.cmp
  cmp_one xs e rest h w = then_ok (r.sum inner xs) _ e rest _ h (ap (λ (o : Option Op). r.cmp_after inner e o rest) (ends_compared (next_sort rest) w))

  pub cmp_two : (xs : List Terminal) (left : Expr) (mark : Terminal) (op : Op) (us : List Terminal) (right : Expr) (rest : List Terminal) → r.sum inner xs ≡ Ok (left, mark ∷ us)
      → IsCompared op mark → r.sum inner us ≡ Ok (right, rest)
      → r.cmp inner xs ≡ Ok (expr.Binary op left right mark.site, rest)
  unfolding r.cmp
  cmp_two xs left mark op us right rest h o k = then_ok (r.sum inner xs) _ left (mark ∷ us) _ h
      (ap (λ (p : Option Op). r.cmp_after inner left p (mark ∷ us)) o.same ∙ binary_ok (r.sum inner) left (Some op) op mark us right rest refl k)

  -- a choice
  pub choice_one : (xs : List Terminal) (e : Expr) (rest : List Terminal) → r.or inner xs ≡ Ok (e, rest) → 8 < tier (next_sort rest) → r.choice inner xs ≡ Ok (e, rest)
  unfolding r.choice sees
  choice_one xs e rest h w = then_ok (r.or inner xs) _ e rest _ h
      (ap (λ (b : Bool). (if b then r.branches inner e else pure e) rest) (is_other 8 (next_sort rest) sort.Question refl w))

  pub choice_two : (xs : List Terminal) (test : Expr) (question : Terminal) (us : List Terminal) (left : Expr) (colon : Terminal) (vs : List Terminal) (right : Expr) (rest : List Terminal)
      → r.or inner xs ≡ Ok (test, question ∷ us)
      → Is sort.Question question → inner level.Whole us ≡ Ok (left, colon ∷ vs) → Is sort.Colon colon → inner level.Whole vs ≡ Ok (right, rest) → r.choice inner xs ≡ Ok
      (expr.Cond test left right question.site, rest)
  unfolding r.choice r.branches sees
  choice_two xs test question us left colon vs right rest h q l c k = then_ok (r.or inner xs) _ test (question ∷ us) _ h
      (ap (λ (b : Bool). (if b then r.branches inner test else pure test) (question ∷ us)) (same_is sort.Question question q)
      ∙ expect_then sort.Question _ question us _ q (then_ok (inner level.Whole us) _ left (colon ∷ vs) _ l
      (expect_then sort.Colon _ colon vs _ c (then_ok (inner level.Whole vs) _ right rest _ k refl))))

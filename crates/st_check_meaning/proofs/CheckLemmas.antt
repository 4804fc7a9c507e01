-- The calls and the checks of a well-formed program are safe on a typed heap; what follows for their plain values and cells.
use Rattle.std.proofs.Common.{◌≡◌, ℕ, zero, suc, ◌<◌, List, [], ◌∷◌, length, get_or, All, slice_get, Option, Some, refl, sym, ap, subst}
use Rattle.std.proofs.lemmas.Option.{slice_get_within, slice_get-get_or}
use Rattle.st_events.specs.declared.shapes.Kind.{Kind}
use Rattle.st_events.specs.declared.shapes.Kind.TheVariants.{Bool as Truth}
use Rattle.st_events.specs.Heap.{Heap}
use Rattle.st_events.specs.Shape.{ShapeLists}
use Rattle.st_events.specs.Sound.{IsTypedHeap}
use Rattle.st_resolved.specs.Terms.{Predicate, CheckStatement, Program}
use Rattle.st_resolved.specs.Kinds.{HasKind}
use Rattle.st_resolved.specs.WellFormed.{IsWellFormed, IsRightPredicate, AreRightChecks, plain_setting}
use Rattle.st_check_meaning.specs.declared.limits.TheConstants.{MOST_DEPTH}
use Rattle.st_check_meaning.specs.Meaning.{body_course, call_within}
use Rattle.st_check_meaning.specs.Plain.{Followed, statement_course, check_course, plain_value, cells_read}
use Rattle.st_check_meaning.specs.Safe.{IsSafe, IsOfKind}
use Rattle.st_check_meaning.specs.Laws.{DependOnTheirCells, ReadCellsThatExist, MeetTheirKinds, PlainExpressionsMeetTheirKinds}
use Rattle.st_check_meaning.proofs.FollowedLemmas.{followed_same, safe_reads_exist}
use Rattle.st_check_meaning.proofs.SafeLemmas.{AreSafeCalls, term_is_safe}

-- what holds of each element of a list holds of the one found at a place
pub element_found : {X : Type 0} (P : X → Type 0) (xs : List X) (n : ℕ) (x : X) → All P xs → slice_get xs n ≡ Some x → P x
element_found P xs n x h e =
    let within : n < length xs = slice_get_within xs n x e in
    let there : slice_get xs n ≡ Some (get_or xs n x) = slice_get-get_or xs n x within in
    let same : get_or xs n x ≡ x = cc in
    subst P same (h n x within)

-- the calls of a well-formed program are safe, however many more may be open
pub calls_are_safe :
    (shape : ShapeLists) (p : Program) (heap : Heap)
    → IsWellFormed shape p
    → IsTypedHeap shape heap
    → (depth : ℕ)
    → AreSafeCalls shape heap p.preds (call_within p.preds depth)
unfolding call_within
calls_are_safe shape p heap right typed zero = record { each = λ n pred words e fit. tt }
calls_are_safe shape p heap right typed (suc depth) = record {
  each = λ n pred words e fit.
      subst (λ (found : Option Predicate). IsSafe shape heap (IsOfKind heap pred.result) (body_course (call_within p.preds depth) found words)) (sym e)
      (term_is_safe (record { shape = shape; preds = p.preds; locals = pred.params }) heap (call_within p.preds depth) words
      (record { typed = typed; locals_fit = fit; calls_safe = calls_are_safe shape p heap right typed depth })
      pred.body pred.result (element_found (IsRightPredicate shape p) p.preds n pred right.preds e).body);
}

-- a check statement and that its expression is true or false over arguments of these kinds
pub record IsStatementOf (shape : ShapeLists) (p : Program) (checks : List CheckStatement) (site : ℕ) (kinds : List Kind) : Type 0 where
  pub check : CheckStatement
  pub there : slice_get checks site ≡ Some check
  pub of_kind : HasKind (record { shape = shape; preds = p.preds; locals = kinds }) check.body Truth

-- each site of the shape has its statement
pub statement_is_there :
    (shape : ShapeLists) (p : Program) (checks : List CheckStatement) (all : List (List Kind)) (site : ℕ) (kinds : List Kind)
    → AreRightChecks shape p checks all
    → slice_get all site ≡ Some kinds
    → IsStatementOf shape p checks site kinds
statement_is_there shape p [] [] site kinds h e = absurd (cc)
statement_is_there shape p [] (k ∷ ks) site kinds h e = absurd h
statement_is_there shape p (c ∷ cs) [] site kinds h e = absurd h
statement_is_there shape p (c ∷ cs) (k ∷ ks) zero kinds h e =
    let same : k ≡ kinds = cc in
    record { check = c; there = refl; of_kind = subst (λ (x : List Kind). HasKind (record { shape = shape; preds = p.preds; locals = x }) c.body Truth) same h.0 }
statement_is_there shape p (c ∷ cs) (k ∷ ks) (suc site) kinds h e =
    let s : IsStatementOf shape p cs site kinds = statement_is_there shape p cs ks site kinds h.1 e in
    record { check = s.check; there = s.there; of_kind = s.of_kind }

-- a check with arguments of their kinds is safe
pub checks_are_safe : MeetTheirKinds
unfolding check_course
checks_are_safe shape p heap site kinds args right typed e fit = of_statement (statement_is_there shape p p.checks shape.checks site kinds right.checks e)
  where
    of_statement :
        IsStatementOf shape p p.checks site kinds
        → IsSafe shape heap (IsOfKind heap Truth) (statement_course (call_within p.preds MOST_DEPTH) (slice_get p.checks site) args)
    of_statement s =
        subst (λ (found : Option CheckStatement). IsSafe shape heap (IsOfKind heap Truth) (statement_course (call_within p.preds MOST_DEPTH) found args)) (sym s.there)
        (term_is_safe (record { shape = shape; preds = p.preds; locals = kinds }) heap (call_within p.preds MOST_DEPTH) args
        (record { typed = typed; locals_fit = fit; calls_safe = calls_are_safe shape p heap right typed MOST_DEPTH })
        s.check.body Truth s.of_kind)

-- a check reads cells that exist
pub checks_read_cells_that_exist : ReadCellsThatExist
unfolding cells_read
checks_read_cells_that_exist shape p heap site kinds args calls right typed e fit =
    safe_reads_exist shape heap (IsOfKind heap Truth) (check_course p site args) calls (checks_are_safe shape p heap site kinds args right typed e fit)

-- a check depends on the cells that it reads alone
pub checks_depend_on_their_cells : DependOnTheirCells
unfolding plain_value cells_read
checks_depend_on_their_cells p heap other site args calls h =
    let same = followed_same heap other (check_course p site args) calls h in (ap (λ (f : Followed). f.value) same, ap (λ (f : Followed). f.cells) same)

-- an expression without calls is safe, whatever a call would do
pub plain_expressions_are_safe : PlainExpressionsMeetTheirKinds
plain_expressions_are_safe shape heap kinds t kind locals calls typed h fit =
    term_is_safe (plain_setting shape kinds) heap calls locals
    (record { typed = typed; locals_fit = fit; calls_safe = record { each = λ n pred words e _. absurd (none n e) } })
    t kind h
  where
    none : {pred : Predicate} (n : ℕ) → slice_get {X = Predicate} [] n ≡ Some pred → ⊥
    none n e = cc

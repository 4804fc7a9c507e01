-- A check of a well-formed program asks only for objects with numbers of 32 bits, as long as each reply has the kind of its cell.
use Rattle.std.proofs.Common.{◌≡◌, ◌≤◌, ◌==◌, ℕ, zero, suc, Bool, true, false, not, if◌then◌else◌, List, [], ◌∷◌, slice_get, Option, Some}
use Rattle.std.proofs.Common.{ℤ, ◌+ℤ◌, ◌-ℤ◌, ◌*ℤ◌, neg_ℤ, int_lt, int_le, int_div, int_rem, sym, subst, arith, lit<}
use Rattle.std.specs.Prelude.{unwrap_or}
use Rattle.st_events.specs.declared.events.Site.{Site}
use Rattle.st_events.specs.declared.verdicts.Plain.TheVariants.{Null, Divide, Overflow}
use Rattle.st_events.specs.declared.shapes.Kind.{Kind}
use Rattle.st_events.specs.declared.shapes.Kind.TheVariants.{Int, Bool as Truth, Ref}
use Rattle.st_events.specs.Shape.{ShapeLists, kinds_of}
use Rattle.st_resolved.specs.declared.expressions.Operator.{Operator}
use Rattle.st_resolved.specs.declared.expressions.Operator.TheVariants.{Add, Sub, Mul, Div, Rem, Less, LessEq, Greater, GreaterEq, Equal, NotEqual}
use Rattle.st_resolved.specs.Terms.{Term, a_number, a_truth, a_null, a_local, a_shared, a_field, a_not, a_minus, a_binary, a_both, an_either, a_cond, a_call}
use Rattle.st_resolved.specs.Terms.{Terms, no_terms, term_then, Predicate, CheckStatement, Program}
use Rattle.st_resolved.specs.Kinds.{Setting, HasKind, HaveKinds, IsClassKind, kind_given}
use Rattle.st_resolved.specs.WellFormed.{IsWellFormed, IsRightPredicate}
use Rattle.st_check_meaning.specs.declared.limits.TheConstants.{MOST_DEPTH}
use Rattle.st_check_meaning.specs.Courses.{Course, comes_to, ends_in, reads, uses_unit, and_then}
use Rattle.st_check_meaning.specs.Numbers.{number_of, word_of_number, word_of_truth, is_true, is_in_range, number_or_overflow}
use Rattle.st_check_meaning.specs.Meaning.{Calls, truth, quotient, operate, read_cell, field_of, course_of, courses_of, body_course, call_within}
use Rattle.st_check_meaning.specs.Plain.{statement_course, check_course}
use Rattle.st_check_meaning.proofs.CheckLemmas.{element_found, IsStatementOf, statement_is_there}
use Rattle.st_eval.specs.Replies.{IsWordOf, AreWordsOf, AsksWell}
use Rattle.st_eval.specs.Laws.{AskWell}

-- one course and then others
then_asks_well :
    (shape : ShapeLists) {A B : Type 0} (P : A → Type 0) (Q : B → Type 0) (c : Course A) (rest : A → Course B)
    → AsksWell shape P c
    → ((x : A) → P x → AsksWell shape Q (rest x))
    → AsksWell shape Q (and_then c rest)
then_asks_well shape P Q (comes_to x) rest h k = k x h
then_asks_well shape P Q (ends_in plain) rest h k = tt
then_asks_well shape P Q (reads obj field next) rest h k =
    (h.0, h.1, h.2, h.3, λ word fit. then_asks_well shape P Q (next word) rest (h.4 word fit) k)
then_asks_well shape P Q (uses_unit next) rest h k = then_asks_well shape P Q (next tt) rest h k

-- both branches of a test
branch_asks_well :
    (shape : ShapeLists) {A : Type 0} (P : A → Type 0) (test : Bool) (c d : Course A)
    → AsksWell shape P c
    → AsksWell shape P d
    → AsksWell shape P (elim test [ true ↦ c | false ↦ d ])
branch_asks_well shape P true c d h k = h
branch_asks_well shape P false c d h k = k

-- the word of a truth is 0 or 1
truth_is_word : (answer : Bool) → IsWordOf Truth (word_of_truth answer)
truth_is_word true = let e : 1 ≤ 1 = omega arith in e
truth_is_word false = let e : 0 ≤ 1 = omega arith in e

-- a number in range, or an overflow
number_asks_well : (shape : ShapeLists) (number : ℤ) (at : Site) → AsksWell shape (IsWordOf Int) (number_or_overflow number at)
number_asks_well shape number at = by (is_in_range number)
  where
    by : (t : Bool) → AsksWell shape (IsWordOf Int) (if t then comes_to (word_of_number number) else ends_in (Overflow at))
    by true = tt
    by false = tt

-- a quotient, or one of its faults
quotient_asks_well : (shape : ShapeLists) (left right : ℕ) (at : Site) → AsksWell shape (IsWordOf Int) (quotient left right at)
quotient_asks_well shape left right at = by (right == 0)
  where
    by : (t : Bool) → AsksWell shape (IsWordOf Int) (if t then ends_in (Divide at) else number_or_overflow (int_div (number_of left) (number_of right)) at)
    by true = tt
    by false = number_asks_well shape (int_div (number_of left) (number_of right)) at

-- what an operator gives
operator_asks_well :
    (shape : ShapeLists) (operator : Operator) (left right : ℕ) (at : Site)
    → AsksWell shape (IsWordOf (kind_given operator)) (operate operator left right at)
operator_asks_well shape Add left right at = number_asks_well shape (number_of left +ℤ number_of right) at
operator_asks_well shape Sub left right at = number_asks_well shape (number_of left -ℤ number_of right) at
operator_asks_well shape Mul left right at = number_asks_well shape (number_of left *ℤ number_of right) at
operator_asks_well shape Div left right at = quotient_asks_well shape left right at
operator_asks_well shape Rem left right at =
    then_asks_well shape (IsWordOf Int) (IsWordOf Int) (quotient left right at)
    (λ _. comes_to (word_of_number (int_rem (number_of left) (number_of right)))) (quotient_asks_well shape left right at) (λ _ _. tt)
operator_asks_well shape Less left right at = truth_is_word (int_lt (number_of left) (number_of right))
operator_asks_well shape LessEq left right at = truth_is_word (int_le (number_of left) (number_of right))
operator_asks_well shape Greater left right at = truth_is_word (int_lt (number_of right) (number_of left))
operator_asks_well shape GreaterEq left right at = truth_is_word (int_le (number_of right) (number_of left))
operator_asks_well shape Equal left right at = truth_is_word (left == right)
operator_asks_well shape NotEqual left right at = truth_is_word (not (left == right))

-- the word of a local has its kind
local_is_word :
    (kinds : List Kind) (words : List ℕ) (local : ℕ) (kind : Kind)
    → AreWordsOf kinds words
    → slice_get kinds local ≡ Some kind
    → IsWordOf kind (unwrap_or (slice_get words local) 0)
local_is_word [] words local kind h e = absurd (cc)
local_is_word (k ∷ kinds) [] local kind h e = absurd h
local_is_word (k ∷ kinds) (w ∷ words) zero kind h e = let same : k ≡ kind = cc in subst (λ (x : Kind). IsWordOf x w) same h.0
local_is_word (k ∷ kinds) (w ∷ words) (suc local) kind h e = local_is_word kinds words local kind h.1 e

-- a field of a reference
field_asks_well :
    (shape : ShapeLists) (obj class field : ℕ) (kind : Kind) (at : Site)
    → IsWordOf (Ref class) obj
    → slice_get (kinds_of shape class) field ≡ Some kind
    → AsksWell shape (IsWordOf kind) (field_of obj field at)
field_asks_well shape obj class field kind at h f = by (obj == 0)
  where
    by : (t : Bool) → AsksWell shape (IsWordOf kind) (if t then ends_in (Null at) else read_cell obj field)
    by true = tt
    by false = (class, kind, f, h, λ word fit. fit)

-- calls of the predicates, with arguments of their kinds, ask well and come to words of their kinds
pub record AreGoodCalls (shape : ShapeLists) (preds : List Predicate) (calls : Calls) : Type 0 where
  pub each :
      (n : ℕ) (pred : Predicate) (words : List ℕ)
      → slice_get preds n ≡ Some pred
      → AreWordsOf pred.params words
      → AsksWell shape (IsWordOf pred.result) (calls n words)

-- where an expression stands: the locals have their kinds, the calls ask well
pub record IsGoodSetting (s : Setting) (calls : Calls) (locals : List ℕ) : Type 0 where
  pub locals_fit : AreWordsOf s.locals locals
  pub calls_good : AreGoodCalls s.shape s.preds calls

-- null has the kind of every class
null_is_word : (kind : Kind) → IsClassKind kind → IsWordOf kind 0
null_is_word Int h = absurd h
null_is_word Truth h = absurd h
null_is_word (Ref class) h = lit< tt

mutual
  pub term_asks_well :
      (s : Setting) (calls : Calls) (locals : List ℕ)
      → IsGoodSetting s calls locals
      → (t : Term) (kind : Kind)
      → HasKind s t kind
      → AsksWell s.shape (IsWordOf kind) (course_of calls t locals)
  term_asks_well s calls locals ok (a_number value) kind h = rw h tt
  term_asks_well s calls locals ok (a_truth value) kind h = rw h (truth_is_word value)
  term_asks_well s calls locals ok a_null kind h = null_is_word kind h
  term_asks_well s calls locals ok (a_local local) kind h = local_is_word s.locals locals local kind ok.locals_fit h
  term_asks_well s calls locals ok (a_shared field) kind h = (0, kind, h, lit< tt, λ word fit. fit)
  term_asks_well s calls locals ok (a_field object field at) kind h =
      then_asks_well s.shape (IsWordOf (Ref h.0)) (IsWordOf kind) (course_of calls object locals) (λ obj. field_of obj field at)
      (term_asks_well s calls locals ok object (Ref h.0) h.1)
      (λ obj of_kind. field_asks_well s.shape obj h.0 field kind at of_kind h.2)
  term_asks_well s calls locals ok (a_not inner) kind h =
      then_asks_well s.shape (IsWordOf Truth) (IsWordOf kind) (course_of calls inner locals) (λ word. truth (not (is_true word)))
      (term_asks_well s calls locals ok inner Truth h.0)
      (λ word _. rw h.1 (truth_is_word (not (is_true word))))
  term_asks_well s calls locals ok (a_minus inner at) kind h =
      then_asks_well s.shape (IsWordOf Int) (IsWordOf kind) (course_of calls inner locals) (λ word. number_or_overflow (neg_ℤ (number_of word)) at)
      (term_asks_well s calls locals ok inner Int h.0)
      (λ word _. rw h.1 (number_asks_well s.shape (neg_ℤ (number_of word)) at))
  term_asks_well s calls locals ok (a_binary operator left right at) kind h =
      then_asks_well s.shape (IsWordOf h.0) (IsWordOf kind) (course_of calls left locals)
      (λ first. and_then (course_of calls right locals) (λ second. operate operator first second at))
      (term_asks_well s calls locals ok left h.0 h.2)
      (λ first _. then_asks_well s.shape (IsWordOf h.0) (IsWordOf kind) (course_of calls right locals) (λ second. operate operator first second at)
      (term_asks_well s calls locals ok right h.0 h.3)
      (λ second _. rw h.4 (operator_asks_well s.shape operator first second at)))
  term_asks_well s calls locals ok (a_both left right) kind h =
      then_asks_well s.shape (IsWordOf Truth) (IsWordOf kind) (course_of calls left locals)
      (λ first. elim (is_true first) [ true ↦ course_of calls right locals | false ↦ truth false ])
      (term_asks_well s calls locals ok left Truth h.0)
      (λ first _. rw h.2 (branch_asks_well s.shape (IsWordOf Truth) (is_true first) (course_of calls right locals) (truth false)
      (term_asks_well s calls locals ok right Truth h.1) (truth_is_word false)))
  term_asks_well s calls locals ok (an_either left right) kind h =
      then_asks_well s.shape (IsWordOf Truth) (IsWordOf kind) (course_of calls left locals)
      (λ first. elim (is_true first) [ true ↦ truth true | false ↦ course_of calls right locals ])
      (term_asks_well s calls locals ok left Truth h.0)
      (λ first _. rw h.2 (branch_asks_well s.shape (IsWordOf Truth) (is_true first) (truth true) (course_of calls right locals)
      (truth_is_word true) (term_asks_well s calls locals ok right Truth h.1)))
  term_asks_well s calls locals ok (a_cond test left right) kind h =
      then_asks_well s.shape (IsWordOf Truth) (IsWordOf kind) (course_of calls test locals)
      (λ first. elim (is_true first) [ true ↦ course_of calls left locals | false ↦ course_of calls right locals ])
      (term_asks_well s calls locals ok test Truth h.0)
      (λ first _. branch_asks_well s.shape (IsWordOf kind) (is_true first) (course_of calls left locals) (course_of calls right locals)
      (term_asks_well s calls locals ok left kind h.1) (term_asks_well s calls locals ok right kind h.2))
  term_asks_well s calls locals ok (a_call pred args) kind h =
      then_asks_well s.shape (AreWordsOf h.0.params) (IsWordOf kind) (courses_of calls args locals) (λ words. calls pred words)
      (terms_ask_well s calls locals ok args h.0.params h.2)
      (λ words fit. rw h.3 (ok.calls_good.each pred h.0 words h.1 fit))

  pub terms_ask_well :
      (s : Setting) (calls : Calls) (locals : List ℕ)
      → IsGoodSetting s calls locals
      → (ts : Terms) (kinds : List Kind)
      → HaveKinds s ts kinds
      → AsksWell s.shape (AreWordsOf kinds) (courses_of calls ts locals)
  terms_ask_well s calls locals ok no_terms [] h = tt
  terms_ask_well s calls locals ok no_terms (kind ∷ kinds) h = absurd h
  terms_ask_well s calls locals ok (term_then t ts) [] h = absurd h
  terms_ask_well s calls locals ok (term_then t ts) (kind ∷ kinds) h =
      then_asks_well s.shape (IsWordOf kind) (AreWordsOf (kind ∷ kinds)) (course_of calls t locals)
      (λ word. and_then (courses_of calls ts locals) (λ words. comes_to (word ∷ words)))
      (term_asks_well s calls locals ok t kind h.0)
      (λ word first. then_asks_well s.shape (AreWordsOf kinds) (AreWordsOf (kind ∷ kinds)) (courses_of calls ts locals) (λ words. comes_to (word ∷ words))
      (terms_ask_well s calls locals ok ts kinds h.1)
      (λ words rest. (first, rest)))

-- the calls of a well-formed program, however many more may be open
calls_ask_well : (shape : ShapeLists) (p : Program) → IsWellFormed shape p → (depth : ℕ) → AreGoodCalls shape p.preds (call_within p.preds depth)
unfolding call_within
calls_ask_well shape p right zero = record { each = λ n pred words e fit. tt }
calls_ask_well shape p right (suc depth) = record {
  each = λ n pred words e fit.
      subst (λ (found : Option Predicate). AsksWell shape (IsWordOf pred.result) (body_course (call_within p.preds depth) found words)) (sym e)
      (term_asks_well (record { shape = shape; preds = p.preds; locals = pred.params }) (call_within p.preds depth) words
      (record { locals_fit = fit; calls_good = calls_ask_well shape p right depth })
      pred.body pred.result (element_found (IsRightPredicate shape p) p.preds n pred right.preds e).body);
}

-- a check with arguments of their kinds
pub checks_ask_well : AskWell
unfolding check_course
checks_ask_well shape p site kinds args right e fit = of_statement (statement_is_there shape p p.checks shape.checks site kinds right.checks e)
  where
    of_statement :
        IsStatementOf shape p p.checks site kinds
        → AsksWell shape (IsWordOf Truth) (statement_course (call_within p.preds MOST_DEPTH) (slice_get p.checks site) args)
    of_statement s =
        subst (λ (found : Option CheckStatement). AsksWell shape (IsWordOf Truth) (statement_course (call_within p.preds MOST_DEPTH) found args)) (sym s.there)
        (term_asks_well (record { shape = shape; preds = p.preds; locals = kinds }) (call_within p.preds MOST_DEPTH) args
        (record { locals_fit = fit; calls_good = calls_ask_well shape p right MOST_DEPTH })
        s.check.body Truth s.of_kind)

-- The course of an expression of a kind is safe where its locals have their kinds and the calls are safe; so the calls of a
-- well-formed program are, by the depth that is left, and its checks.
use Rattle.std.proofs.Common.{◌≡◌, ℕ, true, false, not, List, [], ◌∷◌, slice_get, Some, refl, neg_ℤ}
use Rattle.st_events.specs.declared.heaps.TheConstants.{SHARED_OBJECT}
use Rattle.st_events.specs.declared.shapes.Kind.{Kind}
use Rattle.st_events.specs.declared.shapes.Kind.TheVariants.{Int, Bool as Truth, Ref}
use Rattle.st_events.specs.Heap.{Heap}
use Rattle.st_events.specs.Shape.{ShapeLists}
use Rattle.st_events.specs.Sound.{IsTypedHeap}
use Rattle.st_resolved.specs.Terms.{Term, a_number, a_truth, a_null, a_local, a_shared, a_field, a_not, a_minus, a_binary, a_both, an_either, a_cond, a_call}
use Rattle.st_resolved.specs.Terms.{Terms, no_terms, term_then, Predicate}
use Rattle.st_resolved.specs.Kinds.{Setting, HasKind, HaveKinds, IsClassKind}
use Rattle.st_check_meaning.specs.Courses.{comes_to, and_then}
use Rattle.st_check_meaning.specs.Numbers.{number_of, is_true, number_or_overflow}
use Rattle.st_check_meaning.specs.Meaning.{Calls, truth, operate, field_of, course_of, courses_of}
use Rattle.st_check_meaning.specs.Safe.{IsSafe, IsOfKind, AreOfKinds}
use Rattle.st_check_meaning.proofs.CourseLemmas.{then_is_safe, branch_is_safe, truth_has_kind, number_is_safe, operator_is_safe, local_has_kind}
use Rattle.st_check_meaning.proofs.CourseLemmas.{cell_is_there, read_is_safe, field_is_safe}

-- calls of the predicates, with arguments of their kinds, are safe and come to words of their kinds
pub record AreSafeCalls (shape : ShapeLists) (heap : Heap) (preds : List Predicate) (calls : Calls) : Type 0 where
  pub each :
      (n : ℕ) (pred : Predicate) (words : List ℕ)
      → slice_get preds n ≡ Some pred
      → AreOfKinds heap pred.params words
      → IsSafe shape heap (IsOfKind heap pred.result) (calls n words)

-- where an expression stands: the heap is typed, the locals have their kinds, the calls are safe
pub record IsSafeSetting (s : Setting) (heap : Heap) (calls : Calls) (locals : List ℕ) : Type 0 where
  pub typed : IsTypedHeap s.shape heap
  pub locals_fit : AreOfKinds heap s.locals locals
  pub calls_safe : AreSafeCalls s.shape heap s.preds calls

-- null has the kind of every class
null_has_kind : (heap : Heap) (kind : Kind) → IsClassKind kind → IsOfKind heap kind 0
null_has_kind heap Int h = absurd h
null_has_kind heap Truth h = absurd h
null_has_kind heap (Ref class) h = refl

mutual
  pub term_is_safe :
      (s : Setting) (heap : Heap) (calls : Calls) (locals : List ℕ)
      → IsSafeSetting s heap calls locals
      → (t : Term) (kind : Kind)
      → HasKind s t kind
      → IsSafe s.shape heap (IsOfKind heap kind) (course_of calls t locals)
  term_is_safe s heap calls locals ok (a_number value) kind h = rw h refl
  term_is_safe s heap calls locals ok (a_truth value) kind h = rw h (truth_has_kind heap value)
  term_is_safe s heap calls locals ok a_null kind h = null_has_kind heap kind h
  term_is_safe s heap calls locals ok (a_local local) kind h = local_has_kind heap s.locals locals local kind ok.locals_fit h
  term_is_safe s heap calls locals ok (a_shared field) kind h =
      read_is_safe s.shape heap SHARED_OBJECT field kind (cell_is_there s.shape heap SHARED_OBJECT 0 field kind ok.typed ok.typed.shared h)
  term_is_safe s heap calls locals ok (a_field object field at) kind h =
      then_is_safe s.shape heap (IsOfKind heap (Ref h.0)) (IsOfKind heap kind) (course_of calls object locals) (λ obj. field_of obj field at)
      (term_is_safe s heap calls locals ok object (Ref h.0) h.1)
      (λ obj of_kind. field_is_safe s.shape heap obj h.0 field kind at ok.typed of_kind h.2)
  term_is_safe s heap calls locals ok (a_not inner) kind h =
      then_is_safe s.shape heap (IsOfKind heap Truth) (IsOfKind heap kind) (course_of calls inner locals) (λ word. truth (not (is_true word)))
      (term_is_safe s heap calls locals ok inner Truth h.0)
      (λ word _. rw h.1 (truth_has_kind heap (not (is_true word))))
  term_is_safe s heap calls locals ok (a_minus inner at) kind h =
      then_is_safe s.shape heap (IsOfKind heap Int) (IsOfKind heap kind) (course_of calls inner locals) (λ word. number_or_overflow (neg_ℤ (number_of word)) at)
      (term_is_safe s heap calls locals ok inner Int h.0)
      (λ word _. rw h.1 (number_is_safe s.shape heap (neg_ℤ (number_of word)) at))
  term_is_safe s heap calls locals ok (a_binary operator left right at) kind h =
      then_is_safe s.shape heap (IsOfKind heap h.0) (IsOfKind heap kind) (course_of calls left locals)
      (λ first. and_then (course_of calls right locals) (λ second. operate operator first second at))
      (term_is_safe s heap calls locals ok left h.0 h.2)
      (λ first _. then_is_safe s.shape heap (IsOfKind heap h.0) (IsOfKind heap kind) (course_of calls right locals) (λ second. operate operator first second at)
      (term_is_safe s heap calls locals ok right h.0 h.3)
      (λ second _. rw h.4 (operator_is_safe s.shape heap operator first second at)))
  term_is_safe s heap calls locals ok (a_both left right) kind h =
      then_is_safe s.shape heap (IsOfKind heap Truth) (IsOfKind heap kind) (course_of calls left locals)
      (λ first. elim (is_true first) [ true ↦ course_of calls right locals | false ↦ truth false ])
      (term_is_safe s heap calls locals ok left Truth h.0)
      (λ first _. rw h.2 (branch_is_safe s.shape heap (IsOfKind heap Truth) (is_true first) (course_of calls right locals) (truth false)
      (term_is_safe s heap calls locals ok right Truth h.1) (truth_has_kind heap false)))
  term_is_safe s heap calls locals ok (an_either left right) kind h =
      then_is_safe s.shape heap (IsOfKind heap Truth) (IsOfKind heap kind) (course_of calls left locals)
      (λ first. elim (is_true first) [ true ↦ truth true | false ↦ course_of calls right locals ])
      (term_is_safe s heap calls locals ok left Truth h.0)
      (λ first _. rw h.2 (branch_is_safe s.shape heap (IsOfKind heap Truth) (is_true first) (truth true) (course_of calls right locals)
      (truth_has_kind heap true) (term_is_safe s heap calls locals ok right Truth h.1)))
  term_is_safe s heap calls locals ok (a_cond test left right) kind h =
      then_is_safe s.shape heap (IsOfKind heap Truth) (IsOfKind heap kind) (course_of calls test locals)
      (λ first. elim (is_true first) [ true ↦ course_of calls left locals | false ↦ course_of calls right locals ])
      (term_is_safe s heap calls locals ok test Truth h.0)
      (λ first _. branch_is_safe s.shape heap (IsOfKind heap kind) (is_true first) (course_of calls left locals) (course_of calls right locals)
      (term_is_safe s heap calls locals ok left kind h.1) (term_is_safe s heap calls locals ok right kind h.2))
  term_is_safe s heap calls locals ok (a_call pred args) kind h =
      then_is_safe s.shape heap (AreOfKinds heap h.0.params) (IsOfKind heap kind) (courses_of calls args locals) (λ words. calls pred words)
      (terms_are_safe s heap calls locals ok args h.0.params h.2)
      (λ words fit. rw h.3 (ok.calls_safe.each pred h.0 words h.1 fit))

  pub terms_are_safe :
      (s : Setting) (heap : Heap) (calls : Calls) (locals : List ℕ)
      → IsSafeSetting s heap calls locals
      → (ts : Terms) (kinds : List Kind)
      → HaveKinds s ts kinds
      → IsSafe s.shape heap (AreOfKinds heap kinds) (courses_of calls ts locals)
  terms_are_safe s heap calls locals ok no_terms [] h = refl
  terms_are_safe s heap calls locals ok no_terms (kind ∷ kinds) h = absurd h
  terms_are_safe s heap calls locals ok (term_then t ts) [] h = absurd h
  terms_are_safe s heap calls locals ok (term_then t ts) (kind ∷ kinds) h =
      then_is_safe s.shape heap (IsOfKind heap kind) (AreOfKinds heap (kind ∷ kinds)) (course_of calls t locals)
      (λ word. and_then (courses_of calls ts locals) (λ words. comes_to (word ∷ words)))
      (term_is_safe s heap calls locals ok t kind h.0)
      (λ word first. then_is_safe s.shape heap (AreOfKinds heap kinds) (AreOfKinds heap (kind ∷ kinds)) (courses_of calls ts locals) (λ words. comes_to (word ∷ words))
      (terms_are_safe s heap calls locals ok ts kinds h.1)
      (λ words rest. rw (first, rest) refl))

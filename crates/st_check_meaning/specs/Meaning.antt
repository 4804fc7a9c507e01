-- What an expression means: the course of its evaluation, one case a node. Operands are evaluated from left to right, and the first
-- fault ends the evaluation.
use Rattle.std.specs.Prelude.{ℕ, zero, suc, ◌==◌, Bool, true, false, not, if◌then◌else◌, List, [], ◌∷◌, Option, Some, None, unwrap_or, slice_get}
use Rattle.std.specs.Prelude.{neg_ℤ, ◌+ℤ◌, ◌-ℤ◌, ◌*ℤ◌, int_lt, int_le, int_div, int_rem}
use Rattle.st_events.specs.declared.events.Site.{Site}
use Rattle.st_events.specs.declared.heaps.TheConstants.{SHARED_OBJECT}
use Rattle.st_events.specs.declared.verdicts.Plain.TheVariants.{Null, Divide, Deep}
use Rattle.st_resolved.specs.declared.expressions.Operator.{Operator}
use Rattle.st_resolved.specs.declared.expressions.Operator.TheVariants.{Add, Sub, Mul, Div, Rem, Less, LessEq, Greater, GreaterEq, Equal, NotEqual}
use Rattle.st_resolved.specs.Terms.{Term, a_number, a_truth, a_null, a_local, a_shared, a_field, a_not, a_minus, a_binary, a_both, an_either, a_cond, a_call}
use Rattle.st_resolved.specs.Terms.{Terms, no_terms, term_then, Predicate}
use Rattle.st_check_meaning.specs.Courses.{Course, comes_to, ends_in, reads, uses_unit, and_then}
use Rattle.st_check_meaning.specs.Numbers.{number_of, word_of_number, word_of_truth, is_true, number_or_overflow}

-- a truth as what an evaluation comes to
abbrev pub truth : Bool → Course ℕ
truth answer = comes_to (word_of_truth answer)

-- the quotient, towards zero: a fault where the divisor is 0, and an overflow where the least number is divided by -1
abbrev pub quotient : ℕ → ℕ → Site → Course ℕ
quotient left right at = if right == 0 then ends_in (Divide at) else number_or_overflow (int_div (number_of left) (number_of right)) at

-- the remainder, with the sign of the dividend: it faults where the quotient faults
abbrev pub remainder : ℕ → ℕ → Site → Course ℕ
remainder left right at = and_then (quotient left right at) (λ _. comes_to (word_of_number (int_rem (number_of left) (number_of right))))

-- what an operator makes of the words of its two operands; its faults are told at its mark
abbrev pub operate : Operator → ℕ → ℕ → Site → Course ℕ
operate Add left right at = number_or_overflow (number_of left +ℤ number_of right) at
operate Sub left right at = number_or_overflow (number_of left -ℤ number_of right) at
operate Mul left right at = number_or_overflow (number_of left *ℤ number_of right) at
operate Div left right at = quotient left right at
operate Rem left right at = remainder left right at
operate Less left right at = truth (int_lt (number_of left) (number_of right))
operate LessEq left right at = truth (int_le (number_of left) (number_of right))
operate Greater left right at = truth (int_lt (number_of right) (number_of left))
operate GreaterEq left right at = truth (int_le (number_of right) (number_of left))
operate Equal left right at = truth (left == right)
operate NotEqual left right at = truth (not (left == right))

-- the cell is read, and comes to its word
abbrev pub read_cell : ℕ → ℕ → Course ℕ
read_cell obj field = reads obj field (λ word. comes_to word)

-- a field of an object: of null it is a fault at the `.`, else the cell is read
abbrev pub field_of : ℕ → ℕ → Site → Course ℕ
field_of obj field at = if obj == 0 then ends_in (Null at) else read_cell obj field

-- what a call of a predicate, by its number, with the words of its arguments comes to
abbrev pub Calls : Type 0
Calls = ℕ → List ℕ → Course ℕ

-- An expression over the words of its locals. `&&`, `||` and `? :` evaluate only what they need. What a call does is given: an
-- expression of a thread has none, so it may be given anything.
abbrev mutual
  pub course_of : Calls → Term → List ℕ → Course ℕ
  course_of calls (a_number value) locals = comes_to (word_of_number value)
  course_of calls (a_truth value) locals = truth value
  course_of calls a_null locals = comes_to 0
  course_of calls (a_local local) locals = comes_to (unwrap_or (slice_get locals local) 0)
  course_of calls (a_shared field) locals = read_cell SHARED_OBJECT field
  course_of calls (a_field object field at) locals = and_then (course_of calls object locals) (λ obj. field_of obj field at)
  course_of calls (a_not inner) locals = and_then (course_of calls inner locals) (λ word. truth (not (is_true word)))
  course_of calls (a_minus inner at) locals = and_then (course_of calls inner locals) (λ word. number_or_overflow (neg_ℤ (number_of word)) at)
  course_of calls (a_binary operator left right at) locals =
      and_then (course_of calls left locals) (λ first. and_then (course_of calls right locals) (λ second. operate operator first second at))
  course_of calls (a_both left right) locals =
      and_then (course_of calls left locals) (λ first. elim (is_true first) [ true ↦ course_of calls right locals | false ↦ truth false ])
  course_of calls (an_either left right) locals =
      and_then (course_of calls left locals) (λ first. elim (is_true first) [ true ↦ truth true | false ↦ course_of calls right locals ])
  course_of calls (a_cond test left right) locals =
      and_then (course_of calls test locals) (λ first. elim (is_true first) [ true ↦ course_of calls left locals | false ↦ course_of calls right locals ])
  course_of calls (a_call pred args) locals = and_then (courses_of calls args locals) (λ words. calls pred words)

  -- arguments, from left to right
  pub courses_of : Calls → Terms → List ℕ → Course (List ℕ)
  courses_of calls no_terms locals = comes_to []
  courses_of calls (term_then t ts) locals =
      and_then (course_of calls t locals) (λ word. and_then (courses_of calls ts locals) (λ words. comes_to (word ∷ words)))

-- the body of a predicate, if there is one; a well-formed program calls no other
abbrev pub body_course : Calls → Option Predicate → List ℕ → Course ℕ
body_course calls None words = comes_to 0
body_course calls (Some pred) words = course_of calls pred.body words

-- A call where so many more may be open: too deep where none may; else it uses a unit of the budget, and the body is evaluated. Its arguments
-- were evaluated before (`a_call` of `course_of`): so a fault of theirs comes before Deep, and Deep before Spent.
unfoldable pub call_within : List Predicate → ℕ → Calls
call_within preds zero pred words = ends_in Deep
call_within preds (suc depth) pred words = uses_unit (λ _. body_course (call_within preds depth) (slice_get preds pred) words)

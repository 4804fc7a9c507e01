-- Running the code of a term is the course of the term.
use Rattle.std.proofs.Common.{◌≡◌, ℕ, suc, Bool, true, false, not, List, [], ◌∷◌, ◌++◌, length, take, drop, reverse, neg_ℤ}
use Rattle.std.proofs.Common.{refl, sym, ◌∙◌, ap, append_assoc}
use mathlib.Core.Path.{fun_ext}
use Rattle.std.proofs.lemmas.List.{append-nil, reverse-append, reverse-reverse, length-reverse}
use Rattle.std.proofs.Math.Seq.{take-append_seam, drop-append_seam}
use Rattle.st_check_meaning.specs.Numbers.{number_of, is_true, number_or_overflow}
use Rattle.st_check_meaning.specs.Meaning.{operate, field_of}
use Rattle.st_resolved.specs.declared.expressions.Operator.{Operator}
use Rattle.st_events.specs.declared.events.Site.{Site}
use Rattle.st_eval.specs.declared.instructions.Instruction.{Instruction}
use Rattle.st_eval.specs.declared.instructions.Instruction.TheVariants.{Field, Not, Minus, Binary, Both, Either, Test, Skip, Call}
use Rattle.st_resolved.specs.Terms.{Term, a_number, a_truth, a_null, a_local, a_shared, a_field, a_not, a_minus, a_binary, a_both, an_either, a_cond, a_call}
use Rattle.st_resolved.specs.Terms.{Terms, no_terms, term_then}
use Rattle.st_check_meaning.specs.Courses.{Course, comes_to, ends_in, reads, uses_unit, and_then}
use Rattle.st_check_meaning.specs.Meaning.{Calls, truth, course_of, courses_of}
use Rattle.st_eval.specs.StraightCode.{After, code_of, codes_of, count_of, done, code_course}

-- three courses, one after another, in either grouping
pub then_then :
    {A B C : Type 0} (c : Course A) (f : A → Course B) (g : B → Course C)
    → and_then (and_then c f) g ≡ and_then c (λ x. and_then (f x) g)
then_then (comes_to x) f g = refl
then_then (ends_in plain) f g = refl
then_then (reads obj field next) f g = ap (reads obj field) (fun_ext (λ word. then_then (next word) f g))
then_then (uses_unit next) f g = ap uses_unit (fun_ext (λ u. then_then (next u) f g))

-- the same first course, and then the same
pub then_same : {A B : Type 0} (c : Course A) (f g : A → Course B) → ((x : A) → f x ≡ g x) → and_then c f ≡ and_then c g
then_same c f g h = ap (and_then c) (fun_ext h)

-- passing over whole code
pub passed_over :
    (calls : Calls) (locals : List ℕ) (is rest : List Instruction) (stack : List ℕ)
    → code_course calls locals (is ++ rest) (length is) stack ≡ code_course calls locals rest 0 stack
passed_over calls locals [] rest stack = refl
passed_over calls locals (i ∷ is) rest stack = passed_over calls locals is rest stack

-- arguments on the stack, the last one on top
abbrev pub stacked : List ℕ → List ℕ → List ℕ
stacked [] stack = stack
stacked (word ∷ words) stack = stacked words (word ∷ stack)

-- what a term's code, followed by more, comes to: the term's course, and then the more with its word on top
abbrev pub Runs : Calls → List ℕ → List Instruction → Course ℕ → Type 0
Runs calls locals code c =
    (rest : List Instruction) (stack : List ℕ)
    → code_course calls locals (code ++ rest) 0 stack ≡ and_then c (λ word. code_course calls locals rest 0 (word ∷ stack))

-- one operand, and what its node does with the word
one_operand :
    (calls : Calls) (locals : List ℕ) (code : List Instruction) (c : Course ℕ) (i : Instruction) (f : ℕ → Course ℕ)
    → ((word : ℕ) (stack : List ℕ) → done calls locals i (word ∷ stack) ≡ and_then (f word) (λ x. comes_to (record { skip = 0; stack = x ∷ stack })))
    → Runs calls locals code c
    → Runs calls locals (code ++ i ∷ []) (and_then c f)
one_operand calls locals code c i f e h rest stack =
    ap (λ is. code_course calls locals is 0 stack) (append_assoc code (i ∷ []) rest)
    ∙ h (i ∷ rest) stack
    ∙ then_same c (λ word. code_course calls locals (i ∷ rest) 0 (word ∷ stack)) (λ word. and_then (f word) more) inner
    ∙ sym (then_then c f more)
  where
    more : ℕ → Course ℕ
    more word = code_course calls locals rest 0 (word ∷ stack)

    inner : (word : ℕ) → code_course calls locals (i ∷ rest) 0 (word ∷ stack) ≡ and_then (f word) more
    inner word =
        ap (λ d. and_then d (λ (a : After). code_course calls locals rest a.skip a.stack)) (e word stack)
        ∙ then_then (f word) (λ x. comes_to (record { skip = 0; stack = x ∷ stack })) (λ (a : After). code_course calls locals rest a.skip a.stack)

-- two operands and an operator
two_operands :
    (calls : Calls) (locals : List ℕ) (left right : List Instruction) (c d : Course ℕ) (operator : Operator) (at : Site)
    → Runs calls locals left c
    → Runs calls locals right d
    → Runs calls locals (left ++ (right ++ Binary operator at ∷ [])) (and_then c (λ a. and_then d (λ b. operate operator a b at)))
two_operands calls locals left right c d operator at h k rest stack =
    ap (λ is. code_course calls locals is 0 stack) (append_assoc left (right ++ Binary operator at ∷ []) rest ∙ ap (λ is. left ++ is) (append_assoc right (Binary operator at ∷ []) rest))
    ∙ h (right ++ Binary operator at ∷ rest) stack
    ∙ then_same c (λ a. code_course calls locals (right ++ Binary operator at ∷ rest) 0 (a ∷ stack)) (λ a. and_then (and_then d (λ b. operate operator a b at)) more) second
    ∙ sym (then_then c (λ a. and_then d (λ b. operate operator a b at)) more)
  where
    more : ℕ → Course ℕ
    more word = code_course calls locals rest 0 (word ∷ stack)

    inner : (a b : ℕ) → code_course calls locals (Binary operator at ∷ rest) 0 (b ∷ a ∷ stack) ≡ and_then (operate operator a b at) more
    inner a b = then_then (operate operator a b at) (λ x. comes_to (record { skip = 0; stack = x ∷ stack })) (λ (y : After). code_course calls locals rest y.skip y.stack)

    second : (a : ℕ) → code_course calls locals (right ++ Binary operator at ∷ rest) 0 (a ∷ stack) ≡ and_then (and_then d (λ b. operate operator a b at)) more
    second a =
        k (Binary operator at ∷ rest) (a ∷ stack)
        ∙ then_same d (λ b. code_course calls locals (Binary operator at ∷ rest) 0 (b ∷ a ∷ stack)) (λ b. and_then (operate operator a b at) more) (inner a)
        ∙ sym (then_then d (λ b. operate operator a b at) more)

-- `&&`
both_run :
    (calls : Calls) (locals : List ℕ) (left right : List Instruction) (c d : Course ℕ)
    → Runs calls locals left c
    → Runs calls locals right d
    → Runs calls locals (left ++ Both (length right) ∷ right) (and_then c (λ a. elim (is_true a) [ true ↦ d | false ↦ truth false ]))
both_run calls locals left right c d h k rest stack =
    ap (λ is. code_course calls locals is 0 stack) (append_assoc left (Both (length right) ∷ right) rest)
    ∙ h (Both (length right) ∷ (right ++ rest)) stack
    ∙ then_same c (λ a. code_course calls locals (Both (length right) ∷ (right ++ rest)) 0 (a ∷ stack))
    (λ a. and_then (elim (is_true a) [ true ↦ d | false ↦ truth false ]) (λ word. code_course calls locals rest 0 (word ∷ stack))) (λ a. by (is_true a))
    ∙ sym (then_then c (λ a. elim (is_true a) [ true ↦ d | false ↦ truth false ]) (λ word. code_course calls locals rest 0 (word ∷ stack)))
  where
    by : (t : Bool)
        → and_then (elim t [ true ↦ comes_to (record { skip = 0; stack = stack }) | false ↦ comes_to (record { skip = length right; stack = 0 ∷ stack }) ])
        (λ (y : After). code_course calls locals (right ++ rest) y.skip y.stack)
        ≡ and_then (elim t [ true ↦ d | false ↦ truth false ]) (λ word. code_course calls locals rest 0 (word ∷ stack))
    by true = k rest stack
    by false = passed_over calls locals right rest (0 ∷ stack)

-- `||`
either_runs :
    (calls : Calls) (locals : List ℕ) (left right : List Instruction) (c d : Course ℕ)
    → Runs calls locals left c
    → Runs calls locals right d
    → Runs calls locals (left ++ Either (length right) ∷ right) (and_then c (λ a. elim (is_true a) [ true ↦ truth true | false ↦ d ]))
either_runs calls locals left right c d h k rest stack =
    ap (λ is. code_course calls locals is 0 stack) (append_assoc left (Either (length right) ∷ right) rest)
    ∙ h (Either (length right) ∷ (right ++ rest)) stack
    ∙ then_same c (λ a. code_course calls locals (Either (length right) ∷ (right ++ rest)) 0 (a ∷ stack))
    (λ a. and_then (elim (is_true a) [ true ↦ truth true | false ↦ d ]) (λ word. code_course calls locals rest 0 (word ∷ stack))) (λ a. by (is_true a))
    ∙ sym (then_then c (λ a. elim (is_true a) [ true ↦ truth true | false ↦ d ]) (λ word. code_course calls locals rest 0 (word ∷ stack)))
  where
    by : (t : Bool)
        → and_then (elim t [ true ↦ comes_to (record { skip = length right; stack = 1 ∷ stack }) | false ↦ comes_to (record { skip = 0; stack = stack }) ])
        (λ (y : After). code_course calls locals (right ++ rest) y.skip y.stack)
        ≡ and_then (elim t [ true ↦ truth true | false ↦ d ]) (λ word. code_course calls locals rest 0 (word ∷ stack))
    by true = passed_over calls locals right rest (1 ∷ stack)
    by false = k rest stack

-- passing over whole code and one instruction more
passed_over_one_more :
    (calls : Calls) (locals : List ℕ) (is : List Instruction) (i : Instruction) (rest : List Instruction) (stack : List ℕ)
    → code_course calls locals (is ++ i ∷ rest) (suc (length is)) stack ≡ code_course calls locals rest 0 stack
passed_over_one_more calls locals [] i rest stack = refl
passed_over_one_more calls locals (j ∷ is) i rest stack = passed_over_one_more calls locals is i rest stack

-- `? :`
cond_runs :
    (calls : Calls) (locals : List ℕ) (test left right : List Instruction) (c d e : Course ℕ)
    → Runs calls locals test c
    → Runs calls locals left d
    → Runs calls locals right e
    → Runs calls locals (test ++ Test (suc (length left)) ∷ (left ++ Skip (length right) ∷ right)) (and_then c (λ a. elim (is_true a) [ true ↦ d | false ↦ e ]))
cond_runs calls locals test left right c d e h k l rest stack =
    ap (λ is. code_course calls locals is 0 stack)
    (append_assoc test (Test (suc (length left)) ∷ (left ++ Skip (length right) ∷ right)) rest
    ∙ ap (λ is. test ++ Test (suc (length left)) ∷ is) (append_assoc left (Skip (length right) ∷ right) rest))
    ∙ h (Test (suc (length left)) ∷ (left ++ Skip (length right) ∷ (right ++ rest))) stack
    ∙ then_same c (λ a. code_course calls locals (Test (suc (length left)) ∷ (left ++ Skip (length right) ∷ (right ++ rest))) 0 (a ∷ stack))
    (λ a. and_then (elim (is_true a) [ true ↦ d | false ↦ e ]) (λ word. code_course calls locals rest 0 (word ∷ stack))) (λ a. by (is_true a))
    ∙ sym (then_then c (λ a. elim (is_true a) [ true ↦ d | false ↦ e ]) (λ word. code_course calls locals rest 0 (word ∷ stack)))
  where
    by : (t : Bool)
        → and_then (elim t [ true ↦ comes_to (record { skip = 0; stack = stack }) | false ↦ comes_to (record { skip = suc (length left); stack = stack }) ])
        (λ (y : After). code_course calls locals (left ++ Skip (length right) ∷ (right ++ rest)) y.skip y.stack)
        ≡ and_then (elim t [ true ↦ d | false ↦ e ]) (λ word. code_course calls locals rest 0 (word ∷ stack))
    by true =
        k (Skip (length right) ∷ (right ++ rest)) stack
        ∙ then_same d (λ word. code_course calls locals (Skip (length right) ∷ (right ++ rest)) 0 (word ∷ stack)) (λ word. code_course calls locals rest 0 (word ∷ stack))
        (λ word. passed_over calls locals right rest (word ∷ stack))
    by false = passed_over_one_more calls locals left (Skip (length right)) (right ++ rest) stack ∙ l rest stack

-- what holds of all that a course may come to, whatever the replies
abbrev pub Comes : {A : Type 0} → (A → Type 0) → Course A → Type 0
Comes P (comes_to x) = P x
Comes P (ends_in plain) = Unit {0}
Comes P (reads obj field next) = (word : ℕ) → Comes P (next word)
Comes P (uses_unit next) = (u : Unit {0}) → Comes P (next u)

comes_to_anything : {A : Type 0} (c : Course A) → Comes (λ _. Unit {0}) c
comes_to_anything (comes_to x) = tt
comes_to_anything (ends_in plain) = tt
comes_to_anything (reads obj field next) = λ word. comes_to_anything (next word)
comes_to_anything (uses_unit next) = λ u. comes_to_anything (next u)

comes_then :
    {A B : Type 0} (P : A → Type 0) (Q : B → Type 0) (c : Course A) (f : A → Course B)
    → Comes P c
    → ((x : A) → P x → Comes Q (f x))
    → Comes Q (and_then c f)
comes_then P Q (comes_to x) f h k = k x h
comes_then P Q (ends_in plain) f h k = tt
comes_then P Q (reads obj field next) f h k = λ word. comes_then P Q (next word) f (h word) k
comes_then P Q (uses_unit next) f h k = λ u. comes_then P Q (next u) f (h u) k

then_same_where :
    {A B : Type 0} (P : A → Type 0) (c : Course A) (f g : A → Course B)
    → Comes P c
    → ((x : A) → P x → f x ≡ g x)
    → and_then c f ≡ and_then c g
then_same_where P (comes_to x) f g h k = k x h
then_same_where P (ends_in plain) f g h k = refl
then_same_where P (reads obj field next) f g h k = ap (reads obj field) (fun_ext (λ word. then_same_where P (next word) f g (h word) k))
then_same_where P (uses_unit next) f g h k = ap uses_unit (fun_ext (λ u. then_same_where P (next u) f g (h u) k))

-- arguments come to as many words as they are
courses_come_to_all :
    (calls : Calls) (ts : Terms) (locals : List ℕ)
    → Comes (λ (words : List ℕ). length words ≡ count_of ts) (courses_of calls ts locals)
courses_come_to_all calls no_terms locals = refl
courses_come_to_all calls (term_then t ts) locals =
    comes_then (λ _. Unit {0}) (λ (words : List ℕ). length words ≡ suc (count_of ts)) (course_of calls t locals)
    (λ word. and_then (courses_of calls ts locals) (λ words. comes_to (word ∷ words)))
    (comes_to_anything (course_of calls t locals))
    (λ word _. comes_then (λ (words : List ℕ). length words ≡ count_of ts) (λ (words : List ℕ). length words ≡ suc (count_of ts)) (courses_of calls ts locals)
    (λ words. comes_to (word ∷ words)) (courses_come_to_all calls ts locals) (λ words e. ap suc e))

-- arguments on the stack are their list turned around
stacked_is :
    (words stack : List ℕ)
    → stacked words stack ≡ reverse words ++ stack
stacked_is [] stack = refl
stacked_is (word ∷ words) stack =
    stacked_is words (word ∷ stack)
    ∙ sym (ap (λ ws. ws ++ stack) (reverse-append (word ∷ []) words) ∙ append_assoc (reverse words) (word ∷ []) stack)

-- the arguments that a call takes, and what it leaves
arguments_taken : (words stack : List ℕ) (n : ℕ) → length words ≡ n → reverse (take n (stacked words stack)) ≡ words
arguments_taken words stack n e =
    ap (λ xs. reverse (take n xs)) (stacked_is words stack)
    ∙ ap (λ k. reverse (take k (reverse words ++ stack))) (sym e ∙ sym (length-reverse words))
    ∙ ap reverse (take-append_seam (reverse words) stack)
    ∙ reverse-reverse words

rest_left : (words stack : List ℕ) (n : ℕ) → length words ≡ n → drop n (stacked words stack) ≡ stack
rest_left words stack n e =
    ap (drop n) (stacked_is words stack)
    ∙ ap (λ k. drop k (reverse words ++ stack)) (sym e ∙ sym (length-reverse words))
    ∙ drop-append_seam (reverse words) stack

-- what the code of arguments, followed by more, comes to
abbrev pub RunsAll : Calls → List ℕ → List Instruction → Course (List ℕ) → Type 0
RunsAll calls locals code c =
    (rest : List Instruction) (stack : List ℕ)
    → code_course calls locals (code ++ rest) 0 stack ≡ and_then c (λ words. code_course calls locals rest 0 (stacked words stack))

-- one argument, and then the others
argument_runs :
    (calls : Calls) (locals : List ℕ) (first later : List Instruction) (c : Course ℕ) (d : Course (List ℕ))
    → Runs calls locals first c
    → RunsAll calls locals later d
    → RunsAll calls locals (first ++ later) (and_then c (λ word. and_then d (λ words. comes_to (word ∷ words))))
argument_runs calls locals first later c d h k rest stack =
    ap (λ is. code_course calls locals is 0 stack) (append_assoc first later rest)
    ∙ h (later ++ rest) stack
    ∙ then_same c (λ word. code_course calls locals (later ++ rest) 0 (word ∷ stack)) (λ word. and_then (and_then d (λ words. comes_to (word ∷ words))) more) second
    ∙ sym (then_then c (λ word. and_then d (λ words. comes_to (word ∷ words))) more)
  where
    more : List ℕ → Course ℕ
    more words = code_course calls locals rest 0 (stacked words stack)

    second : (word : ℕ) → code_course calls locals (later ++ rest) 0 (word ∷ stack) ≡ and_then (and_then d (λ words. comes_to (word ∷ words))) more
    second word = k rest (word ∷ stack) ∙ sym (then_then d (λ words. comes_to (word ∷ words)) more)

-- a call
call_runs :
    (calls : Calls) (locals : List ℕ) (code : List Instruction) (c : Course (List ℕ)) (pred n : ℕ)
    → Comes (λ (words : List ℕ). length words ≡ n) c
    → RunsAll calls locals code c
    → Runs calls locals (code ++ Call pred n ∷ []) (and_then c (λ words. calls pred words))
call_runs calls locals code c pred n e h rest stack =
    ap (λ is. code_course calls locals is 0 stack) (append_assoc code (Call pred n ∷ []) rest)
    ∙ h (Call pred n ∷ rest) stack
    ∙ then_same_where (λ (words : List ℕ). length words ≡ n) c (λ words. code_course calls locals (Call pred n ∷ rest) 0 (stacked words stack))
    (λ words. and_then (calls pred words) more) e inner
    ∙ sym (then_then c (λ words. calls pred words) more)
  where
    more : ℕ → Course ℕ
    more word = code_course calls locals rest 0 (word ∷ stack)

    inner : (words : List ℕ) → length words ≡ n → code_course calls locals (Call pred n ∷ rest) 0 (stacked words stack) ≡ and_then (calls pred words) more
    inner words e =
        then_then (calls pred (reverse (take n (stacked words stack)))) (λ x. comes_to (record { skip = 0; stack = x ∷ drop n (stacked words stack) }))
        (λ (y : After). code_course calls locals rest y.skip y.stack)
        ∙ ap (λ xs. and_then (calls pred xs) (λ x. code_course calls locals rest 0 (x ∷ drop n (stacked words stack)))) (arguments_taken words stack n e)
        ∙ ap (λ left. and_then (calls pred words) (λ x. code_course calls locals rest 0 (x ∷ left))) (rest_left words stack n e)

mutual
  pub code_runs : (calls : Calls) (locals : List ℕ) (t : Term) → Runs calls locals (code_of t) (course_of calls t locals)
  code_runs calls locals (a_number value) = λ rest stack. refl
  code_runs calls locals (a_truth value) = λ rest stack. refl
  code_runs calls locals a_null = λ rest stack. refl
  code_runs calls locals (a_local local) = λ rest stack. refl
  code_runs calls locals (a_shared field) = λ rest stack. refl
  code_runs calls locals (a_field object field at) =
      one_operand calls locals (code_of object) (course_of calls object locals) (Field field at) (λ obj. field_of obj field at) (λ word stack. refl)
      (code_runs calls locals object)
  code_runs calls locals (a_not inner) =
      one_operand calls locals (code_of inner) (course_of calls inner locals) Not (λ word. truth (not (is_true word))) (λ word stack. refl)
      (code_runs calls locals inner)
  code_runs calls locals (a_minus inner at) =
      one_operand calls locals (code_of inner) (course_of calls inner locals) (Minus at) (λ word. number_or_overflow (neg_ℤ (number_of word)) at) (λ word stack. refl)
      (code_runs calls locals inner)
  code_runs calls locals (a_binary operator left right at) =
      two_operands calls locals (code_of left) (code_of right) (course_of calls left locals) (course_of calls right locals) operator at
      (code_runs calls locals left) (code_runs calls locals right)
  code_runs calls locals (a_both left right) =
      both_run calls locals (code_of left) (code_of right) (course_of calls left locals) (course_of calls right locals)
      (code_runs calls locals left) (code_runs calls locals right)
  code_runs calls locals (an_either left right) =
      either_runs calls locals (code_of left) (code_of right) (course_of calls left locals) (course_of calls right locals)
      (code_runs calls locals left) (code_runs calls locals right)
  code_runs calls locals (a_cond test left right) =
      cond_runs calls locals (code_of test) (code_of left) (code_of right) (course_of calls test locals) (course_of calls left locals) (course_of calls right locals)
      (code_runs calls locals test) (code_runs calls locals left) (code_runs calls locals right)
  code_runs calls locals (a_call pred args) =
      call_runs calls locals (codes_of args) (courses_of calls args locals) pred (count_of args) (courses_come_to_all calls args locals)
      (codes_run calls locals args)

  pub codes_run : (calls : Calls) (locals : List ℕ) (ts : Terms) → RunsAll calls locals (codes_of ts) (courses_of calls ts locals)
  codes_run calls locals no_terms = λ rest stack. refl
  codes_run calls locals (term_then t ts) =
      argument_runs calls locals (code_of t) (codes_of ts) (course_of calls t locals) (courses_of calls ts locals)
      (code_runs calls locals t) (codes_run calls locals ts)

-- nothing after a course
pub then_nothing : {A : Type 0} (c : Course A) → and_then c (λ x. comes_to x) ≡ c
then_nothing (comes_to x) = refl
then_nothing (ends_in plain) = refl
then_nothing (reads obj field next) = ap (reads obj field) (fun_ext (λ word. then_nothing (next word)))
then_nothing (uses_unit next) = ap uses_unit (fun_ext (λ u. then_nothing (next u)))

-- the code alone
pub whole_code_runs : (calls : Calls) (locals : List ℕ) (t : Term) → code_course calls locals (code_of t) 0 [] ≡ course_of calls t locals
whole_code_runs calls locals t =
    ap (λ is. code_course calls locals is 0 []) (sym (append-nil (code_of t))) ∙ code_runs calls locals t [] [] ∙ then_nothing (course_of calls t locals)

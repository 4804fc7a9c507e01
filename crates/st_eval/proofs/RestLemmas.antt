-- A step keeps the rest of an evaluation: the turn that the course has is the turn after the step.
use Rattle.std.proofs.Common.{◌≡◌, ◌≢◌, ◌≤◌, ◌<◌, ℕ, zero, suc, ◌-◌, ◌==◌, Bool, true, false}
use Rattle.std.proofs.Common.{if◌then◌else◌, List, [], ◌∷◌, length, take, drop, reverse, Option, Some, None, slice_get, neg_ℤ}
use Rattle.std.proofs.Common.{refl, sym, ◌∙◌, ap, arith, ℤ, ◌+ℤ◌, ◌-ℤ◌, ◌*ℤ◌}
use Rattle.std.specs.Prelude.{int_div, int_rem}
use Rattle.std.proofs.lemmas.Bool.Decides.{nat_tests}
use Rattle.st_events.specs.declared.events.Site.{Site}
use Rattle.st_events.specs.declared.verdicts.Plain.{Plain}
use Rattle.st_events.specs.declared.verdicts.Plain.TheVariants.{Null, Divide, Overflow, Spent, Deep}
use Rattle.st_resolved.specs.declared.expressions.Operator.{Operator}
use Rattle.st_resolved.specs.declared.expressions.Operator.TheVariants.{Add, Sub, Mul, Div, Rem, Less, LessEq, Greater, GreaterEq, Equal, NotEqual}
use Rattle.st_resolved.specs.Terms.{Predicate}
use Rattle.st_check_meaning.specs.declared.limits.TheConstants.{MOST_DEPTH}
use Rattle.st_check_meaning.specs.Courses.{Course, comes_to, ends_in, reads, uses_unit, and_then}
use Rattle.st_check_meaning.specs.Numbers.{number_of, word_of_number, is_true, is_in_range, number_or_overflow}
use Rattle.st_check_meaning.specs.Meaning.{operate, quotient, body_course, call_within}
use Rattle.st_check_meaning.specs.Turns.{Turn, is_over, turn_of}
use Rattle.st_eval.specs.declared.frames.Span.{Span}
use Rattle.st_eval.specs.declared.instructions.Instruction.{Instruction}
use Rattle.st_eval.specs.declared.instructions.Instruction.TheVariants.{Push, Local, Shared, Field, Not, Minus, Binary, Both, Either, Test, Skip, Call}
use Rattle.st_eval.specs.StraightCode.{After, top, below, done, then_pushed, code_course}
use Rattle.st_eval.specs.Activations.{Activation, Activations, top_word, pushed, popped, onward, past, entered, resumed}
use Rattle.st_eval.specs.Steps.{goes_on, asks_for, ends, part, span_of, answered, called, acted, returned, stepped, step}
use Rattle.st_eval.specs.Bodies.{AreBodies, predicate_bodies}
use Rattle.st_eval.specs.Rests.{calls_above, rest_of, course_at, step_turn}
use Rattle.st_eval.proofs.CodeLemmas.{then_then}
use Rattle.st_eval.proofs.PartLemmas.{part_first, part_past, none_of, passed}
use Rattle.st_eval.proofs.BodyLemmas.{body_is}

-- what tests say
pub same_true : (a b : ℕ) → (a == b) ≡ true → a ≡ b
same_true a b h = grind (arith, nat_tests)

-- a failed test of two numbers says that they differ
pub other_false : (a b : ℕ) → (a == b) ≡ false → a ≢ b
other_false a b h = grind (arith, nat_tests)

-- the rest after an instruction whose course this is
abbrev after : List Predicate → List Instruction → Activations → Course After → Course ℕ
after preds code s c =
    and_then (and_then c (λ (a : After). code_course (calls_above preds (length s.waiting)) s.running.locals (part code s.running.place s.running.end) a.skip a.stack))
    (rest_of preds code s.waiting)

-- with these words
abbrev with_words : Activations → List ℕ → Activations
with_words s words = record s { running = record s.running { words = words } }

-- passing over instructions
past_is :
    (preds : List Predicate) (code : List Instruction) (s : Activations) (n : ℕ) (words : List ℕ)
    → after preds code s (comes_to (record { skip = n; stack = words })) ≡ course_at preds code (past n (with_words s words))
past_is preds code s n words =
    ap (λ c. and_then c (rest_of preds code s.waiting))
    (passed (calls_above preds (length s.waiting)) s.running.locals (part code s.running.place s.running.end) n words
    ∙ ap (λ is. code_course (calls_above preds (length s.waiting)) s.running.locals is 0 words) (sym (part_past code s.running.place s.running.end n)))

-- a course that reads nothing and calls nothing
abbrev Settled : Course ℕ → Type 0
Settled (comes_to word) = Unit {0}
Settled (ends_in plain) = Unit {0}
Settled (reads obj field next) = ⊥
Settled (uses_unit next) = ⊥

settled_if : (b : Bool) (word : ℕ) (plain : Plain) → Settled (if b then comes_to word else ends_in plain)
settled_if true word plain = tt
settled_if false word plain = tt

number_settles : (number : ℤ) (at : Site) → Settled (number_or_overflow number at)
number_settles number at = settled_if (is_in_range number) (word_of_number number) (Overflow at)

quotient_settles : (left right : ℕ) (at : Site) → Settled (quotient left right at)
quotient_settles left right at = by (right == 0)
  where
    by : (b : Bool) → Settled (if b then ends_in (Divide at) else number_or_overflow (int_div (number_of left) (number_of right)) at)
    by true = tt
    by false = number_settles (int_div (number_of left) (number_of right)) at

then_settles : (c : Course ℕ) (word : ℕ) → Settled c → Settled (and_then c (λ _. comes_to word))
then_settles (comes_to x) word h = tt
then_settles (ends_in plain) word h = tt
then_settles (reads obj field next) word h = h
then_settles (uses_unit next) word h = h

operator_settles : (operator : Operator) (left right : ℕ) (at : Site) → Settled (operate operator left right at)
operator_settles Add left right at = number_settles (number_of left +ℤ number_of right) at
operator_settles Sub left right at = number_settles (number_of left -ℤ number_of right) at
operator_settles Mul left right at = number_settles (number_of left *ℤ number_of right) at
operator_settles Div left right at = quotient_settles left right at
operator_settles Rem left right at =
    then_settles (quotient left right at) (word_of_number (int_rem (number_of left) (number_of right))) (quotient_settles left right at)
operator_settles Less left right at = tt
operator_settles LessEq left right at = tt
operator_settles Greater left right at = tt
operator_settles GreaterEq left right at = tt
operator_settles Equal left right at = tt
operator_settles NotEqual left right at = tt

-- what an operator gives
answer_keeps :
    (preds : List Predicate) (code : List Instruction) (s : Activations) (c : Course ℕ) (words : List ℕ) (units : ℕ)
    → Settled c
    → turn_of (after preds code s (then_pushed c words)) units ≡ step_turn preds code (answered c (with_words s words) units)
answer_keeps preds code s (comes_to word) words units h = refl
answer_keeps preds code s (ends_in plain) words units h = refl
answer_keeps preds code s (reads obj field next) words units h = absurd h
answer_keeps preds code s (uses_unit next) words units h = absurd h

-- how a call begins, where so many more may be open
call_begins :
    (preds : List Predicate) (d pred : ℕ) (words stack : List ℕ) (k : After → Course ℕ) (more : ℕ → Course ℕ) (units : ℕ)
    → turn_of (and_then (and_then (then_pushed (call_within preds (suc d) pred words) stack) k) more) units
    ≡ elim units [ zero ↦ is_over Spent | suc left ↦ turn_of (and_then (and_then (then_pushed (body_course (call_within preds d) (slice_get preds pred) words) stack) k) more) left ]
unfolding call_within
call_begins preds d pred words stack k more zero = refl
call_begins preds d pred words stack k more (suc left) = refl

-- too deep a call
call_ends :
    (preds : List Predicate) (pred : ℕ) (words stack : List ℕ) (k : After → Course ℕ) (more : ℕ → Course ℕ) (units : ℕ)
    → turn_of (and_then (and_then (then_pushed (call_within preds 0 pred words) stack) k) more) units ≡ is_over Deep
unfolding call_within
call_ends preds pred words stack k more units = refl

-- the body of a predicate, and then its caller
body_then :
    (preds : List Predicate) (code : List Instruction) (most : ℕ) (spans : List Span) (s : Activations) (pred args : ℕ)
    → AreBodies code most spans (predicate_bodies preds)
    → after preds code s
    (then_pushed (body_course (calls_above preds (suc (length s.waiting))) (slice_get preds pred) (reverse (take args s.running.words))) (drop args s.running.words))
    ≡ course_at preds code (entered (span_of spans pred) args s)
body_then preds code most spans s pred args h =
    ap (λ c. and_then c (rest_of preds code s.waiting))
    (then_then B (λ word. comes_to (record { skip = 0; stack = word ∷ drop args s.running.words }))
    (λ (a : After). code_course (calls_above preds (length s.waiting)) s.running.locals (part code s.running.place s.running.end) a.skip a.stack))
    ∙ then_then B
    (λ word. code_course (calls_above preds (length s.waiting)) s.running.locals (part code s.running.place s.running.end) 0 (word ∷ drop args s.running.words))
    (rest_of preds code s.waiting)
    ∙ ap (λ c. and_then c (rest_of preds code (record s.running { words = drop args s.running.words } ∷ s.waiting)))
    (body_is code most spans preds (calls_above preds (suc (length s.waiting))) pred (reverse (take args s.running.words)) h)
  where
    B : Course ℕ
    B = body_course (calls_above preds (suc (length s.waiting))) (slice_get preds pred) (reverse (take args s.running.words))

-- a call, where one more may be open
deeper_call_keeps :
    (preds : List Predicate) (code : List Instruction) (most : ℕ) (spans : List Span) (s : Activations) (pred args units : ℕ)
    → AreBodies code most spans (predicate_bodies preds)
    → length s.waiting < MOST_DEPTH
    → turn_of (after preds code s
    (then_pushed (calls_above preds (length s.waiting) pred (reverse (take args s.running.words))) (drop args s.running.words))) units
    ≡ step_turn preds code (if units == 0 then ends Spent s else goes_on (entered (span_of spans pred) args s) (units - 1))
deeper_call_keeps preds code most spans s pred args units h deep =
    ap (λ d. turn_of (after preds code s (then_pushed (call_within preds d pred (reverse (take args s.running.words))) (drop args s.running.words))) units)
    (let e : MOST_DEPTH - length s.waiting ≡ suc (MOST_DEPTH - suc (length s.waiting)) = omega arith in e)
    ∙ call_begins preds (MOST_DEPTH - suc (length s.waiting)) pred (reverse (take args s.running.words)) (drop args s.running.words)
    (λ (a : After). code_course (calls_above preds (length s.waiting)) s.running.locals (part code s.running.place s.running.end) a.skip a.stack)
    (rest_of preds code s.waiting) units
    ∙ by units (units == 0) refl
  where
    by : (n : ℕ) (b : Bool) → (n == 0) ≡ b
        → elim n [
          | zero ↦ is_over Spent
          | suc left ↦ turn_of (after preds code s
              (then_pushed (body_course (calls_above preds (suc (length s.waiting))) (slice_get preds pred) (reverse (take args s.running.words))) (drop args s.running.words))) left
        ]
        ≡ step_turn preds code (if b then ends Spent s else goes_on (entered (span_of spans pred) args s) (n - 1))
    by zero true e = refl
    by zero false e = cc
    by (suc left) true e = absurd (let z : suc left ≡ 0 = same_true (suc left) 0 e in let f : ⊥ = omega arith in f)
    by (suc left) false e = ap (λ c. turn_of c left) (body_then preds code most spans s pred args h)
        ∙ ap (turn_of (course_at preds code (entered (span_of spans pred) args s))) (let k : left ≡ suc left - 1 = omega arith in k)

-- a call
call_keeps :
    (preds : List Predicate) (code : List Instruction) (most : ℕ) (spans : List Span) (s : Activations) (pred args units : ℕ)
    → AreBodies code most spans (predicate_bodies preds)
    → length s.waiting ≤ MOST_DEPTH
    → turn_of (after preds code s
    (then_pushed (calls_above preds (length s.waiting) pred (reverse (take args s.running.words))) (drop args s.running.words))) units
    ≡ step_turn preds code (called spans pred args s units)
call_keeps preds code most spans s pred args units h deep = by (length s.waiting == MOST_DEPTH) refl
  where
    by : (b : Bool) → (length s.waiting == MOST_DEPTH) ≡ b
        → turn_of (after preds code s
        (then_pushed (calls_above preds (length s.waiting) pred (reverse (take args s.running.words))) (drop args s.running.words))) units
        ≡ step_turn preds code (if b then ends Deep s else (if units == 0 then ends Spent s else goes_on (entered (span_of spans pred) args s) (units - 1)))
    by true e =
        ap (λ d. turn_of (after preds code s (then_pushed (call_within preds d pred (reverse (take args s.running.words))) (drop args s.running.words))) units)
        (let n : length s.waiting ≡ MOST_DEPTH = same_true (length s.waiting) MOST_DEPTH e in let z : MOST_DEPTH - length s.waiting ≡ 0 = omega arith in z)
        ∙ call_ends preds pred (reverse (take args s.running.words)) (drop args s.running.words)
        (λ (a : After). code_course (calls_above preds (length s.waiting)) s.running.locals (part code s.running.place s.running.end) a.skip a.stack)
        (rest_of preds code s.waiting) units
    by false e = deeper_call_keeps preds code most spans s pred args units h
        (let n : length s.waiting ≢ MOST_DEPTH = other_false (length s.waiting) MOST_DEPTH e in
        let m : length s.waiting < MOST_DEPTH = omega arith in
        m)

-- an instruction
acted_keeps :
    (preds : List Predicate) (code : List Instruction) (most : ℕ) (spans : List Span) (i : Instruction) (s : Activations) (units : ℕ)
    → AreBodies code most spans (predicate_bodies preds)
    → length s.waiting ≤ MOST_DEPTH
    → turn_of (after preds code s (done (calls_above preds (length s.waiting)) s.running.locals i s.running.words)) units
    ≡ step_turn preds code (acted spans i s units)
acted_keeps preds code most spans (Push word) s units h deep = refl
acted_keeps preds code most spans (Local local) s units h deep = refl
acted_keeps preds code most spans (Shared field) s units h deep = refl
acted_keeps preds code most spans (Field field at) s units h deep = by (top_word s == 0)
  where
    by : (b : Bool)
        → turn_of (after preds code s (then_pushed (if b then ends_in (Null at) else reads (top_word s) field (λ word. comes_to word)) (below s.running.words))) units
        ≡ step_turn preds code (if b then ends (Null at) (popped s) else asks_for (top_word s) field (popped s) units)
    by true = refl
    by false = refl
acted_keeps preds code most spans Not s units h deep = refl
acted_keeps preds code most spans (Minus at) s units h deep =
    answer_keeps preds code s (number_or_overflow (neg_ℤ (number_of (top_word s))) at) (below s.running.words) units (number_settles (neg_ℤ (number_of (top_word s))) at)
acted_keeps preds code most spans (Binary operator at) s units h deep =
    answer_keeps preds code s (operate operator (top_word (popped s)) (top_word s) at) (below (below s.running.words)) units
    (operator_settles operator (top_word (popped s)) (top_word s) at)
acted_keeps preds code most spans (Both count) s units h deep = by (is_true (top_word s))
  where
    by : (b : Bool)
        → turn_of (after preds code s (elim b [
          | true ↦ comes_to (record { skip = 0; stack = below s.running.words })
          | false ↦ comes_to (record { skip = count; stack = 0 ∷ below s.running.words })
        ])) units
        ≡ step_turn preds code (if b then goes_on (popped s) units else goes_on (past count (pushed 0 (popped s))) units)
    by true = refl
    by false = ap (λ c. turn_of c units) (past_is preds code s count (0 ∷ below s.running.words))
acted_keeps preds code most spans (Either count) s units h deep = by (is_true (top_word s))
  where
    by : (b : Bool)
        → turn_of (after preds code s (elim b [
          | true ↦ comes_to (record { skip = count; stack = 1 ∷ below s.running.words })
          | false ↦ comes_to (record { skip = 0; stack = below s.running.words })
        ])) units
        ≡ step_turn preds code (if b then goes_on (past count (pushed 1 (popped s))) units else goes_on (popped s) units)
    by true = ap (λ c. turn_of c units) (past_is preds code s count (1 ∷ below s.running.words))
    by false = refl
acted_keeps preds code most spans (Test count) s units h deep = by (is_true (top_word s))
  where
    by : (b : Bool)
        → turn_of (after preds code s (elim b [
          | true ↦ comes_to (record { skip = 0; stack = below s.running.words })
          | false ↦ comes_to (record { skip = count; stack = below s.running.words })
        ])) units
        ≡ step_turn preds code (if b then goes_on (popped s) units else goes_on (past count (popped s)) units)
    by true = refl
    by false = ap (λ c. turn_of c units) (past_is preds code s count (below s.running.words))
acted_keeps preds code most spans (Skip count) s units h deep = ap (λ c. turn_of c units) (past_is preds code s count s.running.words)
acted_keeps preds code most spans (Call pred args) s units h deep = call_keeps preds code most spans s pred args units h deep

-- the end of a body
returned_keeps :
    (preds : List Predicate) (code : List Instruction) (running : Activation) (waiting : List Activation) (a b units : ℕ)
    → turn_of (rest_of preds code waiting (top running.words)) units
    ≡ step_turn preds code
    (returned (resumed (record { running = running; waiting = waiting; words_room = a; calls_room = b }))
    (record { running = running; waiting = waiting; words_room = a; calls_room = b }) units)
returned_keeps preds code running [] a b units = refl
returned_keeps preds code running (caller ∷ waiting) a b units = refl

-- a step keeps the turn
pub step_keeps :
    (preds : List Predicate) (code : List Instruction) (most : ℕ) (spans : List Span) (s : Activations) (units : ℕ)
    → AreBodies code most spans (predicate_bodies preds)
    → length s.waiting ≤ MOST_DEPTH
    → turn_of (course_at preds code s) units ≡ step_turn preds code (step code spans s units)
step_keeps preds code most spans s units h deep = by (slice_get (part code s.running.place s.running.end) 0) refl
  where
    over : List Instruction → Turn
    over is = turn_of (and_then (code_course (calls_above preds (length s.waiting)) s.running.locals is 0 s.running.words) (rest_of preds code s.waiting)) units

    by : (o : Option Instruction) → slice_get (part code s.running.place s.running.end) 0 ≡ o
        → turn_of (course_at preds code s) units ≡ step_turn preds code (stepped spans o s units)
    by None e = ap over (none_of (part code s.running.place s.running.end) e)
        ∙ returned_keeps preds code s.running s.waiting s.words_room s.calls_room units
    by (Some i) e = ap over (part_first code s.running.place s.running.end i e) ∙ acted_keeps preds code most spans i (onward s) units h deep
